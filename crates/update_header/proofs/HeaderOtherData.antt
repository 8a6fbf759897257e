-- "Encrypted update data is never interpreted" (document 01, "What is built"): bytes that differ in the data alone have the same fields, sizes
-- and checks.
--   field_data, table_data             the same number in the header, and behind the data
--   data_size_lem .. entry_count_data  the same sizes, and the same number of entries
--   header_data, fit_data              checks 2 and 3 are the same
use Rattle.std.specs.Prelude.{ℕ, ◌+◌, ◌≤◌, ◌≡◌, List}
use Rattle.std.proofs.Common.{arith}
use Rattle.bytes_dwords.specs.Dword.{dword}
use Rattle.bytes_dwords.proofs.DwordLaws.{dword_same}
use Rattle.update_header.specs.Fields.{data_size, total_size, table_count, entry_count}
use Rattle.update_header.specs.Checks.{header_ok, sizes_fit}
use Rattle.update_header.specs.HeaderOtherData.{OtherData}

module _ (s r : List ℕ) (o : OtherData s r) where
  pub field_data : (i : ℕ) → i + 4 ≤ 48 → dword s i ≡ dword r i
  field_data i l = dword_same s r 48 i o.before l

  pub table_data : (i : ℕ) → 48 + data_size s ≤ i → dword s i ≡ dword r i
  unfolding dword
  table_data i l = rw (o.behind i l, o.behind (i + 1) (omega arith), o.behind (i + 2) (omega arith), o.behind (i + 3) (omega arith))

  pub data_size_lem : data_size s ≡ data_size r
  unfolding data_size
  data_size_lem = rw (field_data 28 (omega arith))

  pub total_size_lem : total_size s ≡ total_size r
  unfolding total_size
  total_size_lem = rw (field_data 28 (omega arith), field_data 32 (omega arith))

  count_data : table_count s ≡ table_count r
  unfolding table_count
  count_data = rw (← data_size_lem) (table_data (48 + data_size s) (omega arith))

  pub entry_count_data : entry_count s ≡ entry_count r
  unfolding entry_count
  entry_count_data = rw (data_size_lem, total_size_lem, count_data)

  pub header_data : header_ok s ≡ header_ok r
  unfolding header_ok
  header_data = rw (o.long, field_data 0 (omega arith), field_data 20 (omega arith))

  pub fit_data : sizes_fit s ≡ sizes_fit r
  unfolding sizes_fit
  fit_data = rw (data_size_lem, total_size_lem, count_data, o.long)
