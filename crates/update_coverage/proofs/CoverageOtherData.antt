-- "Encrypted update data is never interpreted" (document 01, "What is built"): it doesn't tell which processors an update covers.
--   covers_data     bytes that differ in the data alone cover the same processors
use Rattle.std.specs.Prelude.{ℕ, ◌+◌, ◌*◌, ◌-◌, ◌≡◌, Bool, cond, List, eqb}
use Rattle.std.proofs.Math.Bool.{true, false}
use Rattle.std.proofs.Common.{arith}
use Rattle.laws.specs.Below.{any_cong}
use Rattle.bytes_dwords.specs.Dword.{dword}
use Rattle.update_header.specs.Fields.{data_size}
use Rattle.update_sizes.specs.Sizes.{entry_offset}
use Rattle.update_header.specs.HeaderOtherData.{OtherData}
use Rattle.update_header.proofs.HeaderOtherData.{field_data, table_data, data_size_lem, entry_count_data, header_data, fit_data}
use Rattle.update_coverage.specs.Covers.{pair_count, signature_offset, flags_offset, signature_at, flags_at, platforms_at, covers_at, covers}

module _ (s r : List ℕ) (o : OtherData s r) where
  pairs_data : pair_count s ≡ pair_count r
  unfolding pair_count
  pairs_data = rw (header_data s r o, fit_data s r o, entry_count_data s r o)

  signature_data : (i : ℕ) → signature_at s i ≡ signature_at r i
  unfolding signature_at signature_offset entry_offset
  signature_data i = rw (← data_size_lem s r o) (go (eqb i 0))
    where
      go : (t : Bool) → dword s (cond t 12 (48 + data_size s + 20 + 12 * (i - 1))) ≡ dword r (cond t 12 (48 + data_size s + 20 + 12 * (i - 1)))
      go true = field_data s r o 12 (omega arith)
      go false = table_data s r o (48 + data_size s + 20 + 12 * (i - 1)) (omega arith)

  platforms_data : (i : ℕ) → platforms_at s i ≡ platforms_at r i
  unfolding platforms_at flags_at flags_offset entry_offset
  platforms_data i = rw (← data_size_lem s r o, go (eqb i 0))
    where
      go : (t : Bool) → dword s (cond t 24 (48 + data_size s + 20 + 12 * (i - 1) + 4)) ≡ dword r (cond t 24 (48 + data_size s + 20 + 12 * (i - 1) + 4))
      go true = field_data s r o 24 (omega arith)
      go false = table_data s r o (48 + data_size s + 20 + 12 * (i - 1) + 4) (omega arith)

  pub covers_data : (x p : ℕ) → covers s x p ≡ covers r x p
  unfolding covers covers_at
  covers_data x p = rw (← pairs_data) (any_cong (covers_at s x p) (covers_at r x p) (pair_count s) (λ i l. rw (signature_data i, platforms_data i)))
