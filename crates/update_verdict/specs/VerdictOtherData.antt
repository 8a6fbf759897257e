-- "Encrypted update data is never interpreted" (document 01, "What is built"): of the data only the sum counts.
--   verdict_data     bytes that differ in the data alone, and whose T bytes have the same sum, have the same verdict
use Rattle.std.specs.Prelude.{◌≡◌, ℕ, ◌+◌, ◌*◌, List, take, drop}
use Rattle.std.proofs.Common.{sym, ◌∙◌, arith, length-drop, get_or-drop, ext_get_or}
use Rattle.laws.specs.Below.{all_cong}
use Rattle.laws.specs.Unless.{unless}
use Rattle.bytes_dwords.specs.Sum.{dword_sum}
use Rattle.update_header.specs.Fields.{data_size, total_size, entry_count}
use Rattle.update_sizes.specs.Sizes.{entry_offset}
use Rattle.update_header.specs.HeaderOtherData.{OtherData}
use Rattle.update_header.proofs.HeaderOtherData.{field_data, table_data, data_size_lem, total_size_lem, entry_count_data, header_data, fit_data}
use Rattle.update_verdict.specs.Sums.{header_sum, entry_ok, table, sums_ok}
use Rattle.update_verdict.specs.Verdict.{verdict}

module _ (s r : List ℕ) (o : OtherData s r) where
  rest_data : drop (48 + data_size s) s ≡ drop (48 + data_size s) r
  rest_data =
      ext_get_or 0 (drop (48 + data_size s) s) (drop (48 + data_size s) r)
      (omega (arith, length-drop (48 + data_size s) s, length-drop (48 + data_size s) r, o.long))
      (λ i l. get_or-drop (48 + data_size s) s i 0 ∙ o.behind (48 + data_size s + i) (omega arith) ∙ sym (get_or-drop (48 + data_size s) r i 0))

  table_same : table s ≡ table r
  unfolding table
  table_same = rw (← data_size_lem s r o, ← total_size_lem s r o, rest_data)

  entry_same : (want k : ℕ) → entry_ok s (data_size s) want k ≡ entry_ok r (data_size s) want k
  unfolding entry_ok entry_offset
  entry_same want k =
      rw (
        table_data s r o (48 + data_size s + 20 + 12 * k) (omega arith),
        table_data s r o (48 + data_size s + 20 + 12 * k + 4) (omega arith),
        table_data s r o (48 + data_size s + 20 + 12 * k + 8) (omega arith),
      )

  header_sum_same : header_sum s ≡ header_sum r
  unfolding header_sum
  header_sum_same = rw (field_data s r o 12 (omega arith), field_data s r o 24 (omega arith), field_data s r o 16 (omega arith))

  -- the T bytes have the same sum
  module _ (e : dword_sum (take (total_size s) s) ≡ dword_sum (take (total_size s) r)) where
    sums_data : sums_ok s ≡ sums_ok r
    unfolding sums_ok
    sums_data =
        rw (
          ← total_size_lem s r o,
          e,
          table_same,
          ← entry_count_data s r o,
          ← data_size_lem s r o,
          ← header_sum_same,
          all_cong (entry_ok s (data_size s) (header_sum s)) (entry_ok r (data_size s) (header_sum s)) (entry_count s) (λ k l. entry_same (header_sum s) k),
        )

    pub verdict_data : verdict s ≡ verdict r
    unfolding verdict unless
    verdict_data = rw (header_data s r o, fit_data s r o, sums_data, total_size_lem s r o, data_size_lem s r o, entry_count_data s r o)
