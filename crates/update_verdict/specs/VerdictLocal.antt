-- An update is settled by its T bytes: bytes that agree with it there are the same update, wherever they lie and whatever stands behind.
--   verdict_behind                             two lent parts, each 48 bytes and T or longer, that agree on those bytes have the same
--                                              verdict, a good one or not: "Bytes behind T are ignored"
--   field_behind, total_behind                 the same fields of the header, and the same T
--   field_local, data_local, revision_local    the same fields of the header, number of data bytes and revision, of a good update
--   verdict_local                              the same verdict
use Rattle.std.specs.Prelude.{◌≡◌, ℕ, ◌+◌, ◌-◌, ◌*◌, ◌<◌, ◌≤◌, max, Bool, true, false, List, length, take, drop, nat_le, refl}
use Rattle.std.proofs.Math.Path.{sym}
use Rattle.std.proofs.Common.{◌∙◌, arith}
use Rattle.std.proofs.Math.ListN.{length-drop}
use borrow.Author.Tests.{le-leb}
use Rattle.laws.specs.Bools.{and_parts, and_made, bool_same}
use Rattle.laws.specs.Below.{all_below, all_cong}
use Rattle.laws.specs.Same.{Same, same_less, same_drop, same_take}
use Rattle.laws.specs.Unless.{unless}
use Rattle.bytes_dwords.specs.Dword.{dword}
use Rattle.bytes_dwords.proofs.DwordLaws.{dword_same}
use Rattle.update_header.specs.Fields.{revision, data_size, total_size, table_count, entry_count}
use Rattle.update_sizes.specs.Sizes.{sizes_ok, blocks_of, entry_offset}
use Rattle.update_verdict.specs.Sums.{header_sum, entry_ok, table, sums_ok}
use Rattle.update_header.specs.Checks.{header_ok, sizes_fit}
use Rattle.update_verdict.specs.Verdict.{Verdict, Good, BadHeader, BadSum, verdict}
use Rattle.update_header.specs.Inside.{Inside, inside}
use Rattle.update_sizes.proofs.SizeLaws.{sizes_alike}
use Rattle.update_verdict.specs.VerdictLaws.{judged, good_size}

-- the header's 48 bytes and the T bytes are the same
module _ (s r : List ℕ) (same : Same s r (max 48 (total_size s))) where
  dword_alike : (i : ℕ) → i + 4 ≤ max 48 (total_size s) → dword s i ≡ dword r i
  dword_alike i l = dword_same s r (max 48 (total_size s)) i same l

  -- a field of the header
  pub field_behind : (i : ℕ) → i + 4 ≤ 48 → dword s i ≡ dword r i
  field_behind i l = dword_alike i (omega arith)

  data_alike : data_size s ≡ data_size r
  unfolding data_size
  data_alike = rw (field_behind 28 (omega arith))

  pub total_behind : total_size s ≡ total_size r
  unfolding total_size
  total_behind = rw (field_behind 28 (omega arith), field_behind 32 (omega arith))

  count_alike : 52 + data_size s ≤ total_size s → table_count s ≡ table_count r
  unfolding table_count
  count_alike l = rw (← data_alike) (dword_alike (48 + data_size s) (omega arith))

  header_sum_alike : header_sum s ≡ header_sum r
  unfolding header_sum
  header_sum_alike = rw (field_behind 12 (omega arith), field_behind 24 (omega arith), field_behind 16 (omega arith))

  module _ (lent : total_size s ≤ length s) (long : total_size s ≤ length r) where
    -- the count field matters only where a table fits into the T bytes
    fit_alike : sizes_fit s ≡ sizes_fit r
    unfolding sizes_fit
    fit_alike =
        let d = data_size s in
        let t = total_size s in
        rw (← data_alike, ← total_behind, le-leb t (length s) lent, le-leb t (length r) long)
        (bool_same _ _
        (λ h. and_made (sizes_alike d t (table_count s) (table_count r) (and_parts (sizes_ok d t (table_count s)) true h).0 count_alike).0 refl)
        (λ h. and_made (sizes_alike d t (table_count r) (table_count s) (and_parts (sizes_ok d t (table_count r)) true h).0
        (λ l. sym (count_alike l))).0 refl))

    module _ (fit : sizes_fit s ≡ true) where
      within : Inside s
      within = inside s fit

      entries_alike : entry_count s ≡ entry_count r
      unfolding entry_count sizes_fit
      entries_alike =
          rw (← data_alike, ← total_behind)
          (sizes_alike (data_size s) (total_size s) (table_count s) (table_count r)
          (and_parts (sizes_ok (data_size s) (total_size s) (table_count s)) (nat_le (total_size s) (length s)) fit).0 count_alike).1

      all_alike : take (total_size s) s ≡ take (total_size s) r
      all_alike = same_take s r (total_size s) lent long (same_less s r (max 48 (total_size s)) (total_size s) same (omega arith))

      table_alike : table s ≡ table r
      unfolding table
      table_alike =
          let y = within.sized.layout in
          let m : ℕ = total_size s - (48 + data_size s) in
          let a = length-drop (48 + data_size s) s in
          let b = length-drop (48 + data_size s) r in
          rw (← data_alike, ← total_behind)
          (same_take (drop (48 + data_size s) s) (drop (48 + data_size s) r) m (omega arith) (omega arith)
          (same_drop s r m (48 + data_size s) (same_less s r (max 48 (total_size s)) (48 + data_size s + m) same (omega arith))))

      entry_alike : (want i : ℕ) → i < entry_count s → entry_ok s (data_size s) want i ≡ entry_ok r (data_size s) want i
      unfolding entry_ok entry_offset
      entry_alike want i l =
          let y = within.sized.layout in
          rw (
            dword_alike (48 + data_size s + 20 + 12 * i) (omega arith),
            dword_alike (48 + data_size s + 20 + 12 * i + 4) (omega arith),
            dword_alike (48 + data_size s + 20 + 12 * i + 8) (omega arith),
          )

      entry_sums_alike : all_below (entry_count s) (entry_ok s (data_size s) (header_sum s))
          ≡ all_below (entry_count r) (entry_ok r (data_size r) (header_sum r))
      entry_sums_alike =
          rw (← entries_alike, ← data_alike, ← header_sum_alike)
          (all_cong (entry_ok s (data_size s) (header_sum s)) (entry_ok r (data_size s) (header_sum s)) (entry_count s) (entry_alike (header_sum s)))

      sums_alike : sums_ok s ≡ sums_ok r
      unfolding sums_ok
      sums_alike = rw (← total_behind, ← all_alike, ← table_alike, ← entry_sums_alike)

    module _ (some : 48 ≤ length s) (enough : 48 ≤ length r) where
      header_alike : header_ok s ≡ header_ok r
      unfolding header_ok
      header_alike = rw (le-leb 48 (length s) some, le-leb 48 (length r) enough, field_behind 0 (omega arith), field_behind 20 (omega arith))

      pub verdict_behind : verdict s ≡ verdict r
      unfolding verdict unless
      verdict_behind = rw (← header_alike, ← fit_alike) (go (sizes_fit s) refl)
        where
          sums : List ℕ → Verdict
          sums x = unless (sums_ok x) BadSum (Good (total_size x) (data_size x) (entry_count x) (blocks_of (total_size x)))

          go : (t : Bool) → sizes_fit s ≡ t → unless (header_ok s) BadHeader (unless t BadHeader (sums s))
              ≡ unless (header_ok s) BadHeader (unless t BadHeader (sums r))
          go false q = refl
          go true q = rw (sums_alike q, total_behind, data_alike, entries_alike q)

-- a good update, whose T is t
module _ (s r : List ℕ) (t d n k : ℕ) (good : verdict s ≡ Good t d n k) (same : Same s r t) (long : t ≤ length r) where
  whole : (t ≡ total_size s) × (max 48 (total_size s) ≡ t)
  whole = let e = (judged s t d n k good).total in (e, omega (arith, (good_size s t d n k good).0))

  same_whole : Same s r (max 48 (total_size s))
  same_whole = rw whole.1 same

  -- a field of the header
  pub field_local : (i : ℕ) → i + 4 ≤ 48 → dword s i ≡ dword r i
  field_local = field_behind s r same_whole

  pub data_local : data_size s ≡ data_size r
  data_local = data_alike s r same_whole

  pub revision_local : revision s ≡ revision r
  revision_local = field_local 4 (omega arith)

  pub verdict_local : verdict r ≡ Good t d n k
  verdict_local =
      let z = good_size s t d n k good in
      let e = whole in
      sym (verdict_behind s r same_whole (omega arith) (omega arith) (omega arith) (omega arith)) ∙ good
