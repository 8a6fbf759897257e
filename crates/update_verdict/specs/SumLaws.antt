-- Laws of the sums, as the code takes them.
--   sum_three      signature + flags + checksum, added one by one
--   all_split      the T bytes are those before the table and the table, so one sum of each serves both rules
--   table_length   the table has 20 + 12 n bytes, or none
--   summing        the verdict on the sums, test by test, as `search` takes it
use Rattle.std.specs.Prelude.{◌≡◌, ℕ, ◌+◌, ◌-◌, ◌*◌, ◌/◌, ◌%◌, ◌^◌, ◌≤◌, min, Bool, false, List, length, take, drop, ◌≢◌}
use Rattle.std.proofs.Common.{sym, ◌∙◌, ap, arith, length-take, length-drop, take-add}
use Rattle.laws.specs.Below.{all_below}
use Rattle.laws.specs.Tests.{and_stop, and_next}
use Rattle.bytes_dwords.specs.Sum.{dword_sum}
use Rattle.bytes_dwords.proofs.DwordSumLaws.{sum_append}
use Rattle.update_header.specs.Fields.{data_size, total_size, entry_count}
use Rattle.update_verdict.specs.Sums.{sum_of, header_sum, entry_ok, table, sums_ok}
use Rattle.update_header.specs.Inside.{Inside}

pub sum_three : (signature flags checksum x r : ℕ) → x ≡ (signature + flags) % 2 ^ 32 → r ≡ (x + checksum) % 2 ^ 32 → r ≡ sum_of signature flags checksum
unfolding sum_of
sum_three signature flags checksum x r e f = omega arith

pub all_split : (s : List ℕ) → Inside s → dword_sum (take (total_size s) s) ≡ (dword_sum (take (48 + data_size s) s) + dword_sum (table s)) % 2 ^ 32
unfolding table
all_split s y =
    let z = y.sized in
    let h : 48 + data_size s ≤ total_size s = omega (arith, z.layout) in
    let e : total_size s ≡ 48 + data_size s + (total_size s - (48 + data_size s)) = omega arith in
    let l : length (take (48 + data_size s) s) ≡ 4 * ((48 + data_size s) / 4) = length-take (48 + data_size s) s ∙ (omega (arith, y.lent, z.dwords)) in
    ap (λ (n : ℕ). dword_sum (take n s)) e ∙ ap dword_sum (take-add (48 + data_size s) (total_size s - (48 + data_size s)) s)
    ∙ sum_append ((48 + data_size s) / 4) (take (48 + data_size s) s) (take (total_size s - (48 + data_size s)) (drop (48 + data_size s) s)) l

pub table_length : (s : List ℕ) → Inside s → length (table s) ≡ 20 * min 1 (entry_count s) + 12 * entry_count s
unfolding table
table_length s y = simp (length-take, length-drop) (omega (arith, y.lent, y.sized.layout))

-- d, t and n are the sizes; v and w are what was summed before the table and in it, and x both together
module _ (s : List ℕ) (y : Inside s) (d t n v w x : ℕ) (e : d ≡ data_size s) (f : t ≡ total_size s) (g : n ≡ entry_count s)
    (hv : v ≡ dword_sum (take (48 + d) s)) (hw : w ≡ dword_sum (take (t - (48 + d)) (drop (48 + d) s))) (hx : x ≡ (v + w) % 2 ^ 32) where
  table_is : w ≡ dword_sum (table s)
  unfolding table
  table_is = rw (← e, ← f) hw

  all_is : x ≡ dword_sum (take (total_size s) s)
  all_is = hx ∙ rw (← table_is, ← e, ← hv) at (sym (all_split s y))

  pub all_stop : (x ≢ 0) → false ≡ sums_ok s
  unfolding sums_ok
  all_stop h = and_stop x (dword_sum (take (total_size s) s)) _ all_is h

  pub table_stop : x ≡ 0 → (w ≢ 0) → false ≡ sums_ok s
  unfolding sums_ok
  table_stop h k = and_next x (dword_sum (take (total_size s) s)) _ all_is false h (and_stop w (dword_sum (table s)) _ table_is k)

  pub entries_end : (h : ℕ) (r : Bool) → x ≡ 0 → w ≡ 0 → h ≡ header_sum s → r ≡ all_below n (entry_ok s d h) → r ≡ sums_ok s
  unfolding sums_ok
  entries_end h r p q k o =
      and_next x (dword_sum (take (total_size s) s)) _ all_is r p
      (and_next w (dword_sum (table s)) _ table_is r q (o ∙ rw (e, g, k)))

pub ruleset summing = (all_stop, table_stop, entries_end)
