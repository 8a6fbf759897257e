-- Laws of pairs: where they lie, and when there are none.
--   Paired, paired            what an update with pairs has passed
--   pairs_made                how many pairs an update has that has passed it
--   PairInside, pair_inside   the two fields of each pair lie inside the lent bytes, and there are at most 65 pairs
--   data_is, count_is         two numbers of a reading of the header
--   reading                   a reading, from its numbers
--   data_read, total_read     the sizes, from the fields of the header
--   header_lent .. judged_reading    the same of an update that isn't judged again: its header and its table's count are lent
--   pairing, judging          the same and the count of pairs, and what an update says that isn't judged again, as `search` takes them
use Prim.Native.Nat.{ℕ, zero, suc, ◌+◌, ◌-◌, ◌*◌, ◌<◌, ◌≤◌, min}
use Rattle.std.specs.Prelude.{◌≡◌, Bool, cond, List, length}
use Rattle.std.proofs.Math.Path.{refl, ap}
use Rattle.std.proofs.Common.{sym, ◌∙◌, add-zero}
use Rattle.std.proofs.Math.Bool.{true, false}
use native.Mathlib.Omega.{arith}
use Rattle.std.proofs.Math.Dec.{eqb}
use borrow.Author.Tests.{eq-eqb, ne_eqb}
use Rattle.laws.specs.Unless.{unless}
use Rattle.bytes_dwords.specs.Dword.{dword}
use Rattle.update_header.specs.Fields.{signature, data_size, total_size, table_count, entry_count}
use Rattle.update_sizes.specs.Sizes.{data_size_of, total_size_of, entry_offset, entries_of}
use Rattle.update_header.specs.Checks.{header_ok, sizes_fit}
use Rattle.update_header.specs.Inside.{Inside, inside, entry_count_is}
use Rattle.update_coverage.specs.Covers.{pair_count, pairs_of, signature_offset, flags_offset, signature_at, platforms_at}
use Rattle.update_coverage.specs.declared.Pairs.{Pairs}

module _ (s : List ℕ) where
  -- what an update with pairs has passed
  pub record Paired : Type 0 where
    pub header : header_ok s ≡ true
    pub sizes : sizes_fit s ≡ true
    pub count : pair_count s ≡ entry_count s + 1

  pub paired : 0 < pair_count s → Paired
  unfolding pair_count unless
  paired l = go (header_ok s) refl (sizes_fit s) refl l
    where
      go : (h : Bool) → header_ok s ≡ h → (k : Bool) → sizes_fit s ≡ k → 0 < unless h 0 (unless k 0 (entry_count s + 1)) → Paired
      go true p true q l = record { header = p; sizes = q; count = rw (p, q) }
      go true p false q l = absurd (omega arith)
      go false p k q l = absurd (omega arith)

  pub pairs_made : header_ok s ≡ true → sizes_fit s ≡ true → pair_count s ≡ entry_count s + 1
  unfolding pair_count unless
  pairs_made h k = rw (h, k)

  pub record PairInside (i : ℕ) : Type 0 where
    pub signature : signature_offset (data_size s) i + 4 ≤ total_size s
    pub flags : flags_offset (data_size s) i + 4 ≤ total_size s
    pub lent : total_size s ≤ length s
    pub few : i ≤ 64

  pub pair_inside : (i : ℕ) → i < pair_count s → PairInside i
  unfolding signature_offset flags_offset entry_offset
  pair_inside zero l =
      let p = paired l in
      let y = inside s p.sizes in
      record { signature = omega (arith, y.sized.layout); flags = omega (arith, y.sized.layout); lent = y.lent; few = omega arith }
  pair_inside (suc i) l =
      let p = paired (omega arith) in
      let y = inside s p.sizes in
      let e : eqb (suc i) 0 ≡ false = ne_eqb (suc i) 0 (λ e. omega arith) in
      record {
        signature = rw e (omega (arith, y.sized.layout, p.count));
        flags = rw e (omega (arith, y.sized.layout, p.count));
        lent = y.lent;
        few = omega (arith, y.sized.few, p.count);
      }

  -- p is a reading of the header
  module _ (p : Pairs) (e : p ≡ pairs_of s) where
    pub data_is : p.data ≡ data_size s
    unfolding pairs_of
    data_is = ap (λ (x : Pairs). x.data) e

    pub count_is : p.count ≡ pair_count s
    unfolding pairs_of
    count_is = ap (λ (x : Pairs). x.count) e

    module _ (i : ℕ) (l : i < p.count) where
      inside_pair : PairInside i
      inside_pair = pair_inside i (omega (arith, count_is))

      pub pair_few : i ≤ 64
      pair_few = inside_pair.few

      -- r is where the code reads the field
      pub signature_inside : (r : ℕ) → r ≡ cond (eqb i 0) 12 (entry_offset p.data (i - 1) + 0) → r + 4 ≤ length s
      unfolding signature_offset
      signature_inside r q = let y = inside_pair in rw (q, data_is, add-zero) (omega (arith, y.signature, y.lent))

      pub flags_inside : (r : ℕ) → r ≡ cond (eqb i 0) 24 (entry_offset p.data (i - 1) + 4) → r + 4 ≤ length s
      unfolding flags_offset
      flags_inside r q = let y = inside_pair in rw (q, data_is) (omega (arith, y.flags, y.lent))

  -- the reading, from its numbers
  pub reading : (d n x f : ℕ) → d ≡ data_size s → n ≡ pair_count s → x ≡ signature s → f ≡ platforms_at s 0
      → record { «data» = d; count = n; signature = x; platforms = f } ≡ pairs_of s
  unfolding pairs_of signature_at signature_offset
  reading d n x f e g h k = rw (e, g, h, k)

  -- the sizes, from the two fields x and y
  pub data_read : (x d : ℕ) → x ≡ dword s 28 → d ≡ data_size_of x → d ≡ data_size s
  unfolding data_size
  data_read x d e h = h ∙ rw e

  pub total_read : (x y t : ℕ) → x ≡ dword s 28 → y ≡ dword s 32 → t ≡ total_size_of x y → t ≡ total_size s
  unfolding total_size
  total_read x y t e f h = h ∙ rw (e, f)

  -- an update which isn't judged again
  module _ (l : 0 < pair_count s) where
    judged_inside : Inside s
    judged_inside = inside s (paired l).sizes

    pub header_lent : 48 ≤ length s
    header_lent = let y = judged_inside in omega (arith, y.lent, y.sized.layout)

    -- d and t are its sizes, as they were read
    module _ (d t : ℕ) (e : d ≡ data_size s) (f : t ≡ total_size s) where
      pub table_lent : (t ≡ 48 + d → ⊥) → 48 + d + 4 ≤ length s
      table_lent n = rw e (behind (entry_count s) judged_inside.sized.layout)
        where
          behind : (k : ℕ) → total_size s ≡ 48 + data_size s + 20 * min 1 k + 12 * k → 48 + data_size s + 4 ≤ length s
          behind zero h = absurd (n (f ∙ h ∙ rw e (omega arith)))
          behind (suc k) h = omega (arith, judged_inside.lent)

      pub no_entries : t ≡ 48 + d → 0 ≡ entry_count s
      unfolding entry_count entries_of
      no_entries h = rw (← e, ← f, eq-eqb t (48 + d) h)

      pub some_entries : (n : ℕ) → (t ≡ 48 + d → ⊥) → n ≡ dword s (48 + d) → n ≡ entry_count s
      unfolding entry_count entries_of table_count
      some_entries n h q = rw (← e, ← f, ne_eqb t (48 + d) h) q

    -- n is its number of entries
    module _ (n : ℕ) (e : n ≡ entry_count s) where
      pub judged_few : n ≤ 64
      judged_few = rw e judged_inside.sized.few

      pub judged_reading : (d c x f : ℕ) → d ≡ data_size s → c ≡ n + 1 → x ≡ signature s → f ≡ platforms_at s 0
          → record { «data» = d; count = c; signature = x; platforms = f } ≡ pairs_of s
      judged_reading d c x f g h k m = reading d c x f g (h ∙ rw e (sym (paired l).count)) k m

  -- the count of pairs, from what the two checks answered
  module _ (r : Bool) (e : r ≡ header_ok s) where
    pub pairs_no_header : r ≡ false → 0 ≡ pair_count s
    unfolding pair_count unless
    pairs_no_header h = rw (← e, h)

    module _ (q : Bool) (f : q ≡ sizes_fit s) where
      pub pairs_no_sizes : r ≡ true → q ≡ false → 0 ≡ pair_count s
      unfolding pair_count unless
      pairs_no_sizes h k = rw (← e, h, ← f, k)

      pub entry_count_few : (n : ℕ) → r ≡ true → q ≡ true → n ≡ entry_count s → n ≤ 64
      entry_count_few n h k g = rw g (inside s (sym f ∙ k)).sized.few

      pub pairs_are : (n : ℕ) → r ≡ true → q ≡ true → n ≡ entry_count s → n + 1 ≡ pair_count s
      unfolding pair_count unless
      pairs_are n h k g = rw (← e, h, ← f, k, g)

pub ruleset pairing = (pair_few, signature_inside, flags_inside, pairs_no_header, pairs_no_sizes, pairs_are, entry_count_is, entry_count_few)

pub ruleset judging = (header_lent, judged_few, data_read, total_read)
