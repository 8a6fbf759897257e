-- The set of emptied updates as the code has it: marks beside the directory's entries.
--   entries_of_lem   the entries of a valid store's directory
--   marked_at        an entry's first block is marked exactly if the entry is
--   marked_first     a marked block is the first of a marked entry
--   emptying         the two ways of `empty_if`, as `search` takes them
--   marking          the loop over the entries, as `search` takes it
--   all_written      the steps of a write, from what each call leaves
use Rattle.std.specs.Prelude.{◌-◌, ℕ, suc, ◌+◌, ◌*◌, ◌<◌, ◌≤◌, ◌≡◌, refl, Bool, List, length, eqb}
use Rattle.std.proofs.Common.{sym, ◌∙◌, ⊎_elim, eq-or-lt_of_le, arith}
use Rattle.std.proofs.Math.Path.{ap}
use Rattle.std.proofs.Math.Bool.{true, false, or-false, or-true}
use Rattle.std.proofs.Math.Numerals.{add-one}
use Rattle.std.proofs.Math.ListN.{get_or}
use borrow.Author.Tests.{eq-eqb, ne_eqb, eqb-true}
use Rattle.laws.specs.Bools.{and_parts, and_made, bool_same}
use Rattle.laws.specs.Below.{any_below, any_at, any_stop}
use Rattle.laws.specs.Orders.{le_or_lt}
use Rattle.laws.specs.Unless.{unless}
use Rattle.bytes_copy.specs.Paste.{put_at, fill_at}
use Rattle.update_sizes.specs.Sizes.{blocks_of}
use Rattle.store_blocks.specs.Blocks.{block_count}
use Rattle.store_directory.specs.DirectoryLaws.{Listing}
use Rattle.store_directory.specs.declared.Directory.{Directory}
use Rattle.write_outcome.specs.OutcomeBytes.{outcome_bytes}
use Rattle.write_outcome.specs.Cleared.{cleared}
use Rattle.write_outcome.proofs.Cleared.{cleared_none, cleared_same, cleared_more, outcome_made}
use Rattle.write_outcome.specs.EmptiedEntries.{marked_entry, marked, Entries, empty_if}

pub entries_of_lem : (s : List ℕ) (d : Directory) → Listing s d → length s ≡ block_count s * 2048 → Entries s d.starts d.sizes d.count
entries_of_lem s d listing e = record {
  few = listing.few;
  begin = listing.begin;
  sized = λ i l. sym (listing.sized i l);
  ends = λ i l. omega (arith, listing.ends i l);
}

pub marked_first : (starts : List ℕ) (gone : List Bool) (count b : ℕ) → marked starts gone count b ≡ true
    → (i : ℕ) × (i < count) × (get_or starts i 0 ≡ b) × (get_or gone i false ≡ true)
unfolding marked marked_entry
marked_first starts gone count b h =
    let w = any_at (marked_entry starts gone b) count h in
    let x = and_parts (get_or gone w.0 false) (eqb (get_or starts w.0 0) b) w.2 in
    (w.0, w.1, eqb-true (get_or starts w.0 0) b x.1, x.0)

module _ (s : List ℕ) (d : Directory) (gone : List Bool) (listing : Listing s d) where
  -- no two entries begin at one block
  one_start : (i j : ℕ) → i < d.count → j < d.count → get_or d.starts j 0 ≡ get_or d.starts i 0 → j ≡ i
  one_start i j l m e =
      ⊎_elim
      (λ (p : j ≤ i). ⊎_elim (λ q. q) (λ (q : j < i). absurd (let v : ⊥ = omega (arith, listing.order i j q l, listing.some j m) in v)) (eq-or-lt_of_le p))
      (λ (p : i < j). absurd (let v : ⊥ = omega (arith, listing.order j i p m, listing.some i l) in v))
      (le_or_lt j i)

  pub marked_at : (i : ℕ) → i < d.count → marked d.starts gone d.count (get_or d.starts i 0) ≡ get_or gone i false
  unfolding marked marked_entry
  marked_at i l =
      bool_same (marked d.starts gone d.count (get_or d.starts i 0)) (get_or gone i false)
      (λ h. let w = marked_first d.starts gone d.count (get_or d.starts i 0) h in ap (λ (j : ℕ). get_or gone j false) (sym (one_start i w.0 l w.1 w.2)) ∙ w.3)
      (λ h. any_stop (marked_entry d.starts gone (get_or d.starts i 0)) d.count i l (and_made h (eq-eqb (get_or d.starts i 0) (get_or d.starts i 0) refl)))

pub empty_yes : (t : Bool) (s r : List ℕ) (b k : ℕ) → r ≡ fill_at s (b * 2048) (k * 2048) → t ≡ true → r ≡ empty_if t s b k
unfolding empty_if unless
empty_yes t s r b k h e = rw e h

pub empty_no : (t : Bool) (s : List ℕ) (b k : ℕ) → t ≡ false → s ≡ empty_if t s b k
unfolding empty_if unless
empty_no t s b k e = rw e

pub ruleset emptying = (empty_yes, empty_no)

module _ (old starts sizes : List ℕ) (gone : List Bool) where
  pub marks_start : old ≡ cleared old (marked starts gone 0)
  unfolding marked any_below
  marks_start = cleared_none old (marked starts gone 0) (λ b. refl)

  pub marks_more : (n i : ℕ) (s r : List ℕ) → Entries old starts sizes n → i < n → s ≡ cleared old (marked starts gone i)
      → r ≡ empty_if (get_or gone i false) s (get_or starts i 0) (get_or sizes i 0) → r ≡ cleared old (marked starts gone (i + 1))
  unfolding marked marked_entry any_below empty_if unless
  marks_more n i s r d l e h = h ∙ rw (e, add-one i) (go (get_or gone i false) refl)
    where
      go : (t : Bool) → get_or gone i false ≡ t
          → empty_if t (cleared old (marked starts gone i)) (get_or starts i 0) (get_or sizes i 0) ≡ cleared old (marked starts gone (suc i))
      go true q =
          cleared_more old (marked starts gone i) (marked starts gone (suc i)) (get_or starts i 0) (get_or sizes i 0) (d.begin i l) (d.sized i l) (d.ends i l)
          (rw (q, eq-eqb (get_or starts i 0) (get_or starts i 0) refl) (or-true (any_below i (marked_entry starts gone (get_or starts i 0)))))
          (λ c n. rw (q, ne_eqb (get_or starts i 0) c (λ f. n (sym f))) (sym (or-false (any_below i (marked_entry starts gone c)))))
      go false q = cleared_same old (marked starts gone i) (marked starts gone (suc i)) (λ c. rw q (sym (or-false (any_below i (marked_entry starts gone c)))))

  pub marks_done : (i n : ℕ) (s : List ℕ) → s ≡ cleared old (marked starts gone i) → i ≤ n → n ≤ i → s ≡ cleared old (marked starts gone n)
  marks_done i n s h p q = let e : i ≡ n = omega arith in rw e at h

  pub marks_inside : (i n : ℕ) (s : List ℕ) → Entries old starts sizes n → length s ≡ length old → i < n → get_or starts i 0 * 2048 + get_or sizes i 0 * 2048 ≤ length s
  marks_inside i n s d e l = omega (arith, d.ends i l)

pub ruleset marking = (marks_start, marks_more, marks_done, marks_inside)

pub all_written : (old cand a b r : List ℕ) (t start : ℕ) (e : ℕ → Bool) → a ≡ cleared old e → b ≡ put_at a (start * 2048) cand t → r ≡ fill_at b (start * 2048 + t) (blocks_of t * 2048 - t)
    → (start + blocks_of t) * 2048 ≤ length old → t ≤ length cand → r ≡ outcome_bytes old t cand start e
all_written old cand a b r t start e p q h l m = h ∙ rw (q, p) (outcome_made old t cand start e l m)
