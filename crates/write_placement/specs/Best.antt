-- The choice is right.
--   Best           to go to a start, and to empty those that then go, is the best legal outcome
--   choose_none    where nowhere is chosen no outcome is legal
--   choose_some    the start that is chosen is the best; the cost with it counts the updates that are emptied and do not share
--   both_marks_none      an update with both marks rules out every start
use Rattle.std.specs.Prelude.{ℕ, suc, ◌+◌, ◌-◌, ◌<◌, ◌≤◌, ◌≡◌, Bool, false, leb}
use Rattle.std.proofs.Math.Path.{refl, subst}
use Rattle.std.proofs.Common.{sym, ◌∙◌, true≢false, arith, leb-true, leb-false}
use Rattle.std.proofs.Math.Bool.{true}
use Rattle.laws.specs.Below.{any_stop}
use Rattle.laws.specs.Count.{count_below}
use Rattle.laws.specs.Least.{Pick, nowhere, at, IsLeast, Promised}
use Rattle.laws.proofs.Least.{least_promised}
use Rattle.write_marks.specs.StoredUpdates.{StoredUpdates, Laid}
use Rattle.write_placement.specs.LegalByNumber.{LegalByNumber, emptied_count_by_number}
use Rattle.write_marks.specs.Against.{emptied_by_number, rules_out, ruled_out, lost}
use Rattle.write_placement.specs.Choose.{choose}
use Rattle.write_placement.specs.RunLaws.{legal_open, legal_more, open_legal, emptied_split}

pub record Best (n k : ℕ) (h : StoredUpdates) (start : ℕ) : Type 0 where
  pub legal : LegalByNumber n k h start (emptied_by_number h k start)
  -- no legal outcome empties fewer
  pub fewest : (a : ℕ) (e : ℕ → Bool) → LegalByNumber n k h a e → emptied_count_by_number h (emptied_by_number h k start) ≤ emptied_count_by_number h e
  -- none that empties as many starts lower
  pub lowest : (a : ℕ) (e : ℕ → Bool) → LegalByNumber n k h a e → emptied_count_by_number h e ≤ emptied_count_by_number h (emptied_by_number h k start) → start ≤ a

module _ (n k : ℕ) (h : StoredUpdates) where
  promised : (p : Pick) → choose n k h ≡ p → Promised (ruled_out h k) (lost h k) (suc n - k) p
  unfolding choose
  promised p e = subst (Promised (ruled_out h k) (lost h k) (suc n - k)) e (least_promised (ruled_out h k) (lost h k) (suc n - k))

  pub both_marks_none : (i : ℕ) → i < h.count → h.shares i ≡ true → h.needed i ≡ true → choose n k h ≡ nowhere
  unfolding ruled_out rules_out emptied_by_number
  both_marks_none i l a b = go (choose n k h) refl
    where
      ruling : (s : ℕ) → rules_out h k s i ≡ true
      ruling s = rw (a, b)

      go : (p : Pick) → choose n k h ≡ p → p ≡ nowhere
      go nowhere e = refl
      go (at s c) e = absurd (true≢false (sym (any_stop (rules_out h k s) h.count i l (ruling s)) ∙ (promised (at s c) e).«open»))

module _ (n k : ℕ) (h : StoredUpdates) (some : 1 ≤ k) (laid : Laid n h) where
  pub choose_none : choose n k h ≡ nowhere → (a : ℕ) (e : ℕ → Bool) → LegalByNumber n k h a e → ⊥
  choose_none q a e legal =
      true≢false (sym (promised n k h nowhere q a (omega (arith, legal.ends))) ∙ legal_open n k h some laid a e legal)

  module _ (s c : ℕ) (f : IsLeast (ruled_out h k) (lost h k) (suc n - k) s c) where
    least_best : Best n k h s
    least_best = record {
      legal = open_legal n k h s (omega (arith, f.below)) f.«open»;
      fewest = λ a e legal. omega (arith, sums a e legal, f.costs, f.cheapest a (omega (arith, legal.ends)) (clear a e legal));
      lowest = λ a e legal l. low a e legal l (leb s a) refl;
    }
      where
        clear : (a : ℕ) (e : ℕ → Bool) → LegalByNumber n k h a e → ruled_out h k a ≡ false
        clear a e legal = legal_open n k h some laid a e legal

        -- how many go with s, and how many at least an outcome at a empties
        sums : (a : ℕ) (e : ℕ → Bool) → LegalByNumber n k h a e
            → (emptied_count_by_number h (emptied_by_number h k s) ≡ count_below h.count h.shares + lost h k s)
            × (count_below h.count h.shares + lost h k a ≤ emptied_count_by_number h e)
        sums a e legal = (emptied_split n k h s, rw (emptied_split n k h a) at (legal_more n k h some laid a e legal))

        low : (a : ℕ) (e : ℕ → Bool) → LegalByNumber n k h a e → emptied_count_by_number h e ≤ emptied_count_by_number h (emptied_by_number h k s) → (t : Bool) → leb s a ≡ t → s ≤ a
        low a e legal l true q = leb-true s a q
        low a e legal l false q =
            absurd (omega (arith, sums a e legal, f.costs, f.first a (leb-false s a q) (clear a e legal)))

  pub choose_some : (s c : ℕ) → choose n k h ≡ at s c → Best n k h s × (emptied_count_by_number h (emptied_by_number h k s) ≡ count_below h.count h.shares + c)
  choose_some s c q =
      let f : IsLeast (ruled_out h k) (lost h k) (suc n - k) s c = promised n k h (at s c) q in
      (least_best s c f, omega (arith, emptied_split n k h s, f.costs))
