-- Checks 7 and 8 as the code takes them.
--   none_placed, some_placed    check 8 of any stored updates, by cases of the choice; both_planned, rest_planned: checks 7 and 8 of them
--   placing    check 8, by cases of the choice; the emptied count is at most 64, so the code's sum can't overflow
--   placed_same    it goes by the starts, sizes and marks alone
--   planning    checks 7 and 8, a return at each
use Rattle.std.specs.Prelude.{ℕ, suc, ◌+◌, ◌-◌, ◌≤◌, ◌≡◌, refl, Bool, true, false, Option, Some, None, Err}
use Rattle.std.proofs.Common.{sym, ◌∙◌, subst, arith}
use Rattle.laws.specs.Orders.{impossible}
use Rattle.laws.specs.Below.{any_below}
use Rattle.laws.specs.Unless.{unless}
use Rattle.write_placement.specs.Agree.{Agree, shared_same}
use Rattle.laws.specs.Count.{count_below, count_most}
use Rattle.laws.specs.Least.{Pick, nowhere, at, IsLeast, Promised}
use Rattle.laws.proofs.Least.{least_promised}
use Rattle.write_marks.specs.StoredUpdates.{StoredUpdates}
use Rattle.write_marks.specs.Against.{ruled_out, loses, lost, both_marks}
use Rattle.write_placement.specs.Choose.{choose}
use Rattle.write_marks.specs.StoredMarks.{stored_of, both_at, both_marks_is, shared_marks}
use Rattle.write_placement.specs.Choices.{choice_of}
use Rattle.laws.specs.Arrays.{mark_at}
use Rattle.write_marks.specs.declared.Marked.{Marked}
use Rattle.write_placement.specs.declared.Place.{Place}
use Rattle.call_answers.specs.declared.refusal.Refusal.TheVariants.{SharingNeeded, NoRun}
use Rattle.write_plan.specs.Plan.{Plan, run, placed, marked_plan}

choose_most : (h : StoredUpdates) (n k s c : ℕ) → choose n k h ≡ at s c → c ≤ h.count
unfolding choose lost
choose_most h n k s c e =
    let y : IsLeast (ruled_out h k) (lost h k) (suc n - k) s c = subst (Promised (ruled_out h k) (lost h k) (suc n - k)) e (least_promised (ruled_out h k) (lost h k) (suc n - k)) in
    let q = y.costs in
    let z = count_most (loses h k s) h.count in
    omega arith

choice_at : (q : Pick) (p : Place) → choice_of q ≡ Some p → q ≡ at p.start p.touched
choice_at nowhere p e = absurd (impossible (cc))
choice_at (at s c) p e =
    let w : record { start = s; touched = c } ≡ p = cc in
    rw (← w)

choice_nowhere : (q : Pick) → choice_of q ≡ None → q ≡ nowhere
choice_nowhere nowhere e = refl
choice_nowhere (at s c) e = absurd (impossible (cc))

-- of any stored updates: r is the choice, v how many share
module _ (h : StoredUpdates) (n k : ℕ) (r : Option Place) (e : r ≡ choice_of (choose n k h)) where
  pub none_placed : r ≡ None → Err NoRun ≡ placed h (choose n k h)
  unfolding placed
  none_placed q = rw (choice_nowhere (choose n k h) (sym e ∙ q))

  pub some_placed : (p : Place) (v : ℕ) → r ≡ Some p → v ≡ count_below h.count h.shares → run p.start (v + p.touched) ≡ placed h (choose n k h)
  unfolding placed
  some_placed p v q f = rw (choice_at (choose n k h) p (sym e ∙ q), f)

-- of any stored updates: t says whether one has both marks
module _ (h : StoredUpdates) (n k : ℕ) (t : Bool) (g : t ≡ any_below h.count (both_marks h)) where
  pub both_planned : t ≡ true → Err SharingNeeded ≡ marked_plan n h k
  unfolding unless
  both_planned q = rw (← g, q)

  pub rest_planned : (z : Plan) → t ≡ false → z ≡ placed h (choose n k h) → z ≡ marked_plan n h k
  unfolding unless
  rest_planned z q p = rw (← g, q) p

-- r is what `choose_run` answered, v how many share
module _ (m : Marked) (n k : ℕ) (r : Option Place) (e : r ≡ choice_of (choose n k (stored_of m))) where
  pub place_none : r ≡ None → Err NoRun ≡ placed (stored_of m) (choose n k (stored_of m))
  place_none h = none_placed (stored_of m) n k r e h

  module _ (p : Place) (v : ℕ) (h : r ≡ Some p) (f : v ≡ count_below m.count (mark_at m.shares)) where
    g : v ≡ count_below m.count (stored_of m).shares
    g = shared_marks m v f

    pub place_some : run p.start (v + p.touched) ≡ placed (stored_of m) (choose n k (stored_of m))
    unfolding stored_of
    place_some = some_placed (stored_of m) n k r e p v h g

    pub place_few : v + p.touched ≤ 64
    unfolding stored_of
    place_few =
        omega (arith, g, m.few, count_most (stored_of m).shares m.count, choose_most (stored_of m) n k p.start p.touched (choice_at (choose n k (stored_of m)) p (sym e ∙ h)))

pub ruleset placing = (place_none, place_some, place_few)

pub placed_same : (g h : StoredUpdates) (p : Pick) → Agree g h → placed g p ≡ placed h p
unfolding placed
placed_same g h nowhere a = refl
placed_same g h (at s c) a = rw (shared_same g h a)

-- checks 7 and 8: t is what the test of the marks answered
module _ (m : Marked) (n k : ℕ) (t : Bool) (g : t ≡ any_below m.count (both_at m.shares m.needed)) where
  both_is : t ≡ any_below (stored_of m).count (both_marks (stored_of m))
  both_is = both_marks_is m t g

  pub marked_both : t ≡ true → Err SharingNeeded ≡ marked_plan n (stored_of m) k
  marked_both h = both_planned (stored_of m) n k t both_is h

  pub marked_placed : (z : Plan) → t ≡ false → z ≡ placed (stored_of m) (choose n k (stored_of m)) → z ≡ marked_plan n (stored_of m) k
  marked_placed z h q = rest_planned (stored_of m) n k t both_is z h q

pub ruleset planning = (marked_both, marked_placed)
