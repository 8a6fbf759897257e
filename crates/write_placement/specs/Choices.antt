-- What the program's choice stands for: a `Place`, or none.
--   choice_of    a pick as a choice
--   pick_of      a choice as a pick
--   choice_pick, pick_choice    one behind the other changes nothing
--   untouched    a choice that touches no update that does not share: no later start is better
--   picking      the loop over the starts, as `search` takes it
use Prim.Native.Nat.{ℕ, zero, suc, ◌+◌, ◌-◌, ◌<◌, ◌≤◌}
use Rattle.std.specs.Prelude.{◌≡◌, Bool, true, false, cond, eqb, Option, Some, None}
use Rattle.std.proofs.Math.Path.{refl}
use Rattle.std.proofs.Common.{sym, ap, ◌∙◌, true≢false, eq-or-lt_of_le, add-one, eqb-true, le-ltb}
use Rattle.std.proofs.Math.Logic.{⊎_elim}
use native.Mathlib.Omega.{arith}
use Rattle.laws.specs.Least.{Pick, nowhere, at, better, least}
use Rattle.write_placement.specs.declared.Place.{Place}

abbrev pub choice_of : Pick → Option Place
choice_of nowhere = None
choice_of (at s c) = Some (record { start = s; touched = c })

abbrev pub pick_of : Option Place → Pick
pick_of None = nowhere
pick_of (Some p) = at p.start p.touched

pub choice_pick : (c : Option Place) → c ≡ choice_of (pick_of c)
choice_pick None = refl
choice_pick (Some p) = refl

pub pick_choice : (p : Pick) → p ≡ pick_of (choice_of p)
pick_choice nowhere = refl
pick_choice (at s c) = refl

abbrev pub untouched : Option Place → Bool
untouched None = false
untouched (Some p) = eqb p.touched 0

module _ (shut : ℕ → Bool) (cost : ℕ → ℕ) where
  -- one more start against a pick that costs nothing
  stays : (p : Pick) (s c : ℕ) (t : Bool) → untouched (choice_of p) ≡ true → cond t p (better p s c) ≡ p
  stays p s c true e = refl
  stays nowhere s c false e = absurd (true≢false (sym e))
  stays (at t d) s c false e = let z : d ≡ 0 = eqb-true d 0 e in rw (le-ltb c d (omega arith))

  settled : (m n : ℕ) → m ≤ n → untouched (choice_of (least shut cost m)) ≡ true → least shut cost n ≡ least shut cost m
  unfolding least
  settled m zero l e = let z : m ≡ 0 = omega arith in rw z
  settled m (suc n) l e =
      ⊎_elim (λ (q : m ≡ suc n). rw q)
      (λ (q : m < suc n). rw (settled m n (omega arith) e) (stays (least shut cost m) n (cost n) (shut n) e))
      (eq-or-lt_of_le l)

-- the loop: sofar is the choice among the starts below s, r the choice behind one turn
module _ (shut : ℕ → Bool) (cost : ℕ → ℕ) where
  pub pick_none : None ≡ choice_of (least shut cost 0)
  unfolding least
  pick_none = refl

  module _ (s : ℕ) (sofar : Option Place) (h : sofar ≡ choice_of (least shut cost s)) where
    pub pick_turn : (r : Option Place) → r ≡ choice_of (cond (shut s) (pick_of sofar) (better (pick_of sofar) s (cost s))) → r ≡ choice_of (least shut cost (s + 1))
    unfolding least
    pick_turn r e = rw (add-one s, pick_choice (least shut cost s), ← h) e

    pub pick_done : (n k : ℕ) → s ≤ suc n - k → n < s + k → sofar ≡ choice_of (least shut cost (suc n - k))
    pick_done n k l m = let e : s ≡ suc n - k = omega arith in rw e at h

    -- t is the answer of the test of r
    pub pick_stop : (n k : ℕ) (r : Option Place) (t : Bool) → r ≡ choice_of (cond (shut s) (pick_of sofar) (better (pick_of sofar) s (cost s))) → t ≡ untouched r → t ≡ true → s + k ≤ n
        → r ≡ choice_of (least shut cost (suc n - k))
    pick_stop n k r t e f g l =
        let q = pick_turn r e in
        q ∙ rw (settled shut cost (s + 1) (suc n - k) (omega arith) (ap untouched (sym q) ∙ sym f ∙ g))

pub ruleset picking = (pick_none, pick_turn, pick_done, pick_stop)
