-- One more start against the choice so far. How many updates it loses matters only if they are fewer than the choice so far loses.
--   limit_of     how many the choice so far loses; one more than a store can lose where there is none
--   turn         the choice so far against one more start
--   trying       the three ways of one more start, as `search` takes them
use Rattle.std.specs.Prelude.{ℕ, ◌<◌, ◌≤◌, ◌≡◌, Bool, cond, Option, Some, None}
use Rattle.std.proofs.Common.{◌∙◌, arith, lt-ltb, le-ltb}
use Rattle.std.proofs.Math.Bool.{true, false}
use Rattle.std.proofs.Math.Logic.{⊎_elim}
use Rattle.laws.specs.Count.{count_below, count_most}
use Rattle.laws.specs.Orders.{le_or_lt}
use Rattle.laws.specs.Least.{better}
use Rattle.write_placement.specs.declared.Place.{Place}
use Rattle.write_marks.specs.StoredUpdates.{StoredUpdates}
use Rattle.write_marks.specs.Against.{loses, ruled_out, lost}
use Rattle.write_marks.specs.Capped.{capped}
use Rattle.write_marks.proofs.Capped.{capped_less, capped_more}
use Rattle.write_placement.specs.Choices.{choice_of, pick_of, choice_pick}

abbrev pub limit_of : Option Place → ℕ
limit_of None = 33
limit_of (Some p) = p.touched

-- the choice so far against one more start
abbrev pub turn : StoredUpdates → ℕ → ℕ → Option Place → Option Place
turn h k s sofar = choice_of (cond (ruled_out h k s) (pick_of sofar) (better (pick_of sofar) s (lost h k s)))

-- l is the limit, c how many are lost, up to it, b whether some update rules the start out
module _ (h : StoredUpdates) (k s : ℕ) (sofar : Option Place) (l c : ℕ) (e : l ≡ limit_of sofar) (f : c ≡ capped l (lost h k s)) where
  less_is : c < l → c ≡ lost h k s
  less_is x =
      ⊎_elim (λ (y : l ≤ lost h k s). let z = capped_more l (lost h k s) y in absurd (omega arith))
      (λ (y : lost h k s < l). f ∙ capped_less l (lost h k s) y)
      (le_or_lt l (lost h k s))

  taken : (o : Option Place) → l ≡ limit_of o → c < l → Some (record { start = s; touched = c }) ≡ choice_of (better (pick_of o) s (lost h k s))
  taken None q x = rw (less_is x)
  taken (Some p) q x = let y = less_is x in rw (lt-ltb (lost h k s) p.touched (omega arith)) (rw y)

  stays : (o : Option Place) → l ≡ limit_of o → l ≤ c → h.count ≤ 32 → (b : Bool) → o ≡ choice_of (cond b (pick_of o) (better (pick_of o) s (lost h k s)))
  unfolding lost
  stays o q x few true = choice_pick o
  stays None q x few false = let z = count_most (loses h k s) h.count in let y = capped_less l (count_below h.count (loses h k s)) (omega arith) in absurd (omega arith)
  stays (Some p) q x few false =
      ⊎_elim (λ (y : l ≤ lost h k s). rw (le-ltb (lost h k s) p.touched (omega arith)))
      (λ (y : lost h k s < l). let z = capped_less l (lost h k s) y in absurd (omega arith))
      (le_or_lt l (lost h k s))

  pub try_ruled_out : (b : Bool) → b ≡ ruled_out h k s → b ≡ true → sofar ≡ turn h k s sofar
  try_ruled_out b g t = rw (← g, t) (choice_pick sofar)

  pub try_taken : (b : Bool) → b ≡ ruled_out h k s → b ≡ false → c < l → Some (record { start = s; touched = c }) ≡ turn h k s sofar
  try_taken b g t x = rw (← g, t) (taken sofar e x)

  pub try_dear : l ≤ c → h.count ≤ 32 → sofar ≡ turn h k s sofar
  try_dear x few = stays sofar e x few (ruled_out h k s)

pub ruleset trying = (try_ruled_out, try_taken, try_dear)
