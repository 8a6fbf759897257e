-- How many updates are lost, counted no further than a limit.
--   losing       the loop that counts up to a limit, as `search` takes it
--   lost_same    how many are lost doesn't depend on the second mark
use Rattle.std.specs.Prelude.{ℕ, ◌+◌, ◌-◌, ◌<◌, ◌≤◌, ◌≡◌, refl, Bool, true}
use Rattle.std.proofs.Math.Path.{sym}
use Rattle.std.proofs.Common.{◌∙◌, lt-ltb, le-ltb}
use Rattle.std.proofs.Math.Logic.{⊎_elim}
use native.Mathlib.Omega.{arith}
use Rattle.laws.specs.Count.{count_below, count_up, count_none, count_yes, count_no}
use Rattle.laws.specs.Orders.{le_or_lt}
use Rattle.write_marks.specs.StoredUpdates.{StoredUpdates}
use Rattle.write_marks.specs.Against.{loses, lost}
use Rattle.write_marks.specs.Capped.{capped}

pub capped_less : (limit c : ℕ) → c < limit → capped limit c ≡ c
unfolding capped
capped_less limit c l = rw (lt-ltb c limit l)

pub capped_more : (limit c : ℕ) → limit ≤ c → capped limit c ≡ limit
unfolding capped
capped_more limit c l = rw (le-ltb c limit l)

-- the loop: c is the count so far
module _ (h : StoredUpdates) (k s limit i c : ℕ) (e : c ≡ count_below i (loses h k s)) where
  pub lose_stop : (r : Bool) (n : ℕ) → n ≡ h.count → i < n → r ≡ loses h k s i → r ≡ true → limit ≤ c + 1 → limit ≡ capped limit (lost h k s)
  unfolding lost
  lose_stop r n q l f t m =
      let y = count_up (loses h k s) (i + 1) h.count (omega arith) in
      let z = count_yes (loses h k s) i c e r f t in
      sym (capped_more limit (count_below h.count (loses h k s)) (omega arith))

  pub lose_done : (n : ℕ) → n ≡ h.count → i ≤ n → n ≤ i → c ≤ limit - 1 → c ≡ capped limit (lost h k s)
  unfolding lost
  lose_done n q l m u =
      let w : i ≡ h.count = omega arith in
      let z : c ≡ count_below h.count (loses h k s) = rw w at e in
      ⊎_elim
      (λ (x : limit ≤ c). let v : c ≡ limit = omega arith in v ∙ sym (capped_more limit (count_below h.count (loses h k s)) (omega arith)))
      (λ (x : c < limit). z ∙ sym (capped_less limit (count_below h.count (loses h k s)) (omega arith)))
      (le_or_lt limit c)

pub ruleset losing = (count_none, count_yes, count_no, lose_stop, lose_done)

pub lost_same : (count : ℕ) (start size : ℕ → ℕ) (shares needed other : ℕ → Bool) (k s : ℕ) → lost (record { count = count; start = start; size = size; shares = shares; needed = other }) k s ≡ lost (record { count = count; start = start; size = size; shares = shares; needed = needed }) k s
unfolding lost loses
lost_same count start size shares needed other k s = refl
