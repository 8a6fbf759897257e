-- Checks in a row, each with its refusal: `unless t refusal rest` is the rest where t holds, and the refusal where it doesn't.
--   unless                    the choice; `unfoldable`, so that a goal keeps it and `search` can match the two laws
--   unless_pass, unless_stop  its two ways, where r is what a call answered of the test t
--   checks                    both, for `search`
--   unless_all                a test that passes of refusal and rest
use Rattle.std.specs.Prelude.{◌≡◌, Bool, true, false}

module _ {A : Type 0} where
  unfoldable pub unless : Bool → A → A → A
  unless true refusal rest = rest
  unless false refusal rest = refusal

module _ {A : Type 0} (r t : Bool) (z refusal rest : A) where
  pub unless_pass : r ≡ t → r ≡ true → z ≡ rest → z ≡ unless t refusal rest
  unfolding unless
  unless_pass e h k = rw (← e, h) k

  pub unless_stop : r ≡ t → r ≡ false → z ≡ refusal → z ≡ unless t refusal rest
  unfolding unless
  unless_stop e h k = rw (← e, h) k

pub ruleset checks = (unless_pass, unless_stop)

pub unless_all : {A : Type 0} (f : A → Bool) (t : Bool) (refusal rest : A) → f refusal ≡ true → f rest ≡ true → f (unless t refusal rest) ≡ true
unfolding unless
unless_all f true refusal rest a b = b
unless_all f false refusal rest a b = a
