-- Control at each of its tasks.
--   control_enable, control_query    the two that are known
use Rattle.std.specs.Prelude.{ℕ, ◌≡◌, Bool, true}
use borrow.Author.Tests.{eq-eqb, ne_eqb}
use Rattle.call_answers.specs.declared.answer.Reply.{Reply}
use Rattle.call_control.specs.Control.{accepted, control_reply}

-- r is what a call gave for a known task
module _ (task : ℕ) (loading : Bool) (r : Reply) where
  pub control_enable : task ≡ 1 → r ≡ accepted true → r ≡ control_reply task loading
  unfolding control_reply
  control_enable e h = rw (eq-eqb task 1 e) h

  pub control_query : (task ≡ 1 → ⊥) → task ≡ 2 → r ≡ accepted loading → r ≡ control_reply task loading
  unfolding control_reply
  control_query n e h = rw (ne_eqb task 1 n, eq-eqb task 2 e) h
