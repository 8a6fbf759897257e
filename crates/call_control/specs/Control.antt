-- Sub-function 2, control (document 01, "The calls"). Task 1 turns loading on, task 2 changes nothing; both return status 1 for on, 0 for off.
-- Any other task is NOT_IMPLEMENTED with status FFh, and the loading state stays.
--   status_of       1 for on, 0 for off
--   accepted        the answer to a known task that leaves this loading state
--   control_reply   the answer and the loading state
use Rattle.std.specs.Prelude.{ℕ, Bool, true, false, cond, eqb}
use Rattle.call_answers.specs.Codes.{success, not_implemented, none}
use Rattle.call_answers.specs.declared.answer.Reply.{Reply}
use Rattle.call_answers.specs.declared.answer.Answer.TheVariants.{Control, Refused}

unfoldable pub status_of : Bool → ℕ
status_of loading = cond loading 1 0

unfoldable pub accepted : Bool → Reply
accepted loading = record { answer = Control (record { ah = success; al = none; carry = false; status = status_of loading }); loading = loading }

unfoldable pub control_reply : ℕ → Bool → Reply
control_reply task loading =
    cond (eqb task 1) (accepted true)
    (cond (eqb task 2) (accepted loading)
    (record { answer = Refused (record { ah = not_implemented; al = none; carry = true; status = 0xFF }); loading = loading }))
