-- The sub-functions of D042h by their numbers.
--   sub_function_of    0 presence, 1 write, 2 control, 3 read; any other number is refused
--   judged             of a function and a sub-function
use Rattle.std.specs.Prelude.{ℕ, Result, Ok, Err, cond, eqb}
use Rattle.call_answers.specs.declared.refusal.Refusal.{Refusal}
use Rattle.call_answers.specs.declared.refusal.Refusal.TheVariants.{NotImplemented}
use Rattle.call_dispatch.specs.declared.SubFunction.{SubFunction}
use Rattle.call_dispatch.specs.declared.SubFunction.TheVariants.{Presence, Write, Control, Read}

abbrev pub sub_function_of : ℕ → Result SubFunction Refusal
sub_function_of n =
    cond (eqb n 0) (Ok Presence)
    (cond (eqb n 1) (Ok Write)
    (cond (eqb n 2) (Ok Control)
    (cond (eqb n 3) (Ok Read)
    (Err NotImplemented))))

abbrev pub judged : ℕ → ℕ → Result SubFunction Refusal
judged function n = cond (eqb function 0xD042) (sub_function_of n) (Err NotImplemented)
