-- The tasks of a control call by their numbers.
--   task_of    1 turns loading on, 2 only asks; any other number is refused
use Rattle.std.specs.Prelude.{ℕ, Result, Ok, Err, cond, eqb}
use Rattle.call_answers.specs.declared.refusal.Refusal.{Refusal}
use Rattle.call_answers.specs.declared.refusal.Refusal.TheVariants.{NotImplemented}
use Rattle.call_control.specs.declared.Task.{Task}
use Rattle.call_control.specs.declared.Task.TheVariants.{Enable, Query}

abbrev pub task_of : ℕ → Result Task Refusal
task_of n = cond (eqb n 1) (Ok Enable) (cond (eqb n 2) (Ok Query) (Err NotImplemented))
