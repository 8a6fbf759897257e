-- What a plan of a read refuses with.
--   coded    a code that is not SUCCESS
use Rattle.std.specs.Prelude.{Bool, true, not, Ok, Err, eqb}
use Rattle.call_answers.specs.Codes.{success}
use Rattle.call_answers.specs.Refusals.{ah_for}
use Rattle.call_reads.specs.Read.{ReadPlan}

-- a plan refuses with a code that is not SUCCESS
unfoldable pub coded : ReadPlan → Bool
coded (Ok k) = true
coded (Err r) = not (eqb (ah_for r) success)
