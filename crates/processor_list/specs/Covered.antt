-- Which listed processors an update covers, kept in an array of eight beside the list.
--   needed_by_marks    the update covers listed processor i, which the marks say the candidate doesn't
--   Covered            the marks are right for all listed processors
use Rattle.std.specs.Prelude.{ℕ, Bool, false, not, ◌&&◌, List, length}
use Rattle.laws.specs.Arrays.{Filled, mark_at}
use Rattle.processor_list.specs.Processors.{ProcessorList, covers_listed}

unfoldable pub needed_by_marks : ProcessorList → List Bool → List ℕ → ℕ → Bool
needed_by_marks list marks u i = covers_listed list u i && not (mark_at marks i)

-- the marks are right for all listed processors
abbrev pub Covered : ProcessorList → List ℕ → List Bool → Type 0
Covered list cand marks = Filled false 8 (covers_listed list cand) (length list.signatures) marks
