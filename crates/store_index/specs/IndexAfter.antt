-- The index after an accepted write, from the old index, the emptied blocks and the candidate's start, revision and size alone (document 02,
-- One). All of them may be any numbers; blocks above 31 are ignored.
--   cleared_line   an unused line for a block whose emptied bit is set, else the old line, whatever its numbers
--   line_after     for a block of the run the candidate's line, else the cleared one
--   index_after    the whole index
use Rattle.std.specs.Prelude.{ℕ}
use Rattle.laws.specs.Bits.{bit}
use Rattle.laws.specs.Span.{spans}
use Rattle.laws.specs.Unless.{unless}
use Rattle.store_index.specs.declared.Line.{Line}
use Rattle.store_index.specs.declared.Index.{Index}
use Rattle.store_index.specs.Index.{unused_line, update_line, line_of, index_by}

unfoldable pub cleared_line : Index → ℕ → ℕ → Line
cleared_line x emptied b = unless (bit emptied b) (line_of x b) unused_line

unfoldable pub line_after : Index → ℕ → ℕ → ℕ → ℕ → ℕ → Line
line_after x emptied start revision size b = unless (spans start size b) (cleared_line x emptied b) (update_line start revision size b)

unfoldable pub index_after : Index → ℕ → ℕ → ℕ → ℕ → Index
index_after x emptied start revision size = index_by (line_after x emptied start revision size)
