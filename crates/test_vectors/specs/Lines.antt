-- The lines of output.
--   line_of    the line of a call: its result, the 16 answer words, and the digests of store and destination
use Rattle.std.specs.Prelude.{ℕ, List}
use Rattle.test_vectors.specs.declared.lines.Line.{Line}
use Rattle.test_vectors.specs.Digest.{digest}

abbrev pub line_of : ℕ → List ℕ → List ℕ → List ℕ → Line
line_of returned answer store destination =
    record { result = returned; answer = answer; store = digest store; destination = digest destination }
