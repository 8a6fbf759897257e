-- The catalogue in a lent buffer of m bytes.
--   reported, reported_bytes   what became of it, and the buffer afterwards
use Rattle.std.specs.Prelude.{ℕ, List}
use Rattle.report_text.specs.Given.{Report, given, given_bytes}
use Rattle.report_catalogue.specs.Catalogue.{catalogue_text}

abbrev pub reported : List ℕ → ℕ → Report
reported s m = given (catalogue_text s) m

abbrev pub reported_bytes : List ℕ → List ℕ → List ℕ
reported_bytes s out = given_bytes (catalogue_text s) out
