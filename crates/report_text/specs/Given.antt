-- A text in a lent buffer of m bytes.
--   Report         what became of a text
--   too_short      a text of n bytes doesn't fit
--   given          the text's length: as `Ok` where it fits, in a `ShortBuffer` where it doesn't
--   given_bytes    the buffer afterwards: the text and what stood behind it, or all as it stood
use Rattle.std.specs.Prelude.{ℕ, List, ◌++◌, Result, Ok, Err, length, drop, leb}
use Rattle.laws.specs.Unless.{unless}
use Rattle.report_text.specs.declared.ShortBuffer.{ShortBuffer}

abbrev pub Report : Type 0
Report = Result ℕ ShortBuffer

abbrev pub too_short : ℕ → Report
too_short n = Err (record { needed = n })

unfoldable pub given : List ℕ → ℕ → Report
given text m = unless (leb (length text) m) (too_short (length text)) (Ok (length text))

unfoldable pub given_bytes : List ℕ → List ℕ → List ℕ
given_bytes text out = unless (leb (length text) (length out)) out (text ++ drop (length text) out)
