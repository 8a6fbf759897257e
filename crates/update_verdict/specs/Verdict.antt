-- The verdict on any bytes, in the order of the write's checks 2 to 4 (document 01, "The calls"). Bytes behind T are ignored.
--   header_ok, sizes_fit  checks 2 and 3 (`header`, Checks); sums_ok is check 4 (`Sums`)
--   Verdict               what a good update says of its sizes, or why it is bad
--   measures, Good        T, data size, entries and blocks; BadHeader is 95, BadSum 96
--   verdict               the verdict on the bytes
use Rattle.std.specs.Prelude.{ℕ, List, Result, Ok, Err}
use Rattle.laws.specs.Unless.{unless}
use Rattle.update_header.specs.Fields.{data_size, total_size, entry_count}
use Rattle.update_sizes.specs.Sizes.{blocks_of}
use Rattle.update_header.specs.Checks.{header_ok, sizes_fit}
use Rattle.update_verdict.specs.Sums.{sums_ok}
use Rattle.update_verdict.specs.declared.Measures.{Measures}
use Rattle.update_verdict.specs.declared.BadUpdate.{BadUpdate}
use Rattle.update_verdict.specs.declared.BadUpdate.TheVariants.{Header, Sum}

abbrev pub Verdict : Type 0
Verdict = Result Measures BadUpdate

abbrev pub measures : ℕ → ℕ → ℕ → ℕ → Measures
measures t d n k = record { total = t; «data» = d; entries = n; blocks = k }

abbrev pub Good : ℕ → ℕ → ℕ → ℕ → Verdict
Good t d n k = Ok (measures t d n k)

abbrev pub BadHeader : Verdict
BadHeader = Err Header

abbrev pub BadSum : Verdict
BadSum = Err Sum

unfoldable pub verdict : List ℕ → Verdict
verdict s =
    unless (header_ok s) BadHeader
    (unless (sizes_fit s) BadHeader
    (unless (sums_ok s) BadSum
    (Good (total_size s) (data_size s) (entry_count s) (blocks_of (total_size s)))))
