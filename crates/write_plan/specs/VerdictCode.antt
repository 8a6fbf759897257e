-- The AH that document 01 gives for a verdict on a candidate (checks 2 to 4 of the write).
--   verdict_ah    95 where header or sizes are wrong, 96 where a sum is, 0 for a good update
--   refusal_of    the write's refusal of a bad update
--   refusal_code    its AH is that of the verdict
use Rattle.std.specs.Prelude.{ℕ, ◌≡◌, refl, Ok, Err}
use Rattle.update_verdict.specs.Verdict.{Verdict}
use Rattle.update_verdict.specs.declared.BadUpdate.{BadUpdate}
use Rattle.update_verdict.specs.declared.BadUpdate.TheVariants.{Header, Sum}
use Rattle.call_answers.specs.Codes.{success, invalid_header, invalid_header_cs}
use Rattle.call_answers.specs.Refusals.{ah_for}
use Rattle.call_answers.specs.declared.refusal.Refusal.{Refusal}
use Rattle.call_answers.specs.declared.refusal.Refusal.TheVariants.{InvalidHeader, InvalidHeaderSum}

abbrev pub verdict_ah : Verdict → ℕ
verdict_ah (Ok m) = success
verdict_ah (Err Header) = invalid_header
verdict_ah (Err Sum) = invalid_header_cs

abbrev pub refusal_of : BadUpdate → Refusal
refusal_of Header = InvalidHeader
refusal_of Sum = InvalidHeaderSum

pub refusal_code : (x : BadUpdate) → ah_for (refusal_of x) ≡ verdict_ah (Err x)
refusal_code Header = refl
refusal_code Sum = refl
