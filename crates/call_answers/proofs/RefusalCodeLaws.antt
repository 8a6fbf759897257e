-- Each refusal has its AH and AL.
use Rattle.std.specs.Prelude.{refl}
use Rattle.call_answers.specs.RefusalCodes.{RefusalCodes}

pub refusal_codes : RefusalCodes
refusal_codes = record { unknown = refl; store = refl; processors = refl; destination = refl; sharing = refl; run = refl; present = refl; header = refl; sum = refl; security = refl; revision = refl; block = refl; empty = refl }
