-- Laws of the refusals.
--   refusal_coded   no refusal has the code SUCCESS
--   refused_coded   an answer that refuses has its codes right
use Rattle.std.specs.Prelude.{◌≡◌, refl, false, eqb}
use Rattle.call_answers.specs.Codes.{success}
use Rattle.call_answers.specs.Answers.{Coded}
use Rattle.call_answers.specs.Refusals.{ah_for, refused}
use Rattle.call_answers.specs.declared.refusal.Refusal.{Refusal}
use Rattle.call_answers.specs.declared.refusal.Refusal.TheVariants.{NotImplemented, BadStore, BadProcessors, ShortDestination, SharingNeeded, NoRun, ProcessorNotPresent, InvalidHeader, InvalidHeaderSum, SecurityFailure, InvalidRevision, InvalidBlock, NotEmpty}

pub refusal_coded : (r : Refusal) → eqb (ah_for r) success ≡ false
refusal_coded NotImplemented = refl
refusal_coded BadStore = refl
refusal_coded BadProcessors = refl
refusal_coded ShortDestination = refl
refusal_coded SharingNeeded = refl
refusal_coded NoRun = refl
refusal_coded ProcessorNotPresent = refl
refusal_coded InvalidHeader = refl
refusal_coded InvalidHeaderSum = refl
refusal_coded SecurityFailure = refl
refusal_coded InvalidRevision = refl
refusal_coded InvalidBlock = refl
refusal_coded NotEmpty = refl

pub refused_coded : (r : Refusal) → Coded (refused r)
unfolding Coded
refused_coded r = (refusal_coded r, refl)
