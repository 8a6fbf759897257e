-- Laws of the index call.
--   codes_carry     the call is refused exactly if AH is not 0
use Rattle.std.specs.Prelude.{◌≡◌, refl, Bool, true, false, not, is_err, eqb}
use Rattle.laws.specs.Unless.{unless}
use Rattle.call_answers.specs.Codes.{success}
use Rattle.call_indexed.specs.IndexCall.{index_codes, codes_ah}

pub codes_carry : (ok : Bool) → is_err (index_codes ok) ≡ not (eqb (codes_ah (index_codes ok)) success)
unfolding index_codes unless
codes_carry true = refl
codes_carry false = refl
