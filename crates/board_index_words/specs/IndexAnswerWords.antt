-- The answer words of the index functions: 16 words, and the image of AX.
--   index_case      0 done, 1 refused
--   codes_words     AH, AL, carry, no loading state, the case; the words of the index call
--   codes_ax        its AH * 256 + AL
--   outcome_ax      AH * 256 + AL of a call that was done or refused
--   carried_words   those of the index after a write, which is never refused: all 0
use Rattle.std.specs.Prelude.{ℕ, ◌+◌, ◌*◌, Result, Ok, Err, cond, is_err, List, [], ◌∷◌, eqb}
use Rattle.board_row.specs.Row.{flag_word, padded}
use Rattle.call_answers.specs.Codes.{success}
use Rattle.call_answers.specs.Refusals.{ah_for, al_for}
use Rattle.call_answers.specs.declared.refusal.Refusal.{Refusal}
use Rattle.call_indexed.specs.IndexCall.{codes_ah, codes_al}

abbrev pub index_case : ℕ → ℕ
index_case ah = cond (eqb ah success) 0 1

unfoldable pub codes_words : Result (Unit {0}) Refusal → List ℕ
codes_words c = padded (codes_ah c ∷ codes_al c ∷ flag_word (is_err c) ∷ 0 ∷ index_case (codes_ah c) ∷ [])

unfoldable pub codes_ax : Result (Unit {0}) Refusal → ℕ
codes_ax c = codes_ah c * 256 + codes_al c

abbrev pub outcome_ax : {T : Type 0} → Result T Refusal → ℕ
outcome_ax (Ok x) = 0
outcome_ax (Err r) = ah_for r * 256 + al_for r

abbrev pub carried_words : List ℕ
carried_words = padded []
