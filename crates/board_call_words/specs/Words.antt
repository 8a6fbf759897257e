-- The answer words of a call on the board's C interface: 16 words, and the image of AX.
--   ax_of          AH * 256 + AL
--   answer_words   AH, AL, carry, the loading state after the call, the case, and the case's numbers
--   call_words     those of a reply
use Rattle.std.specs.Prelude.{ℕ, ◌+◌, ◌*◌, Bool, List, ◌∷◌}
use Rattle.board_row.specs.Row.{flag_word, padded}
use Rattle.call_answers.specs.Answers.{ah_of, al_of, carry_of, case_of, numbers_of}
use Rattle.call_answers.specs.declared.answer.Answer.{Answer}
use Rattle.call_answers.specs.declared.answer.Reply.{Reply}

unfoldable pub ax_of : Answer → ℕ
ax_of a = ah_of a * 256 + al_of a

unfoldable pub answer_words : Answer → Bool → List ℕ
answer_words a loading = padded (ah_of a ∷ al_of a ∷ flag_word (carry_of a) ∷ flag_word loading ∷ case_of a ∷ numbers_of a)

abbrev pub call_words : Reply → List ℕ
call_words r = answer_words r.answer r.loading
