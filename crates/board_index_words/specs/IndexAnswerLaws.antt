-- Laws of the answer words of the index functions.
--   codes_row            the answer words of the index call, c being what it answered
--   index_ax, plan_ax    the image of AX is that of the index call, and that of a read that went by its plan
use Rattle.std.specs.Prelude.{ℕ, ◌≡◌, refl, Bool, List, Result, Ok, Err}
use Rattle.std.proofs.Common.{◌∙◌}
use Rattle.board_row.specs.Row.{row_of}
use Rattle.call_indexed.specs.IndexCall.{codes_ah, codes_al, index_codes}
use Rattle.call_indexed.specs.IndexCallLaws.{codes_carry}
use Rattle.call_answers.specs.declared.refusal.Refusal.{Refusal}
use Rattle.call_reads.specs.Read.{ReadPlan, answered}
use Rattle.board_call_words.specs.Words.{ax_of}
use Rattle.board_index_words.specs.IndexAnswerWords.{index_case, codes_words, codes_ax, outcome_ax}

pub index_ax : (c : Result (Unit {0}) Refusal) → outcome_ax c ≡ codes_ax c
unfolding codes_ax
index_ax (Ok u) = refl
index_ax (Err r) = refl

pub plan_ax : (p : ReadPlan) → outcome_ax p ≡ ax_of (answered p)
unfolding ax_of answered
plan_ax (Ok k) = refl
plan_ax (Err r) = refl

pub codes_row : (ok : Bool) (c : Result (Unit {0}) Refusal) (case : ℕ) (words : List ℕ) → c ≡ index_codes ok → case ≡ index_case (codes_ah c)
    → words ≡ row_of (codes_ah c) (codes_al c) 0 case 0 0 0 0 → words ≡ codes_words (index_codes ok)
unfolding codes_words row_of
codes_row ok c case words e f h = h ∙ rw (f, e, codes_carry ok)
