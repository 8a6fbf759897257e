-- The words of a read that went by its plan.
--   plan_copy_words, plan_refuse_words    the words of each case
--   plan_copy_ax, plan_refuse_ax          the image of AX of each case
use Rattle.std.specs.Prelude.{ℕ, ◌+◌, ◌*◌, ◌≡◌, false, List, eqb, Ok, Err}
use Rattle.std.proofs.Common.{◌∙◌}
use Rattle.std.proofs.Math.Bool.{true, not}
use Rattle.board_row.specs.Row.{row_of}
use Rattle.board_call_words.specs.Words.{ax_of, answer_words}
use Rattle.call_answers.specs.Refusals.{ah_for, al_for}
use Rattle.call_answers.specs.declared.refusal.Refusal.{Refusal}
use Rattle.call_reads.specs.Read.{ReadPlan, answered}
use Rattle.call_reads.specs.ReadRefusals.{coded}

module _ (p : ReadPlan) where
  pub plan_copy_words : (r : List ℕ) (k : ℕ) → p ≡ Ok k → r ≡ row_of 0 0 0 3 k 0 0 0 → r ≡ answer_words (answered p) false
  unfolding answer_words answered row_of
  plan_copy_words r k h e = e ∙ rw h

  pub plan_refuse_words : (r : List ℕ) (x : Refusal) → coded p ≡ true → p ≡ Err x → r ≡ row_of (ah_for x) (al_for x) 0 4 0 0 0 0 → r ≡ answer_words (answered p) false
  unfolding answer_words answered row_of coded
  plan_refuse_words r x c h e = let q : not (eqb (ah_for x) 0) ≡ true = rw h at c in e ∙ rw (h, q)

  pub plan_copy_ax : (k : ℕ) → p ≡ Ok k → 0 ≡ ax_of (answered p)
  unfolding ax_of answered
  plan_copy_ax k h = rw h

  pub plan_refuse_ax : (x : Refusal) → p ≡ Err x → ah_for x * 256 + al_for x ≡ ax_of (answered p)
  unfolding ax_of answered
  plan_refuse_ax x h = rw h
