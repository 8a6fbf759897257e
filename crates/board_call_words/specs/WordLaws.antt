-- Laws of the answer words.
--   presence_words .. refused_words    the words of each case
--   presence_ax .. read_ax             the image of AX of each case that was done
--   unknown_words                      the words of an unknown function
use Rattle.std.specs.Prelude.{ℕ, ◌≡◌, Bool, List, [], ◌∷◌}
use Rattle.std.proofs.Common.{◌∙◌}
use Rattle.board_row.specs.Row.{flag_word, row_of}
use Rattle.call_answers.specs.Codes.{not_implemented, none}
use Rattle.call_answers.specs.Answers.{refusal, Coded}
use Rattle.call_answers.specs.declared.answer.Presence.{Presence as PresenceNumbers}
use Rattle.call_answers.specs.declared.answer.Written.{Written as WrittenNumbers}
use Rattle.call_answers.specs.declared.answer.Control.{Control as ControlNumbers}
use Rattle.call_answers.specs.declared.answer.Read.{Read as ReadNumbers}
use Rattle.call_answers.specs.declared.answer.Refused.{Refused as RefusedNumbers}
use Rattle.call_answers.specs.declared.answer.Answer.{Answer}
use Rattle.call_answers.specs.declared.answer.Answer.TheVariants.{Presence, Written, Control, Read, Refused}
use Rattle.board_call_words.specs.Words.{ax_of, answer_words}

-- the words r of each case
module _ (a : Answer) (loading : Bool) (on : ℕ) (e : on ≡ flag_word loading) (c : Coded a) where
  pub presence_words : (p : PresenceNumbers) → a ≡ Presence p
      → (0 ∷ 0 ∷ 0 ∷ on ∷ 0 ∷ p.byte0 ∷ p.byte1 ∷ p.byte2 ∷ p.byte3 ∷ p.byte4 ∷ p.byte5 ∷ p.byte6 ∷ p.byte7 ∷ p.loader_version ∷ p.blocks ∷ 0 ∷ []) ≡ answer_words a loading
  unfolding answer_words Coded
  presence_words p h = let k = rw h at c in rw (h, e, k.0, k.1, k.2)

  module _ (r : List ℕ) where
    pub written_words : (w : WrittenNumbers) → a ≡ Written w → r ≡ row_of 0 0 on 1 w.start w.emptied w.emptied_blocks 0 → r ≡ answer_words a loading
    unfolding answer_words row_of Coded
    written_words w h k = let q = rw h at c in k ∙ rw (h, e, q.0, q.1, q.2)

    pub control_words : (n : ControlNumbers) → a ≡ Control n → r ≡ row_of 0 0 on 2 n.status 0 0 0 → r ≡ answer_words a loading
    unfolding answer_words row_of Coded
    control_words n h k = let q = rw h at c in k ∙ rw (h, e, q.0, q.1, q.2)

    pub read_words : (d : ReadNumbers) → a ≡ Read d → r ≡ row_of 0 0 on 3 d.blocks 0 0 0 → r ≡ answer_words a loading
    unfolding answer_words row_of Coded
    read_words d h k = let q = rw h at c in k ∙ rw (h, e, q.0, q.1, q.2)

    pub refused_words : (f : RefusedNumbers) → a ≡ Refused f → r ≡ row_of f.ah f.al on 4 f.status 0 0 0 → r ≡ answer_words a loading
    unfolding answer_words row_of Coded
    refused_words f h k = let q = rw h at c in k ∙ rw (h, e, q.0, q.1)

-- the image of AX, of a call that was done
module _ (a : Answer) (c : Coded a) where
  pub presence_ax : (p : PresenceNumbers) → a ≡ Presence p → 0 ≡ ax_of a
  unfolding ax_of Coded
  presence_ax p h = let k = rw h at c in rw (h, k.0, k.1)

  pub written_ax : (p : WrittenNumbers) → a ≡ Written p → 0 ≡ ax_of a
  unfolding ax_of Coded
  written_ax p h = let k = rw h at c in rw (h, k.0, k.1)

  pub control_ax : (p : ControlNumbers) → a ≡ Control p → 0 ≡ ax_of a
  unfolding ax_of Coded
  control_ax p h = let k = rw h at c in rw (h, k.0, k.1)

  pub read_ax : (p : ReadNumbers) → a ≡ Read p → 0 ≡ ax_of a
  unfolding ax_of Coded
  read_ax p h = let k = rw h at c in rw (h, k.0, k.1)

-- NOT_IMPLEMENTED
pub unknown_words : (loading : Bool) (on : ℕ) → on ≡ flag_word loading → (r : List ℕ) → r ≡ row_of not_implemented none on 4 0 0 0 0 → r ≡ answer_words (refusal not_implemented none) loading
unfolding answer_words row_of
unknown_words loading on e r k = k ∙ rw e
