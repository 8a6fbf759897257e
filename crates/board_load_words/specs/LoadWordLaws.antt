-- Laws of the words of a load choice.
--   load_refused_words .. load_chosen_words    the words of each case
use Rattle.std.specs.Prelude.{ℕ, ◌+◌, ◌*◌, ◌≡◌, Bool, List, Err}
use Rattle.std.proofs.Common.{◌∙◌}
use Rattle.update_header.specs.Fields.{data_size}
use Rattle.store_blocks.specs.Blocks.{from_block}
use Rattle.board_row.specs.Row.{flag_word, row_of}
use Rattle.call_answers.specs.Choice.{LoadChoice, Nothing, Chosen}
use Rattle.call_answers.specs.Refusals.{ah_for, al_for}
use Rattle.call_answers.specs.declared.refusal.Refusal.{Refusal}
use Rattle.board_load_words.specs.LoadWords.{load_words}

-- the words r of each load choice
module _ (c : LoadChoice) (loading : Bool) (s : List ℕ) (on : ℕ) (e : on ≡ flag_word loading) (r : List ℕ) where
  pub load_refused_words : (x : Refusal) → c ≡ Err x → r ≡ row_of (ah_for x) (al_for x) on 2 0 0 0 0 → r ≡ load_words loading s c
  unfolding load_words row_of
  load_refused_words x h k = k ∙ rw (h, e)

  pub load_nothing_words : c ≡ Nothing → r ≡ row_of 0 0 on 0 0 0 0 0 → r ≡ load_words loading s c
  unfolding load_words row_of
  load_nothing_words h k = k ∙ rw (h, e)

  pub load_chosen_words : (b v d : ℕ) (u : List ℕ) → c ≡ Chosen b v → u ≡ from_block s b → d ≡ data_size u → r ≡ row_of 0 0 on 1 b v (b * 2048 + 48) d → r ≡ load_words loading s c
  unfolding load_words row_of
  load_chosen_words b v d u h f q k = k ∙ rw (h, e, q, f)
