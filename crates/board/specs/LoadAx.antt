-- The image of AX of a load choice is that of a call that was done or refused.
use Rattle.std.specs.Prelude.{◌≡◌, refl, Ok, Err}
use Rattle.call_answers.specs.Choice.{LoadChoice}
use Rattle.board_load_words.specs.LoadWords.{load_ax}
use Rattle.board_index_words.specs.IndexAnswerWords.{outcome_ax}

pub load_ax_outcome : (c : LoadChoice) → outcome_ax c ≡ load_ax c
unfolding load_ax
load_ax_outcome (Ok u) = refl
load_ax_outcome (Err r) = refl
