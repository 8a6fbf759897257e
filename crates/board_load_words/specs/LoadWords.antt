-- The answer words of a load choice on the board's C interface: 16 words, and the image of AX.
--   load_ah, load_al, load_ax  AH, AL and the image of AX
--   load_case     0 nothing, 1 chosen, 2 refused
--   load_numbers  the start block, the revision, the offset of the data bytes in the store and their number; all 0 where nothing is chosen
--   load_words    AH, AL, carry, the loading state passed in, the case, and these numbers
use Rattle.std.specs.Prelude.{ℕ, ◌+◌, ◌*◌, Bool, not, List, [], ◌∷◌, eqb, Some, None, Ok, Err}
use Rattle.update_header.specs.Fields.{data_size}
use Rattle.store_blocks.specs.Blocks.{from_block}
use Rattle.board_row.specs.Row.{flag_word, padded}
use Rattle.call_answers.specs.Refusals.{ah_for, al_for}
use Rattle.call_answers.specs.Choice.{LoadChoice}

abbrev pub load_ah : LoadChoice → ℕ
load_ah (Err r) = ah_for r
load_ah (Ok c) = 0

abbrev pub load_al : LoadChoice → ℕ
load_al (Err r) = al_for r
load_al (Ok c) = 0

abbrev pub load_case : LoadChoice → ℕ
load_case (Err r) = 2
load_case (Ok None) = 0
load_case (Ok (Some c)) = 1

abbrev pub load_numbers : List ℕ → LoadChoice → List ℕ
load_numbers s (Err r) = []
load_numbers s (Ok None) = []
load_numbers s (Ok (Some c)) = c.start ∷ c.revision ∷ (c.start * 2048 + 48) ∷ data_size (from_block s c.start) ∷ []

unfoldable pub load_ax : LoadChoice → ℕ
load_ax c = load_ah c * 256 + load_al c

unfoldable pub load_words : Bool → List ℕ → LoadChoice → List ℕ
load_words loading s c =
    padded (load_ah c ∷ load_al c ∷ flag_word (not (eqb (load_ah c) 0)) ∷ flag_word loading ∷ load_case c ∷ load_numbers s c)
