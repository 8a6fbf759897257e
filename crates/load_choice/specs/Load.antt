-- The load choice (document 01): bad store (AL 1); platform above 7 (AL 2); loading off: nothing; none covers it: nothing; else the start block,
-- the revision and the update's data bytes as a part of the lent store.
--   holds         the update that begins at block b covers the processor
--   holder        the first block of the update that covers it, N where there is none
--   chosen_at     the choice, where the update begins at block b
--   found         the choice in a valid store, with loading on
--   load_choice   the whole order
--   chosen_data   the data bytes of a choice: none but where an update is chosen
use Rattle.std.specs.Prelude.{ℕ, Bool, ◌&&◌, List, [], leb, ltb, Some, None, Ok, Err}
use Rattle.laws.specs.First.{first_below}
use Rattle.laws.specs.Unless.{unless}
use Rattle.update_header.specs.Fields.{revision}
use Rattle.update_header.specs.DataPart.{data_part}
use Rattle.update_coverage.specs.Covers.{covers}
use Rattle.store_blocks.specs.Blocks.{from_block, block_count}
use Rattle.store_directory.specs.Scan.{first, store_ok}
use Rattle.call_answers.specs.Choice.{LoadChoice, Nothing, Chosen}
use Rattle.call_answers.specs.declared.refusal.Refusal.TheVariants.{BadStore, BadProcessors}

unfoldable pub holds : List ℕ → ℕ → ℕ → ℕ → Bool
holds s x p b = first s b && covers (from_block s b) x p

unfoldable pub holder : List ℕ → ℕ → ℕ → ℕ
holder s x p = first_below (block_count s) (holds s x p)

-- the update at block b, if b is below N
unfoldable pub chosen_at : List ℕ → ℕ → LoadChoice
chosen_at s b = unless (ltb b (block_count s)) Nothing (Chosen b (revision (from_block s b)))

unfoldable pub found : List ℕ → ℕ → ℕ → LoadChoice
found s x p = chosen_at s (holder s x p)

unfoldable pub load_choice : Bool → List ℕ → ℕ → ℕ → LoadChoice
load_choice loading s x p =
    unless (store_ok s) (Err BadStore)
    (unless (leb p 7) (Err BadProcessors)
    (unless loading Nothing
    (found s x p)))

unfoldable pub chosen_data : List ℕ → LoadChoice → List ℕ
chosen_data s (Err e) = []
chosen_data s (Ok None) = []
chosen_data s (Ok (Some c)) = data_part (from_block s c.start)
