-- The load choice through an index (document 02, One): bad store; right after that check an index that isn't the store's own (92, AL 1); then as
-- the choice without it, by the index.
--   holds_in              by its line an update begins at block b, and it covers the processor
--   chosen_in             the choice, where the update begins at block b: its revision is the line's
--   found_in              the choice by the index of a valid store, with loading on
--   indexed_choice        the whole order
use Rattle.std.specs.Prelude.{ℕ, Bool, ◌&&◌, List, eqb, leb, ltb, Err}
use Rattle.laws.specs.First.{first_below}
use Rattle.laws.specs.Unless.{unless}
use Rattle.update_coverage.specs.Covers.{covers}
use Rattle.store_blocks.specs.Blocks.{from_block, block_count}
use Rattle.store_directory.specs.Scan.{store_ok}
use Rattle.store_index.specs.Index.{first, line_of, index_of}
use Rattle.store_index.specs.SameIndex.{same_index}
use Rattle.store_index.specs.declared.Index.{Index}
use Rattle.call_answers.specs.Choice.{LoadChoice, Nothing, Chosen}
use Rattle.call_answers.specs.declared.refusal.Refusal.TheVariants.{BadStore, BadProcessors}

unfoldable pub holds_in : List ℕ → Index → ℕ → ℕ → ℕ → Bool
holds_in s x signature platform b = eqb (line_of x b).kind first && covers (from_block s b) signature platform

-- of n blocks
unfoldable pub chosen_in : Index → ℕ → ℕ → LoadChoice
chosen_in x n b = unless (ltb b n) Nothing (Chosen b (line_of x b).revision)

unfoldable pub found_in : List ℕ → Index → ℕ → ℕ → LoadChoice
found_in s x signature platform = chosen_in x (block_count s) (first_below (block_count s) (holds_in s x signature platform))

unfoldable pub indexed_choice : Bool → List ℕ → Index → ℕ → ℕ → LoadChoice
indexed_choice loading s x signature platform =
    unless (store_ok s) (Err BadStore)
    (unless (same_index x (index_of s)) (Err BadStore)
    (unless (leb platform 7) (Err BadProcessors)
    (unless loading Nothing
    (found_in s x signature platform))))
