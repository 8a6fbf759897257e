-- What a processor loads after an accepted write (document 01, "Load choice" and "The words of demand 3"); loading is on.
--   SameLoad      two stores give the processor the same: place, revision and data, or nothing
--   LoadsAfter    a processor that the candidate covers gets the candidate; a listed one that it doesn't cover gets what it got before
use Rattle.std.specs.Prelude.{ℕ, ◌≡◌, true, false, List}
use Rattle.update_header.specs.Fields.{revision}
use Rattle.update_header.specs.DataPart.{data_part}
use Rattle.update_coverage.specs.Covers.{covers}
use Rattle.processor_list.specs.Processors.{ProcessorList, Listed}
use Rattle.load_choice.specs.Load.{load_choice, chosen_data}
use Rattle.call_answers.specs.Choice.{Chosen}

abbrev pub SameLoad : List ℕ → List ℕ → ℕ → ℕ → Type 0
SameLoad old new x p = (load_choice true new x p ≡ load_choice true old x p) × (chosen_data new (load_choice true new x p) ≡ chosen_data old (load_choice true old x p))

-- old is the store before the write, new the one after it, and start the block that the write answered
pub record LoadsAfter (old : List ℕ) (list : ProcessorList) (cand : List ℕ) (start : ℕ) (new : List ℕ) : Type 0 where
  -- a processor that the candidate covers, listed or not, gets the candidate: its place, its revision and its data
  pub covered : (x p : ℕ) → covers cand x p ≡ true
      → (load_choice true new x p ≡ Chosen start (revision cand)) × (chosen_data new (load_choice true new x p) ≡ data_part cand)
  -- a listed one that it doesn't cover gets what it got before
  pub others : (x p : ℕ) → Listed list x p → covers cand x p ≡ false → SameLoad old new x p
