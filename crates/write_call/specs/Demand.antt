-- Demand 3, in the owner's words and document 01's ("The words of demand 3"). Everything is said of the old store, the list, the candidate, the
-- answer and the store afterwards, not of how the write looks for its run.
--   Passes      none of the checks up to and including 6 refuses the call
--   same_byte   byte i of the update at block b is as it was
--   stands_at   the update stored at block b still stands at its place: an update begins there, and it has the old bytes
--   gone_at     an update stood at block b, and doesn't any more
--   Accepted    what holds if the write accepts
--   Demand3     the demand, a field for each sentence
use Rattle.std.specs.Prelude.{ℕ, ◌+◌, ◌*◌, ◌<◌, ◌≤◌, ◌≡◌, Bool, true, false, not, ◌&&◌, List, ◌↔◌, get_or, eqb}
use Rattle.laws.specs.Below.{all_below}
use Rattle.laws.specs.Bits.{bit}
use Rattle.laws.specs.Count.{count_below}
use Rattle.laws.specs.Same.{Same}
use Rattle.update_header.specs.Fields.{revision, total_size}
use Rattle.update_verdict.specs.Verdict.{Good, verdict}
use Rattle.store_blocks.specs.Blocks.{from_block, block_count}
use Rattle.store_directory.specs.Scan.{slot_at, size_at, first, store_ok}
use Rattle.store_directory.specs.Valid.{Owned, ValidStore}
use Rattle.store_blocks.specs.declared.slot.Slot.TheVariants.{Update}
use Rattle.processor_list.specs.Processors.{ProcessorList, list_ok, covers_one, Needed}
use Rattle.write_outcome.specs.Legal.{Legal, emptied_count}
use Rattle.write_outcome.specs.OutcomeBytes.{outcome_bytes}
use Rattle.call_answers.specs.Codes.{storage_full}
use Rattle.call_answers.specs.Answers.{ah_of}
use Rattle.call_answers.specs.declared.answer.Answer.{Answer}
use Rattle.call_answers.specs.declared.answer.Written.{Written as WrittenNumbers}
use Rattle.call_answers.specs.declared.answer.Answer.TheVariants.{Written}
use Rattle.write_plan.specs.CandidateMarks.{outdated}

pub record Passes (old : List ℕ) (list : ProcessorList) (cand : List ℕ) : Type 0 where
  pub store : store_ok old ≡ true
  pub good_list : list_ok list ≡ true
  pub good : (t : ℕ) × (d : ℕ) × (n : ℕ) × (k : ℕ) × (verdict cand ≡ Good t d n k)
  pub present : covers_one list cand ≡ true
  pub newer : outdated old cand ≡ false

-- byte i of the update at block b is as it was
unfoldable pub same_byte : List ℕ → List ℕ → ℕ → ℕ → Bool
same_byte old new b i = eqb (get_or old (b * 2048 + i) 0) (get_or new (b * 2048 + i) 0)

unfoldable pub stands_at : List ℕ → List ℕ → ℕ → Bool
stands_at old new b = first new b && all_below (size_at old b * 2048) (same_byte old new b)

-- the update stored at block b no longer stands at its place
unfoldable pub gone_at : List ℕ → List ℕ → ℕ → Bool
gone_at old new b = first old b && not (stands_at old new b)

pub record Accepted (old : List ℕ) (list : ProcessorList) (cand : List ℕ) (start emptied blocks : ℕ) (new : List ℕ) : Type 0 where
  -- the store holds exactly the bytes of a legal outcome with the answered start and emptied count
  pub set : ℕ → Bool
  pub legal : Legal old list cand (total_size cand) start set
  pub bytes : new ≡ outcome_bytes old (total_size cand) cand start set
  pub count : emptied ≡ emptied_count old set
  -- no legal outcome empties fewer
  pub fewest : (a : ℕ) (e : ℕ → Bool) → Legal old list cand (total_size cand) a e → emptied ≤ emptied_count old e
  -- none that empties just as many starts lower
  pub lowest : (a : ℕ) (e : ℕ → Bool) → Legal old list cand (total_size cand) a e → emptied_count old e ≡ emptied → start ≤ a
  -- every kept update stands at its place with its old bytes
  pub kept : (b j : ℕ) → b < block_count old → first old b ≡ true → set b ≡ false → slot_at old b ≡ Update j
      → (first new b ≡ true) × (slot_at new b ≡ Update j) × Same (from_block old b) (from_block new b) (j * 2048)
  -- every update that covers a present processor that the candidate doesn't cover is kept
  pub needed : (b : ℕ) → b < block_count old → first old b ≡ true → Needed list cand (from_block old b) → set b ≡ false
  -- no processor, present or not, is covered by two updates: the new store is valid
  pub valid : ValidStore new
  -- the emptied count is the number of updates stored before that no longer stand at their place
  pub gone : emptied ≡ count_below (block_count old) (gone_at old new)
  -- bit c of the emptied blocks is set exactly if block c belonged to a stored update that no longer stands at its place
  pub emptied_blocks : (c : ℕ) → (bit blocks c ≡ true) ↔ ((b : ℕ) × Owned old (first old) b c × (gone_at old new b ≡ true))

pub record Demand3 (old : List ℕ) (list : ProcessorList) (cand : List ℕ) (back : ℕ) (answer : Answer) (new : List ℕ) : Type 0 where
  -- STORAGE_FULL exactly when no legal outcome exists
  pub full : (ah_of answer ≡ storage_full) ↔ ((start : ℕ) (e : ℕ → Bool) → Legal old list cand (total_size cand) start e → ⊥)
  -- otherwise it accepts exactly when the processor reads back the candidate's revision
  pub accepts : (start : ℕ) (e : ℕ → Bool) → Legal old list cand (total_size cand) start e
      → ((a : WrittenNumbers) × (answer ≡ Written a)) ↔ (back ≡ revision cand)
  pub accepted : (a : WrittenNumbers) → answer ≡ Written a → Accepted old list cand a.start a.emptied a.emptied_blocks new
