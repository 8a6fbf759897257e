-- The choice of a run, said of outcomes over first blocks.
--   BestOutcome     to go to the start, and to empty those that share or are touched, is the best legal outcome
use Rattle.std.specs.Prelude.{ℕ, ◌≤◌, ◌≡◌, Bool, List}
use Rattle.processor_list.specs.Processors.{ProcessorList}
use Rattle.update_header.specs.Fields.{total_size}
use Rattle.write_outcome.specs.Legal.{Legal, emptied_count}
use Rattle.write_call.specs.Write.{emptied_at}

pub record BestOutcome (old : List ℕ) (list : ProcessorList) (cand : List ℕ) (start count : ℕ) : Type 0 where
  pub legal : Legal old list cand (total_size cand) start (emptied_at old cand start)
  pub counts : count ≡ emptied_count old (emptied_at old cand start)
  -- no legal outcome empties fewer
  pub fewest : (a : ℕ) (e : ℕ → Bool) → Legal old list cand (total_size cand) a e → count ≤ emptied_count old e
  -- none that empties just as many starts lower
  pub lowest : (a : ℕ) (e : ℕ → Bool) → Legal old list cand (total_size cand) a e → emptied_count old e ≡ count → start ≤ a
