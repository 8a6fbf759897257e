-- The storing step: from the marks beside the directory to the bytes of the outcome.
--   Storing         what the step may go by
--   Storable        it may, where the plan is a run
use Rattle.std.specs.Prelude.{ℕ, ◌+◌, ◌≤◌, ◌≡◌, true, List, length}
use Rattle.update_header.specs.Fields.{total_size}
use Rattle.update_sizes.specs.Sizes.{blocks_of}
use Rattle.store_blocks.specs.Blocks.{block_count}
use Rattle.store_directory.specs.Scan.{store_ok, directory}
use Rattle.write_marks.specs.declared.Marked.{Marked}
use Rattle.write_plan.specs.Plan.{Plan, run}
use Rattle.write_plan.specs.RightMarks.{Shared}

pub record Storing (old cand : List ℕ) (m : Marked) (start : ℕ) : Type 0 where
  pub ok : store_ok old ≡ true
  pub shared : Shared old cand m.starts m.shares m.count
  pub sizes : m.sizes ≡ (directory old).sizes
  pub whole : total_size cand ≤ length cand
  pub small : total_size cand ≤ 32768
  pub ends : start + blocks_of (total_size cand) ≤ block_count old

-- p is the plan: where it is a run, the step may go by it
unfoldable pub Storable : List ℕ → List ℕ → Marked → Plan → Type 0
Storable old cand m p = (start emptied : ℕ) → p ≡ run start emptied → Storing old cand m start
