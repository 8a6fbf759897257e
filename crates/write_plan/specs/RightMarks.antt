-- The marks as the code keeps them, beside the entries of the directory.
--   Shared     the marks of those that share are right
--   Marks      both marks are
use Rattle.std.specs.Prelude.{ℕ, ◌≤◌, ◌≡◌, Bool, false, List}
use Rattle.laws.specs.Arrays.{Filled}
use Rattle.store_directory.specs.Scan.{directory}
use Rattle.processor_list.specs.Processors.{ProcessorList}
use Rattle.write_marks.specs.declared.Marked.{Marked}
use Rattle.write_plan.specs.CandidateMarks.{shares_entry, needed_entry}

pub record Shared (old cand starts : List ℕ) (shares : List Bool) (count : ℕ) : Type 0 where
  pub starts_are : starts ≡ (directory old).starts
  pub count_is : count ≡ (directory old).count
  pub few : count ≤ 32
  pub marks : Filled false 32 (shares_entry old cand) count shares

pub record Marks (old : List ℕ) (list : ProcessorList) (cand : List ℕ) (m : Marked) : Type 0 where
  pub shared : Shared old cand m.starts m.shares m.count
  pub sizes : m.sizes ≡ (directory old).sizes
  pub needed : Filled false 32 (needed_entry old list cand) m.count m.needed
