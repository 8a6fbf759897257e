-- Checks 7 and 8 of the write (document 01, "The calls", 1), by the marks of the stored updates.
--   Plan            what checks 1 to 8 find: a run, or the refusal of the first that fails
--   run             a run by its start and the emptied count
--   placed          check 8 of the choice of a run
--   marked_plan     checks 7 and 8
use Rattle.std.specs.Prelude.{ℕ, ◌+◌, not, Result, Ok, Err}
use Rattle.laws.specs.Below.{any_below}
use Rattle.laws.specs.Count.{count_below}
use Rattle.laws.specs.Least.{Pick, nowhere, at}
use Rattle.laws.specs.Unless.{unless}
use Rattle.write_marks.specs.StoredUpdates.{StoredUpdates}
use Rattle.write_marks.specs.Against.{both_marks}
use Rattle.write_placement.specs.Choose.{choose}
use Rattle.call_answers.specs.declared.refusal.Refusal.{Refusal}
use Rattle.call_answers.specs.declared.refusal.Refusal.TheVariants.{SharingNeeded, NoRun}
use Rattle.write_plan.specs.declared.Run.{Run}

abbrev pub Plan : Type 0
Plan = Result Run Refusal

abbrev pub run : ℕ → ℕ → Plan
run start emptied = Ok (record { start = start; emptied = emptied })

-- check 8: no run; else the start, and the updates that share or are touched
unfoldable pub placed : StoredUpdates → Pick → Plan
placed h nowhere = Err NoRun
placed h (at start touched) = run start (count_below h.count h.shares + touched)

-- checks 7 and 8 in a store of n blocks for a candidate of k, h being the stored updates
abbrev pub marked_plan : ℕ → StoredUpdates → ℕ → Plan
marked_plan n h k = unless (not (any_below h.count (both_marks h))) (Err SharingNeeded) (placed h (choose n k h))
