-- The choice of a run, said of outcomes over first blocks.
--   chosen_none     where no start is chosen no outcome is legal
--   both_marks_none       nor is any where an update has both marks
--   planned_best    the planned start is the best, with the planned count
use Rattle.std.specs.Prelude.{ℕ, ◌≤◌, ◌≡◌, Bool, true, List}
use Rattle.std.proofs.Math.Path.{sym}
use Rattle.std.proofs.Common.{◌∙◌, arith}
use Rattle.processor_list.specs.Processors.{ProcessorList}
use Rattle.laws.specs.Bools.{and_parts}
use Rattle.laws.specs.Below.{any_below, any_at}
use Rattle.laws.specs.Count.{count_cong}
use Rattle.laws.specs.Least.{nowhere}
use Rattle.update_header.specs.Fields.{total_size}
use Rattle.update_sizes.specs.Sizes.{blocks_of}
use Rattle.store_blocks.specs.Blocks.{block_count}
use Rattle.store_directory.specs.Scan.{store_ok}
use Rattle.write_marks.specs.StoredUpdates.{StoredUpdates}
use Rattle.write_placement.specs.LegalByNumber.{emptied_count_by_number}
use Rattle.write_marks.specs.Against.{both_marks, emptied_by_number}
use Rattle.write_placement.specs.Choose.{choose}
use Rattle.write_placement.specs.Best.{Best, choose_none, choose_some, both_marks_none as both-nowhere}
use Rattle.write_outcome.specs.Legal.{Legal, emptied_count}
use Rattle.write_plan.specs.CandidateMarks.{stored_updates}
use Rattle.write_call.specs.Write.{emptied_at}
use Rattle.write_call.specs.Planned.{stored_laid, Planned}
use Rattle.update_verdict.specs.VerdictLaws.{good_blocks}
use Rattle.write_call.specs.Join.{by_number}
use Rattle.write_call.proofs.Join.{legal_numbers, legal_blocks, emptied_number}
use Rattle.write_call.proofs.Counts.{number_count}
use Rattle.write_call.specs.Chosen.{BestOutcome}

module _ (old : List ℕ) (list : ProcessorList) (cand : List ℕ) (ok : store_ok old ≡ true) (some : 1 ≤ blocks_of (total_size cand)) where
  abbrev h : StoredUpdates
  h = stored_updates old list cand

  pub chosen_none : choose (block_count old) (blocks_of (total_size cand)) h ≡ nowhere
      → (start : ℕ) (e : ℕ → Bool) → Legal old list cand (total_size cand) start e → ⊥
  chosen_none q start e legal =
      choose_none (block_count old) (blocks_of (total_size cand)) h some (stored_laid old list cand ok) q start (by_number old e)
      (legal_numbers old list cand ok (total_size cand) start e legal)

  pub both_marks_none : any_below h.count (both_marks h) ≡ true → (start : ℕ) (e : ℕ → Bool) → Legal old list cand (total_size cand) start e → ⊥
  unfolding both_marks
  both_marks_none q =
      let i = any_at (both_marks h) h.count q in
      let x = and_parts (h.shares i.0) (h.needed i.0) i.2 in
      chosen_none (both-nowhere (block_count old) (blocks_of (total_size cand)) h i.0 i.1 x.0 x.1)

  -- those that are emptied, counted by number and by first block
  emptied_count_lem : (start : ℕ) → emptied_count_by_number h (emptied_by_number h (blocks_of (total_size cand)) start) ≡ emptied_count old (emptied_at old cand start)
  unfolding emptied_count_by_number
  emptied_count_lem start =
      sym (count_cong (by_number old (emptied_at old cand start)) (emptied_by_number h (blocks_of (total_size cand)) start) h.count (emptied_number old list cand ok start))
      ∙ number_count old list cand (emptied_at old cand start) ok

  module _ (start count : ℕ) (best : Best (block_count old) (blocks_of (total_size cand)) h start) (counts : count ≡ emptied_count_by_number h (emptied_by_number h (blocks_of (total_size cand)) start)) where
    best_outcome : BestOutcome old list cand start count
    best_outcome = record {
      legal =
          legal_blocks old list cand ok (total_size cand) start (emptied_at old cand start) (emptied_by_number h (blocks_of (total_size cand)) start)
          (emptied_number old list cand ok start) best.legal;
      counts = counts ∙ emptied_count_lem start;
      fewest = λ a e legal.
          omega (
            arith,
            number_count old list cand e ok,
            best.fewest a (by_number old e) (legal_numbers old list cand ok (total_size cand) a e legal),
          );
      lowest = λ a e legal q.
          best.lowest a (by_number old e) (legal_numbers old list cand ok (total_size cand) a e legal)
          (omega (arith, number_count old list cand e ok));
    }

pub planned_best : (old : List ℕ) (list : ProcessorList) (cand : List ℕ) (start emptied : ℕ) → Planned old list cand start emptied
    → BestOutcome old list cand start emptied
planned_best old list cand start emptied plan =
    let some = good_blocks cand (total_size cand) plan.data plan.entries (blocks_of (total_size cand)) plan.good in
    let laid = stored_laid old list cand plan.store in
    let w = choose_some (block_count old) (blocks_of (total_size cand)) (stored_updates old list cand) some laid start plan.touched plan.chosen in
    best_outcome old list cand plan.store some start emptied w.0 (plan.count ∙ sym w.1)
