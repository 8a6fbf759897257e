-- "Repeats are harmless" (document 01, "The store"), of the whole write: two lists of the same processors, in whatever order and however
-- often, are answered alike.
--   marks_same    the marks of the stored updates agree
--   plan_same     the plans are equal
--   lists_same    the answers are equal, and the bytes afterwards
use Rattle.std.specs.Prelude.{ℕ, ◌≡◌, true, List, Ok, Err}
use Rattle.std.proofs.Math.Path.{refl}
use Rattle.std.proofs.Common.{ap}
use Rattle.update_verdict.specs.Verdict.{Verdict, verdict}
use Rattle.store_blocks.specs.Blocks.{from_block, block_count}
use Rattle.store_directory.specs.Scan.{directory}
use Rattle.store_directory.specs.DirectoryEntries.{start_of}
use Rattle.processor_list.specs.Processors.{ProcessorList, list_ok}
use Rattle.processor_list.specs.Repeats.{SameListed}
use Rattle.processor_list.proofs.Repeats.{covers_same, needed_same}
use Rattle.write_placement.specs.Choose.{choose}
use Rattle.write_placement.specs.Agree.{Agree, choose_same, both_marks_same}
use Rattle.write_plan.specs.CandidateMarks.{needed_entry, stored_updates}
use Rattle.write_plan.specs.PlanLaws.{placed_same}
use Rattle.write_call.specs.Write.{good_plan, judged_plan, write_plan, answered, write_answer, bytes_after, write_bytes}

module _ (old : List ℕ) (list other : ProcessorList) (cand : List ℕ) (same : SameListed list other) where
  pub marks_same : Agree (stored_updates old list cand) (stored_updates old other cand)
  unfolding stored_updates needed_entry
  marks_same = record {
    count = refl;
    start = λ i l. refl;
    size = λ i l. refl;
    shares = λ i l. refl;
    needed = λ i l. needed_same list other same (from_block old (start_of (directory old) i)) cand;
  }

  -- checks 5 to 8
  good_same : (k : ℕ) → good_plan old list cand k ≡ good_plan old other cand k
  unfolding good_plan
  good_same k =
      let g = stored_updates old list cand in
      let h = stored_updates old other cand in
      rw (
        covers_same list other same cand,
        both_marks_same g h marks_same,
        choose_same g h marks_same (block_count old) k,
        placed_same g h (choose (block_count old) k h) marks_same,
      )

  -- checks 2 to 8
  judged_same : (v : Verdict) → judged_plan old list cand v ≡ judged_plan old other cand v
  unfolding judged_plan
  judged_same (Ok m) = good_same m.blocks
  judged_same (Err x) = refl

  module _ (ok : list_ok list ≡ true) (fine : list_ok other ≡ true) where
    pub plan_same : write_plan old list cand ≡ write_plan old other cand
    unfolding write_plan
    plan_same = rw (ok, fine, judged_same (verdict cand))

pub lists_same : (old : List ℕ) (list other : ProcessorList) (cand : List ℕ) (back : ℕ) → list_ok list ≡ true → list_ok other ≡ true
    → SameListed list other
    → (write_answer old list cand back ≡ write_answer old other cand back) × (write_bytes old list cand back ≡ write_bytes old other cand back)
unfolding write_answer write_bytes
lists_same old list other cand back ok fine same =
    let e = plan_same old list other cand same ok fine in
    (ap (answered old cand back) e, ap (bytes_after old cand back) e)
