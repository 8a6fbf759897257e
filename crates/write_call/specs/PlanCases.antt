-- The order of checks 1 to 6, a return at each, as `search` takes them.
--   good_absent, good_outdated, good_marked   checks 5 and 6
--   plan_header, plan_sum      the refusals of a bad update
--   plans                      checks 1 to 6, of what the calls answered
use Rattle.std.specs.Prelude.{ℕ, ◌≡◌, Bool, true, false, List, Option, Some, None, Ok, Err, length}
use Rattle.std.proofs.Common.{◌∙◌}
use Rattle.laws.specs.Below.{any_below}
use Rattle.laws.specs.Unless.{unless}
use Rattle.update_verdict.specs.Verdict.{Verdict, BadHeader, BadSum, verdict}
use Rattle.update_verdict.specs.declared.BadUpdate.{BadUpdate}
use Rattle.update_verdict.specs.declared.BadUpdate.TheVariants.{Header, Sum}
use Rattle.update_verdict.specs.declared.Measures.{Measures}
use Rattle.store_blocks.specs.Blocks.{block_count}
use Rattle.store_directory.specs.Scan.{stored}
use Rattle.store_directory.proofs.StoreLaws.{stored_good, stored_bad}
use Rattle.store_directory.specs.declared.Directory.{Directory}
use Rattle.write_placement.specs.Agree.{choose_same, both_marks_same}
use Rattle.write_plan.specs.PlanLaws.{placed_same}
use Rattle.write_placement.specs.Choose.{choose}
use Rattle.write_marks.specs.StoredMarks.{stored_of}
use Rattle.laws.specs.Arrays.{mark_at}
use Rattle.write_marks.specs.declared.Marked.{Marked}
use Rattle.processor_list.specs.Processors.{ProcessorList, list_ok}
use Rattle.call_answers.specs.declared.refusal.Refusal.TheVariants.{BadStore, BadProcessors, ProcessorNotPresent, InvalidHeader, InvalidHeaderSum, InvalidRevision}
use Rattle.processor_list.specs.Covered.{Covered}
use Rattle.processor_list.proofs.CoveredLaws.{one_is}
use Rattle.write_plan.specs.CandidateMarks.{stored_updates, outdated}
use Rattle.write_plan.specs.RightMarks.{Marks}
use Rattle.write_plan.specs.CandidateMarkLaws.{stored_same}
use Rattle.write_plan.specs.Plan.{Plan, marked_plan}
use Rattle.write_plan.specs.VerdictCode.{refusal_of}
use Rattle.write_call.specs.Write.{good_plan, judged_plan, write_plan}

-- checks 5 and 6: r is what the test of the candidate's marks answered, o that of the revisions
module _ (old : List ℕ) (list : ProcessorList) (cand : List ℕ) (k : ℕ) (marks : List Bool) (r : Bool) (right : Covered list cand marks)
    (e : r ≡ any_below (length list.signatures) (mark_at marks)) where
  pub good_absent : r ≡ false → Err ProcessorNotPresent ≡ good_plan old list cand k
  unfolding good_plan unless
  good_absent h = rw (← one_is list cand marks right r e, h)

  module _ (h : r ≡ true) (o : Bool) (f : o ≡ outdated old cand) where
    pub good_outdated : o ≡ true → Err InvalidRevision ≡ good_plan old list cand k
    unfolding good_plan unless
    good_outdated w = rw (← one_is list cand marks right r e, h, ← f, w)

    pub good_marked : o ≡ false → (m : Marked) → Marks old list cand m
        → (z : Plan) → z ≡ marked_plan (block_count old) (stored_of m) k → z ≡ good_plan old list cand k
    unfolding good_plan unless
    good_marked w m y z q =
        let a = stored_same old list cand m y in
        let g = stored_updates old list cand in
        rw (← one_is list cand marks right r e, h, ← f, w)
        (q ∙ rw (both_marks_same (stored_of m) g a, choose_same (stored_of m) g a (block_count old) k, placed_same (stored_of m) g (choose (block_count old) k g) a))

-- s is the reading of the store, l what the list's rule answered, v the verdict
module _ (old : List ℕ) (list : ProcessorList) (cand : List ℕ) (s : Option Directory) (e : s ≡ stored old) where
  pub plan_bad : s ≡ None → Err BadStore ≡ write_plan old list cand
  unfolding write_plan unless
  plan_bad h = rw (stored_bad old s e h)

  module _ (d : Directory) (read : s ≡ Some d) (l : Bool) (f : l ≡ list_ok list) where
    pub plan_list : l ≡ false → Err BadProcessors ≡ write_plan old list cand
    unfolding write_plan unless
    plan_list h = rw (stored_good old s e d read, ← f, h)

    module _ (good : l ≡ true) (v : Verdict) (g : v ≡ verdict cand) where
      pub plan_judged : (x : BadUpdate) → v ≡ Err x → Err (refusal_of x) ≡ write_plan old list cand
      unfolding write_plan unless judged_plan
      plan_judged x h = rw (stored_good old s e d read, ← f, good, ← g, h)

      pub plan_header : v ≡ BadHeader → Err InvalidHeader ≡ write_plan old list cand
      plan_header = plan_judged Header

      pub plan_sum : v ≡ BadSum → Err InvalidHeaderSum ≡ write_plan old list cand
      plan_sum = plan_judged Sum

      module _ (m : Measures) (h : v ≡ Ok m) where
        pub plan_good : good_plan old list cand m.blocks ≡ write_plan old list cand
        unfolding write_plan unless judged_plan
        plan_good = rw (stored_good old s e d read, ← f, good, ← g, h)

        module _ (marks : List Bool) (right : Covered list cand marks) (r : Bool) (w : r ≡ any_below (length list.signatures) (mark_at marks)) where
          pub plan_absent : r ≡ false → Err ProcessorNotPresent ≡ write_plan old list cand
          plan_absent q = good_absent old list cand m.blocks marks r right w q ∙ plan_good

          module _ (present : r ≡ true) (o : Bool) (x : o ≡ outdated old cand) where
            pub plan_outdated : o ≡ true → Err InvalidRevision ≡ write_plan old list cand
            plan_outdated q = good_outdated old list cand m.blocks marks r right w present o x q ∙ plan_good

            pub plan_newer : o ≡ false → (n : Marked) → Marks old list cand n → (z : Plan) → z ≡ marked_plan (block_count old) (stored_of n) m.blocks
                → z ≡ write_plan old list cand
            plan_newer q n y z u = good_marked old list cand m.blocks marks r right w present o x q n y z u ∙ plan_good

pub ruleset plans = (plan_bad, plan_list, plan_judged, plan_absent, plan_outdated, plan_newer)
