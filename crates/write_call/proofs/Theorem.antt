-- Demand 3 holds of the write's answer and of the bytes that it leaves.
--   planned_accepted    a planned write that leaves the outcome's bytes is accepted as the demand wants it
--   demand3             the theorem
use Rattle.std.specs.Prelude.{ℕ, ◌≡◌, refl, List}
use Rattle.std.proofs.Common.{◌∙◌}
use Rattle.processor_list.specs.Processors.{ProcessorList}
use Rattle.laws.specs.Bools.{no_true}
use Rattle.update_header.specs.Fields.{total_size}
use Rattle.update_sizes.specs.Sizes.{blocks_of}
use Rattle.store_directory.proofs.ValidLaws.{valid_law}
use Rattle.write_outcome.specs.OutcomeBytes.{outcome_bytes}
use Rattle.write_outcome.specs.EmptiedBlocks.{emptied_blocks}
use Rattle.write_outcome.specs.After.{after}
use Rattle.write_outcome.proofs.AfterLaws.{outcome_after}
use Rattle.write_outcome.proofs.KeptLaws.{kept_made}
use Rattle.call_answers.specs.declared.answer.Answer.{Answer}
use Rattle.write_call.specs.Write.{emptied_at, write_answer, write_bytes}
use Rattle.write_call.specs.Demand.{Passes, Accepted, Demand3}
use Rattle.write_call.specs.Planned.{Planned, plan_run}
use Rattle.write_call.proofs.Chosen.{planned_best}
use Rattle.write_call.proofs.Gone.{gone_count, gone_blocks}
use Rattle.write_call.proofs.Answered.{answer_plan, answer_blocks, answer_bytes, full_none, none_full, accepts_back, back_accepts}

pub planned_accepted : (old : List ℕ) (list : ProcessorList) (cand : List ℕ) (start emptied : ℕ) → Planned old list cand start emptied
    → Accepted old list cand start emptied (emptied_blocks old (emptied_at old cand start)) (outcome_bytes old (total_size cand) cand start (emptied_at old cand start))
unfolding after
planned_accepted old list cand start emptied plan =
    let set = emptied_at old cand start in
    let t = total_size cand in
    let k = blocks_of t in
    let best = planned_best old list cand start emptied plan in
    let new = outcome_bytes old t cand start set in
    let left = outcome_after old list cand t plan.data plan.entries k start set plan.store plan.good best.legal in
    record {
      set = set;
      legal = best.legal;
      bytes = refl;
      count = best.counts;
      fewest = best.fewest;
      lowest = best.lowest;
      kept = λ b j l f e s. let q = kept_made old set b f e in let w = left.stays b j l q s in (left.firsts b l ∙ rw q, w.0, w.1);
      needed = λ b l f w. no_true (set b) (λ e. best.legal.spares b l f w e);
      valid = (valid_law new).0 left.ok;
      gone = best.counts
          ∙ gone_count old list cand t plan.data plan.entries k start set plan.store plan.good best.legal plan.present plan.newer;
      emptied_blocks =
          gone_blocks old list cand t plan.data plan.entries k start set plan.store plan.good best.legal plan.present plan.newer;
    }

pub demand3 : (old : List ℕ) (list : ProcessorList) (cand : List ℕ) (back : ℕ) → Passes old list cand
    → Demand3 old list cand back (write_answer old list cand back) (write_bytes old list cand back)
demand3 old list cand back pass = record {
  full = (full_none old list cand pass back, none_full old list cand pass back);
  accepts = λ start e legal. (
    λ w. accepts_back old list cand pass back start e legal w.0 w.1,
    back_accepts old list cand pass back start e legal,
  );
  accepted = λ a q.
      rw (answer_bytes old list cand back a q, answer_blocks old list cand back a q)
      (planned_accepted old list cand a.start a.emptied (plan_run old list cand a.start a.emptied (answer_plan old list cand back a q)));
}

-- the same of an answer and a store that a call gave
pub demanded : (old : List ℕ) (list : ProcessorList) (cand : List ℕ) (back : ℕ) (r : Answer) (new : List ℕ) → r ≡ write_answer old list cand back → new ≡ write_bytes old list cand back
    → Passes old list cand → Demand3 old list cand back r new
demanded old list cand back r new e f p = rw (e, f) (demand3 old list cand back p)
