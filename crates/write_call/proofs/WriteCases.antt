-- Check 9 and the bytes, by cases of the plan, as `search` takes them.
--   answers         the answer of check 9
--   left            the bytes of the store afterwards
--   refuse_answer, refuse_bytes    those of a refusal
--   planned_same, absent_same      of a plan, by its definition
--   meant, meant_refused           the whole contract of the write, from a plan; from a refusal of checks 1 to 8
--   meant_err, meant_other, meant_done    of what the write itself answers: a refusal of checks 1 to 8, of check 9, or none
use Rattle.std.specs.Prelude.{ℕ, ◌≡◌, List, Ok, Err}
use Rattle.std.proofs.Math.Path.{refl, sym, ap}
use Rattle.std.proofs.Common.{◌∙◌}
use borrow.Author.Tests.{eq-eqb, ne_eqb}
use Rattle.processor_list.specs.Processors.{ProcessorList}
use Rattle.laws.specs.Unless.{unless}
use Rattle.update_header.specs.Fields.{revision, total_size}
use Rattle.write_outcome.specs.OutcomeBytes.{outcome_bytes}
use Rattle.write_outcome.specs.EmptiedBlocks.{emptied_blocks}
use Rattle.call_answers.specs.Refusals.{refused}
use Rattle.call_answers.specs.declared.answer.Answer.{Answer}
use Rattle.call_answers.specs.declared.refusal.Refusal.{Refusal}
use Rattle.call_answers.specs.declared.refusal.Refusal.TheVariants.{SecurityFailure}
use Rattle.write_plan.specs.Plan.{Plan}
use Rattle.write_plan.specs.declared.Run.{Run}
use Rattle.write_call.specs.Write.{emptied_at, write_plan, written, answered, write_answer, bytes_after, write_bytes}
use Rattle.write_call.proofs.Theorem.{demanded}
use Rattle.write_call.specs.WriteCases.{Meant}

-- r is the run, v the candidate's revision that a call read
module _ (old cand : List ℕ) (back : ℕ) (r : Run) (v : ℕ) (f : v ≡ revision cand) where
  pub back_right : (blocks : ℕ) → back ≡ v → blocks ≡ emptied_blocks old (emptied_at old cand r.start) → written r.start r.emptied blocks ≡ answered old cand back (Ok r)
  unfolding answered unless
  back_right blocks q g = rw (eq-eqb back (revision cand) (q ∙ f), g)

  pub back_wrong : (z : Answer) → (back ≡ v → ⊥) → z ≡ refused SecurityFailure → z ≡ answered old cand back (Ok r)
  unfolding answered unless
  back_wrong z n q = rw (ne_eqb back (revision cand) (λ x. n (x ∙ sym f))) q

  pub bytes_written : (new : List ℕ) → back ≡ v → new ≡ outcome_bytes old (total_size cand) cand r.start (emptied_at old cand r.start) → new ≡ bytes_after old cand back (Ok r)
  unfolding bytes_after unless
  bytes_written new q e = rw (eq-eqb back (revision cand) (q ∙ f)) e

  pub bytes_kept : (back ≡ v → ⊥) → old ≡ bytes_after old cand back (Ok r)
  unfolding bytes_after unless
  bytes_kept n = rw (ne_eqb back (revision cand) (λ x. n (x ∙ sym f)))

pub ruleset answers = (back_right, back_wrong)

pub ruleset left = (bytes_written, bytes_kept)

-- p is the plan, x the refusal
module _ (old cand : List ℕ) (back : ℕ) (p : Plan) (x : Refusal) (h : p ≡ Err x) where
  pub refuse_answer : (z : Answer) → z ≡ refused x → z ≡ answered old cand back p
  unfolding answered
  refuse_answer z q = rw h q

  pub refuse_bytes : old ≡ bytes_after old cand back p
  unfolding bytes_after
  refuse_bytes = rw h

-- g is the plan by its definition
module _ (old cand : List ℕ) (back : ℕ) (r : Answer) (new : List ℕ) (p g : Plan) (e : p ≡ g) where
  pub planned_same : r ≡ answered old cand back p → new ≡ bytes_after old cand back p → (r ≡ answered old cand back g) × (new ≡ bytes_after old cand back g)
  planned_same a b = (a ∙ ap (answered old cand back) e, b ∙ ap (bytes_after old cand back) e)

pub absent_same : (old cand : List ℕ) (back : ℕ) (r : Answer) (x : Refusal) (g : Plan) → Err x ≡ g → r ≡ refused x
    → (r ≡ answered old cand back g) × (old ≡ bytes_after old cand back g)
unfolding answered bytes_after
absent_same old cand back r x g e h = planned_same old cand back r old (Err x) g e h refl

module _ (old : List ℕ) (list : ProcessorList) (cand : List ℕ) (back : ℕ) (r : Answer) where
  -- p is the plan that a call made
  pub meant : (new : List ℕ) (p : Plan) → p ≡ write_plan old list cand → r ≡ answered old cand back p → new ≡ bytes_after old cand back p
      → Meant old list cand back r new
  unfolding write_answer write_bytes
  meant new p q e b =
      let f = e ∙ ap (answered old cand back) q in
      let g = b ∙ ap (bytes_after old cand back) q in
      (f, (g, demanded old list cand back r new f g))

  pub meant_refused : (x : Refusal) → Err x ≡ write_plan old list cand → r ≡ refused x → Meant old list cand back r old
  unfolding answered bytes_after
  meant_refused x q e = meant old (Err x) q e refl

module _ (old : List ℕ) (list : ProcessorList) (cand : List ℕ) (back : ℕ) where
  -- check x of 1 to 8 refuses
  pub meant_err : (x : Refusal) → Err x ≡ write_plan old list cand → Meant old list cand back (refused x) old
  meant_err x q = meant_refused old list cand back (refused x) x q refl

  module _ (r : Run) (q : Ok r ≡ write_plan old list cand) (v : ℕ) (f : v ≡ revision cand) where
    -- check 9 refuses
    pub meant_other : (back ≡ v → ⊥) → Meant old list cand back (refused SecurityFailure) old
    meant_other n = meant old list cand back (refused SecurityFailure) old (Ok r) q (back_wrong old cand back r v f (refused SecurityFailure) n refl) (bytes_kept old cand back r v f n)

    pub meant_done : (new : List ℕ) (blocks : ℕ) → back ≡ v → blocks ≡ emptied_blocks old (emptied_at old cand r.start)
        → new ≡ outcome_bytes old (total_size cand) cand r.start (emptied_at old cand r.start) → Meant old list cand back (written r.start r.emptied blocks) new
    meant_done new blocks h g e =
        meant old list cand back (written r.start r.emptied blocks) new (Ok r) q (back_right old cand back r v f blocks h g) (bytes_written old cand back r v f new h e)
