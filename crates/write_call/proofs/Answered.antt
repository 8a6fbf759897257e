-- What the write answers where checks 1 to 6 pass.
--   full_or_planned  one of the two, where checks 1 to 6 pass
--   answer_full, answer_back    the answer, of each
--   answer_plan, answer_read    an accepted write was planned, and its revision was read back
--   answer_blocks, answer_bytes    its emptied blocks and its bytes are an outcome's
--   full_none, none_full        the answer is a full store's exactly where no outcome is legal
--   accepts_back, back_accepts  else it accepts exactly if the revision is read back
use Rattle.std.specs.Prelude.{ℕ, ◌+◌, ◌≤◌, ◌≡◌, Bool, true, false, not, List, Ok, Err, eqb}
use Rattle.std.proofs.Math.Path.{refl}
use Rattle.std.proofs.Common.{ap, ◌∙◌, arith, eqb-true, eq-eqb}
use Rattle.laws.specs.Orders.{impossible}
use Rattle.processor_list.specs.Processors.{ProcessorList}
use Rattle.laws.specs.Below.{any_below}
use Rattle.laws.specs.Count.{count_below}
use Rattle.laws.specs.Least.{Pick, nowhere, at}
use Rattle.laws.specs.Unless.{unless}
use Rattle.update_header.specs.Fields.{revision, total_size}
use Rattle.update_sizes.specs.Sizes.{blocks_of}
use Rattle.update_verdict.specs.VerdictLaws.{judged, good_blocks}
use Rattle.store_blocks.specs.Blocks.{block_count}
use Rattle.write_marks.specs.StoredUpdates.{StoredUpdates}
use Rattle.write_marks.specs.Against.{both_marks}
use Rattle.write_placement.specs.Choose.{choose}
use Rattle.write_outcome.specs.Legal.{Legal}
use Rattle.write_outcome.specs.OutcomeBytes.{outcome_bytes}
use Rattle.write_outcome.specs.EmptiedBlocks.{emptied_blocks}
use Rattle.call_answers.specs.Codes.{success, storage_full, none}
use Rattle.call_answers.specs.Answers.{ah_of}
use Rattle.call_answers.specs.Refusals.{refused}
use Rattle.call_answers.specs.declared.refusal.Refusal.{Refusal}
use Rattle.call_answers.specs.declared.refusal.Refusal.TheVariants.{SharingNeeded, NoRun, SecurityFailure}
use Rattle.call_answers.specs.declared.answer.Written.{Written as WrittenNumbers}
use Rattle.call_answers.specs.declared.answer.Answer.TheVariants.{Written}
use Rattle.write_plan.specs.CandidateMarks.{stored_updates}
use Rattle.write_plan.specs.Plan.{Plan, run, placed}
use Rattle.write_call.specs.Write.{good_plan, judged_plan, write_plan, written, answered, write_answer, emptied_at, bytes_after, write_bytes}
use Rattle.write_call.specs.Demand.{Passes}
use Rattle.write_call.specs.Planned.{plan_run}
use Rattle.write_call.proofs.Chosen.{chosen_none, both_marks_none, planned_best}
use Rattle.write_call.specs.Answered.{NoLegal, FullOrPlanned, full, planned}

-- the answer's numbers, the emptied blocks by their definition
abbrev numbers : List ℕ → List ℕ → ℕ → ℕ → WrittenNumbers
numbers old cand start emptied =
    record { ah = success; al = none; carry = false; start = start; emptied = emptied; emptied_blocks = emptied_blocks old (emptied_at old cand start) }

-- an answer with a start and a count: the plan is that run, check 9 passed, and the emptied blocks are those of that start
answered_run : (old cand : List ℕ) (back : ℕ) (p : Plan) (a : WrittenNumbers) → answered old cand back p ≡ Written a
    → (p ≡ run a.start a.emptied) × (eqb back (revision cand) ≡ true) × (a.emptied_blocks ≡ emptied_blocks old (emptied_at old cand a.start))
unfolding answered unless
answered_run old cand back (Ok r) a e = go (eqb back (revision cand)) refl e
  where
    go : (t : Bool) → eqb back (revision cand) ≡ t → unless t (refused SecurityFailure) (Written (numbers old cand r.start r.emptied)) ≡ Written a
        → (run r.start r.emptied ≡ run a.start a.emptied) × (eqb back (revision cand) ≡ true)
        × (a.emptied_blocks ≡ emptied_blocks old (emptied_at old cand a.start))
    go true q f =
        let g : numbers old cand r.start r.emptied ≡ a = cc in
        (ap (λ (x : WrittenNumbers). run x.start x.emptied) g, q, rw (← g))
    go false q f = absurd (impossible (cc))
answered_run old cand back (Err r) a e = absurd (impossible (cc))

back_not_full : (t : Bool) (start emptied blocks : ℕ) → ah_of (unless t (refused SecurityFailure) (written start emptied blocks)) ≡ storage_full → ⊥
unfolding unless
back_not_full true start emptied blocks e = omega arith
back_not_full false start emptied blocks e = omega arith

module _ (old : List ℕ) (list : ProcessorList) (cand : List ℕ) where
  abbrev h : StoredUpdates
  h = stored_updates old list cand

  module _ (back : ℕ) where
    pub answer_full : (r : Refusal) → write_plan old list cand ≡ Err r → write_answer old list cand back ≡ refused r
    unfolding write_answer answered
    answer_full r e = rw e

    pub answer_back : (start emptied : ℕ) → write_plan old list cand ≡ run start emptied
        → write_answer old list cand back ≡ unless (eqb back (revision cand)) (refused SecurityFailure) (Written (numbers old cand start emptied))
    unfolding write_answer answered
    answer_back start emptied e = rw e

    module _ (a : WrittenNumbers) (e : write_answer old list cand back ≡ Written a) where
      pub answer_plan : write_plan old list cand ≡ run a.start a.emptied
      unfolding write_answer
      answer_plan = (answered_run old cand back (write_plan old list cand) a e).0

      pub answer_read : eqb back (revision cand) ≡ true
      unfolding write_answer
      answer_read = (answered_run old cand back (write_plan old list cand) a e).1

      pub answer_blocks : a.emptied_blocks ≡ emptied_blocks old (emptied_at old cand a.start)
      unfolding write_answer
      answer_blocks = (answered_run old cand back (write_plan old list cand) a e).2

      pub answer_bytes : write_bytes old list cand back ≡ outcome_bytes old (total_size cand) cand a.start (emptied_at old cand a.start)
      unfolding write_bytes bytes_after unless
      answer_bytes = rw (answer_plan, answer_read)

  module _ (pass : Passes old list cand) where
    -- what is left of the plan
    passed_plan : write_plan old list cand
        ≡ unless (not (any_below h.count (both_marks h))) (Err SharingNeeded) (placed h (choose (block_count old) (blocks_of (total_size cand)) h))
    unfolding write_plan judged_plan good_plan unless
    passed_plan =
        let g = pass.good in
        let j = judged cand g.0 g.1 g.2 g.3 g.4 in
        rw (pass.store, pass.good_list, g.4, pass.present, pass.newer, j.blocks, j.total)

    pub full_or_planned : FullOrPlanned old list cand
    unfolding unless placed
    full_or_planned = go (any_below h.count (both_marks h)) refl (choose (block_count old) (blocks_of (total_size cand)) h) refl passed_plan
      where
        some : 1 ≤ blocks_of (total_size cand)
        some =
            let g = pass.good in
            rw (judged cand g.0 g.1 g.2 g.3 g.4).total at (good_blocks cand g.0 g.1 g.2 g.3 g.4)

        go : (t : Bool) → any_below h.count (both_marks h) ≡ t → (p : Pick) → choose (block_count old) (blocks_of (total_size cand)) h ≡ p
            → write_plan old list cand ≡ unless (not t) (Err SharingNeeded) (placed h p) → FullOrPlanned old list cand
        go true q p r e = full SharingNeeded refl e (both_marks_none old list cand pass.store some q)
        go false q nowhere r e = full NoRun refl e (chosen_none old list cand pass.store some r)
        go false q (at start c) r e = planned start (count_below h.count h.shares + c) e

    module _ (back : ℕ) where
      pub full_none : ah_of (write_answer old list cand back) ≡ storage_full → NoLegal old list cand
      full_none e = go full_or_planned
        where
          go : FullOrPlanned old list cand → NoLegal old list cand
          go (full r f q none) = none
          go (planned start emptied q) = absurd (back_not_full (eqb back (revision cand)) start emptied _ (rw (answer_back back start emptied q) at e))

      pub none_full : NoLegal old list cand → ah_of (write_answer old list cand back) ≡ storage_full
      none_full none = go full_or_planned
        where
          go : FullOrPlanned old list cand → ah_of (write_answer old list cand back) ≡ storage_full
          go (full r f q no-legal) = ap ah_of (answer_full back r q) ∙ f
          go (planned start emptied q) = absurd (none start _ (planned_best old list cand start emptied (plan_run old list cand start emptied q)).legal)

      -- where there is a legal outcome
      module _ (start : ℕ) (e : ℕ → Bool) (legal : Legal old list cand (total_size cand) start e) where
        legal_plan : (s : ℕ) × (n : ℕ) × (write_plan old list cand ≡ run s n)
        legal_plan = go full_or_planned
          where
            go : FullOrPlanned old list cand → (s : ℕ) × (n : ℕ) × (write_plan old list cand ≡ run s n)
            go (full r f q none) = absurd (none start e legal)
            go (planned s n q) = (s, n, q)

        pub accepts_back : (a : WrittenNumbers) → write_answer old list cand back ≡ Written a → back ≡ revision cand
        accepts_back a q = eqb-true back (revision cand) (answer_read back a q)

        pub back_accepts : back ≡ revision cand → (a : WrittenNumbers) × (write_answer old list cand back ≡ Written a)
        unfolding unless
        back_accepts q =
            let w = legal_plan in
            (numbers old cand w.0 w.1, answer_back back w.0 w.1 w.2 ∙ rw (eq-eqb back (revision cand) q))
