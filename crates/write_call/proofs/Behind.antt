-- "Bytes behind T are ignored" (document 01, "The update"), of the whole write: two candidates that agree on their header and their T
-- bytes, with T in the lent bytes of both, are answered alike.
--   behind_plan       the plans are equal
--   behind_outcome    the bytes of an outcome are equal
--   behind_ignored    the answers are equal, and the bytes afterwards
use Rattle.std.specs.Prelude.{ℕ, ◌*◌, ◌-◌, ◌≤◌, max, ◌≡◌, Bool, true, false, List, Ok, Err, length, get_or, ltb}
use Rattle.std.proofs.Math.Path.{refl, fun_ext}
use Rattle.std.proofs.Common.{sym, ap, arith, ltb-true}
use Rattle.laws.specs.Tabulate.{tabulate}
use Rattle.laws.specs.Bools.{bool_same}
use Rattle.laws.specs.Below.{any_cong}
use Rattle.laws.specs.Same.{Same, same_less}
use Rattle.laws.specs.Unless.{unless}
use Rattle.update_header.specs.Fields.{revision, total_size}
use Rattle.update_sizes.specs.Sizes.{blocks_of}
use Rattle.update_verdict.specs.Verdict.{Verdict, Good, verdict}
use Rattle.update_verdict.specs.VerdictLaws.{judged}
use Rattle.update_verdict.specs.VerdictLocal.{field_behind, total_behind, verdict_behind}
use Rattle.update_sharing.specs.Shares.{shares}
use Rattle.update_sharing.proofs.ShareLaws.{shares_law}
use Rattle.update_sharing.specs.SharingLocal.{Alike, covers_local, shares_move}
use Rattle.store_blocks.specs.Blocks.{from_block, block_count}
use Rattle.store_directory.specs.Scan.{directory}
use Rattle.processor_list.specs.Processors.{ProcessorList, covers_listed, covers_one, needed_for, is_needed}
use Rattle.write_placement.specs.Choose.{choose}
use Rattle.write_placement.specs.Agree.{Agree, choose_same, both_marks_same}
use Rattle.write_outcome.specs.OutcomeBytes.{run_byte, outcome_byte, outcome_bytes}
use Rattle.write_plan.specs.CandidateMarks.{update_at, shares_entry, needed_entry, stored_updates, outdates, outdated}
use Rattle.write_plan.specs.PlanLaws.{placed_same}
use Rattle.write_plan.specs.Plan.{Plan}
use Rattle.write_call.specs.Write.{good_plan, judged_plan, write_plan, emptied_at, answered, write_answer, bytes_after, write_bytes}
use Rattle.write_call.specs.Planned.{plan_run}

-- the candidate's bytes in the run
run_byte_same : (t : ℕ) (cand other : List ℕ) → Same cand other t → (j : ℕ) → run_byte t cand j ≡ run_byte t other j
unfolding run_byte unless
run_byte_same t cand other same j = go (ltb j t) refl
  where
    go : (u : Bool) → ltb j t ≡ u → unless u 255 (get_or cand j 0) ≡ unless u 255 (get_or other j 0)
    go true q = same j (ltb-true j t q)
    go false q = refl

outcome_same : (old : List ℕ) (t : ℕ) (cand other : List ℕ) (start : ℕ) (e : ℕ → Bool) → Same cand other t
    → outcome_bytes old t cand start e ≡ outcome_bytes old t other start e
unfolding outcome_bytes outcome_byte
outcome_same old t cand other start e same =
    ap (tabulate (length old) 0) (fun_ext (λ i. rw (run_byte_same t cand other same (i - start * 2048))))

module _ (old : List ℕ) (list : ProcessorList) (cand other : List ℕ) (same : Same cand other (max 48 (total_size cand)))
    (lent : total_size cand ≤ length cand) (long : total_size cand ≤ length other) where
  revision_same : revision cand ≡ revision other
  revision_same = field_behind cand other same 4 (omega arith)

  -- a good candidate: all that checks 5 to 8 ask of it
  module _ (t d n k : ℕ) (good : verdict cand ≡ Good t d n k) where
    alike : Alike cand other
    alike =
        let e = (judged cand t d n k good).total in
        covers_local cand other t d n k good (same_less cand other (max 48 (total_size cand)) t same (omega arith)) (omega arith)

    shares_same : (u : List ℕ) → shares u cand ≡ shares u other
    shares_same u =
        bool_same _ _
        (λ h. (shares_law u other).1 (shares_move u other u cand (λ x p. refl) (λ x p. sym (alike x p)) ((shares_law u cand).0 h)))
        (λ h. (shares_law u cand).1 (shares_move u cand u other (λ x p. refl) alike ((shares_law u other).0 h)))

    listed_same : (i : ℕ) → covers_listed list cand i ≡ covers_listed list other i
    unfolding covers_listed
    listed_same i = alike (get_or list.signatures i 0) (get_or list.platforms i 0)

    one_same : covers_one list cand ≡ covers_one list other
    unfolding covers_one
    one_same = any_cong (covers_listed list cand) (covers_listed list other) (length list.signatures) (λ i l. listed_same i)

    needed_same : (u : List ℕ) → is_needed list cand u ≡ is_needed list other u
    unfolding is_needed needed_for
    needed_same u =
        any_cong (needed_for list cand u) (needed_for list other u) (length list.signatures) (λ i l. rw (listed_same i))

    outdated_same : outdated old cand ≡ outdated old other
    unfolding outdated outdates shares_entry
    outdated_same =
        any_cong (outdates old cand) (outdates old other) (directory old).count (λ i l. rw (shares_same (update_at old i), revision_same))

    marks_agree : Agree (stored_updates old list cand) (stored_updates old list other)
    unfolding stored_updates shares_entry needed_entry
    marks_agree = record {
      count = refl;
      start = λ i l. refl;
      size = λ i l. refl;
      shares = λ i l. shares_same (update_at old i);
      needed = λ i l. needed_same (update_at old i);
    }

    good_behind : (m : ℕ) → good_plan old list cand m ≡ good_plan old list other m
    unfolding good_plan
    good_behind m =
        let g = stored_updates old list cand in
        let h = stored_updates old list other in
        rw (
          one_same,
          outdated_same,
          both_marks_same g h marks_agree,
          choose_same g h marks_agree (block_count old) m,
          placed_same g h (choose (block_count old) m h) marks_agree,
        )

    emptied_same : (start b : ℕ) → emptied_at old cand start b ≡ emptied_at old other start b
    unfolding emptied_at
    emptied_same start b = rw (shares_same (from_block old b), total_behind cand other same)

    set_same : (start : ℕ) → emptied_at old cand start ≡ emptied_at old other start
    set_same start = fun_ext (emptied_same start)

    pub behind_outcome : (start : ℕ)
        → outcome_bytes old (total_size cand) cand start (emptied_at old cand start)
        ≡ outcome_bytes old (total_size other) other start (emptied_at old other start)
    behind_outcome start =
        rw (← total_behind cand other same, set_same start)
        (outcome_same old (total_size cand) cand other start (emptied_at old other start)
        (same_less cand other (max 48 (total_size cand)) (total_size cand) same (omega arith)))

  judged_behind : (v : Verdict) → verdict cand ≡ v → judged_plan old list cand v ≡ judged_plan old list other v
  unfolding judged_plan
  judged_behind (Ok m) e = good_behind m.total m.data m.entries m.blocks e m.blocks
  judged_behind (Err x) e = refl

  module _ (some : 48 ≤ length cand) (enough : 48 ≤ length other) where
    pub behind_plan : write_plan old list cand ≡ write_plan old list other
    unfolding write_plan
    behind_plan = rw (← verdict_behind cand other same lent long some enough, judged_behind (verdict cand) refl)

    module _ (back : ℕ) where
      -- a plan of the one is a plan of the other
      behind_planned : (p : Plan) → write_plan old list cand ≡ p
          → (answered old cand back p ≡ answered old other back p) × (bytes_after old cand back p ≡ bytes_after old other back p)
      unfolding answered bytes_after
      behind_planned (Ok r) e =
          let w = plan_run old list cand r.start r.emptied e in
          let k = blocks_of (total_size cand) in (
            rw (revision_same, set_same (total_size cand) w.data w.entries k w.good r.start),
            rw (revision_same, behind_outcome (total_size cand) w.data w.entries k w.good r.start),
          )
      behind_planned (Err r) e = (refl, refl)

      pub behind_ignored : (write_answer old list cand back ≡ write_answer old list other back)
          × (write_bytes old list cand back ≡ write_bytes old list other back)
      unfolding write_answer write_bytes
      behind_ignored = rw (← behind_plan) (behind_planned (write_plan old list cand) refl)
