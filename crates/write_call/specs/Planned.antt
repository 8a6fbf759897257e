-- What it says that checks 1 to 8 let a write pass (document 01, "The calls", 1).
--   stored_laid        the stored updates lie as the choice of a run wants them
--   passed             a check that doesn't refuse
--   Planned            the facts that a start and an emptied count come with
--   plan_run           they hold where the plan is a run
use Rattle.std.specs.Prelude.{ℕ, ◌+◌, ◌≤◌, ◌≡◌, refl, Bool, true, false, not, List, Ok, Err, length}
use Rattle.std.proofs.Common.{sym, ◌∙◌}
use Rattle.std.proofs.Math.Path.{ap}
use borrow.Author.Tests.{not-true}
use Rattle.laws.specs.Orders.{impossible}
use Rattle.laws.specs.Below.{any_below}
use Rattle.laws.specs.Count.{count_below}
use Rattle.laws.specs.Least.{Pick, nowhere, at}
use Rattle.laws.specs.Unless.{unless}
use Rattle.update_header.specs.Fields.{total_size}
use Rattle.update_sizes.specs.Sizes.{blocks_of}
use Rattle.update_verdict.specs.Verdict.{Verdict, Good, verdict}
use Rattle.update_verdict.specs.VerdictLaws.{judged, good_size, good_blocks}
use Rattle.store_blocks.specs.Blocks.{block_count}
use Rattle.store_directory.specs.Scan.{store_ok, directory}
use Rattle.store_directory.specs.DirectoryLaws.{Listing}
use Rattle.store_directory.proofs.DirectoryLaws.{listing}
use Rattle.write_marks.specs.StoredUpdates.{StoredUpdates, Laid}
use Rattle.write_marks.specs.Against.{both_marks}
use Rattle.write_placement.specs.Choose.{choose}
use Rattle.write_placement.specs.Best.{choose_some}
use Rattle.processor_list.specs.Processors.{ProcessorList, list_ok, covers_one}
use Rattle.call_answers.specs.declared.refusal.Refusal.{Refusal}
use Rattle.call_answers.specs.declared.refusal.Refusal.TheVariants.{BadStore, BadProcessors, ProcessorNotPresent, InvalidRevision, SharingNeeded}
use Rattle.write_plan.specs.CandidateMarks.{stored_updates, outdated}
use Rattle.write_plan.specs.Plan.{Plan, run, placed}
use Rattle.write_plan.specs.declared.Run.{Run}
use Rattle.write_call.specs.Write.{good_plan, judged_plan, write_plan}

pub stored_laid : (old : List ℕ) (list : ProcessorList) (cand : List ℕ) → store_ok old ≡ true → Laid (block_count old) (stored_updates old list cand)
unfolding stored_updates
stored_laid old list cand ok =
    let d : Listing old (directory old) = listing old ok (directory old) refl in
    record { some = d.some; inside = d.ends; apart = λ i j l m. d.order j i l m }

-- a check t that refuses with r
pub passed : (t : Bool) (r : Refusal) (rest : Plan) (start emptied : ℕ) → unless t (Err r) rest ≡ run start emptied → (t ≡ true) × (rest ≡ run start emptied)
unfolding unless
passed true r rest start emptied e = (refl, e)
passed false r rest start emptied e = absurd (impossible (cc))

pub record Planned (old : List ℕ) (list : ProcessorList) (cand : List ℕ) (start emptied : ℕ) : Type 0 where
  pub store : store_ok old ≡ true
  pub good_list : list_ok list ≡ true
  -- data size and entries of the candidate
  pub «data» : ℕ
  pub entries : ℕ
  pub good : verdict cand ≡ Good (total_size cand) «data» entries (blocks_of (total_size cand))
  pub present : covers_one list cand ≡ true
  pub newer : outdated old cand ≡ false
  -- how many are touched and don't share
  pub touched : ℕ
  pub chosen : choose (block_count old) (blocks_of (total_size cand)) (stored_updates old list cand) ≡ at start touched
  pub count : emptied ≡ count_below (stored_updates old list cand).count (stored_updates old list cand).shares + touched
  -- the run lies in the store, and the candidate's bytes are lent and few
  pub ends : start + blocks_of (total_size cand) ≤ block_count old
  pub whole : total_size cand ≤ length cand
  pub small : total_size cand ≤ 32768

placed_run : (h : StoredUpdates) (p : Pick) (start emptied : ℕ) → placed h p ≡ run start emptied
    → (c : ℕ) × (p ≡ at start c) × (emptied ≡ count_below h.count h.shares + c)
unfolding placed
placed_run h nowhere start emptied e = absurd (impossible (cc))
placed_run h (at s c) start emptied e =
    let r : record { start = s; emptied = count_below h.count h.shares + c } ≡ record { start = start; emptied = emptied } = cc in
    let f : s ≡ start = ap (λ (x : Run). x.start) r in
    (c, rw f, sym (ap (λ (x : Run). x.emptied) r))

module _ (old : List ℕ) (list : ProcessorList) (cand : List ℕ) (start emptied : ℕ) (store : store_ok old ≡ true) (good_list : list_ok list ≡ true) where
  abbrev h : StoredUpdates
  h = stored_updates old list cand

  good_run : (d n : ℕ) → verdict cand ≡ Good (total_size cand) d n (blocks_of (total_size cand))
      → good_plan old list cand (blocks_of (total_size cand)) ≡ run start emptied → Planned old list cand start emptied
  unfolding good_plan
  good_run d n v e =
      let t = total_size cand in
      let k = blocks_of t in
      let choice = placed h (choose (block_count old) k h) in
      let whole = unless (not (any_below h.count (both_marks h))) (Err SharingNeeded) choice in
      let x = passed (covers_one list cand) ProcessorNotPresent (unless (not (outdated old cand)) (Err InvalidRevision) whole) start emptied e in
      let y = passed (not (outdated old cand)) InvalidRevision whole start emptied x.1 in
      let z = passed (not (any_below h.count (both_marks h))) SharingNeeded choice start emptied y.1 in
      let w = placed_run h (choose (block_count old) k h) start emptied z.1 in
      let best = choose_some (block_count old) k h (good_blocks cand t d n k v) (stored_laid old list cand store) start w.0 w.1 in
      record {
        store = store;
        good_list = good_list;
        «data» = d;
        entries = n;
        good = v;
        present = x.0;
        newer = not-true _ y.0;
        touched = w.0;
        chosen = w.1;
        count = w.2;
        ends = best.0.legal.ends;
        whole = (good_size cand t d n k v).2;
        small = (good_size cand t d n k v).1;
      }

  judged_run : (v : Verdict) → verdict cand ≡ v → judged_plan old list cand v ≡ run start emptied → Planned old list cand start emptied
  unfolding judged_plan
  judged_run (Ok m) v e =
      let j = judged cand m.total m.data m.entries m.blocks v in
      let q : m.blocks ≡ blocks_of (total_size cand) = j.blocks ∙ ap blocks_of j.total in
      good_run m.data m.entries (v ∙ ap (λ (t : ℕ). Good t m.data m.entries m.blocks) j.total ∙ ap (λ (k : ℕ). Good (total_size cand) m.data m.entries k) q) (rw q at e)
  judged_run (Err x) v e = absurd (impossible (cc))

pub plan_run : (old : List ℕ) (list : ProcessorList) (cand : List ℕ) (start emptied : ℕ) → write_plan old list cand ≡ run start emptied → Planned old list cand start emptied
unfolding write_plan
plan_run old list cand start emptied e =
    let x = passed (store_ok old) BadStore (unless (list_ok list) (Err BadProcessors) (judged_plan old list cand (verdict cand))) start emptied e in
    let y = passed (list_ok list) BadProcessors (judged_plan old list cand (verdict cand)) start emptied x.1 in
    judged_run old list cand start emptied x.0 y.0 (verdict cand) refl y.1
