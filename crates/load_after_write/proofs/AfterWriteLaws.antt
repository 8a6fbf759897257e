-- What a processor loads after a write, proved.
--   gets_candidate    after a legal outcome a processor that the candidate covers gets the candidate
--   gets_kept         and a listed one that it doesn't cover what it got before
--   load_candidate    the first, of an accepted write
--   load_kept         the second
--   loads_after       both, as the record
--   load_refused      a refused write leaves the store, and with it every choice, as it was
use Rattle.std.specs.Prelude.{ℕ, ◌*◌, ◌<◌, ◌≤◌, ◌≡◌, Bool, ◌||◌, List}
use Rattle.std.proofs.Math.Path.{refl, sym, ap}
use Rattle.std.proofs.Common.{◌∙◌, arith, eqb-true, eq-eqb}
use Rattle.std.proofs.Math.Bool.{true, false, true≢false, or-true}
use Rattle.std.proofs.Math.ListN.{length}
use Rattle.std.proofs.Math.Dec.{eqb}
use Rattle.laws.specs.Bools.{and_parts, and_made, no_true}
use Rattle.laws.specs.Below.{any_below, any_at, any_fails}
use Rattle.laws.specs.Same.{same_less}
use Rattle.update_header.specs.Fields.{revision, total_size}
use Rattle.update_header.specs.DataPart.{data_part}
use Rattle.update_sizes.specs.Sizes.{blocks_of}
use Rattle.update_verdict.specs.Verdict.{Good, verdict}
use Rattle.update_verdict.specs.VerdictLaws.{good_size, good_blocks}
use Rattle.update_coverage.specs.Covers.{covers}
use Rattle.update_coverage.proofs.CoverLaws.{covers_platform}
use Rattle.update_verdict.specs.VerdictLocal.{revision_local}
use Rattle.store_blocks.specs.Blocks.{from_block, block_count}
use Rattle.store_directory.specs.Scan.{slot_at, first, store_ok}
use Rattle.store_directory.specs.SlotLaws.{slotted, slot_inside}
use Rattle.processor_list.specs.Processors.{ProcessorList, Listed}
use Rattle.write_outcome.specs.Legal.{Legal}
use Rattle.write_outcome.specs.After.{kept, after, After}
use Rattle.write_outcome.proofs.AfterLaws.{outcome_after}
use Rattle.write_outcome.proofs.KeptLaws.{kept_parts, kept_made, kept_update}
use Rattle.call_answers.specs.declared.answer.Written.{Written as WrittenNumbers}
use Rattle.call_answers.specs.declared.answer.Refused.{Refused as RefusedNumbers}
use Rattle.call_answers.specs.declared.answer.Answer.TheVariants as answers
use Rattle.write_call.specs.Write.{emptied_at, write_answer, write_bytes}
use Rattle.write_call.specs.Planned.{Planned, plan_run}
use Rattle.processor_list.specs.ListLaws.{listed_platform}
use Rattle.write_call.proofs.Chosen.{planned_best}
use Rattle.write_call.proofs.Answered.{answer_plan, answer_bytes}
use Rattle.write_call.proofs.Refusals.{write_refused}
use Rattle.load_choice.specs.Load.{holds, load_choice, chosen_data}
use Rattle.load_choice.specs.LoadLaws.{choice_one, choice_none}
use Rattle.load_choice.specs.DataLaws.{part_local}
use Rattle.load_after_write.specs.AfterWrite.{SameLoad, LoadsAfter}
use Rattle.call_answers.specs.Choice.{Chosen}

-- a legal outcome, from old to new, with the set e of emptied updates
module _ (old : List ℕ) (list : ProcessorList) (cand new : List ℕ) (t d n k start : ℕ) (e : ℕ → Bool)
    (ok : store_ok old ≡ true) (good : verdict cand ≡ Good t d n k) (legal : Legal old list cand t start e)
    (left : After old new cand t d n k start e) where
  blocks : block_count new ≡ block_count old
  unfolding block_count
  blocks = rw left.long

  below : start < block_count new
  below = omega (arith, blocks, legal.ends, good_blocks cand t d n k good)

  begins : first new start ≡ true
  unfolding after
  begins = left.firsts start (omega (arith, below, blocks)) ∙ rw (eq-eqb start start refl) (or-true (kept old e start))

  pub gets_candidate : (x p : ℕ) → covers cand x p ≡ true
      → (load_choice true new x p ≡ Chosen start (revision cand)) × (chosen_data new (Chosen start (revision cand)) ≡ data_part cand)
  unfolding chosen_data
  gets_candidate x p h =
      let long = (good_size (from_block new start) t d n k left.judged).2 in
      let l : p ≤ 7 = omega (arith, covers_platform cand x p h) in (
        choice_one new left.ok x p l start below begins (sym (left.placed_covers x p) ∙ h)
            ∙ ap (Chosen start) (sym (revision_local cand (from_block new start) t d n k good left.bytes long)),
        sym (part_local cand (from_block new start) t d n k good left.bytes long),
      )

  -- an update that stays has its revision and its data
  stays_part : (b : ℕ) → b < block_count old → kept old e b ≡ true
      → (revision (from_block old b) ≡ revision (from_block new b)) × (data_part (from_block old b) ≡ data_part (from_block new b))
  unfolding slot_at blocks_of
  stays_part b l h =
      let j = kept_update old e b h in
      let w = left.stays b j.0 l h j.1 in
      let s = slotted (from_block old b) j.0 j.1 in
      let m : s.total ≤ j.0 * 2048 = omega (arith, s.blocks) in
      let same = same_less (from_block old b) (from_block new b) (j.0 * 2048) s.total w.1 m in
      let long : s.total ≤ length (from_block new b) = omega (arith, (slot_inside (from_block new b) j.0 w.0).2) in (
        revision_local (from_block old b) (from_block new b) s.total s.data s.entries j.0 s.good same long,
        part_local (from_block old b) (from_block new b) s.total s.data s.entries j.0 s.good same long,
      )

  -- a listed processor that the candidate doesn't cover
  module _ (x p : ℕ) (l : p ≤ 7) (w : Listed list x p) (h : covers cand x p ≡ false) where
    -- some update of the old store covers it: that one is kept
    kept_one : (b : ℕ) → b < block_count old → first old b ≡ true → covers (from_block old b) x p ≡ true → SameLoad old new x p
    unfolding after chosen_data
    kept_one b m f c =
        let spared = no_true (e b) (legal.spares b m f (record { signature = x; platform = p; listed = w; covered = c; uncovered = h })) in
        let q = kept_made old e b f spared in
        let g : first new b ≡ true = left.firsts b m ∙ rw q in
        let before = choice_one old ok x p l b m f c in
        let now = choice_one new left.ok x p l b (omega (arith, blocks)) g (sym (left.stays_covers b m q x p) ∙ c) in
        let y = stays_part b m q in
        (now ∙ ap (Chosen b) (sym y.0) ∙ sym before, rw (now, before) (sym y.1))

    -- none does: then none of the new store does
    kept_none : ((b : ℕ) → b < block_count old → first old b ≡ true → covers (from_block old b) x p ≡ false) → SameLoad old new x p
    unfolding kept after chosen_data
    kept_none none = let before = choice_none old ok x p l none in let now = choice_none new left.ok x p l fails in (now ∙ sym before, rw (now, before))
      where
        go : (b : ℕ) → b < block_count old → (a : Bool) → kept old e b ≡ a → a || eqb b start ≡ true → covers (from_block new b) x p ≡ false
        go b m true q f = sym (left.stays_covers b m q x p) ∙ none b m (kept_parts old e b q).0
        go b m false q f = rw (eqb-true b start f) (sym (left.placed_covers x p) ∙ h)

        fails : (b : ℕ) → b < block_count new → first new b ≡ true → covers (from_block new b) x p ≡ false
        fails b m f = let l : b < block_count old = omega (arith, blocks) in go b l (kept old e b) refl (sym (left.firsts b l) ∙ f)

    pub gets_kept : SameLoad old new x p
    unfolding holds
    gets_kept = go (any_below (block_count old) (holds old x p)) refl
      where
        go : (t : Bool) → any_below (block_count old) (holds old x p) ≡ t → SameLoad old new x p
        go true q =
            let b = any_at (holds old x p) (block_count old) q in
            let y = and_parts (first old b.0) (covers (from_block old b.0) x p) b.2 in
            kept_one b.0 b.1 y.0 y.1
        go false q =
            kept_none (λ b m f. no_true (covers (from_block old b) x p) (λ c.
            true≢false (sym (and_made f c) ∙ any_fails (holds old x p) (block_count old) b q m)))

module _ (old : List ℕ) (list : ProcessorList) (cand : List ℕ) (back : ℕ) where
  abbrev new : List ℕ
  new = write_bytes old list cand back

  -- an accepted write
  module _ (a : WrittenNumbers) (w : write_answer old list cand back ≡ answers.Written a) where
    plan : Planned old list cand a.start a.emptied
    plan = plan_run old list cand a.start a.emptied (answer_plan old list cand back a w)

    legal : Legal old list cand (total_size cand) a.start (emptied_at old cand a.start)
    legal = (planned_best old list cand a.start a.emptied plan).legal

    left : After old new cand (total_size cand) plan.data plan.entries (blocks_of (total_size cand)) a.start (emptied_at old cand a.start)
    left =
        rw (answer_bytes old list cand back a w)
        (outcome_after old list cand (total_size cand) plan.data plan.entries (blocks_of (total_size cand)) a.start (emptied_at old cand a.start)
        plan.store plan.good legal)

    pub load_candidate : (x p : ℕ) → covers cand x p ≡ true
        → (load_choice true new x p ≡ Chosen a.start (revision cand)) × (chosen_data new (Chosen a.start (revision cand)) ≡ data_part cand)
    load_candidate =
        gets_candidate old list cand new (total_size cand) plan.data plan.entries (blocks_of (total_size cand)) a.start (emptied_at old cand a.start)
        plan.store plan.good legal left

    pub load_kept : (x p : ℕ) → Listed list x p → covers cand x p ≡ false → SameLoad old new x p
    load_kept x p y =
        gets_kept old list cand new (total_size cand) plan.data plan.entries (blocks_of (total_size cand)) a.start (emptied_at old cand a.start)
        plan.store plan.good legal left x p (listed_platform list x p plan.good_list y) y

    pub loads_after : LoadsAfter old list cand a.start new
    loads_after = record {
      covered = λ x p h. let y = load_candidate x p h in (y.0, ap (chosen_data new) y.0 ∙ y.1);
      others = load_kept;
    }

  pub load_refused : (r : RefusedNumbers) → write_answer old list cand back ≡ answers.Refused r → new ≡ old
  load_refused r w = write_refused old list cand back r w
