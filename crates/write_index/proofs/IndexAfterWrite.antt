-- The index of the store that an accepted write leaves is the one carried from the old index (document 02, One): line by line, by what the
-- block is: one of the run, of an emptied update, of a kept one, of none, or behind N.
--   index_same           an index is settled by its 32 lines
--   run_line             a block of the run has the candidate's line
--   emptied_line         a block of an emptied update, outside the run, is unused
--   kept_line            every other block has its old line
--   outcome_index        the index after a legal outcome
--   index_after_write    the theorem: of every accepted write
use Rattle.std.specs.Prelude.{ℕ, ◌+◌, ◌<◌, ◌≤◌, ◌≡◌, Bool, true, List}
use Rattle.std.proofs.Math.Path.{refl}
use Rattle.std.proofs.Common.{sym, ap, ◌∙◌, ⊎_elim, arith, lt-ltb, le-ltb}
use Rattle.std.proofs.Math.Bool.{false, true≢false}
use Rattle.laws.specs.Bits.{bit}
use Rattle.laws.specs.Bools.{no_true}
use Rattle.laws.specs.Orders.{le_or_lt}
use Rattle.laws.specs.Span.{spans, Spans, spans_law}
use Rattle.laws.specs.Tabulate.{length_tabulate}
use Rattle.laws.specs.Unless.{unless}
use Rattle.update_header.specs.Fields.{revision, total_size}
use Rattle.update_sizes.specs.Sizes.{blocks_of}
use Rattle.update_verdict.specs.Verdict.{Good, verdict}
use Rattle.store_blocks.specs.Blocks.{block_count}
use Rattle.store_directory.specs.Scan.{first, store_ok}
use Rattle.store_directory.specs.Valid.{Owned}
use Rattle.store_directory.proofs.ValidLaws.{store_valid}
use Rattle.store_directory.specs.LayoutLaws.{owned_one}
use Rattle.store_index.specs.declared.Line.{Line}
use Rattle.store_index.specs.declared.Index.{Index}
use Rattle.store_index.specs.Index.{unused_line, update_line, stored_line, line_at, line_in, line_of, kind_of, start_of, revision_in, size_of, index_by, index_of}
use Rattle.store_index.specs.IndexAfter.{cleared_line, line_after, index_after}
use Rattle.store_index.proofs.LineLaws.{owned_or_free, owned_line, free_line, index_is, line_by}
use Rattle.processor_list.specs.Processors.{ProcessorList}
use Rattle.call_answers.specs.declared.answer.Written.{Written as WrittenNumbers}
use Rattle.call_answers.specs.declared.answer.Answer.TheVariants.{Written}
use Rattle.write_outcome.specs.EmptiedBlocks.{emptied_blocks}
use Rattle.write_outcome.specs.After.{kept, After}
use Rattle.write_outcome.proofs.AfterLaws.{outcome_after}
use Rattle.write_outcome.proofs.KeptLaws.{kept_parts, kept_made}
use Rattle.write_call.specs.Write.{emptied_at, write_answer, write_bytes}
use Rattle.write_call.proofs.AnsweredBlocks.{owned_inside, blocks_bit}
use Rattle.write_call.specs.Planned.{plan_run}
use Rattle.write_call.proofs.Chosen.{planned_best}
use Rattle.write_call.proofs.Answered.{answer_plan, answer_blocks, answer_bytes}
use Rattle.write_index.specs.OwnersAfter.{same_blocks, candidate_owned, candidate_revision, candidate_size, kept_owned, kept_revision, kept_size, owner_cases}

index_same : (f g : ℕ → Line) → ((c : ℕ) → c < 32 → f c ≡ g c) → index_by f ≡ index_by g
unfolding index_by
index_same f g h =
    index_is g (index_by f) (length_tabulate 32 0 (kind_of f)) (length_tabulate 32 0 (start_of f)) (length_tabulate 32 0 (revision_in f))
    (length_tabulate 32 0 (size_of f)) (λ c l. line_by f c l ∙ h c l)

valid_index : (s : List ℕ) → store_ok s ≡ true → index_of s ≡ index_by (line_in s)
unfolding index_of unless
valid_index s ok = rw ok

-- the lines of a store, below N and behind it
module _ (s : List ℕ) (c : ℕ) where
  inside_line : c < block_count s → line_in s c ≡ line_at s c
  unfolding line_in unless
  inside_line l = rw (lt-ltb c (block_count s) l)

  behind_line : block_count s ≤ c → line_in s c ≡ unused_line
  unfolding line_in unless
  behind_line l = rw (le-ltb c (block_count s) l)

-- a legal outcome, from old to new, with the set e of emptied updates
module _ (old cand new : List ℕ) (t d n k start : ℕ) (e : ℕ → Bool) (ok : store_ok old ≡ true)
    (good : verdict cand ≡ Good t d n k) (ends : start + blocks_of t ≤ block_count old) (left : After old new cand t d n k start e) where
  blocks : block_count new ≡ block_count old
  blocks = same_blocks old cand new t d n k start e good ends left

  module _ (c : ℕ) where
    run_line : Spans start (blocks_of t) c → line_in new c ≡ update_line start (revision cand) (blocks_of t) c
    unfolding stored_line
    run_line s =
        let l : c < block_count new = omega (arith, s.upto, ends, blocks) in
        inside_line new c l ∙ owned_line new left.ok c l start (candidate_owned old cand new t d n k start e good ends left c s)
        ∙ rw (candidate_revision old cand new t d n k start e good ends left, candidate_size old cand new t d n k start e good ends left)

    -- outside the run
    module _ (out : Spans start (blocks_of t) c → ⊥) where
      -- no kept update has the block
      freed_line : c < block_count old → ((b : ℕ) → kept old e b ≡ true → Owned old (first old) b c → ⊥) → line_in new c ≡ unused_line
      freed_line l none =
          let m : c < block_count new = omega (arith, blocks) in
          inside_line new c m
          ∙ free_line new left.ok c m
          (λ b o. ⊎_elim out (λ w. none b w.0 w.1) (owner_cases old cand new t d n k start e good ends left b c l o))

      emptied_line : (a : ℕ) → e a ≡ true → Owned old (first old) a c → line_in new c ≡ unused_line
      emptied_line a h o =
          let l = owned_inside old ok a c o in
          freed_line l (λ b q p.
          true≢false (sym h ∙ ap e (owned_one old (block_count old) (first old) (store_valid old ok).layout a b c l o p) ∙ (kept_parts old e b q).1))

      -- a block of a kept update
      same_line_lem : (b : ℕ) → c < block_count old → kept old e b ≡ true → Owned old (first old) b c → line_in new c ≡ line_in old c
      unfolding stored_line
      same_line_lem b l h o =
          let m : c < block_count new = omega (arith, blocks) in
          let i : b < block_count old = omega (arith, o.from) in
          inside_line new c m ∙ owned_line new left.ok c m b (kept_owned old cand new t d n k start e good ends left b i h c o)
          ∙ rw (kept_revision old cand new t d n k start e good ends left b i h, kept_size old cand new t d n k start e good ends left b i h)
          (sym (inside_line old c l ∙ owned_line old ok c l b o))

      kept_line : ((b : ℕ) → e b ≡ true → Owned old (first old) b c → ⊥) → line_in new c ≡ line_in old c
      kept_line none =
          ⊎_elim (λ (l : block_count old ≤ c). behind_line new c (omega (arith, blocks)) ∙ sym (behind_line old c l))
          (λ (l : c < block_count old).
          ⊎_elim
          (λ (w : (b : ℕ) × Owned old (first old) b c).
          same_line_lem w.0 l (kept_made old e w.0 w.1.at (no_true (e w.0) (λ h. none w.0 h w.1))) w.1)
          (λ (w : (b : ℕ) → Owned old (first old) b c → ⊥).
          freed_line l (λ b h o. w b o) ∙ sym (inside_line old c l ∙ free_line old ok c l w))
          (owned_or_free old ok c l))
          (le_or_lt (block_count old) c)

  line_after_lem : (c : ℕ) → c < 32 → line_in new c ≡ line_after (index_of old) (emptied_blocks old e) start (revision cand) (blocks_of t) c
  unfolding line_after cleared_line unless
  line_after_lem c l = go (spans start (blocks_of t) c) refl (bit (emptied_blocks old e) c) refl
    where
      out : spans start (blocks_of t) c ≡ false → Spans start (blocks_of t) c → ⊥
      out r s = true≢false (sym ((spans_law start (blocks_of t) c).1 s) ∙ r)

      go : (r : Bool) → spans start (blocks_of t) c ≡ r → (w : Bool) → bit (emptied_blocks old e) c ≡ w
          → line_in new c ≡ unless r (unless w (line_of (index_of old) c) unused_line) (update_line start (revision cand) (blocks_of t) c)
      go true r w v = run_line c ((spans_law start (blocks_of t) c).0 r)
      go false r true v = let a = (blocks_bit old ok e c).0 v in emptied_line c (out r) a.0 a.1 a.2
      go false r false v =
          kept_line c (out r) (λ b h o. true≢false (sym ((blocks_bit old ok e c).1 (b, h, o)) ∙ v))
          ∙ sym (ap (λ (x : Index). line_of x c) (valid_index old ok) ∙ line_by (line_in old) c l)

  pub outcome_index : index_of new ≡ index_after (index_of old) (emptied_blocks old e) start (revision cand) (blocks_of t)
  unfolding index_after
  outcome_index =
      valid_index new left.ok ∙ index_same (line_in new) (line_after (index_of old) (emptied_blocks old e) start (revision cand) (blocks_of t)) line_after_lem

-- the store is valid and the list good, since the write was accepted
pub index_after_write : (old : List ℕ) (list : ProcessorList) (cand : List ℕ) (back : ℕ) (a : WrittenNumbers) → write_answer old list cand back ≡ Written a
    → index_of (write_bytes old list cand back) ≡ index_after (index_of old) a.emptied_blocks a.start (revision cand) (blocks_of (total_size cand))
index_after_write old list cand back a w =
    let t = total_size cand in
    let e = emptied_at old cand a.start in
    let plan = plan_run old list cand a.start a.emptied (answer_plan old list cand back a w) in
    let legal = (planned_best old list cand a.start a.emptied plan).legal in
    rw (answer_bytes old list cand back a w, answer_blocks old list cand back a w)
    (outcome_index old cand _ t plan.data plan.entries (blocks_of t) a.start e plan.store plan.good legal.ends
    (outcome_after old list cand t plan.data plan.entries (blocks_of t) a.start e plan.store plan.good legal))
