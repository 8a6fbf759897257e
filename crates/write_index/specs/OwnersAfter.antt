-- Which update a block of the new store belongs to, after a legal outcome: in the run to the candidate, outside it to a kept update that had it
-- before, or to none. By the record of what a write leaves, not by its bytes.
--   same_blocks                           both stores have as many blocks
--   candidate_size, candidate_revision    the update at the start has the candidate's size and revision
--   candidate_owned                       and the blocks of the run
--   kept_size, kept_revision              a kept update has its old size and revision
--   kept_owned                            and its old blocks
--   owner_cases                           no other update has a block
use Rattle.std.specs.Prelude.{ℕ, ◌+◌, ◌*◌, ◌<◌, ◌≤◌, ◌≡◌, Bool, true, false, ◌||◌, List, ◌⊎◌, eqb}
use Rattle.std.proofs.Math.Path.{refl, sym}
use Rattle.std.proofs.Common.{ap, ◌∙◌, inl, inr, arith, eqb-true, eq-eqb}
use Rattle.std.proofs.Math.Bool.{or-true}
use Rattle.std.proofs.Math.ListN.{length}
use Rattle.laws.specs.Same.{same_less}
use Rattle.laws.specs.Span.{Spans}
use Rattle.update_header.specs.Fields.{revision}
use Rattle.update_sizes.specs.Sizes.{blocks_of}
use Rattle.update_verdict.specs.Verdict.{Good, verdict}
use Rattle.update_verdict.specs.VerdictLaws.{good_size, good_blocks}
use Rattle.update_verdict.specs.VerdictLocal.{revision_local}
use Rattle.store_blocks.specs.Blocks.{from_block, block_count}
use Rattle.store_directory.specs.Scan.{slot_size, slot_at, size_at, first}
use Rattle.store_directory.specs.SlotLaws.{slotted, slot_inside}
use Rattle.store_directory.specs.Valid.{Owned}
use Rattle.write_outcome.specs.After.{kept, after, After}
use Rattle.write_outcome.proofs.KeptLaws.{kept_parts, kept_update}

-- e is the set of emptied updates; the candidate, of t bytes, stands at the start
module _ (old cand new : List ℕ) (t d n k start : ℕ) (e : ℕ → Bool)
    (good : verdict cand ≡ Good t d n k) (ends : start + blocks_of t ≤ block_count old) (left : After old new cand t d n k start e) where
  pub same_blocks : block_count new ≡ block_count old
  unfolding block_count
  same_blocks = rw left.long

  pub candidate_size : size_at new start ≡ blocks_of t
  candidate_size = ap slot_size left.placed

  pub candidate_owned : (c : ℕ) → Spans start (blocks_of t) c → Owned new (first new) start c
  unfolding after
  candidate_owned c s = record {
    at = left.firsts start (omega (arith, ends, good_blocks cand t d n k good)) ∙ rw (eq-eqb start start refl) (or-true (kept old e start));
    from = s.from;
    upto = rw candidate_size s.upto;
  }

  pub candidate_revision : revision (from_block new start) ≡ revision cand
  candidate_revision =
      sym (revision_local cand (from_block new start) t d n k good left.bytes (good_size (from_block new start) t d n k left.judged).2)

  -- a kept update
  module _ (b : ℕ) (l : b < block_count old) (h : kept old e b ≡ true) where
    pub kept_size : size_at new b ≡ size_at old b
    kept_size = let j = kept_update old e b h in ap slot_size ((left.stays b j.0 l h j.1).0 ∙ sym j.1)

    pub kept_revision : revision (from_block new b) ≡ revision (from_block old b)
    unfolding slot_at blocks_of
    kept_revision =
        let j = kept_update old e b h in
        let w = left.stays b j.0 l h j.1 in
        let s = slotted (from_block old b) j.0 j.1 in
        let m : s.total ≤ j.0 * 2048 = omega (arith, s.blocks) in
        let long : s.total ≤ length (from_block new b) = omega (arith, (slot_inside (from_block new b) j.0 w.0).2) in
        sym (revision_local (from_block old b) (from_block new b) s.total s.data s.entries j.0 s.good
        (same_less (from_block old b) (from_block new b) (j.0 * 2048) s.total w.1 m) long)

    pub kept_owned : (c : ℕ) → Owned old (first old) b c → Owned new (first new) b c
    unfolding after
    kept_owned c o = record { at = left.firsts b l ∙ rw h; from = o.from; upto = rw kept_size o.upto }

  pub owner_cases : (b c : ℕ) → c < block_count old → Owned new (first new) b c
      → Spans start (blocks_of t) c ⊎ ((kept old e b ≡ true) × Owned old (first old) b c)
  unfolding after
  owner_cases b c m o = go (kept old e b) refl (sym (left.firsts b l) ∙ o.at)
    where
      l : b < block_count old
      l = omega (arith, o.from)

      go : (x : Bool) → kept old e b ≡ x → x || eqb b start ≡ true → Spans start (blocks_of t) c ⊎ ((kept old e b ≡ true) × Owned old (first old) b c)
      go true h q = inr (h, record { at = (kept_parts old e b h).0; from = o.from; upto = rw (← kept_size b l h) o.upto })
      go false h q =
          let p : Owned new (first new) start c = rw (eqb-true b start q) at o in
          inl (record { from = p.from; upto = rw (← candidate_size) p.upto })
