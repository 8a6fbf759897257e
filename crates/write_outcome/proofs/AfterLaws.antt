-- The bytes of a legal outcome are a valid store: the updates that it keeps at their places, and the candidate at the start.
--   new_layout, new_apart        the new store's layout, and that no two of its updates share
--   new_valid                    the new store is valid
--   outcome_after                the theorem
use Rattle.std.specs.Prelude.{ℕ, ◌+◌, ◌*◌, ◌<◌, ◌≤◌, ◌≡◌, Bool, ◌||◌, List, ◌⊎◌, length, get_or}
use Rattle.std.proofs.Math.Path.{refl}
use Rattle.std.proofs.Common.{sym, ap, ◌∙◌, true≢false, ⊎_elim, arith, length-drop, get_or-drop}
use Rattle.std.proofs.Math.Bool.{true, false, or-true}
use Rattle.std.proofs.Math.Logic.{inl, inr}
use Rattle.std.proofs.Math.Dec.{eqb}
use borrow.Author.Tests.{eqb-true, eq-eqb}
use Rattle.processor_list.specs.Processors.{ProcessorList}
use Rattle.laws.specs.Bools.{no_true}
use Rattle.laws.specs.Below.{all_true}
use Rattle.laws.specs.Same.{Same}
use Rattle.update_sizes.specs.Sizes.{blocks_of}
use Rattle.update_verdict.specs.Verdict.{Good, verdict}
use Rattle.update_sharing.specs.Shares.{Shares}
use Rattle.update_sharing.specs.SharingLocal.{Alike, shares_move, shares_turn}
use Rattle.store_blocks.specs.Blocks.{is_ff, filled, from_block, block_count}
use Rattle.store_blocks.specs.FilledLaws.{filled_local}
use Rattle.store_directory.specs.Scan.{single, slot_at, size_at, first, store_ok}
use Rattle.store_directory.specs.Valid.{Owned, Layout, Valid}
use Rattle.store_directory.specs.SlotLaws.{filled_unused, single_is, unused_filled}
use Rattle.store_directory.specs.LayoutLaws.{layout_first}
use Rattle.store_directory.proofs.ValidLaws.{store_valid, valid_store}
use Rattle.store_blocks.specs.declared.slot.Slot.TheVariants.{Unused, Update}
use Rattle.write_outcome.specs.Legal.{Legal}
use Rattle.write_outcome.specs.OutcomeBytes.{emptied_at, in_run, outcome_bytes}
use Rattle.write_outcome.specs.After.{kept, after, After}
use Rattle.write_outcome.proofs.ByteLaws.{at_emptied, run_at, outcome_length, outcome_emptied, outcome_kept}
use Rattle.write_outcome.proofs.PlacedLaws.{cand_same, cand_verdict, cand_covers, cand_slot, cand_size}
use Rattle.update_verdict.specs.VerdictLaws.{good_blocks}
use Rattle.write_outcome.proofs.KeptLaws.{kept_parts, kept_made, kept_update, new_long, kept_before, kept_behind, kept_same, kept_slot, kept_covers, kept_size}

module _ (old : List ℕ) (start : ℕ) (e : ℕ → Bool) where
  after_cases : (b : ℕ) → after old start e b ≡ true → (kept old e b ≡ true) ⊎ (b ≡ start)
  unfolding after
  after_cases b h = go (kept old e b) refl h
    where
      go : (x : Bool) → kept old e b ≡ x → x || eqb b start ≡ true → (kept old e b ≡ true) ⊎ (b ≡ start)
      go true p q = inl p
      go false p q = inr (eqb-true b start q)

  kept_after : (b : ℕ) → kept old e b ≡ true → after old start e b ≡ true
  unfolding after
  kept_after b h = rw h

  start_after : after old start e start ≡ true
  unfolding after
  start_after = rw (eq-eqb start start refl) (or-true (kept old e start))

module _ (old : List ℕ) (list : ProcessorList) (cand : List ℕ) (t d n k start : ℕ) (e : ℕ → Bool)
    (valid : Valid old (block_count old) (first old)) (good : verdict cand ≡ Good t d n k) (legal : Legal old list cand t start e) where
  abbrev new : List ℕ
  new = outcome_bytes old t cand start e

  long : length new ≡ block_count old * 2048
  long = new_long old list cand t start e valid legal

  ends : (start + blocks_of t) * 2048 ≤ length old
  ends = omega (arith, valid.long, legal.ends)

  size : size_at new start ≡ blocks_of t
  size = cand_size old cand t d n k start e good ends

  -- an update that stays
  stays : (b j : ℕ) → b < block_count old → kept old e b ≡ true → slot_at old b ≡ Update j → (slot_at new b ≡ Update j) × Same (from_block old b) (from_block new b) (j * 2048)
  stays b j l h s = (
    kept_slot old list cand t start e valid legal b h l j s,
    kept_same old list cand t start e valid legal b h l j s,
  )

  stays_covers : (b : ℕ) → b < block_count old → kept old e b ≡ true → Alike (from_block old b) (from_block new b)
  stays_covers b l h = kept_covers old list cand t start e valid legal b h l

  stays_size : (b : ℕ) → b < block_count old → kept old e b ≡ true → size_at new b ≡ size_at old b
  stays_size b l h = kept_size old list cand t start e valid legal b h l

  -- a block outside the run that belongs to no update afterwards
  same_block : (c : ℕ) → c < block_count old → in_run start (blocks_of t) c ≡ false → emptied_at old e c ≡ false → Same (from_block old c) (from_block new c) 2048
  same_block c l r w i j =
      get_or-drop (c * 2048) old i 0
      ∙ sym (outcome_kept old t cand start e c (c * 2048 + i) (omega (arith, valid.long)) (omega arith) r w)
      ∙ sym (get_or-drop (c * 2048) new i 0)

  block_long : (c : ℕ) → c < block_count old → 2048 ≤ length (from_block new c)
  block_long c l = omega (arith, length-drop (c * 2048) new, long)

  emptied_block_lem : (c : ℕ) → c < block_count old → in_run start (blocks_of t) c ≡ false → emptied_at old e c ≡ true → slot_at new c ≡ Unused
  unfolding slot_at filled is_ff
  emptied_block_lem c l r w =
      filled_unused (from_block new c) (block_long c l)
      (all_true (is_ff (from_block new c) 0) 2048
      (λ j q. eq-eqb (get_or (from_block new c) (0 + j) 0) 255
      (get_or-drop (c * 2048) new (0 + j) 0 ∙ outcome_emptied old t cand start e c (c * 2048 + (0 + j)) (omega (arith, valid.long)) (omega arith) r w)))

  unused_block : (c : ℕ) → c < block_count old → in_run start (blocks_of t) c ≡ false → emptied_at old e c ≡ false → slot_at old c ≡ Unused → slot_at new c ≡ Unused
  unfolding slot_at
  unused_block c l r w h =
      filled_unused (from_block new c) (block_long c l)
      (sym (filled_local (from_block old c) (from_block new c) 2048 0 2048 (same_block c l r w) (omega arith)) ∙ (unused_filled (from_block old c) h).1)

  new_order : (b c : ℕ) → b < c → c < block_count old → after old start e b ≡ true → after old start e c ≡ true → b + size_at new b ≤ c
  new_order b c l q h g = go (after_cases old start e b h) (after_cases old start e c g)
    where
      go : (kept old e b ≡ true) ⊎ (b ≡ start) → (kept old e c ≡ true) ⊎ (c ≡ start) → b + size_at new b ≤ c
      go (inl x) (inl y) = rw (stays_size b (omega arith) x) (valid.layout.order b c l q (kept_parts old e b x).0 (kept_parts old e c y).0)
      go (inl x) (inr y) = rw (stays_size b (omega arith) x) (rw y (kept_before old list cand t start e valid legal b x (good_blocks cand t d n k good) (omega arith)))
      go (inr x) (inl y) = rw x (rw size (kept_behind old list cand t start e valid legal c y q (omega arith)))
      go (inr x) (inr y) = absurd (let v : ⊥ = omega arith in v)

  new_full : (c : ℕ) → c < block_count old → (single (slot_at new c) ≡ true) ⊎ ((b : ℕ) × Owned new (after old start e) b c)
  new_full c l = go (in_run start (blocks_of t) c) refl (emptied_at old e c) refl (valid.layout.full c l)
    where
      go : (r : Bool) → in_run start (blocks_of t) c ≡ r → (w : Bool) → emptied_at old e c ≡ w → (single (slot_at old c) ≡ true) ⊎ ((b : ℕ) × Owned old (first old) b c)
          → (single (slot_at new c) ≡ true) ⊎ ((b : ℕ) × Owned new (after old start e) b c)
      go true r w v y = let x = run_at start (blocks_of t) c r in inr (start, record { at = start_after old start e; from = x.0; upto = rw size x.1 })
      go false r true v y = inl (ap single (emptied_block_lem c l r v))
      go false r false v (inl y) = inl (ap single (unused_block c l r v (single_is (slot_at old c) y)))
      go false r false v (inr y) =
          let b = y.0 in
          let o = y.1 in
          let h = kept_made old e b o.at (no_true (e b) (λ g. true≢false (sym (at_emptied old e c b g o) ∙ v))) in
          inr (b, record { at = kept_after old start e b h; from = o.from; upto = rw (stays_size b (omega (arith, o.from)) h) o.upto })

  new_layout : Layout new (block_count old) (after old start e)
  new_layout = record {
    stored = λ b l h. ⊎_elim (λ p. let j = kept_update old e b p in (j.0, (stays b j.0 l p j.1).0)) (λ p. (blocks_of t, ap (slot_at new) p ∙ cand_slot old cand t d n k start e good ends)) (after_cases old start e b h);
    order = new_order;
    full = new_full;
  }

  covers : Alike cand (from_block new start)
  covers = cand_covers old cand t d n k start e good ends

  -- an update that stays shares no processor with the candidate
  clear : (b : ℕ) → b < block_count old → kept old e b ≡ true → Shares (from_block old b) cand → ⊥
  clear b l h w = let x = kept_parts old e b h in true≢false (sym (legal.frees b l x.0 w) ∙ x.1)

  new_apart : (b c : ℕ) → c < b → b < block_count old → after old start e b ≡ true → after old start e c ≡ true → Shares (from_block new b) (from_block new c) → ⊥
  new_apart b c l q h g w = go (after_cases old start e b h) (after_cases old start e c g)
    where
      go : (kept old e b ≡ true) ⊎ (b ≡ start) → (kept old e c ≡ true) ⊎ (c ≡ start) → ⊥
      go (inl x) (inl y) =
          valid.apart b c l q (kept_parts old e b x).0 (kept_parts old e c y).0
          (shares_move (from_block old b) (from_block old c) (from_block new b) (from_block new c) (stays_covers b q x) (stays_covers c (omega arith) y) w)
      go (inl x) (inr y) =
          clear b q x (shares_move (from_block old b) cand (from_block new b) (from_block new start) (stays_covers b q x) covers (rw y at w))
      go (inr x) (inl y) =
          clear c (omega arith) y (shares_move (from_block old c) cand (from_block new c) (from_block new start) (stays_covers c (omega arith) y) covers (shares_turn (from_block new start) (from_block new c) (rw x at w)))
      go (inr x) (inr y) = omega arith

  new_valid : Valid new (block_count old) (after old start e)
  new_valid = record { long = long; some = valid.some; few = valid.few; layout = new_layout; apart = new_apart }

  legal_after : After old new cand t d n k start e
  legal_after = record {
    ok = valid_store new (block_count old) (after old start e) new_valid;
    long = outcome_length old t cand start e;
    firsts = layout_first new (block_count old) (after old start e) new_layout;
    stays = stays;
    stays_covers = stays_covers;
    placed = cand_slot old cand t d n k start e good ends;
    bytes = cand_same old cand t d n k start e good ends;
    judged = cand_verdict old cand t d n k start e good ends;
    placed_covers = covers;
  }

pub outcome_after : (old : List ℕ) (list : ProcessorList) (cand : List ℕ) (t d n k start : ℕ) (e : ℕ → Bool) → store_ok old ≡ true → verdict cand ≡ Good t d n k
    → Legal old list cand t start e → After old (outcome_bytes old t cand start e) cand t d n k start e
outcome_after old list cand t d n k start e ok good legal = legal_after old list cand t d n k start e (store_valid old ok) good legal
