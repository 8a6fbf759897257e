-- The updates that a legal outcome keeps: each stands at its place with its old bytes, apart from the run.
--   kept_parts, kept_made        an update that isn't emptied
--   kept_update                  it has an update's slot
--   new_long                     the new store's length
--   kept_emptied, kept_run       its blocks lie in no emptied update, and outside the run
--   kept_before, kept_behind     it ends before the run begins, or begins behind it
--   kept_same                    its bytes stay
--   kept_slot, kept_size         and with them its slot and its size
--   kept_covers                  and its processors
use Rattle.std.specs.Prelude.{ℕ, ◌+◌, ◌*◌, ◌/◌, ◌<◌, ◌≤◌, ◌≡◌, Bool, true, false, not, List, length}
use Rattle.std.proofs.Common.{sym, ap, ◌∙◌, true≢false, ⊎_elim, arith, length-drop, get_or-drop}
use borrow.Author.Tests.{not-true}
use Rattle.processor_list.specs.Processors.{ProcessorList}
use Rattle.laws.specs.Bools.{and_parts, no_true}
use Rattle.laws.specs.Orders.{le_or_lt}
use Rattle.laws.specs.Same.{Same}
use Rattle.update_sizes.specs.Sizes.{blocks_of}
use Rattle.update_sharing.specs.SharingLocal.{Alike}
use Rattle.store_blocks.specs.Blocks.{from_block, block_count}
use Rattle.store_directory.specs.Scan.{slot_size, slot_at, size_at, first}
use Rattle.store_directory.specs.Valid.{Owned, Valid}
use Rattle.store_directory.specs.SlotLaws.{update_local, update_alike, ends_inside}
use Rattle.store_directory.specs.LayoutLaws.{size_some, owned_one, first_parts}
use Rattle.store_blocks.specs.declared.slot.Slot.TheVariants.{Update}
use Rattle.write_outcome.specs.Legal.{Legal}
use Rattle.write_outcome.specs.OutcomeBytes.{emptied_at, in_run, outcome_bytes}
use Rattle.write_outcome.specs.After.{kept}
use Rattle.write_outcome.proofs.ByteLaws.{emptied_at_lem, run_at, at_run, outcome_length, outcome_kept, at_emptied}
use Rattle.store_directory.specs.KindLaws.{free_unowned}

module _ (old : List ℕ) (e : ℕ → Bool) (b : ℕ) where
  pub kept_parts : kept old e b ≡ true → (first old b ≡ true) × (e b ≡ false)
  unfolding kept
  kept_parts h = let x = and_parts (first old b) (not (e b)) h in (x.0, not-true (e b) x.1)

  pub kept_made : first old b ≡ true → e b ≡ false → kept old e b ≡ true
  unfolding kept
  kept_made h g = rw (h, g)

  pub kept_update : kept old e b ≡ true → (k : ℕ) × (slot_at old b ≡ Update k)
  kept_update h = (first_parts old b (kept_parts h).0).1

module _ (old : List ℕ) (list : ProcessorList) (cand : List ℕ) (t start : ℕ) (e : ℕ → Bool)
    (valid : Valid old (block_count old) (first old)) (legal : Legal old list cand t start e) where
  abbrev new : List ℕ
  new = outcome_bytes old t cand start e

  pub new_long : length new ≡ block_count old * 2048
  new_long = outcome_length old t cand start e ∙ valid.long

  module _ (b : ℕ) (h : kept old e b ≡ true) where
    pub kept_emptied : (c : ℕ) → c < block_count old → Owned old (first old) b c → emptied_at old e c ≡ false
    kept_emptied c l o =
        no_true (emptied_at old e c) (λ w.
        let x = emptied_at_lem old e c w in
        let q = owned_one old (block_count old) (first old) valid.layout x.0 b c l x.2 o in
        true≢false (sym x.1 ∙ ap e q ∙ (kept_parts old e b h).1))

    pub kept_run : (c : ℕ) → c < block_count old → Owned old (first old) b c → in_run start (blocks_of t) c ≡ false
    kept_run c l o =
        no_true (in_run start (blocks_of t) c) (λ r.
        let x = run_at start (blocks_of t) c r in
        ⊎_elim (λ w. free_unowned old c w b o)
        (λ w. true≢false (sym (at_emptied old e c w.0 w.1 w.2) ∙ kept_emptied c l o))
        (legal.free c x.0 x.1))

    pub kept_before : 1 ≤ blocks_of t → b < start → b + size_at old b ≤ start
    kept_before some l =
        ⊎_elim (λ p. p)
        (λ (p : start < b + size_at old b).
        absurd (true≢false (sym (at_run start (blocks_of t) start (omega arith) (omega arith))
        ∙ kept_run start (omega (arith, legal.ends)) (record { at = (kept_parts old e b h).0; from = omega arith; upto = p }))))
        (le_or_lt (b + size_at old b) start)

    module _ (l : b < block_count old) where
      pub kept_behind : start ≤ b → start + blocks_of t ≤ b
      kept_behind p =
          ⊎_elim (λ q. q)
          (λ (q : b < start + blocks_of t).
          absurd (true≢false (sym (at_run start (blocks_of t) b p q)
          ∙ kept_run b l (record { at = (kept_parts old e b h).0; from = omega arith; upto = omega (arith, size_some old b) }))))
          (le_or_lt (start + blocks_of t) b)

      module _ (k : ℕ) (slot : slot_at old b ≡ Update k) where
        kept_ends : b + k ≤ block_count old
        kept_ends = ends_inside old (block_count old) b k valid.long slot

        pub kept_same : Same (from_block old b) (from_block new b) (k * 2048)
        kept_same i j =
            let c = b + i / 2048 in
            let o : Owned old (first old) b c = record { at = (kept_parts old e b h).0; from = omega arith; upto = rw slot (omega arith) } in
            let p : c < block_count old = omega (arith, kept_ends) in
            get_or-drop (b * 2048) old i 0
            ∙ sym (outcome_kept old t cand start e c (b * 2048 + i) (omega (arith, valid.long)) (omega arith) (kept_run c p o) (kept_emptied c p o))
            ∙ sym (get_or-drop (b * 2048) new i 0)

        kept_long : k * 2048 ≤ length (from_block new b)
        kept_long = omega (arith, length-drop (b * 2048) new, new_long, kept_ends)

        pub kept_slot : slot_at new b ≡ Update k
        unfolding slot_at
        kept_slot = update_local (from_block old b) (from_block new b) k slot kept_same kept_long

        slot_covers : Alike (from_block old b) (from_block new b)
        unfolding slot_at
        slot_covers = update_alike (from_block old b) (from_block new b) k slot kept_same kept_long

      pub kept_covers : Alike (from_block old b) (from_block new b)
      kept_covers = let k = kept_update old e b h in slot_covers k.0 k.1

      -- it has its old size
      pub kept_size : size_at new b ≡ size_at old b
      kept_size = let k = kept_update old e b h in ap slot_size (kept_slot k.0 k.1 ∙ sym k.1)
