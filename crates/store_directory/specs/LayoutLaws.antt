-- The reading from block 0 decides whether a store is laid out, and finds the one set of first blocks.
--   size_some          a slot has a block
--   layout_first       in a laid out store the reading finds u
--   layout_sound       and nothing that may not stand there
--   owned_one          a block belongs to one update at most
--   first_parts        what is read as a first block is an update's
--   begins_outside     a slot that is read begins in no update
--   home               each block lies in a slot that is read
--   scan_layout        a store whose slots are sound is laid out with the first blocks that are read
use Prim.Native.Nat.{ℕ, zero, suc, ◌+◌, ◌-◌, ◌<◌, ◌≤◌}
use Rattle.std.specs.Prelude.{◌≡◌, Bool, ◌&&◌, List, ◌⊎◌}
use Rattle.std.proofs.Math.Path.{refl, ap}
use Rattle.std.proofs.Common.{sym, ◌∙◌, true≢false, eq-or-lt_of_le, le_of_suc-le-suc, not-suc-le-zero, le-leb}
use Rattle.std.proofs.Math.Bool.{true, false, not}
use Rattle.std.proofs.Math.Logic.{⊎_elim, inl, inr}
use native.Mathlib.Omega.{arith}
use Rattle.std.proofs.lemmas.Bool.{lt-leb}
use Rattle.laws.specs.Bools.{and_parts, no_true}
use Rattle.laws.specs.Below.{all_below, all_at, all_true}
use Rattle.laws.specs.Orders.{le_or_lt}
use Rattle.store_blocks.specs.Blocks.{from_block}
use Rattle.store_blocks.specs.Slot.{slot_of}
use Rattle.store_directory.specs.Scan.{slot_size, size_at, is_update, is_bad, single, slot_at, next_slot, begins, first, sound}
use Rattle.store_directory.specs.Valid.{Owned, Layout}
use Rattle.store_directory.specs.SlotLaws.{slot_inside, single_facts}
use Rattle.store_directory.specs.BlockLaws.{later_blocks, next_begins}
use Rattle.store_blocks.specs.declared.slot.Slot.{Slot}
use Rattle.store_blocks.specs.declared.slot.Slot.TheVariants.{Unused, Update, Bad}

pub size_some : (s : List ℕ) (b : ℕ) → 1 ≤ size_at s b
unfolding slot_at
size_some s b = go (slot_at s b) refl
  where
    go : (x : Slot) → slot_of (from_block s b) ≡ x → 1 ≤ slot_size x
    go Unused e = omega arith
    go (Update k) e = (slot_inside (from_block s b) k e).0
    go Bad e = omega arith

-- from a layout to the reading
module _ (s : List ℕ) (n : ℕ) (u : ℕ → Bool) (y : Layout s n u) where
  Ended : ℕ → Type 0
  Ended b = (a : ℕ) → a < b → u a ≡ true → a + size_at s a ≤ b

  -- where the reading stands before block b: between slots, or inside the update that begins at a
  data Before (b : ℕ) : Type 0 where
    cut : next_slot s b ≤ b → Ended b → Before b
    inside : (a : ℕ) → a < b → u a ≡ true → b < a + size_at s a → next_slot s b ≡ a + size_at s a → Before b

  -- what the reading makes of block b: the first of an update, an unused one, or a later block of the update at a
  data BlockRead (b : ℕ) : Type 0 where
    leads : (k : ℕ) → next_slot s b ≤ b → Ended b → u b ≡ true → slot_at s b ≡ Update k → BlockRead b
    blank : next_slot s b ≤ b → Ended b → u b ≡ false → single (slot_at s b) ≡ true → BlockRead b
    later : (a : ℕ) → a < b → u a ≡ true → b < a + size_at s a → next_slot s b ≡ a + size_at s a → u b ≡ false → BlockRead b

  block_read : (b : ℕ) → b < n → Before b → BlockRead b
  unfolding Ended
  block_read b l (inside a p h q e) =
      later a p h q e (no_true (u b) (λ t. let o = y.order a b p l h t in let z : ⊥ = omega arith in z))
  block_read b l (cut p o) = go (u b) refl (y.full b l)
    where
      go : (t : Bool) → u b ≡ t → (single (slot_at s b) ≡ true) ⊎ ((a : ℕ) × Owned s u a b) → BlockRead b
      go true q w = let k = y.stored b l q in leads k.0 p o q k.1
      go false q (inl w) = blank p o q w
      go false q (inr w) =
          ⊎_elim (λ e. absurd (true≢false (sym w.1.at ∙ ap u e ∙ q)))
          (λ m. let z = o w.0 m w.1.at in absurd (let v : ⊥ = omega (arith, w.1.upto) in v))
          (eq-or-lt_of_le w.1.from)

  step : (b : ℕ) → b < n → BlockRead b → Before (suc b)
  unfolding next_slot Ended
  step b l (leads k p o h e) =
      ⊎_elim
      (λ (m : k ≤ 1). cut (rw (le-leb (next_slot s b) b p, e) (omega arith)) (λ a q g. ⊎_elim (λ (r : a ≡ b). rw r (rw e (omega arith))) (λ r. let z = o a r g in omega arith) (eq-or-lt_of_le (le_of_suc-le-suc q))))
      (λ (m : 1 < k). inside b (omega arith) h (rw e (omega arith)) (rw (le-leb (next_slot s b) b p)))
      (le_or_lt k 1)
  step b l (blank p o h e) =
      cut (rw (le-leb (next_slot s b) b p, (single_facts (slot_at s b) e).size) (omega arith))
      (λ a q g. ⊎_elim (λ r. absurd (true≢false (sym g ∙ ap u r ∙ h))) (λ r. let z = o a r g in omega arith) (eq-or-lt_of_le (le_of_suc-le-suc q)))
  step b l (later a p h q e g) =
      ⊎_elim
      (λ (m : a + size_at s a ≤ suc b). cut (rw (lt-leb (next_slot s b) b (omega arith), e) m) (λ c r i. rest c r i m))
      (λ (m : suc b < a + size_at s a). inside a (omega arith) h m (rw (lt-leb (next_slot s b) b (omega arith)) e))
      (le_or_lt (a + size_at s a) (suc b))
    where
      rest : (c : ℕ) → c < suc b → u c ≡ true → a + size_at s a ≤ suc b → c + size_at s c ≤ suc b
      rest c r i m =
          ⊎_elim
          (λ (x : c ≤ a). ⊎_elim (λ f. rw f m) (λ f. let z = y.order c a f (omega arith) i h in omega arith) (eq-or-lt_of_le x))
          (λ (x : a < c). let z = y.order a c x (omega arith) h i in omega arith)
          (le_or_lt c a)

  before : (b : ℕ) → b ≤ n → Before b
  unfolding next_slot Ended
  before zero l = cut (omega arith) (λ a q g. absurd (not-suc-le-zero q))
  before (suc b) l = step b l (block_read b l (before b (omega arith)))

  read : (b : ℕ) → BlockRead b → (sound s b ≡ true) × (first s b ≡ u b)
  unfolding sound first begins
  read b (leads k p o h e) = rw (le-leb (next_slot s b) b p, e, h) (refl, refl)
  read b (blank p o h e) = let f = single_facts (slot_at s b) e in rw (le-leb (next_slot s b) b p, f.no_update, f.no_fault, h) (refl, refl)
  read b (later a p h q e g) = rw (lt-leb (next_slot s b) b (omega arith), g) (refl, refl)

  -- the reading finds u
  pub layout_first : (b : ℕ) → b < n → first s b ≡ u b
  layout_first b l = (read b (block_read b l (before b (omega arith)))).1

  pub layout_sound : all_below n (sound s) ≡ true
  layout_sound = all_true (sound s) n (λ b l. (read b (block_read b l (before b (omega arith)))).0)

-- a block belongs to one update at most
module _ (s : List ℕ) (n : ℕ) (u : ℕ → Bool) (y : Layout s n u) where
  pub owned_one : (a b c : ℕ) → c < n → Owned s u a c → Owned s u b c → a ≡ b
  owned_one a b c l p q =
      ⊎_elim
      (λ (x : a ≤ b). ⊎_elim (λ f. f) (λ f. let z = y.order a b f (omega (arith, q.from)) p.at q.at in absurd (let v : ⊥ = omega (arith, p.upto, q.from) in v)) (eq-or-lt_of_le x))
      (λ (x : b < a). let z = y.order b a x (omega (arith, p.from)) q.at p.at in absurd (let v : ⊥ = omega (arith, q.upto, p.from) in v))
      (le_or_lt a b)

-- from the reading to a layout
is_update_lem : (x : Slot) → is_update x ≡ true → (k : ℕ) × (x ≡ Update k)
is_update_lem Unused e = absurd (true≢false (sym e))
is_update_lem (Update k) e = (k, refl)
is_update_lem Bad e = absurd (true≢false (sym e))

module _ (s : List ℕ) where
  pub first_parts : (b : ℕ) → first s b ≡ true → (begins s b ≡ true) × ((k : ℕ) × (slot_at s b ≡ Update k))
  unfolding first
  first_parts b h = let a = and_parts (begins s b) (is_update (slot_at s b)) h in (a.0, is_update_lem (slot_at s b) a.1)

  -- a block where a slot begins is inside no update that begins before
  pub begins_outside : (b c : ℕ) → b < c → first s b ≡ true → begins s c ≡ true → b + size_at s b ≤ c
  begins_outside b c l h g =
      ⊎_elim (λ m. m)
      (λ (m : c < b + size_at s b).
      let e : b + (c - b) ≡ c = omega arith in
      absurd (true≢false (sym g ∙ (rw e at (later_blocks s b (size_at s b) (c - b) (first_parts b h).0 refl (omega arith) (omega arith))))))
      (le_or_lt (b + size_at s b) c)

  -- the slot in which block c lies
  pub home : (c : ℕ) → (a : ℕ) × (begins s a ≡ true) × (a ≤ c) × (c < a + size_at s a)
  unfolding begins next_slot
  home zero = (0, refl, omega arith, omega (arith, size_some s 0))
  home (suc c) =
      let h = home c in
      let a = h.0 in
      ⊎_elim
      (λ (m : a + size_at s a ≤ suc c).
      let e : a + size_at s a ≡ suc c = omega (arith, h.3) in
      (suc c, (rw e at (next_begins s a (size_at s a) h.1 refl (size_some s a))), omega arith, omega (arith, size_some s (suc c))))
      (λ (m : suc c < a + size_at s a). (a, h.1, omega (arith, h.2), m))
      (le_or_lt (a + size_at s a) (suc c))

  pub scan_layout : (n : ℕ) → all_below n (sound s) ≡ true → Layout s n (first s)
  unfolding sound first
  scan_layout n h =
      record {
        stored = λ b l f. (first_parts b f).1;
        order = λ b c l m f g. begins_outside b c l f (first_parts c g).0;
        full = λ c l. let a = home c in go c a.0 a.1 a.2 a.3 (slot_at s a.0) refl (all_at (sound s) n a.0 h (omega (arith, a.2)));
      }
    where
      go : (c a : ℕ) → begins s a ≡ true → a ≤ c → c < a + size_at s a → (x : Slot) → slot_at s a ≡ x → not (begins s a && is_bad (slot_at s a)) ≡ true
          → (single (slot_at s c) ≡ true) ⊎ ((b : ℕ) × Owned s (first s) b c)
      go c a g p q Unused e k = let f : a ≡ c = omega (arith, rw e at q) in inl (ap single (rw f at e))
      go c a g p q (Update j) e k = inr (a, record { at = rw (g, e); from = p; upto = q })
      go c a g p q Bad e k = absurd (true≢false (sym (rw (g, e) at k)))
