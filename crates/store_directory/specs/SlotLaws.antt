-- Laws of slots: what an update's slot says of the bytes, how one is made, and that a slot is settled by the bytes of its own blocks.
--   Slotted, slotted        an update's slot: a good verdict, its blocks, and that it fits
--   slot_inside, slot_byte  it has 1 to 16 blocks, all lent; a byte holds their number
--   fits_made, update_made  a good verdict that fits is an update's slot
--   Single, single_facts, single_is    what a block by itself is and isn't; it is unused
--   unused_filled, filled_unused    an unused slot is a block of FFh, both ways
--   update_local, update_alike      bytes that agree on its blocks have the same slot and cover the same processors
--   ends_inside             an update that begins at block b of n ends at n or before
use Rattle.std.specs.Prelude.{ℕ, ◌+◌, ◌*◌, ◌-◌, ◌<◌, ◌≤◌, ◌≡◌, refl, Bool, true, false, List, length, get_or, leb, Ok, Err}
use Rattle.std.proofs.Common.{sym, ◌∙◌, true≢false, arith, length-drop, leb-true, le-leb, eqb-true}
use Rattle.laws.specs.Orders.{impossible}
use Rattle.laws.specs.Bools.{and_parts, and_made, no_true}
use Rattle.laws.specs.Below.{all_at}
use Rattle.laws.specs.Unless.{unless}
use Rattle.laws.specs.Same.{Same, same_less}
use Rattle.bytes_dwords.specs.Dword.{dword}
use Rattle.update_sizes.specs.Sizes.{blocks_of}
use Rattle.update_header.specs.CheckLaws.{header_parts}
use Rattle.update_verdict.specs.Verdict.{Verdict, Good, verdict}
use Rattle.update_verdict.specs.VerdictLaws.{judged, good_size}
use Rattle.update_verdict.specs.VerdictLocal.{verdict_local}
use Rattle.update_sharing.specs.SharingLocal.{covers_local, Alike}
use Rattle.store_blocks.specs.Blocks.{is_ff, filled, unused, from_block}
use Rattle.store_blocks.specs.FilledLaws.{filled_local}
use Rattle.store_blocks.specs.Slot.{fits, update_slot, slot_of}
use Rattle.store_directory.specs.Scan.{slot_at, slot_size, is_update, is_bad, single}
use Rattle.store_blocks.specs.declared.slot.Slot.{Slot}
use Rattle.store_blocks.specs.declared.slot.Slot.TheVariants.{Unused, Update, Bad}

pub record Slotted (s : List ℕ) (k : ℕ) : Type 0 where
  pub total : ℕ
  pub «data» : ℕ
  pub entries : ℕ
  pub good : verdict s ≡ Good total «data» entries k
  pub blocks : k ≡ blocks_of total
  pub fit : fits s total ≡ true

pub slotted : (s : List ℕ) (k : ℕ) → slot_of s ≡ Update k → Slotted s k
unfolding slot_of update_slot unless
slotted s k e = go (unused s) (verdict s) refl e
  where
    inner : (t d n j : ℕ) → verdict s ≡ Good t d n j → (f : Bool) → fits s t ≡ f → unless f Bad (Update j) ≡ Update k → Slotted s k
    inner t d n j v true q e =
        let b : j ≡ k = cc in
        record { total = t; «data» = d; entries = n; good = v ∙ rw b; blocks = sym b ∙ (judged s t d n j v).blocks; fit = q }
    inner t d n j v false q e = absurd (impossible (cc))

    go : (f : Bool) (c : Verdict) → verdict s ≡ c → unless f (update_slot s c) Unused ≡ Update k → Slotted s k
    go true c v e = absurd (impossible (cc))
    go false (Ok m) v e = inner m.total m.data m.entries m.blocks v (fits s m.total) refl e
    go false (Err x) v e = absurd (impossible (cc))

fits_parts : (s : List ℕ) (t : ℕ) → fits s t ≡ true → (blocks_of t * 2048 ≤ length s) × (filled s t (blocks_of t * 2048 - t) ≡ true)
unfolding fits
fits_parts s t h =
    let a = and_parts (leb (blocks_of t * 2048) (length s)) (filled s t (blocks_of t * 2048 - t)) h in
    (leb-true _ _ a.0, a.1)

pub fits_made : (s : List ℕ) (t : ℕ) → blocks_of t * 2048 ≤ length s → filled s t (blocks_of t * 2048 - t) ≡ true → fits s t ≡ true
unfolding fits
fits_made s t l h = and_made (le-leb (blocks_of t * 2048) (length s) l) h

pub slot_inside : (s : List ℕ) (k : ℕ) → slot_of s ≡ Update k → (1 ≤ k) × (k ≤ 16) × (k * 2048 ≤ length s)
unfolding blocks_of
slot_inside s k slot =
    let d = slotted s k slot in
    let z = good_size s d.total d.data d.entries k d.good in
    let f = fits_parts s d.total d.fit in
    let e = d.blocks in
    (omega (arith, z.0), omega (arith, z.1), omega (arith, f.0))

-- a byte can hold how many blocks it has, as `search` takes it: x is what a call answered
pub slot_byte : (s : List ℕ) (x : Slot) (k : ℕ) → x ≡ slot_of s → x ≡ Update k → k < 256
slot_byte s x k e h = omega (arith, (slot_inside s k (sym e ∙ h)).1)

-- a good update's first byte is 1, not FFh
not_unused : (s : List ℕ) → dword s 0 ≡ 1 → unused s ≡ false
unfolding unused filled is_ff dword
not_unused s e =
    no_true (unused s) (λ h.
    let f = (and_parts (leb 2048 (length s)) (filled s 0 2048) h).1 in
    let b = eqb-true (get_or s 0 0) 255 (all_at (is_ff s 0) 2048 0 f (omega arith)) in omega arith)

pub update_made : (s : List ℕ) (t d n k : ℕ) → verdict s ≡ Good t d n k → fits s t ≡ true → slot_of s ≡ Update k
unfolding slot_of update_slot unless
update_made s t d n k g f = rw (not_unused s (header_parts s (judged s t d n k g).header).1, g, f)

pub filled_unused : (s : List ℕ) → 2048 ≤ length s → filled s 0 2048 ≡ true → slot_of s ≡ Unused
unfolding slot_of unless unused
filled_unused s l h = rw (le-leb 2048 (length s) l, h)

-- a block by itself has one block, and is neither an update nor bad
pub record Single (x : Slot) : Type 0 where
  pub size : slot_size x ≡ 1
  pub no_update : is_update x ≡ false
  pub no_fault : is_bad x ≡ false

pub single_facts : (x : Slot) → single x ≡ true → Single x
single_facts Unused e = record { size = refl; no_update = refl; no_fault = refl }
single_facts (Update k) e = absurd (true≢false (sym e))
single_facts Bad e = absurd (true≢false (sym e))

pub single_is : (x : Slot) → single x ≡ true → x ≡ Unused
single_is Unused e = refl
single_is (Update k) e = absurd (true≢false (sym e))
single_is Bad e = absurd (true≢false (sym e))

pub unused_filled : (s : List ℕ) → slot_of s ≡ Unused → (2048 ≤ length s) × (filled s 0 2048 ≡ true)
unfolding slot_of unless update_slot unused
unused_filled s e =
    let u = go (unused s) (verdict s) e in
    let a = and_parts (leb 2048 (length s)) (filled s 0 2048) u in
    (leb-true 2048 (length s) a.0, a.1)
  where
    inner : (f : Bool) (j : ℕ) → unless f Bad (Update j) ≡ Unused → false ≡ true
    inner true j e = absurd (impossible (cc))
    inner false j e = absurd (impossible (cc))

    go : (f : Bool) (c : Verdict) → unless f (update_slot s c) Unused ≡ Unused → f ≡ true
    go true c e = refl
    go false (Ok m) e = inner (fits s m.total) m.blocks e
    go false (Err x) e = absurd (impossible (cc))

-- another list that is the same as far as an update's blocks go
module _ (s r : List ℕ) (k : ℕ) (slot : slot_of s ≡ Update k) (same : Same s r (k * 2048)) (long : k * 2048 ≤ length r) where
  facts : Slotted s k
  facts = slotted s k slot

  short : facts.total ≤ k * 2048
  unfolding blocks_of
  short = omega (arith, facts.blocks)

  pub update_local : slot_of r ≡ Update k
  update_local =
      let t = facts.total in
      let e = facts.blocks in
      let f = fits_parts s t facts.fit in
      update_made r t facts.data facts.entries k
      (verdict_local s r t facts.data facts.entries k facts.good (same_less s r (k * 2048) t same short) (omega (arith, short)))
      (fits_made r t (omega (arith, e)) (sym (filled_local s r (k * 2048) t (blocks_of t * 2048 - t) same (omega (arith, e, short))) ∙ f.1))

  pub update_alike : Alike s r
  update_alike = covers_local s r facts.total facts.data facts.entries k facts.good (same_less s r (k * 2048) facts.total same short) (omega (arith, short))

pub ends_inside : (s : List ℕ) (n b k : ℕ) → length s ≡ n * 2048 → slot_at s b ≡ Update k → b + k ≤ n
unfolding slot_at
ends_inside s n b k e h =
    let d = slot_inside (from_block s b) k h in
    omega (arith, d.0, d.2, length-drop (b * 2048) s)
