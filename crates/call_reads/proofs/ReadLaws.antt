-- Laws of the read: the cases of the plan, and that what is copied fits, is there, and is at most 16 blocks.
--   kinds             the plan by the kind, as `search` takes it
--   read_bad, read_number, read_kind_lem  the order of the codes
--   copyable          what the plan of a read may rely on
--   copied_long       the destination keeps its length
--   copying           the copy, the answer and the destination afterwards, as `search` takes them
use Rattle.std.specs.Prelude.{ℕ, ◌+◌, ◌*◌, ◌/◌, ◌<◌, ◌≤◌, ◌≡◌, Bool, Ok, Err, List, length, take, drop, leb, ltb}
use Rattle.std.proofs.Math.Path.{refl}
use Rattle.std.proofs.Common.{sym, ◌∙◌, length-append, length-drop, length-take-le}
use Rattle.std.proofs.Math.Bool.{true, false}
use native.Mathlib.Omega.{arith}
use borrow.Author.Tests.{lt-ltb, le-ltb, leb-true}
use Rattle.laws.specs.Orders.{impossible}
use Rattle.laws.specs.Unless.{unless}
use Rattle.bytes_copy.specs.Paste.{put_at, put_first}
use Rattle.store_blocks.specs.Blocks.{block_count, from_block}
use Rattle.store_directory.specs.Scan.{slot_at, begins, store_ok, directory}
use Rattle.store_directory.specs.Kind.{kind_of, kind_at, kind_in}
use Rattle.store_directory.specs.SlotLaws.{slot_inside, unused_filled}
use Rattle.store_directory.proofs.DirectoryLaws.{kind_law}
use Rattle.store_directory.specs.declared.Directory.{Directory}
use Rattle.store_blocks.specs.declared.slot.Slot.{Slot}
use Rattle.store_blocks.specs.declared.slot.Slot.TheVariants.{Unused as UnusedSlot, Update, Bad}
use Rattle.store_directory.specs.declared.kind.Kind.{Kind}
use Rattle.store_directory.specs.declared.kind.Kind.TheVariants.{Unused, First, Later}
use Rattle.call_answers.specs.Refusals.{refused}
use Rattle.call_answers.specs.declared.refusal.Refusal.{Refusal}
use Rattle.call_answers.specs.declared.refusal.Refusal.TheVariants.{BadStore, ShortDestination, InvalidBlock, NotEmpty}
use Rattle.call_answers.specs.declared.answer.Answer.{Answer}
use Rattle.call_reads.specs.Read.{ReadPlan, read_blocks, read_kind, read_plan, answered, copied}
use Rattle.call_reads.specs.CopyBounds.{Copies, Copyable}

-- the plan by the kind, where r is the kind that a call gave
module _ (r : Kind) (m : ℕ) where
  pub kind_unused : (z : ReadPlan) → r ≡ Unused → z ≡ read_blocks 1 m → z ≡ read_kind r m
  unfolding read_kind
  kind_unused z h k = rw h k

  pub kind_first : (z : ReadPlan) (j : ℕ) → r ≡ First j → z ≡ read_blocks j m → z ≡ read_kind r m
  unfolding read_kind
  kind_first z j h k = rw h k

  pub kind_later : r ≡ Later → Err NotEmpty ≡ read_kind r m
  unfolding read_kind
  kind_later h = rw h

pub ruleset kinds = (kind_unused, kind_first, kind_later)

-- the whole order; d is the directory that was read
module _ (s : List ℕ) (b m : ℕ) where
  pub read_bad : store_ok s ≡ false → Err BadStore ≡ read_plan s b m
  unfolding read_plan unless
  read_bad h = rw h

  pub read_number : store_ok s ≡ true → length s / 2048 ≤ b → Err InvalidBlock ≡ read_plan s b m
  unfolding read_plan unless block_count
  read_number ok l = rw (ok, le-ltb b (length s / 2048) l)

  pub read_kind_lem : (d : Directory) → d ≡ directory s → store_ok s ≡ true → b < length s / 2048 → (j : Kind) → j ≡ kind_in d b
      → (z : ReadPlan) → z ≡ read_kind j m → z ≡ read_plan s b m
  unfolding read_plan unless block_count
  read_kind_lem d e ok l j k z q = q ∙ rw (k, kind_law s ok d e b l, ok, lt-ltb b (length s / 2048) l)

-- a check t that refuses
passed : (t : Bool) (r : Refusal) (k : ℕ) (rest : ReadPlan) → unless t (Err r) rest ≡ Ok k → (t ≡ true) × (rest ≡ Ok k)
unfolding unless
passed true r k rest e = (refl, e)
passed false r k rest e = absurd (impossible (cc))

module _ (s : List ℕ) (b m k : ℕ) where
  -- j blocks are wanted
  wanted : (j : ℕ) → read_blocks j m ≡ Ok k → (j ≡ k) × (k * 2048 ≤ m)
  unfolding read_blocks
  wanted j e =
      let x = passed (leb (j * 2048) m) ShortDestination k (Ok j) e in
      let q : j ≡ k = cc x.1 in
      (q, rw q at (leb-true (j * 2048) m x.0))

  by_kind : (t : Bool) (x : Slot) → slot_at s b ≡ x → read_kind (kind_of t x) m ≡ Ok k → Copies s b m k
  unfolding read_kind slot_at
  by_kind true UnusedSlot q e =
      let w = wanted 1 e in
      let u = (unused_filled (from_block s b) q).0 in
      record { fit = w.1; there = omega arith; few = omega arith }
  by_kind true (Update j) q e =
      let w = wanted j e in
      let z = slot_inside (from_block s b) j q in
      record { fit = w.1; there = rw w.0 at z.2; few = rw w.0 at z.1 }
  by_kind true Bad q e = absurd (impossible (cc))
  by_kind false x q e = absurd (impossible (cc))

  -- the plan of a read
  plan_copies : read_plan s b m ≡ Ok k → Copies s b m k
  unfolding read_plan kind_at
  plan_copies f =
      let x = passed (store_ok s) BadStore k _ f in
      let y = passed (ltb b (block_count s)) InvalidBlock k _ x.1 in
      by_kind (begins s b) (slot_at s b) refl y.1

pub copyable : (s : List ℕ) (b m : ℕ) (p : ReadPlan) → p ≡ read_plan s b m → Copyable s b m p
unfolding Copyable
copyable s b m p e k h = plan_copies s b m k (sym e ∙ h)

-- p is a plan, x the store from the block on, r the destination afterwards
module _ (s : List ℕ) (b m k : ℕ) (p : ReadPlan) (c : Copyable s b m p) (h : p ≡ Ok k) where
  pub copy_fits : 0 + k * 2048 ≤ m
  unfolding Copyable
  copy_fits = omega (arith, (c k h).fit)

  pub copy_there : (x : List ℕ) → x ≡ from_block s b → k * 2048 ≤ length x
  unfolding Copyable
  copy_there x q = rw q (c k h).there

  pub copy_short : k * 2048 ≤ 32768
  unfolding Copyable
  copy_short = omega (arith, (c k h).few)

module _ (s d : List ℕ) (b : ℕ) (p : ReadPlan) where
  pub copy_answer : (k : ℕ) → p ≡ Ok k → answered (Ok k) ≡ answered p
  copy_answer k h = rw h

  pub copy_bytes : (k : ℕ) (x r : List ℕ) → p ≡ Ok k → x ≡ from_block s b → r ≡ put_at d 0 x (k * 2048) → r ≡ copied s b d p
  unfolding copied
  copy_bytes k x r h q c = c ∙ put_first d x (k * 2048) ∙ rw (q, h)

  pub refuse_answer : (r : Refusal) (z : Answer) → p ≡ Err r → z ≡ refused r → z ≡ answered p
  unfolding answered
  refuse_answer r z h q = q ∙ rw h

  pub refuse_bytes : (r : Refusal) → p ≡ Err r → d ≡ copied s b d p
  unfolding copied
  refuse_bytes r h = rw h

pub ruleset copying = (copy_fits, copy_there, copy_short, copy_answer, copy_bytes, refuse_answer, refuse_bytes)

-- the destination keeps its length
pub copied_long : (s d : List ℕ) (b : ℕ) (p : ReadPlan) → Copyable s b (length d) p → length (copied s b d p) ≡ length d
unfolding copied Copyable
copied_long s d b (Ok k) c =
    let w = c k refl in
    omega (arith, length-append (take (k * 2048) (from_block s b)) (drop (k * 2048) d), length-take-le (k * 2048) (from_block s b) w.there, length-drop (k * 2048) d, w.fit)
copied_long s d b (Err r) c = refl
