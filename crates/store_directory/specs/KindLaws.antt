-- What the kind of a block says.
--   first_update     the first block of k is that of an update of k blocks
--   free_parts       at a free one a slot begins, and it is unused
--   free_unowned     it belongs to no update
use Rattle.std.specs.Prelude.{ℕ, ◌<◌, ◌≤◌, ◌≡◌, Bool, List}
use Rattle.std.proofs.Math.Path.{refl}
use Rattle.std.proofs.Common.{sym, ap, ◌∙◌, ⊎_elim, arith}
use Rattle.std.proofs.Math.Bool.{true, false}
use Rattle.laws.specs.Orders.{le_or_lt, impossible}
use Rattle.store_directory.specs.Scan.{slot_at, begins, first}
use Rattle.store_directory.specs.Kind.{kind_of, kind_at}
use Rattle.store_directory.specs.Valid.{Owned}
use Rattle.store_directory.specs.LayoutLaws.{first_parts, begins_outside}
use Rattle.store_blocks.specs.declared.slot.Slot.{Slot}
use Rattle.store_blocks.specs.declared.slot.Slot.TheVariants.{Unused, Update, Bad}
use Rattle.store_directory.specs.declared.kind.Kind.TheVariants.{Unused as UnusedBlock, First}

pub first_update : (t : Bool) (x : Slot) (k : ℕ) → kind_of t x ≡ First k → x ≡ Update k
first_update true Unused k e = absurd (impossible (cc))
first_update true (Update j) k e = cc
first_update true Bad k e = absurd (impossible (cc))
first_update false x k e = absurd (impossible (cc))

module _ (s : List ℕ) (c : ℕ) (h : kind_at s c ≡ UnusedBlock) where
  pub free_parts : (begins s c ≡ true) × (slot_at s c ≡ Unused)
  unfolding kind_at
  free_parts = go (begins s c) refl (slot_at s c) refl h
    where
      go : (t : Bool) → begins s c ≡ t → (x : Slot) → slot_at s c ≡ x → kind_of t x ≡ UnusedBlock → (begins s c ≡ true) × (slot_at s c ≡ Unused)
      go true p Unused q k = (p, q)
      go true p (Update j) q k = absurd (impossible (cc))
      go true p Bad q k = absurd (impossible (cc))
      go false p x q k = absurd (impossible (cc))

  pub free_unowned : (b : ℕ) → Owned s (first s) b c → ⊥
  free_unowned b o =
      let x = free_parts in
      let k = (first_parts s b o.at).1 in
      ⊎_elim
      (λ (p : c ≤ b). let f : b ≡ c = omega (arith, o.from) in let g : slot_at s c ≡ Update k.0 = ap (slot_at s) (sym f) ∙ k.1 in let z : ◌≡◌ {A = ℕ} 0 1 = cc in omega arith)
      (λ (p : b < c). let z = begins_outside s b c p o.at x.0 in omega (arith, o.upto))
      (le_or_lt c b)
