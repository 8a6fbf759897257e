-- The law that ties the Bool that computes to the statement in words.
--   names_parts, names_made     flags name a platform from 0 to 7 whose bit is set
--   covers_at_lem, covers_made  an update covers a processor exactly if some pair has its signature and names its platform
--   covers_law, covers_platform    an update covers a processor exactly if `Covers` says so
use Rattle.std.specs.Prelude.{ℕ, ◌<◌, ◌≡◌, true, List, ◌↔◌, ltb, eqb}
use Rattle.std.proofs.Math.Path.{sym}
use Rattle.std.proofs.Common.{◌∙◌, eq-eqb, eqb-true, lt-ltb, ltb-true}
use Rattle.laws.specs.Bools.{and_parts}
use Rattle.laws.specs.Below.{any_stop, any_at}
use Rattle.laws.specs.Bits.{bit}
use Rattle.laws.specs.LowByte.{bit_low}
use Rattle.update_coverage.specs.Covers.{pair_count, signature_at, flags_at, platforms_at, names, pair_covers, covers_at, covers, Covers}

pub names_parts : (f p : ℕ) → names f p ≡ true → (p < 8) × (bit f p ≡ true)
unfolding names
names_parts f p h = let a = and_parts (ltb p 8) (bit f p) h in (ltb-true p 8 a.0, a.1)

pub names_made : (f p : ℕ) → p < 8 → bit f p ≡ true → names f p ≡ true
unfolding names
names_made f p l h = rw (lt-ltb p 8 l) h

-- what one pair says
pair_parts : (signature f x p : ℕ) → pair_covers signature f x p ≡ true → (signature ≡ x) × (names f p ≡ true)
unfolding pair_covers
pair_parts signature f x p h = let a = and_parts (eqb signature x) (names f p) h in (eqb-true signature x a.0, a.1)

pair_made : (signature f x p : ℕ) → signature ≡ x → names f p ≡ true → pair_covers signature f x p ≡ true
unfolding pair_covers
pair_made signature f x p e h = rw (eq-eqb signature x e) h

module _ (s : List ℕ) (x p : ℕ) where
  pub covers_at_lem : covers s x p ≡ true → (i : ℕ) × (i < pair_count s) × (signature_at s i ≡ x) × (names (platforms_at s i) p ≡ true)
  unfolding covers covers_at
  covers_at_lem h = let i = any_at (covers_at s x p) (pair_count s) h in let a = pair_parts _ _ x p i.2 in (i.0, i.1, a.0, a.1)

  pub covers_made : (i : ℕ) → i < pair_count s → signature_at s i ≡ x → names (platforms_at s i) p ≡ true → covers s x p ≡ true
  unfolding covers covers_at
  covers_made i l e h = any_stop (covers_at s x p) (pair_count s) i l (pair_made (signature_at s i) (platforms_at s i) x p e h)

  pub covers_law : (covers s x p ≡ true) ↔ Covers s x p
  unfolding platforms_at
  covers_law = (
    λ h.
        let a = covers_at_lem h in
        let n = names_parts (platforms_at s a.0) p a.3 in
        record { platform = n.0; pair = a.0; within = a.1; has_signature = a.2; has_bit = sym (bit_low (flags_at s a.0) p n.0) ∙ n.1 },
    λ c. covers_made c.pair c.within c.has_signature (names_made (platforms_at s c.pair) p c.platform (bit_low (flags_at s c.pair) p c.platform ∙ c.has_bit)),
  )

  pub covers_platform : covers s x p ≡ true → p < 8
  covers_platform h = (covers_law.0 h).platform
