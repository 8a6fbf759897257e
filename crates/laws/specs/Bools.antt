-- Facts of `&&`, `||` and of a Bool that can't be one of the two.
--   and_parts     both sides of a true `&&`
--   and_made      a true `&&` from both sides
--   no_true       not true is false
--   no_false      not false is true
--   bool_same     two Bools that imply each other are equal
use Rattle.std.specs.Prelude.{◌≡◌, refl, Bool, true, false, ◌&&◌}
use Rattle.std.proofs.Common.{sym, true≢false}

pub and_parts : (a b : Bool) → a && b ≡ true → (a ≡ true) × (b ≡ true)
and_parts true b h = (refl, h)
and_parts false b h = absurd (true≢false (sym h))

pub and_made : {a b : Bool} → a ≡ true → b ≡ true → a && b ≡ true
and_made {a} {b} h k = rw (h, k)

pub no_true : (a : Bool) → (a ≡ true → ⊥) → a ≡ false
no_true true h = absurd (h refl)
no_true false h = refl

pub no_false : (a : Bool) → (a ≡ false → ⊥) → a ≡ true
no_false true h = refl
no_false false h = absurd (h refl)

pub bool_same : (a b : Bool) → (a ≡ true → b ≡ true) → (b ≡ true → a ≡ true) → a ≡ b
bool_same true b f g = sym (f refl)
bool_same false true f g = g refl
bool_same false false f g = refl
