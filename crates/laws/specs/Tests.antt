-- Tests of numbers.
--   cases                each as the Bool that it computes, as `search` takes them
--   and_stop, and_next   a return at a test of what a call answered: v is the answer, of which the call ensures that it is w
use Rattle.std.specs.Prelude.{◌≡◌, ℕ, Bool, false, ◌&&◌, eqb}
use Rattle.std.proofs.Common.{sym, ◌∙◌, eq-eqb, ne_eqb, lt-ltb, le-ltb, le-leb}
use Rattle.std.proofs.lemmas.Bool.{lt-leb}

pub ruleset cases = (eq-eqb, ne_eqb, lt-ltb, le-ltb, le-leb, lt-leb)

module _ (v w : ℕ) (t : Bool) (e : v ≡ w) where
  pub and_stop : (v ≡ 0 → ⊥) → false ≡ eqb w 0 && t
  and_stop h = rw (ne_eqb w 0 (λ q. h (e ∙ q)))

  pub and_next : (r : Bool) → v ≡ 0 → r ≡ t → r ≡ eqb w 0 && t
  and_next r h k = rw (eq-eqb w 0 (sym e ∙ h)) k
