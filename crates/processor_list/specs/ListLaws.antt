-- The processor list's rule.
--   list_tests             a return at each test, as `search` takes it
--   GoodList, good_list    what a right list says, from what a call answered
--   list_few, list_same, list_right    parts of it
--   listed_platform        a platform of a right list is at most 7
use Rattle.std.specs.Prelude.{ℕ, ◌<◌, ◌≤◌, ◌≡◌, refl, Bool, true, false, ◌&&◌, get_or, leb, eqb}
use Rattle.std.proofs.Common.{sym, ◌∙◌}
use native.Mathlib.Omega.{arith}
use Rattle.std.proofs.Math.ListN.{length}
use borrow.Author.Tests.{eq-eqb, ne_eqb, le-leb, lt-leb, leb-true, eqb-true}
use Rattle.laws.specs.Bools.{and_parts}
use Rattle.laws.specs.Below.{all_below, all_stop, all_at}
use Rattle.processor_list.specs.Processors.{ProcessorList, platform_ok, list_ok, Listed}

module _ (list : ProcessorList) where
  pub list_unequal : (length list.signatures ≡ length list.platforms → ⊥) → false ≡ list_ok list
  unfolding list_ok
  list_unequal h = rw (ne_eqb (length list.signatures) (length list.platforms) h)

  module _ (e : length list.signatures ≡ length list.platforms) where
    pub list_none : length list.signatures < 1 → false ≡ list_ok list
    unfolding list_ok
    list_none l = rw (eq-eqb (length list.signatures) (length list.platforms) e, lt-leb 1 (length list.signatures) l)

    module _ (some : 1 ≤ length list.signatures) where
      pub list_many : 8 < length list.signatures → false ≡ list_ok list
      unfolding list_ok
      list_many l = rw (eq-eqb (length list.signatures) (length list.platforms) e, le-leb 1 (length list.signatures) some, lt-leb (length list.signatures) 8 l)

      module _ (few : length list.signatures ≤ 8) where
        pub list_platform : (i : ℕ) (r : Bool) → i < length list.platforms → r ≡ platform_ok list.platforms i → r ≡ false → false ≡ list_ok list
        unfolding list_ok
        list_platform i r l h k =
            rw (
              eq-eqb (length list.signatures) (length list.platforms) e,
              le-leb 1 (length list.signatures) some,
              le-leb (length list.signatures) 8 few,
              all_stop (platform_ok list.platforms) (length list.platforms) i l (sym h ∙ k),
            )

        pub list_good : (i : ℕ) → all_below i (platform_ok list.platforms) ≡ true → i ≤ length list.platforms → length list.platforms ≤ i → true ≡ list_ok list
        unfolding list_ok
        list_good i h l m =
            let q : i ≡ length list.platforms = omega arith in
            rw (
              eq-eqb (length list.signatures) (length list.platforms) e,
              le-leb 1 (length list.signatures) some,
              le-leb (length list.signatures) 8 few,
              rw q at h,
            )

pub ruleset list_tests = (list_unequal, list_none, list_many, list_platform, list_good)

-- what a right list says
pub record GoodList (list : ProcessorList) : Type 0 where
  pub same : length list.signatures ≡ length list.platforms
  pub few : length list.signatures ≤ 8
  pub low : all_below (length list.platforms) (platform_ok list.platforms) ≡ true

pub good_list : (list : ProcessorList) (r : Bool) → r ≡ list_ok list → r ≡ true → GoodList list
unfolding list_ok
good_list list r e h =
    let a = and_parts (eqb (length list.signatures) (length list.platforms) && leb 1 (length list.signatures) && leb (length list.signatures) 8) (all_below (length list.platforms) (platform_ok list.platforms)) (sym e ∙ h) in
    let b = and_parts (eqb (length list.signatures) (length list.platforms) && leb 1 (length list.signatures)) (leb (length list.signatures) 8) a.0 in
    let c = and_parts (eqb (length list.signatures) (length list.platforms)) (leb 1 (length list.signatures)) b.0 in
    record { same = eqb-true _ _ c.0; few = leb-true _ _ b.1; low = a.1 }

pub list_few : (list : ProcessorList) → list_ok list ≡ true → length list.signatures ≤ 8
list_few list h = (good_list list (list_ok list) refl h).few

pub list_same : (list : ProcessorList) → list_ok list ≡ true → length list.signatures ≡ length list.platforms
list_same list h = (good_list list (list_ok list) refl h).same

pub list_right : (list : ProcessorList) (r : Bool) → r ≡ list_ok list → r ≡ true → list_ok list ≡ true
list_right list r e h = sym e ∙ h

pub listed_platform : (list : ProcessorList) (x p : ℕ) → list_ok list ≡ true → Listed list x p → p ≤ 7
unfolding platform_ok
listed_platform list x p ok w =
    let g = good_list list (list_ok list) refl ok in
    let q = leb-true (get_or list.platforms w.number 0) 7 (all_at (platform_ok list.platforms) (length list.platforms) w.number g.low (omega (arith, g.same, w.within))) in
    rw w.platform at q
