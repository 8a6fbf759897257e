-- The size rule at each of its tests, and what right sizes say, as inequalities.
--   odd_data .. too_many    what the rule refuses
--   tabled, plain     the rule with a table and without one
--   sizes_sized       the rule says it
--   sizes_alike       the count field matters only where a table fits
use Rattle.std.specs.Prelude.{ℕ, ◌+◌, ◌*◌, ◌%◌, ◌<◌, ◌≤◌, ◌≡◌, Bool, cond, ◌&&◌, ◌||◌}
use Rattle.std.proofs.Math.Path.{refl}
use Rattle.std.proofs.Math.Bool.{true, false, and-false}
use Rattle.std.proofs.Common.{arith}
use Rattle.std.proofs.Math.Dec.{leb, eqb}
use borrow.Author.Tests.{leb-true, eqb-true, eq-eqb, ne_eqb, le-leb, lt-leb}
use Rattle.laws.specs.Bools.{and_parts}
use Rattle.update_sizes.specs.Sizes.{plain_ok, tabled_ok, sizes_ok, entries_of}
use Rattle.update_sizes.specs.SizeLaws.{Sized}

-- the rule at each of its tests
module _ (d t n : ℕ) where
  pub odd_data : (d % 4 ≡ 0 → ⊥) → false ≡ sizes_ok d t n
  unfolding sizes_ok
  odd_data h = rw (ne_eqb (d % 4) 0 h)

  pub too_long : 32768 < t → false ≡ sizes_ok d t n
  unfolding sizes_ok
  too_long l = rw (lt-leb t 32768 l, and-false (eqb (d % 4) 0))

  pub no_entries : (t ≡ 48 + d → ⊥) → n < 1 → false ≡ sizes_ok d t n
  unfolding sizes_ok
  no_entries h l = rw (ne_eqb t (48 + d) h, lt-leb 1 n l, and-false (eqb (d % 4) 0 && leb t 32768))

  pub too_many : (t ≡ 48 + d → ⊥) → 64 < n → false ≡ sizes_ok d t n
  unfolding sizes_ok
  too_many h l = rw (ne_eqb t (48 + d) h, lt-leb n 64 l, and-false (leb 1 n), and-false (eqb (d % 4) 0 && leb t 32768))

  -- D is a multiple of 4, and then T with a table is one
  pub tabled : d % 4 ≡ 0 → t ≤ 32768 → (t ≡ 48 + d → ⊥) → 1 ≤ n → n ≤ 64 → eqb t (48 + d + 20 + 12 * n) ≡ sizes_ok d t n
  unfolding sizes_ok
  tabled dwords small other some few =
      rw (eq-eqb (d % 4) 0 dwords, le-leb t 32768 small, ne_eqb t (48 + d) other, le-leb 1 n some, le-leb n 64 few)
      (go (eqb t (48 + d + 20 + 12 * n)) refl)
    where
      go : (x : Bool) → eqb t (48 + d + 20 + 12 * n) ≡ x → x ≡ x && eqb (t % 4) 0
      go true q = rw (eq-eqb (t % 4) 0 (omega (arith, eqb-true t (48 + d + 20 + 12 * n) q)))
      go false q = refl

  -- T is a multiple of 1,024, and then D is one of 4
  pub plain : (t % 1024 ≡ 0 → t ≤ 32768) → t ≡ 48 + d → eqb (t % 1024) 0 ≡ sizes_ok d t n
  unfolding sizes_ok
  plain small e =
      rw (eq-eqb t (48 + d) e, ne_eqb t (48 + d + 20 + 12 * n) (λ q. omega arith), and-false (leb 1 n && leb n 64)) (go (eqb (t % 1024) 0) refl)
    where
      go : (x : Bool) → eqb (t % 1024) 0 ≡ x → x ≡ eqb (d % 4) 0 && leb t 32768 && (x || false)
      go true q =
          let k = eqb-true (t % 1024) 0 q in
          rw (eq-eqb (d % 4) 0 (omega (arith, k)), le-leb t 32768 (small k))
      go false q = rw (and-false (eqb (d % 4) 0 && leb t 32768))

-- T = 48 + D, or there is a table
sizes_parts : (d t n : ℕ) → sizes_ok d t n ≡ true → (d % 4 ≡ 0) × (t ≤ 32768) × (plain_ok d t || tabled_ok d t n ≡ true)
unfolding sizes_ok
sizes_parts d t n h =
    let a = and_parts (eqb (d % 4) 0 && leb t 32768) (plain_ok d t || tabled_ok d t n) h in
    let b = and_parts (eqb (d % 4) 0) (leb t 32768) a.0 in
    (eqb-true (d % 4) 0 b.0, leb-true t 32768 b.1, a.1)

tabled_parts : (d t n : ℕ) → tabled_ok d t n ≡ true → (1 ≤ n) × (n ≤ 64) × (t ≡ 48 + d + 20 + 12 * n)
tabled_parts d t n h =
    let x = (and_parts (leb 1 n && leb n 64 && eqb t (48 + d + 20 + 12 * n)) (eqb (t % 4) 0) h).0 in
    let y = and_parts (leb 1 n && leb n 64) (eqb t (48 + d + 20 + 12 * n)) x in
    let z = and_parts (leb 1 n) (leb n 64) y.0 in
    (leb-true 1 n z.0, leb-true n 64 z.1, eqb-true t (48 + d + 20 + 12 * n) y.1)

pub sizes_sized : (d t n : ℕ) → sizes_ok d t n ≡ true → Sized d t (entries_of d t n)
unfolding entries_of
sizes_sized d t n h = let a = sizes_parts d t n h in go a.0 a.1 (eqb t (48 + d)) refl a.2
  where
    go : d % 4 ≡ 0 → t ≤ 32768 → (u : Bool) → eqb t (48 + d) ≡ u → (u && eqb (t % 1024) 0) || tabled_ok d t n ≡ true → Sized d t (entries_of d t n)
    go dwords small true q w =
        let e = eqb-true t (48 + d) q in
        rw q (record { dwords = dwords; small = small; few = omega arith; layout = omega arith })
    go dwords small false q w =
        let x = tabled_parts d t n w in
        rw q (record { dwords = dwords; small = small; few = x.1; layout = omega (arith, x.0, x.2) })

-- the count field matters only where a table fits
pub sizes_alike : (d t a b : ℕ) → sizes_ok d t a ≡ true → (52 + d ≤ t → a ≡ b) → (sizes_ok d t b ≡ true) × (entries_of d t a ≡ entries_of d t b)
unfolding sizes_ok entries_of
sizes_alike d t a b h e =
    let x = and_parts (eqb (d % 4) 0 && leb t 32768) (plain_ok d t || tabled_ok d t a) h in
    rw x.0 (go (eqb t (48 + d)) refl x.1)
  where
    go : (u : Bool) → eqb t (48 + d) ≡ u → (u && eqb (t % 1024) 0) || tabled_ok d t a ≡ true
        → ((u && eqb (t % 1024) 0) || tabled_ok d t b ≡ true) × (cond u 0 a ≡ cond u 0 b)
    go true q w = (kept (eqb (t % 1024) 0) w, refl)
      where
        kept : (x : Bool) → x || tabled_ok d t a ≡ true → x || tabled_ok d t b ≡ true
        kept true w = refl
        kept false w = let y = tabled_parts d t a w in absurd (let z : ⊥ = omega (arith, y.2, eqb-true t (48 + d) q) in z)
    go false q w =
        let y = tabled_parts d t a w in
        let f : a ≡ b = e (omega (arith, y.2)) in
        (rw f at w, f)
