-- Checks 2 and 3 as the code takes them.
--   header_short .. sizes_yes    both checks at each of their tests
--   header_parts, header_made    what check 2 says
use Rattle.std.specs.Prelude.{ℕ, ◌<◌, ◌≤◌, ◌≡◌, Bool, true, false, ◌&&◌, List, length, leb, eqb}
use Rattle.std.proofs.Common.{sym, ◌∙◌}
use Rattle.std.proofs.Math.Bool.{and-false}
use borrow.Author.Tests.{eq-eqb, ne_eqb, le-leb, lt-leb, leb-true, eqb-true}
use Rattle.laws.specs.Bools.{and_parts}
use Rattle.update_header.specs.Fields.{version, loader_version, data_size, total_size, table_count}
use Rattle.update_sizes.specs.Sizes.{sizes_ok}
use Rattle.update_header.specs.Checks.{header_ok, sizes_fit}

module _ (s : List ℕ) where
  pub header_short : length s < 48 → false ≡ header_ok s
  unfolding header_ok
  header_short l = rw (lt-leb 48 (length s) l)

  module _ (v : ℕ) (e : v ≡ version s) where
    pub header_version : (v ≡ 1 → ⊥) → false ≡ header_ok s
    unfolding header_ok
    header_version h = rw (ne_eqb (version s) 1 (λ q. h (e ∙ q)), and-false (leb 48 (length s)))

    pub header_loader : (l : ℕ) → l ≡ loader_version s → 48 ≤ length s → v ≡ 1 → eqb l 1 ≡ header_ok s
    unfolding header_ok
    header_loader l f h k = rw (f, le-leb 48 (length s) h, eq-eqb (version s) 1 (sym e ∙ k))

  -- r is what the size rule answered
  module _ (d t n : ℕ) (r : Bool) (e : d ≡ data_size s) (f : t ≡ total_size s) (g : n ≡ table_count s) (h : r ≡ sizes_ok d t n) where
    pub sizes_no : r ≡ false → false ≡ sizes_fit s
    unfolding sizes_fit
    sizes_no k = rw (← e, ← f, ← g, ← h, k)

    pub sizes_yes : r ≡ true → leb t (length s) ≡ sizes_fit s
    unfolding sizes_fit
    sizes_yes k = rw (← e, ← f, ← g, ← h, k)

pub header_parts : (s : List ℕ) → header_ok s ≡ true → (48 ≤ length s) × (version s ≡ 1) × (loader_version s ≡ 1)
unfolding header_ok
header_parts s h =
    let a = and_parts (leb 48 (length s) && eqb (version s) 1) (eqb (loader_version s) 1) h in
    let b = and_parts (leb 48 (length s)) (eqb (version s) 1) a.0 in
    (leb-true 48 (length s) b.0, eqb-true (version s) 1 b.1, eqb-true (loader_version s) 1 a.1)

pub header_made : (s : List ℕ) → 48 ≤ length s → version s ≡ 1 → loader_version s ≡ 1 → header_ok s ≡ true
unfolding header_ok
header_made s l v w = rw (le-leb 48 (length s) l, v, w)
