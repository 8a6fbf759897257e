-- Two indexes that are the same.
--   same_lines, lines_same     they are exactly if their lines are
--   same_self                  an index is the same as itself
use Rattle.std.specs.Prelude.{ℕ, ◌<◌, ◌≡◌, refl, true, ◌&&◌, get_or}
use Rattle.std.proofs.Common.{ap}
use Rattle.std.proofs.Math.Dec.{eqb}
use borrow.Author.Tests.{eqb-true, eq-eqb}
use Rattle.laws.specs.Bools.{and_parts, and_made}
use Rattle.laws.specs.Below.{all_at, all_true}
use Rattle.store_index.specs.declared.Line.{Line}
use Rattle.store_index.specs.declared.Index.{Index}
use Rattle.store_index.specs.Index.{line_of}
use Rattle.store_index.specs.SameIndex.{same_line, same_index}

module _ (x y : Index) where
  pub same_lines : same_index x y ≡ true → (c : ℕ) → c < 32 → line_of x c ≡ line_of y c
  unfolding same_index same_line line_of
  same_lines h c l =
      let w = and_parts (eqb (get_or x.kinds c 0) (get_or y.kinds c 0) && eqb (get_or x.starts c 0) (get_or y.starts c 0)) (eqb (get_or x.revisions c 0) (get_or y.revisions c 0) && eqb (get_or x.sizes c 0) (get_or y.sizes c 0)) (all_at (same_line x y) 32 c h l) in
      let a = and_parts (eqb (get_or x.kinds c 0) (get_or y.kinds c 0)) (eqb (get_or x.starts c 0) (get_or y.starts c 0)) w.0 in
      let b = and_parts (eqb (get_or x.revisions c 0) (get_or y.revisions c 0)) (eqb (get_or x.sizes c 0) (get_or y.sizes c 0)) w.1 in
      rw (eqb-true (get_or x.kinds c 0) (get_or y.kinds c 0) a.0, eqb-true (get_or x.starts c 0) (get_or y.starts c 0) a.1, eqb-true (get_or x.revisions c 0) (get_or y.revisions c 0) b.0, eqb-true (get_or x.sizes c 0) (get_or y.sizes c 0) b.1)

  pub lines_same : ((c : ℕ) → c < 32 → line_of x c ≡ line_of y c) → same_index x y ≡ true
  unfolding same_index same_line line_of
  lines_same h =
      all_true (same_line x y) 32 (λ c l.
      let e = h c l in
      and_made
      (and_made (eq-eqb (get_or x.kinds c 0) (get_or y.kinds c 0) (ap (λ (z : Line). z.kind) e)) (eq-eqb (get_or x.starts c 0) (get_or y.starts c 0) (ap (λ (z : Line). z.start) e)))
      (and_made (eq-eqb (get_or x.revisions c 0) (get_or y.revisions c 0) (ap (λ (z : Line). z.revision) e)) (eq-eqb (get_or x.sizes c 0) (get_or y.sizes c 0) (ap (λ (z : Line). z.size) e))))

pub same_self : (x : Index) → same_index x x ≡ true
same_self x = lines_same x x (λ c l. refl)
