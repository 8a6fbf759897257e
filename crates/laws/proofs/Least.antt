-- The least of finitely many numbers: among those below k that are open, the one of least cost, and the lowest of these on a tie.
--   least_promised    what `least` picks is so
--   least_cong        it goes by what is shut and what it costs alone
use Prim.Native.Nat.{ℕ, zero, suc, ◌<◌, ◌≤◌}
use Rattle.std.specs.Prelude.{◌≡◌, Bool, true, false, cond, ltb}
use Rattle.std.proofs.Math.Path.{refl}
use Rattle.std.proofs.Common.{sym, ◌∙◌, true≢false, arith, ltb-true, ltb-false}
use borrow.Author.Count.{below_none, below_more}
use Rattle.laws.specs.Least.{Pick, nowhere, at, better, least, IsLeast, Promised}

-- what holds of each number below k, and of k, holds of each below k + 1
upto : (P : ℕ → Type 0) (k : ℕ) → ((t : ℕ) → t < k → P t) → P k → (t : ℕ) → t < suc k → P t
upto P k f p t h = below_more P k f p t (omega arith)

module _ (shut : ℕ → Bool) (cost : ℕ → ℕ) where
  -- one more number, which is shut
  skip : (k : ℕ) (p : Pick) → shut k ≡ true → Promised shut cost k p → Promised shut cost (suc k) p
  skip k nowhere e f = upto (λ t. shut t ≡ true) k f e
  skip k (at s c) e f = record {
    below = omega arith;
    «open» = f.«open»;
    costs = f.costs;
    cheapest = upto (λ t. shut t ≡ false → c ≤ cost t) k f.cheapest (λ q. absurd (true≢false (sym e ∙ q)));
    first = f.first;
  }

  -- one more number, which is open, against the pick s
  later : (k s c : ℕ) → shut k ≡ false → IsLeast shut cost k s c → (b : Bool) → ltb (cost k) c ≡ b
      → Promised shut cost (suc k) (cond b (at k (cost k)) (at s c))
  later k s c e f true q =
      let lt : cost k < c = ltb-true _ _ q in
      record {
        below = omega arith;
        «open» = e;
        costs = refl;
        cheapest = upto (λ t. shut t ≡ false → cost k ≤ cost t) k (λ t h o. omega (arith, f.cheapest t h o)) (λ o. omega arith);
        first = λ t h o. omega (arith, f.cheapest t h o);
      }
  later k s c e f false q =
      let le : c ≤ cost k = ltb-false _ _ q in
      record {
        below = omega arith;
        «open» = f.«open»;
        costs = f.costs;
        cheapest = upto (λ t. shut t ≡ false → c ≤ cost t) k f.cheapest (λ o. le);
        first = f.first;
      }

  take : (k : ℕ) (p : Pick) → shut k ≡ false → Promised shut cost k p → Promised shut cost (suc k) (better p k (cost k))
  take k nowhere e f = record {
    below = omega arith;
    «open» = e;
    costs = refl;
    cheapest = upto (λ t. shut t ≡ false → cost k ≤ cost t) k (λ t h o. absurd (true≢false (sym (f t h) ∙ o))) (λ o. omega arith);
    first = λ t h o. absurd (true≢false (sym (f t h) ∙ o));
  }
  take k (at s c) e f = later k s c e f (ltb (cost k) c) refl

  step : (k : ℕ) (p : Pick) (b : Bool) → shut k ≡ b → Promised shut cost k p → Promised shut cost (suc k) (cond b p (better p k (cost k)))
  step k p true e f = skip k p e f
  step k p false e f = take k p e f

  pub least_promised : (k : ℕ) → Promised shut cost k (least shut cost k)
  unfolding least
  least_promised zero = below_none (λ t. shut t ≡ true)
  least_promised (suc k) = step k (least shut cost k) (shut k) refl (least_promised k)

pub least_cong : (p q : ℕ → Bool) (f g : ℕ → ℕ) (k : ℕ) → ((s : ℕ) → p s ≡ q s) → ((s : ℕ) → f s ≡ g s) → least p f k ≡ least q g k
unfolding least
least_cong p q f g zero a b = refl
least_cong p q f g (suc k) a b = rw (least_cong p q f g k a b, a k, b k)
