-- Arrays: one that a loop fills from the front, and one of marks.
--   Filled                        its first i elements are f 0, f 1, .., and those behind them z
--   filled_none, filled_more      a loop's start and its turn
--   filled_at, filled_all         what stands in it, and the loop's end
--   filling                       all of them, for `search`
--   set_long                      a list keeps its length where one element is set
--   mark_at                       mark i of an array of marks
use Rattle.std.specs.Prelude.{ℕ, zero, suc, ◌+◌, ◌<◌, ◌≤◌, ◌≡◌, refl, Bool, false, List, length, get_or, set, replicate}
use Rattle.std.proofs.Common.{◌∙◌, ⊎_elim, eq-or-lt_of_le, arith, length-set, get_or-set_same, get_or-set_other}
use Rattle.std.proofs.lemmas.List.{length-replicate}

-- z is what stands where nothing was filled, and behind the end
pub record Filled {A : Type 0} (z : A) (size : ℕ) (f : ℕ → A) (i : ℕ) (xs : List A) : Type 0 where
  pub long : length xs ≡ size
  pub each : (k : ℕ) → k < i → get_or xs k z ≡ f k
  pub rest : (k : ℕ) → i ≤ k → get_or xs k z ≡ z

-- where nothing is filled yet
same_all : {A : Type 0} (z : A) (size k : ℕ) → get_or (replicate size z) k z ≡ z
same_all z zero k = refl
same_all z (suc n) zero = refl
same_all z (suc n) (suc k) = same_all z n k

pub filled_none : {A : Type 0} (z : A) (size : ℕ) (f : ℕ → A) → Filled z size f 0 (replicate size z)
filled_none z size f = record { long = length-replicate size z; each = λ k l. absurd (omega arith); rest = λ k l. same_all z size k }

module _ {A : Type 0} (z : A) (size : ℕ) (f : ℕ → A) (xs : List A) where
  -- x is what a call answered of number i
  pub filled_more : (i : ℕ) (x : A) → Filled z size f i xs → i < size → x ≡ f i → Filled z size f (i + 1) (set xs i x)
  filled_more i x h l e = record { long = length-set xs i x ∙ h.long; each = λ k m. ⊎_elim (λ q. same k q) (λ m. other k m) (eq-or-lt_of_le {n = k} {m = i} (omega arith)); rest = behind }
    where
      same : (k : ℕ) → k ≡ i → get_or (set xs i x) k z ≡ f k
      same k q = rw q (get_or-set_same xs i x z (omega (arith, h.long)) ∙ e)

      other : (k : ℕ) → k < i → get_or (set xs i x) k z ≡ f k
      other k m = get_or-set_other xs i k x z (λ q. omega arith) ∙ h.each k m

      behind : (k : ℕ) → i + 1 ≤ k → get_or (set xs i x) k z ≡ z
      behind k m = get_or-set_other xs i k x z (λ q. omega arith) ∙ h.rest k (omega arith)

  pub filled_at : (i k : ℕ) → Filled z size f i xs → k < i → get_or xs k z ≡ f k
  filled_at i k h l = h.each k l

  pub filled_all : (i n : ℕ) → Filled z size f i xs → i ≤ n → n ≤ i → Filled z size f n xs
  filled_all i n h l m = let q : i ≡ n = omega arith in rw q at h

pub ruleset filling = (filled_none, filled_more, filled_at, filled_all)

pub set_long : (r d : List ℕ) (i b : ℕ) → length r ≡ length d → length (set r i b) ≡ length d
set_long r d i b e = length-set r i b ∙ e

unfoldable pub mark_at : List Bool → ℕ → Bool
mark_at xs i = get_or xs i false
