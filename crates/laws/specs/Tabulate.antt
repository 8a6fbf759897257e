-- Lists given place by place.
--   tabulate                            f a, f (a + 1), .., n numbers in all
--   length_tabulate, get_or_tabulate     its length, and what stands in it
--   is_tabulate, filled_tabulate        a list that reads so; an array that a loop has filled to its end
use Rattle.std.specs.Prelude.{ℕ, zero, suc, ◌+◌, ◌<◌, ◌≡◌, refl, List, [], ◌∷◌, length, get_or}
use Rattle.std.proofs.Common.{sym, ap, ◌∙◌, not-suc-le-zero, add-zero, arith, ext_get_or}
use Rattle.laws.specs.Arrays.{Filled}

unfoldable pub tabulate : ℕ → ℕ → (ℕ → ℕ) → List ℕ
tabulate zero a f = []
tabulate (suc n) a f = f a ∷ tabulate n (suc a) f

pub length_tabulate : (n a : ℕ) (f : ℕ → ℕ) → length (tabulate n a f) ≡ n
unfolding tabulate
length_tabulate zero a f = refl
length_tabulate (suc n) a f = ap suc (length_tabulate n (suc a) f)

tabulate_from : (n a : ℕ) (f : ℕ → ℕ) (i : ℕ) → i < n → get_or (tabulate n a f) i 0 ≡ f (a + i)
unfolding tabulate
tabulate_from zero a f i l = absurd (not-suc-le-zero l)
tabulate_from (suc n) a f zero l = rw (add-zero a)
tabulate_from (suc n) a f (suc i) l = tabulate_from n (suc a) f i (omega arith) ∙ ap f (let e : suc a + i ≡ a + suc i = omega arith in e)

pub get_or_tabulate : (n : ℕ) (f : ℕ → ℕ) (i : ℕ) → i < n → get_or (tabulate n 0 f) i 0 ≡ f i
get_or_tabulate n f i l = tabulate_from n 0 f i l ∙ ap f (let e : 0 + i ≡ i = omega arith in e)

-- xs reads as f at each of its n places
pub is_tabulate : (n : ℕ) (f : ℕ → ℕ) (xs : List ℕ) → length xs ≡ n → ((i : ℕ) → i < n → get_or xs i 0 ≡ f i) → xs ≡ tabulate n 0 f
is_tabulate n f xs e h =
    ext_get_or 0 xs (tabulate n 0 f) (e ∙ sym (length_tabulate n 0 f))
    (λ i l. let m : i < n = omega arith in h i m ∙ sym (get_or_tabulate n f i m))

pub filled_tabulate : (n : ℕ) (f : ℕ → ℕ) (xs : List ℕ) → Filled 0 n f n xs → xs ≡ tabulate n 0 f
filled_tabulate n f xs h = is_tabulate n f xs h.long h.each
