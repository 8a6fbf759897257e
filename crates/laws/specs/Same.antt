-- Two lists of numbers that read the same at the first m places; a place behind the end reads as 0.
--   Same                   they read the same at each place below m
--   same_less, same_drop   at fewer places; behind the first k
--   same_take              where both are m long or longer, their first m elements are equal lists
use Rattle.std.specs.Prelude.{ℕ, ◌+◌, ◌<◌, ◌≤◌, ◌≡◌, List, length, get_or, take, drop}
use Rattle.std.proofs.Common.{sym, ◌∙◌, arith, get_or-drop, get_or-take, length-take-le, ext_get_or}

abbrev pub Same : List ℕ → List ℕ → ℕ → Type 0
Same s r m = (i : ℕ) → i < m → get_or s i 0 ≡ get_or r i 0

pub same_less : (s r : List ℕ) (m k : ℕ) → Same s r m → k ≤ m → Same s r k
same_less s r m k h l i j = h i (omega arith)

pub same_drop : (s r : List ℕ) (m k : ℕ) → Same s r (k + m) → Same (drop k s) (drop k r) m
same_drop s r m k h i l = get_or-drop k s i 0 ∙ h (k + i) (omega arith) ∙ sym (get_or-drop k r i 0)

pub same_take : (s r : List ℕ) (m : ℕ) → m ≤ length s → m ≤ length r → Same s r m → take m s ≡ take m r
same_take s r m a b h =
    let p : length (take m s) ≡ m = length-take-le m s a in
    let q : length (take m r) ≡ m = length-take-le m r b in
    ext_get_or 0 (take m s) (take m r) (p ∙ sym q)
    (λ i l. let k : i < m = omega arith in get_or-take m s i 0 k ∙ h i k ∙ sym (get_or-take m r i 0 k))
