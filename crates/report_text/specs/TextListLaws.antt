-- General facts of lists.
--   take_more     the first i + 1 elements are the first i and one more
--   put_one       one element is set
--   put_both      what is put in two steps, the second behind the first
use Rattle.std.specs.Prelude.{ℕ, ◌+◌, ◌<◌, ◌≤◌, ◌≡◌, refl, List, [], ◌∷◌, ◌++◌, length, take, drop, get_or, set}
use Rattle.std.proofs.Common.{◌∙◌, append_assoc, append-nil, ⊎_elim, add-one, arith, length-append, length-take, drop_of_length-le, take-suc, take_all, take_at, length-take-le, drop-drop}
use Rattle.std.proofs.Math.Seq.{take-length, append_snoc, drop-append-add}
use Rattle.std.proofs.lemmas.List.{set_split}
use Rattle.laws.specs.Orders.{le_or_lt}
use Rattle.bytes_copy.specs.Paste.{put_at}

pub take_more : (s : List ℕ) (i : ℕ) → i < length s → take (i + 1) s ≡ take i s ++ (get_or s i 0 ∷ [])
take_more s i l = rw (add-one i) (take-suc s i 0 l)

pub put_one : (d : List ℕ) (i b : ℕ) → i < length d → set d i b ≡ put_at d i (b ∷ []) 1
unfolding put_at
put_one d i b l = rw (add-one i, append_snoc) (set_split d i b l)

past : (d : List ℕ) (k : ℕ) → length d ≤ k → drop k d ≡ []
past d k l = drop_of_length-le d l

-- p is what stands before `at`, which may lie behind the end, and n elements behind it
module _ (d : List ℕ) (at : ℕ) (xs p : List ℕ) (n : ℕ) (e : p ≡ take at d ++ xs) (f : length xs ≡ n) where
  few : length p ≤ at + n
  few = rw e (omega (arith, length-append (take at d) xs, length-take at d))

  all : at ≤ length d → length p ≡ at + n
  all l = rw e (omega (arith, length-append (take at d) xs, length-take-le at d l))

  -- both are found again as they were
  front_again : take (at + n) (p ++ drop (at + n) d) ≡ p
  front_again =
      ⊎_elim (λ (l : at ≤ length d). take_at p (drop (at + n) d) (at + n) (all l))
      (λ (l : length d < at). rw (past d (at + n) (omega arith), append-nil p) (take_all (at + n) p few))
      (le_or_lt at (length d))

  behind_again : (k : ℕ) → drop (at + n + k) (p ++ drop (at + n) d) ≡ drop (at + n + k) d
  behind_again k =
      ⊎_elim (λ (l : at ≤ length d). (rw (all l) at (drop-append-add p (drop (at + n) d) k)) ∙ drop-drop k (at + n) d)
      (λ (l : length d < at). rw (past d (at + n) (omega arith), append-nil p, past d (at + n + k) (omega arith)) (past p (at + n + k) (omega (arith, few))))
      (le_or_lt at (length d))

pub put_both : (d : List ℕ) (at : ℕ) (xs ys : List ℕ)
    → put_at (put_at d at xs (length xs)) (at + length xs) ys (length ys) ≡ put_at d at (xs ++ ys) (length (xs ++ ys))
unfolding put_at
put_both d at xs ys =
    let p = take at d ++ xs in
    let m : at + length (xs ++ ys) ≡ at + length xs + length ys = omega (arith, length-append xs ys) in
    rw (take-length xs, take-length ys, take-length (xs ++ ys), m)
    (rw (front_again d at xs p (length xs) refl refl, behind_again d at xs p (length xs) refl refl (length ys), append_assoc (take at d) xs ys))
