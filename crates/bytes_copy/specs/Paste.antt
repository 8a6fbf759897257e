-- What the code does to the bytes: n bytes of one list put at a place of another, and a part filled with FFh.
--   put_at, fill_at           the two
--   put_long .. put_high      the length, and the bytes before, in and behind what was put
--   put_first, put_again      what is put at the front, and what is put from there
--   same_long                 the length of n bytes that are all the same
--   put_start .. fill_done    a loop that puts or fills byte by byte: its start, its turns and its end
--   pasting                   these, as `search` takes them
--   fill_long .. fill_mid     the length, and the bytes outside and in what was filled
use Rattle.std.specs.Prelude.{ℕ, ◌+◌, ◌-◌, ◌<◌, ◌≤◌, ◌≡◌, List, ◌++◌, ◌⊎◌, drop, set, replicate}
use Rattle.std.proofs.Math.Path.{refl, ap}
use Rattle.std.proofs.Common.{sym, ◌∙◌, inl, inr, zero-add, length-append, length-drop, take_at, get_or-append-add}
use native.Mathlib.Omega.{arith}
use Rattle.std.proofs.Math.Numerals.{add-one}
use Rattle.std.proofs.Math.ListN.{length, get_or, take, get_or-append}
use Rattle.std.proofs.lemmas.List.{length-replicate, get_or-replicate}
use Rattle.std.proofs.Math.Seq.{paste, paste-zero, paste-suc, length-paste, length_paste_head, length-take-le, get_or-take, get_or-drop}
use Rattle.laws.specs.Arrays.{set_long}

-- the n bytes from `at` on are those of s
unfoldable pub put_at : List ℕ → ℕ → List ℕ → ℕ → List ℕ
put_at d at s n = paste d at s n

-- they are FFh
unfoldable pub fill_at : List ℕ → ℕ → ℕ → List ℕ
fill_at d at n = paste d at (replicate n 255) n

module _ (d : List ℕ) (at : ℕ) (s : List ℕ) (n : ℕ) (hd : at + n ≤ length d) (hs : n ≤ length s) where
  head_long : length (take at d ++ take n s) ≡ at + n
  head_long = length_paste_head d at s n (omega arith) hs

  pub put_long : length (put_at d at s n) ≡ length d
  unfolding put_at
  put_long = length-paste d at s n hd hs

  pub put_low : (i : ℕ) → i < at → get_or (put_at d at s n) i 0 ≡ get_or d i 0
  unfolding put_at
  put_low i l =
      get_or-append (take at d ++ take n s) (drop (at + n) d) 0 i (omega (arith, head_long))
      ∙ get_or-append (take at d) (take n s) 0 i (omega (arith, length-take-le at d (omega arith)))
      ∙ get_or-take at d i 0 l

  pub put_mid : (i : ℕ) → at ≤ i → i < at + n → get_or (put_at d at s n) i 0 ≡ get_or s (i - at) 0
  unfolding put_at
  put_mid i p q =
      let e : length (take at d) + (i - at) ≡ i = omega (arith, length-take-le at d (omega arith)) in
      get_or-append (take at d ++ take n s) (drop (at + n) d) 0 i (omega (arith, head_long))
      ∙ (rw e at (get_or-append-add (take at d) (take n s) (i - at) 0))
      ∙ get_or-take n s (i - at) 0 (omega arith)

  pub put_high : (i : ℕ) → at + n ≤ i → get_or (put_at d at s n) i 0 ≡ get_or d i 0
  unfolding put_at
  put_high i p =
      let e : length (take at d ++ take n s) + (i - (at + n)) ≡ i = omega (arith, head_long) in
      let f : at + n + (i - (at + n)) ≡ i = omega arith in
      (rw e at (get_or-append-add (take at d ++ take n s) (drop (at + n) d) (i - (at + n)) 0))
      ∙ get_or-drop (at + n) d (i - (at + n)) 0
      ∙ ap (λ k. get_or d k 0) f

pub put_first : (d s : List ℕ) (n : ℕ) → put_at d 0 s n ≡ take n s ++ drop n d
unfolding put_at
put_first d s n = ap (λ k. take n s ++ drop k d) (zero-add n)

-- n bytes put at the front of z, and from there at `at`
pub put_again : (d : List ℕ) (at : ℕ) (z s : List ℕ) (n : ℕ) → n ≤ length s → put_at d at (put_at z 0 s n) n ≡ put_at d at s n
unfolding put_at
put_again d at z s n h = rw (take_at (take n s) (drop (0 + n) z) n (length-take-le n s h))

pub same_long : (k n b : ℕ) → k ≤ n → k ≤ length (replicate n b)
same_long k n b h = omega (arith, length-replicate n b)

-- a loop's start, its turn and its end
module _ (d : List ℕ) (at : ℕ) where
  pub put_start : (s : List ℕ) → d ≡ put_at d at s 0
  unfolding put_at
  put_start s = paste-zero d at s

  put_more : (s r : List ℕ) (i b : ℕ) → r ≡ put_at d at s i → b ≡ get_or s i 0 → at + i < length d → i < length s → set r (at + i) b ≡ put_at d at s (i + 1)
  unfolding put_at
  put_more s r i b e f p q = rw (e, f, add-one i) (paste-suc d at s i 0 p q)

  pub put_copy : (s r : List ℕ) (i n : ℕ) → r ≡ put_at d at s i → at + n ≤ length d → n ≤ length s → i < n → set r (at + i) (get_or s i 0) ≡ put_at d at s (i + 1)
  put_copy s r i n e p q l = put_more s r i (get_or s i 0) e refl (omega arith) (omega arith)

  pub put_done : (s r : List ℕ) (i n : ℕ) → r ≡ put_at d at s i → i ≤ n → n ≤ i → r ≡ put_at d at s n
  put_done s r i n h p q = let e : i ≡ n = omega arith in rw e at h

  -- filling is putting FFh
  fill_put : (n : ℕ) → fill_at d at n ≡ put_at d at (replicate n 255) n
  unfolding fill_at put_at
  fill_put n = refl

  pub fill_more : (r : List ℕ) (i n : ℕ) → r ≡ put_at d at (replicate n 255) i → at + n ≤ length d → i < n → set r (at + i) 255 ≡ put_at d at (replicate n 255) (i + 1)
  fill_more r i n h p q = put_more (replicate n 255) r i 255 h (sym (get_or-replicate n i 255 0 q)) (omega arith) (omega (arith, length-replicate {A = ℕ} n 255))

  pub fill_done : (r : List ℕ) (i n : ℕ) → r ≡ put_at d at (replicate n 255) i → i ≤ n → n ≤ i → r ≡ fill_at d at n
  fill_done r i n h p q = put_done (replicate n 255) r i n h p q ∙ sym (fill_put n)

-- a turn at the front: `set` is at i, not at 0 + i
pub front_copy : (d s r : List ℕ) (i n : ℕ) → r ≡ put_at d 0 s i → n ≤ length r → n ≤ length s → i < n → set r i (get_or s i 0) ≡ put_at d 0 s (i + 1)
front_copy d s r i n e p q l =
    let f : length r ≡ length (take i s) + length (drop i d) = ap length (e ∙ put_first d s i) ∙ length-append (take i s) (drop i d) in
    let h : i < length d = omega (arith, length-take-le i s (omega arith), length-drop i d) in
    rw (zero-add i) at (put_more d 0 s r i (get_or s i 0) e refl (omega arith) (omega arith))

-- the end of two loops, the first of which puts at the front of z, and the second from there at `at`
pub put_through : (d : List ℕ) (at : ℕ) (z s p r : List ℕ) (i j n : ℕ) → p ≡ put_at z 0 s i → i ≤ n → n ≤ i → r ≡ put_at d at p j → j ≤ n → n ≤ j → n ≤ length s → r ≡ put_at d at s n
put_through d at z s p r i j n e a b f k l h = put_done d at p r j n f k l ∙ ap (λ q. put_at d at q n) (put_done z 0 s p i n e a b) ∙ put_again d at z s n h

pub ruleset pasting = (put_start, put_copy, front_copy, put_done, put_through, fill_more, fill_done, set_long)

module _ (d : List ℕ) (at n : ℕ) (hd : at + n ≤ length d) where
  ones_long : n ≤ length (replicate {A = ℕ} n 255)
  ones_long = same_long n n 255 (omega arith)

  pub fill_long : length (fill_at d at n) ≡ length d
  fill_long = rw (fill_put d at n) (put_long d at (replicate n 255) n hd ones_long)

  pub fill_out : (i : ℕ) → (i < at) ⊎ (at + n ≤ i) → get_or (fill_at d at n) i 0 ≡ get_or d i 0
  fill_out i (inl l) = rw (fill_put d at n) (put_low d at (replicate n 255) n hd ones_long i l)
  fill_out i (inr l) = rw (fill_put d at n) (put_high d at (replicate n 255) n hd ones_long i l)

  pub fill_mid : (i : ℕ) → at ≤ i → i < at + n → get_or (fill_at d at n) i 0 ≡ 255
  fill_mid i p q = rw (fill_put d at n) (put_mid d at (replicate n 255) n hd ones_long i p q ∙ get_or-replicate n (i - at) 255 0 (omega arith))
