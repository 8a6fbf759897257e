-- Laws of input that arrives in pieces: in how many it arrives makes no difference.
--   fitting_most, fitting_room      a buffer takes no more than the piece has, and no more than there is room for
--   add_turn, add_end, add_count    the bytes of a piece put one by one
--   put_some, put_none              some bytes of a piece are put, and none
--   gathered_none, gathered_more    before the first piece, and after one more
--   add_still, add_within, add_less    of a piece that isn't empty a buffer with room takes some bytes
use Rattle.std.specs.Prelude.{ℕ, ◌+◌, ◌-◌, ◌<◌, ◌≤◌, min, ◌≡◌, refl, List, [], ◌++◌, get_or, drop, set}
use Rattle.std.proofs.Common.{sym, ◌∙◌, append-nil, append_assoc, ⊎_elim, arith, drop-drop, length-append, take_all}
use Rattle.std.proofs.Math.Path.{ap}
use Rattle.std.proofs.Math.ListN.{length, take}
use Rattle.std.proofs.Math.Seq.{take-nil, take_at, take-append-add, length_paste_head}
use Rattle.std.proofs.lemmas.List.{take-append-le}
use Rattle.laws.specs.Orders.{le_or_lt}
use Rattle.bytes_copy.specs.Paste.{put_at, put_long, put_start, put_copy, put_done}
use Rattle.report_input.specs.Input.{fitting, count_with, bytes_with, Gathered}

-- r is the number that a call gave
module _ (size have n r : ℕ) (e : r ≡ fitting size have n) where
  pub fitting_most : r ≤ n
  unfolding fitting
  fitting_most = omega (arith, e)

  pub fitting_room : r ≤ size - have
  unfolding fitting
  fitting_room = omega (arith, e)

-- the loop that puts the first n bytes of a piece, byte by byte: r is the buffer at byte i
module _ (d s r : List ℕ) (have i n : ℕ) (e : r ≡ put_at d have s i) where
  pub add_turn : n ≤ length s → n ≤ length d - have → i < n → set r (have + i) (get_or s i 0) ≡ put_at d have s (i + 1)
  add_turn p q l = put_copy d have s r i n e (omega arith) p l

  -- n is the number that a call gave
  pub add_end : n ≡ fitting (length d) have (length s) → i ≤ n → n ≤ i → r ≡ bytes_with d have s
  add_end f p q = rw (← f) (put_done d have s r i n e p q)

pub add_count : (have n m : ℕ) → n ≡ m → have + n ≡ have + m
add_count have n m e = ap (λ k. have + k) e

-- the first n bytes of a piece are put; n is the number that a call gave
module _ (d s : List ℕ) (have n : ℕ) (e : n ≡ fitting (length d) have (length s)) where
  pub put_some : (k : ℕ) → k ≡ n → take have d ++ (take n s ++ drop k (drop have d)) ≡ bytes_with d have s
  unfolding put_at
  put_some k f = rw (f, drop-drop n have d, ← append_assoc, ← e)

  pub put_none : n ≤ 0 → d ≡ bytes_with d have s
  put_none l = let z : n ≡ 0 = omega arith in rw (← e, z) (put_start d have s)

pub gathered_none : (buffer : List ℕ) → Gathered buffer 0 []
gathered_none buffer = record { count = omega arith; bytes = sym (take-nil (length buffer)) }

-- a bound above the length takes no more
take_few : (m : ℕ) (l : List ℕ) → take (min (length l) m) l ≡ take m l
take_few m l =
    ⊎_elim
    (λ (h : length l ≤ m).
    let e : min (length l) m ≡ length l = omega arith in
    rw e (take_all (length l) l (omega arith) ∙ sym (take_all m l h)))
    (λ (h : m < length l). let e : min (length l) m ≡ m = omega arith in rw e)
    (le_or_lt (length l) m)

-- what a bound takes of two lists
take_both : (size : ℕ) (all piece : List ℕ) → take size all ++ take (size - min size (length all)) piece ≡ take size (all ++ piece)
take_both size all piece =
    ⊎_elim
    (λ (h : length all ≤ size).
    let e : size ≡ length all + (size - min size (length all)) = omega arith in
    ap (λ l. l ++ take (size - min size (length all)) piece) (take_all size all h)
    ∙ sym (take-append-add all piece (size - min size (length all)))
    ∙ ap (λ n. take n (all ++ piece)) (sym e))
    (λ (h : size < length all).
    let e : size - min size (length all) ≡ 0 = omega arith in
    ap (λ n. take size all ++ take n piece) e ∙ append-nil (take size all) ∙ sym (take-append-le size all piece (omega arith)))
    (le_or_lt (length all) size)

-- a piece more, of which k bytes fit
module _ (buffer : List ℕ) (have : ℕ) (all piece : List ℕ) (g : Gathered buffer have all) (k : ℕ)
    (e : min (length piece) (length buffer - have) ≡ k) where
  inside : have + k ≤ length buffer
  inside = omega (arith, g.count)

  bytes_more : take (have + k) (put_at buffer have piece k) ≡ take (length buffer) (all ++ piece)
  unfolding put_at
  bytes_more =
      take_at (take have buffer ++ take k piece) (drop (have + k) buffer) (have + k) (length_paste_head buffer have piece k (omega (arith, inside)) (omega arith))
      ∙ ap (λ l. l ++ take k piece) g.bytes
      ∙ ap (λ n. take (length buffer) all ++ take n piece) (sym e)
      ∙ ap (λ l. take (length buffer) all ++ l) (take_few (length buffer - have) piece)
      ∙ ap (λ n. take (length buffer) all ++ take (length buffer - n) piece) g.count
      ∙ take_both (length buffer) all piece

  more : Gathered (put_at buffer have piece k) (have + k) (all ++ piece)
  more =
      let l : length (put_at buffer have piece k) ≡ length buffer = put_long buffer have piece k inside (omega arith) in
      record {
        count = omega (arith, l, length-append all piece, g.count);
        bytes = bytes_more ∙ ap (λ n. take n (all ++ piece)) (sym l);
      }

pub gathered_more : (buffer : List ℕ) (have : ℕ) (all piece : List ℕ) → Gathered buffer have all
    → Gathered (bytes_with buffer have piece) (count_with buffer have piece) (all ++ piece)
unfolding fitting
gathered_more buffer have all piece g = more buffer have all piece g _ refl

-- of a piece that isn't empty a buffer with room takes some bytes: m is how many it holds then, r what it is then
module _ (d s r : List ℕ) (have n m : ℕ) (l : have < length d) (h : n ≡ 0 → ⊥) (f : n ≡ length s)
    (e : m ≡ count_with d have s) (g : r ≡ bytes_with d have s) where
  add_long : length r ≡ length d
  unfolding fitting
  add_long = ap length g ∙ put_long d have s (min (length s) (length d - have)) (omega arith) (omega arith)

  -- b is how long the buffer was before the first piece
  pub add_still : (b : ℕ) → length d ≡ b → length r ≡ b
  add_still b q = add_long ∙ q

  pub add_within : m ≤ length r
  unfolding fitting
  add_within = omega (arith, add_long, e)

  pub add_less : length r - m < length d - have
  unfolding fitting
  add_less = let p : 0 < n = omega (arith, h) in omega (arith, add_long, e)
