-- Laws of the digest.
--   digest_none    of no numbers
--   digest_next    one number more
--   digest_four    four numbers more
--   digest_fours   the same, by fours; digest_rest    where the fours end
--   digest_all     up to the end
--   index_none .. index_all    the same of the words of an index
--   four_steps     four steps are one sum modulo 2^32 - 5
use Rattle.std.specs.Prelude.{◌≡◌, ℕ, ◌+◌, ◌*◌, ◌/◌, ◌%◌, ◌≤◌, List, [], length, slice_index, slice_index_or}
use Rattle.std.proofs.Math.Path.{refl}
use Rattle.std.proofs.Common.{sym}
use Rattle.std.proofs.Math.Nat.{add-mul-mod_self_left}
use Rattle.std.proofs.Math.Numerals.{add-one}
use native.Mathlib.Omega.{arith}
use Rattle.store_index.specs.IndexColumns.{word_at}
use Rattle.test_vectors.specs.Digest.{modulus, digest_step, digest_to, byte_at, digest, index_digest}

-- numbers of f
module _ (f : ℕ → ℕ) where
  none : 1 ≡ digest_to f 0
  unfolding digest_to
  none = refl

  next : (i j h r : ℕ) → r ≡ digest_step h (f i) → h ≡ digest_to f i → j ≡ i + 1 → r ≡ digest_to f j
  unfolding digest_to
  next i j h r e k l = rw (l, add-one i, ← k) e

-- bytes
module _ (s : List ℕ) where
  pub digest_none : 1 ≡ digest_to (byte_at s) 0
  digest_none = none (byte_at s)

  pub digest_next : (i j h r : ℕ) → r ≡ digest_step h (slice_index s i) → h ≡ digest_to (byte_at s) i → j ≡ i + 1 → r ≡ digest_to (byte_at s) j
  unfolding byte_at
  digest_next = next (byte_at s)

  pub digest_four : (i h r : ℕ) → r ≡ digest_step (digest_step (digest_step (digest_step h (slice_index s i)) (slice_index s (i + 1))) (slice_index s (i + 2))) (slice_index s (i + 3)) → h ≡ digest_to (byte_at s) i → r ≡ digest_to (byte_at s) (i + 4)
  digest_four i h r e k =
      let one = digest_next i (i + 1) h _ refl k refl in
      let two = digest_next (i + 1) (i + 2) _ _ refl one (omega arith) in
      let three = digest_next (i + 2) (i + 3) _ _ refl two (omega arith) in
      digest_next (i + 3) (i + 4) _ r e three (omega arith)

  pub digest_fours : (k h r : ℕ) → r ≡ digest_step (digest_step (digest_step (digest_step h (slice_index s (4 * k))) (slice_index s (4 * k + 1))) (slice_index s (4 * k + 2))) (slice_index s (4 * k + 3)) → h ≡ digest_to (byte_at s) (4 * k) → r ≡ digest_to (byte_at s) (4 * (k + 1))
  digest_fours k h r e f = let q : 4 * (k + 1) ≡ 4 * k + 4 = omega arith in rw q (digest_four (4 * k) h r e f)

  pub digest_rest : (k n h : ℕ) → h ≡ digest_to (byte_at s) (4 * k) → k ≤ n / 4 → n / 4 ≤ k → h ≡ digest_to (byte_at s) (n / 4 * 4)
  digest_rest k n h e l m = let q : n / 4 * 4 ≡ 4 * k = omega arith in rw q e

  pub digest_all : (i h : ℕ) → h ≡ digest_to (byte_at s) i → i ≤ length s → length s ≤ i → h ≡ digest s
  unfolding digest
  digest_all i h k l m = let e : length s ≡ i = omega arith in rw e k

-- words of an index
module _ (x : List (List ℕ)) where
  pub index_none : 1 ≡ digest_to (word_at x) 0
  index_none = none (word_at x)

  pub index_next : (i j h r : ℕ) → r ≡ digest_step h (slice_index (slice_index_or x (i / 32) []) (i % 32)) → h ≡ digest_to (word_at x) i → j ≡ i + 1 → r ≡ digest_to (word_at x) j
  unfolding word_at
  index_next = next (word_at x)

  pub index_all : (i h : ℕ) → h ≡ digest_to (word_at x) i → i ≤ 128 → 128 ≤ i → h ≡ index_digest x
  unfolding index_digest
  index_all i h k l m = let e : 128 ≡ i = omega arith in rw e k

pub ruleset indexing = (index_none, index_next, index_all)

two_steps : (h a b : ℕ) → digest_step (digest_step h a) b ≡ digest_step (h * 31 + a) b
unfolding digest_step
two_steps h a b =
    let x = h * 31 + a in
    let e : x * 31 + b ≡ x % modulus * 31 + b + modulus * (31 * (x / modulus)) = omega arith in
    rw e (sym (add-mul-mod_self_left (x % modulus * 31 + b) modulus (31 * (x / modulus))))

one_sum : (h a b c d : ℕ) → (h * 923521 + a * 29791 + b * 961 + c * 31 + d) % modulus ≡ digest_step (((h * 31 + a) * 31 + b) * 31 + c) d
unfolding digest_step
one_sum h a b c d =
    let e : h * 923521 + a * 29791 + b * 961 + c * 31 + d ≡ (((h * 31 + a) * 31 + b) * 31 + c) * 31 + d = omega arith in
    rw e

pub four_steps : (h a b c d : ℕ) → (h * 923521 + a * 29791 + b * 961 + c * 31 + d) % modulus ≡ digest_step (digest_step (digest_step (digest_step h a) b) c) d
four_steps h a b c d = rw (two_steps h a b, two_steps (h * 31 + a) b c, two_steps ((h * 31 + a) * 31 + b) c d) (one_sum h a b c d)
