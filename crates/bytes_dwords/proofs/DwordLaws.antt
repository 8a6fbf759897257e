-- Laws of a dword.
--   dword_behind             it is 0 behind the end
--   dword_drop               it is the first of the bytes from i on
--   dword_same               it is settled by its four bytes
--   dword_most               it is at most FFFFFFFFh
--   dword_bytes, dword_made  it is that exactly if its four bytes are FFh
use Rattle.std.specs.Prelude.{◌≡◌, ℕ, ◌+◌, ◌<◌, ◌≤◌, List, length, drop, slice_index, slice_index_or}
use Rattle.std.proofs.Common.{add-zero, get_or-drop}
use native.Mathlib.Omega.{arith}
use Rattle.std.proofs.Math.ListN.{get_or-eq_default}
use Rattle.laws.specs.Same.{Same}
use Rattle.bytes_dwords.specs.Dword.{dword}

pub dword_behind : (s : List ℕ) (i : ℕ) → length s ≤ i → 0 ≡ dword s i
unfolding dword
dword_behind s i l =
    let a = get_or-eq_default s 0 {n = i} l in
    let b = get_or-eq_default s 0 {n = i + 1} (omega arith) in
    let c = get_or-eq_default s 0 {n = i + 2} (omega arith) in
    let d = get_or-eq_default s 0 {n = i + 3} (omega arith) in
    omega arith

pub dword_drop : (s : List ℕ) (k : ℕ) → dword (drop k s) 0 ≡ dword s k
unfolding dword
dword_drop s k = simp (get_or-drop, add-zero)

pub dword_same : (s r : List ℕ) (m i : ℕ) → Same s r m → i + 4 ≤ m → dword s i ≡ dword r i
unfolding dword
dword_same s r m i h l = rw (h i (omega arith), h (i + 1) (omega arith), h (i + 2) (omega arith), h (i + 3) (omega arith))

-- a dword is at most FFFFFFFFh, and it is that exactly if its four bytes are FFh
module _ (s : List ℕ) (bytes : (j : ℕ) → slice_index s j < 256) (i : ℕ) where
  pub dword_most : dword s i ≤ 4294967295
  unfolding dword
  dword_most = omega (arith, bytes i, bytes (i + 1), bytes (i + 2), bytes (i + 3))

  pub dword_bytes : dword s i ≡ 4294967295
      → (slice_index s i ≡ 255) × (slice_index s (i + 1) ≡ 255) × (slice_index s (i + 2) ≡ 255) × (slice_index s (i + 3) ≡ 255)
  unfolding dword
  dword_bytes e =
      let a = bytes i in
      let b = bytes (i + 1) in
      let c = bytes (i + 2) in
      let d = bytes (i + 3) in
      (omega arith, omega arith, omega arith, omega arith)

  pub dword_made : slice_index_or s i 0 ≡ 255 → slice_index s (i + 1) ≡ 255
      → slice_index s (i + 2) ≡ 255 → slice_index s (i + 3) ≡ 255 → dword s i ≡ 4294967295
  unfolding dword
  dword_made a b c d = omega arith
