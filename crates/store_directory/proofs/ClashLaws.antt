-- What the scan for a common processor keeps of the updates that it has passed, and its turns.
--   kept_none, kept_more      the array at the start, and with one more update
--   kept_at                   what stands in the array
--   clash_more, clash_apart, clash_stop   a turn of the inner scan, by the bytes and by the readings, and its way out
--   row_more, clash_done      a turn of the outer scan, and its end
--   clash_few                 fewer than two updates have no processor in common
use Rattle.std.specs.Prelude.{ℕ, zero, suc, ◌+◌, ◌<◌, ◌≤◌, ◌≡◌, refl, Bool, true, false, List, get_or, set, replicate}
use Rattle.std.proofs.Math.Path.{sym}
use Rattle.std.proofs.Common.{◌∙◌}
use native.Mathlib.Omega.{arith}
use Rattle.laws.specs.Below.{any_below, any_more, any_stop}
use Rattle.laws.specs.Loops.{scan_more}
use Rattle.laws.specs.Arrays.{filled_none, filled_more}
use Rattle.update_coverage.specs.Covers.{pairs_of}
use Rattle.update_coverage.specs.declared.Pairs.{Pairs}
use Rattle.update_sharing.specs.Shares.{headers_apart, shares}
use Rattle.update_sharing.proofs.ShareLaws.{headers_apart_lem}
use Rattle.store_blocks.specs.Blocks.{from_block}
use Rattle.store_directory.specs.Scan.{clash_at, clash_row, clash}
use Rattle.store_directory.specs.ClashLaws.{no_pairs, pairs_at, Kept}

pub kept_none : (s xs : List ℕ) → Kept s xs 0 (replicate 32 no_pairs)
kept_none s xs = filled_none _ _ _

-- what stands in the array, of a part b that is read anew
pub kept_at : (s xs b : List ℕ) (k i : ℕ) (held : List Pairs) → k < i → b ≡ from_block s (get_or xs k 0) → Kept s xs i held → get_or held k no_pairs ≡ pairs_of b
unfolding pairs_at
kept_at s xs b k i held l e h = rw e (h.each k l)

pub kept_more : (s xs a : List ℕ) (i : ℕ) (x : Pairs) (held : List Pairs) → i < 32 → a ≡ from_block s (get_or xs i 0) → Kept s xs i held → x ≡ pairs_of a → Kept s xs (i + 1) (set held i x)
unfolding pairs_at
kept_more s xs a i x held l e h q = filled_more _ _ _ _ i x h l (q ∙ rw e)

-- a turn of the inner scan and its way out: r is what a call answered of the parts a and b
module _ (s xs a b : List ℕ) (i j : ℕ) (r : Bool) (ea : a ≡ from_block s (get_or xs i 0)) (eb : b ≡ from_block s (get_or xs j 0)) (h : r ≡ shares a b) where
  clash_is : r ≡ clash_at s xs i j
  unfolding clash_at
  clash_is = rw (← ea, ← eb) h

  pub clash_more : any_below j (clash_at s xs i) ≡ false → r ≡ false → any_below (j + 1) (clash_at s xs i) ≡ false
  clash_more k o = scan_more (clash_at s xs i) r j k clash_is o

  pub clash_stop : (n : ℕ) → i < n → j < i → r ≡ true → true ≡ clash s xs n
  unfolding clash clash_row
  clash_stop n u v t = sym (any_stop (clash_row s xs) n i u (any_stop (clash_at s xs i) i j v (sym clash_is ∙ t)))

-- a turn past an update whose reading tells that it doesn't share
pub clash_apart : (s xs a : List ℕ) (i j : ℕ) (p q : Pairs) (r : Bool) → a ≡ from_block s (get_or xs i 0) → p ≡ pairs_of a → q ≡ pairs_at s xs j → r ≡ headers_apart p q
    → r ≡ true → any_below j (clash_at s xs i) ≡ false → any_below (j + 1) (clash_at s xs i) ≡ false
unfolding pairs_at
clash_apart s xs a i j p q r b e f h t k =
    clash_more s xs a (from_block s (get_or xs j 0)) i j false b refl (headers_apart_lem a (from_block s (get_or xs j 0)) p q e f r h t) k refl

module _ (s xs : List ℕ) (i : ℕ) (q : any_below i (clash_row s xs) ≡ false) where
  pub row_more : (j : ℕ) → any_below j (clash_at s xs i) ≡ false → j ≤ i → i ≤ j → any_below (i + 1) (clash_row s xs) ≡ false
  unfolding clash_row
  row_more j h u v = let e : j ≡ i = omega arith in any_more (clash_row s xs) i q (rw e at h)

  pub clash_done : (n : ℕ) → i ≤ n → n ≤ i → false ≡ clash s xs n
  unfolding clash
  clash_done n u v = let e : i ≡ n = omega arith in sym (rw e at q)

pub clash_few : (s xs : List ℕ) (n : ℕ) → n < 2 → false ≡ clash s xs n
unfolding clash clash_row any_below
clash_few s xs zero l = refl
clash_few s xs (suc zero) l = refl
clash_few s xs (suc (suc n)) l = absurd (omega arith)
