-- Laws of the blocks that the reading passes, and of the list of first blocks.
--   later_blocks       the blocks behind the first of a slot begin none
--   next_begins        the block behind a slot begins one
--   entry_first        each first block is numbers_below
--   first_entry        each numbers_below block is a first block below n
--   starts_increase    they are numbers_below in order
--   sizes_long, entry_sizes    beside each stands its size
--   few_starts         there are no more than blocks
use Prim.Native.Nat.{ℕ, zero, suc, ◌+◌, ◌<◌, ◌≤◌}
use Rattle.std.specs.Prelude.{◌≡◌, true, false, List, length, get_or}
use Rattle.std.proofs.Common.{sym, not-suc-le-zero, add-zero, add-suc, arith}
use borrow.Author.Tests.{le-leb, lt-leb}
use Rattle.laws.specs.NumbersBelow.{NumbersBelow, numbers_below}
use Rattle.store_directory.specs.Scan.{size_at, next_slot, begins, first, starts_to, sizes_to}

module _ (s : List ℕ) where
  -- behind a block b where a slot of k blocks begins, the next slot begins at b + k: the blocks between are later blocks
  run : (b k : ℕ) → begins s b ≡ true → size_at s b ≡ k → (j : ℕ) → j < k → next_slot s (suc (b + j)) ≡ b + k
  unfolding next_slot begins
  run b k h e zero l = rw (add-zero b, h, e)
  run b k h e (suc j) l = rw (add-suc b j, run b k h e j (omega arith), lt-leb (b + k) (suc (b + j)) (omega arith))

  pub later_blocks : (b k j : ℕ) → begins s b ≡ true → size_at s b ≡ k → 0 < j → j < k → begins s (b + j) ≡ false
  unfolding begins
  later_blocks b k zero h e p l = absurd (not-suc-le-zero p)
  later_blocks b k (suc j) h e p l = rw (add-suc b j, run b k h e j (omega arith)) (lt-leb (b + k) (suc (b + j)) (omega arith))

  pub next_begins : (b k : ℕ) → begins s b ≡ true → size_at s b ≡ k → 0 < k → begins s (b + k) ≡ true
  unfolding begins
  next_begins b zero h e p = absurd (not-suc-le-zero p)
  next_begins b (suc k) h e p = rw (add-suc b k, run b (suc k) h e k (omega arith)) (le-leb (b + suc k) (suc (b + k)) (omega arith))

  -- the directory has each first block, and nothing else, in order, with its size
  starts : (n : ℕ) → NumbersBelow (first s) (size_at s) n (starts_to s n) (sizes_to s n)
  starts n = numbers_below (first s) (size_at s) n

  pub entry_first : (n b : ℕ) → b < n → first s b ≡ true → (i : ℕ) × (i < length (starts_to s n)) × (get_or (starts_to s n) i 0 ≡ b)
  entry_first n b l h = (starts n).whole b l h

  pub first_entry : (n i : ℕ) → i < length (starts_to s n) → (first s (get_or (starts_to s n) i 0) ≡ true) × (get_or (starts_to s n) i 0 < n)
  first_entry n i l = ((starts n).passes i l, (starts n).below i l)

  pub starts_increase : (n i j : ℕ) → j < i → i < length (starts_to s n) → get_or (starts_to s n) j 0 < get_or (starts_to s n) i 0
  starts_increase n i j l m = (starts n).rises i j l m

  pub sizes_long : (n : ℕ) → length (sizes_to s n) ≡ length (starts_to s n)
  sizes_long n = (starts n).long

  pub entry_sizes : (n i : ℕ) → i < length (starts_to s n) → size_at s (get_or (starts_to s n) i 0) ≡ get_or (sizes_to s n) i 0
  entry_sizes n i l = sym ((starts n).values i l)

  -- there are no more than blocks
  pub few_starts : (b : ℕ) → length (starts_to s b) ≤ b
  few_starts b = (starts b).few
