-- The set of emptied updates as the code has it: marks beside the directory's entries.
--   marked_entry     entry i is marked, and block b is its first
--   marked           the first blocks of the marked entries
--   Entries          the first n entries are updates of the store, and lie in it
--   empty_if         an update filled with FFh, if it is marked
use Rattle.std.specs.Prelude.{ℕ, ◌+◌, ◌*◌, ◌<◌, ◌≤◌, ◌≡◌, Bool, ◌&&◌, List, length, eqb}
use Rattle.std.proofs.Math.Bool.{true, false}
use Rattle.std.proofs.Math.ListN.{get_or}
use Rattle.laws.specs.Below.{any_below}
use Rattle.laws.specs.Unless.{unless}
use Rattle.bytes_copy.specs.Paste.{fill_at}
use Rattle.store_directory.specs.Scan.{size_at, first}

-- entry i begins at block b and is marked
unfoldable pub marked_entry : List ℕ → List Bool → ℕ → ℕ → Bool
marked_entry starts gone b i = get_or gone i false && eqb (get_or starts i 0) b

unfoldable pub marked : List ℕ → List Bool → ℕ → ℕ → Bool
marked starts gone n b = any_below n (marked_entry starts gone b)

pub record Entries (s starts sizes : List ℕ) (n : ℕ) : Type 0 where
  pub few : n ≤ 32
  pub begin : (i : ℕ) → i < n → first s (get_or starts i 0) ≡ true
  pub sized : (i : ℕ) → i < n → size_at s (get_or starts i 0) ≡ get_or sizes i 0
  pub ends : (i : ℕ) → i < n → (get_or starts i 0 + get_or sizes i 0) * 2048 ≤ length s

unfoldable pub empty_if : Bool → List ℕ → ℕ → ℕ → List ℕ
empty_if t s b k = unless t s (fill_at s (b * 2048) (k * 2048))
