-- Which outcomes are legal, over stored updates by number. What is emptied, touched and legal is said twice: of first blocks in the demand
-- (`write_outcome` Legal), since document 01 speaks of blocks, and of the directory's numbers here, since the code walks the directory and
-- counts its entries. `write_call` Join ties the two.
--   LegalByNumber      an outcome may be taken
--   emptied_count_by_number  how many updates it empties
use Rattle.std.specs.Prelude.{ℕ, ◌+◌, ◌<◌, ◌≤◌, ◌≡◌, ◌⊎◌, Bool, true, false}
use Rattle.laws.specs.Count.{count_below}
use Rattle.write_marks.specs.StoredUpdates.{StoredUpdates, Holds}

-- An outcome is a start block and a set e of the updates stored before, which it empties. Its run is the k blocks from the start.
pub record LegalByNumber (n k : ℕ) (h : StoredUpdates) (start : ℕ) (e : ℕ → Bool) : Type 0 where
  -- its run lies below n
  pub ends : start + k ≤ n
  -- each block of the run was unused or belongs to an update it empties
  pub free : (c : ℕ) → start ≤ c → c < start + k
      → ((i : ℕ) → i < h.count → Holds h i c → ⊥) ⊎ ((i : ℕ) × (i < h.count) × Holds h i c × (e i ≡ true))
  -- it empties no update that covers a listed processor the candidate doesn't cover
  pub spares : (i : ℕ) → i < h.count → e i ≡ true → h.needed i ≡ false
  -- it empties every update that covers a processor the candidate covers
  pub frees : (i : ℕ) → i < h.count → h.shares i ≡ true → e i ≡ true

-- how many updates it empties
unfoldable pub emptied_count_by_number : StoredUpdates → (ℕ → Bool) → ℕ
emptied_count_by_number h e = count_below h.count e
