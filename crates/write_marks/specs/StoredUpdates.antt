-- Stored updates, as the choice of a run sees them.
--   StoredUpdates     their starts, sizes and marks
--   Holds    a block is one of an update's
--   Laid     they lie as a store's updates do
--   Fitting  none is empty, and all end in time
use Rattle.std.specs.Prelude.{ℕ, ◌+◌, ◌<◌, ◌≤◌, Bool}
use Rattle.laws.specs.Span.{Spans}

-- Stored updates, numbered from 0 in the order of their starts, by start, size in blocks and two marks against a candidate.
pub record StoredUpdates : Type 0 where
  pub count : ℕ
  pub start : ℕ → ℕ
  pub size : ℕ → ℕ
  -- it covers a processor that the candidate covers
  pub shares : ℕ → Bool
  -- it covers a listed processor that the candidate doesn't
  pub needed : ℕ → Bool

-- block c is one of update i's
abbrev pub Holds : StoredUpdates → ℕ → ℕ → Type 0
Holds h i c = Spans (h.start i) (h.size i) c

-- none is empty, they lie in order and apart, the last ends at block n or before
pub record Laid (n : ℕ) (h : StoredUpdates) : Type 0 where
  pub some : (i : ℕ) → i < h.count → 1 ≤ h.size i
  pub inside : (i : ℕ) → i < h.count → h.start i + h.size i ≤ n
  pub apart : (i j : ℕ) → i < j → j < h.count → h.start i + h.size i ≤ h.start j

-- none is empty, each ends at block n or before
pub record Fitting (n : ℕ) (h : StoredUpdates) : Type 0 where
  pub some : (i : ℕ) → i < h.count → 1 ≤ h.size i
  pub inside : (i : ℕ) → i < h.count → h.start i + h.size i ≤ n
