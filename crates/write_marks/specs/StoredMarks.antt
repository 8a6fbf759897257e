-- What the program's `Marked` stands for.
--   stored_of       the updates of a `Marked`
--   marks_of    arrays, and a count of at most 32, as a `Marked`
--   update_of   update i of a `Marked`
--   both_at     both marks of two arrays
--   both_marks_is, shared_marks    so they stand for the marks of the updates
--   updates_of      the updates of any lists, up to any count; ListedMarks (proofs/) has the same laws of these
use Rattle.std.specs.Prelude.{ℕ, ◌≤◌, ◌≡◌, Bool, false, ◌&&◌, List, get_or}
use Rattle.laws.specs.Below.{any_below}
use Rattle.laws.specs.Arrays.{mark_at}
use Rattle.laws.specs.Count.{count_below}
use Rattle.write_overlap.specs.declared.Stored.{Stored}
use Rattle.write_marks.specs.declared.Marked.{Marked}
use Rattle.write_marks.specs.StoredUpdates.{StoredUpdates}
use Rattle.write_marks.specs.Against.{both_marks}

-- update i is entry i of each array
unfoldable pub stored_of : Marked → StoredUpdates
stored_of m = record { count = m.count; start = λ i. get_or m.starts i 0; size = λ i. get_or m.sizes i 0; shares = λ i. get_or m.shares i false; needed = λ i. get_or m.needed i false }

-- arrays, and a count of at most 32, as a `Marked`
abbrev pub marks_of : List ℕ → List ℕ → List Bool → List Bool → (count : ℕ) → count ≤ 32 → Marked
marks_of starts sizes shares needed count few = record { starts = starts; sizes = sizes; shares = shares; needed = needed; count = count; few = few }

abbrev pub update_of : Marked → ℕ → Stored
update_of m i = record { start = get_or m.starts i 0; size = get_or m.sizes i 0; shares = get_or m.shares i false; needed = get_or m.needed i false }

unfoldable pub both_at : List Bool → List Bool → ℕ → Bool
both_at xs ys i = mark_at xs i && mark_at ys i

pub both_marks_is : (m : Marked) (t : Bool) → t ≡ any_below m.count (both_at m.shares m.needed) → t ≡ any_below (stored_of m).count (both_marks (stored_of m))
unfolding stored_of both_marks both_at mark_at
both_marks_is m t e = e

pub shared_marks : (m : Marked) (v : ℕ) → v ≡ count_below m.count (mark_at m.shares) → v ≡ count_below m.count (stored_of m).shares
unfolding stored_of mark_at
shared_marks m v e = e

-- update i is entry i of each list; the count may be any
abbrev pub updates_of : List ℕ → List ℕ → List Bool → List Bool → ℕ → StoredUpdates
updates_of starts sizes shares needed count = record { count = count; start = λ i. get_or starts i 0; size = λ i. get_or sizes i 0; shares = λ i. get_or shares i false; needed = λ i. get_or needed i false }
