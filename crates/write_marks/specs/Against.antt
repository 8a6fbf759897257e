-- Stored updates against a run, by number. The candidate takes the k blocks from s on; i is the number of an update.
--   touches_by_number .. loses  of update i, what `write_overlap` (Overlap) says of one update: the run from s touches it; it is emptied if the
--              candidate goes to s; all its blocks are the run's; it is emptied, and they are not; it rules s out; it is lost though it does not
--              share
--   ruled_out   some update rules s out (check 8)
--   lost        how many are lost
--   both_marks  update i shares and is needed, so that it rules every start out (check 7)
--   empties_block   update i is emptied, and block c is one of its blocks
--   emptied_block   block c is one of an emptied update's
use Rattle.std.specs.Prelude.{ℕ, Bool, ◌&&◌}
use Rattle.laws.specs.Below.{any_below}
use Rattle.laws.specs.Count.{count_below}
use Rattle.laws.specs.Span.{spans}
use Rattle.write_overlap.specs.Overlap as overlap
use Rattle.write_marks.specs.StoredUpdates.{StoredUpdates}

unfoldable pub touches_by_number : StoredUpdates → ℕ → ℕ → ℕ → Bool
touches_by_number h k s i = overlap.touches (h.start i) (h.size i) k s

unfoldable pub emptied_by_number : StoredUpdates → ℕ → ℕ → ℕ → Bool
emptied_by_number h k s i = overlap.is_emptied (h.start i) (h.size i) (h.shares i) k s

unfoldable pub within : StoredUpdates → ℕ → ℕ → ℕ → Bool
within h k s i = overlap.within (h.start i) (h.size i) k s

unfoldable pub fills : StoredUpdates → ℕ → ℕ → ℕ → Bool
fills h k s i = overlap.fills (h.start i) (h.size i) (h.shares i) k s

unfoldable pub rules_out : StoredUpdates → ℕ → ℕ → ℕ → Bool
rules_out h k s i = overlap.rules_out (h.start i) (h.size i) (h.shares i) (h.needed i) k s

unfoldable pub loses : StoredUpdates → ℕ → ℕ → ℕ → Bool
loses h k s i = overlap.loses (h.start i) (h.size i) (h.shares i) k s

-- some update rules s out
unfoldable pub ruled_out : StoredUpdates → ℕ → ℕ → Bool
ruled_out h k s = any_below h.count (rules_out h k s)

-- how many that do not share the run from s touches
unfoldable pub lost : StoredUpdates → ℕ → ℕ → ℕ
lost h k s = count_below h.count (loses h k s)

-- it has both marks
unfoldable pub both_marks : StoredUpdates → ℕ → Bool
both_marks h i = h.shares i && h.needed i

-- block c is one of update i's, which is emptied
unfoldable pub empties_block : StoredUpdates → ℕ → ℕ → ℕ → ℕ → Bool
empties_block h k s c i = emptied_by_number h k s i && spans (h.start i) (h.size i) c

-- block c is one of an emptied update's
unfoldable pub emptied_block : StoredUpdates → ℕ → ℕ → ℕ → Bool
emptied_block h k s c = any_below h.count (empties_block h k s c)
