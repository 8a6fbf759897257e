-- The choice of a run (document 01, "The calls", 1: check 8 and the sentence behind check 9), over stored updates by number. How the code
-- searches stands in Tries.
--   choose     the start of least loss, the lowest on a tie, among those from which the run of k blocks ends at n or before
use Rattle.std.specs.Prelude.{ℕ, suc, ◌-◌}
use Rattle.laws.specs.Least.{Pick, least}
use Rattle.write_marks.specs.StoredUpdates.{StoredUpdates}
use Rattle.write_marks.specs.Against.{ruled_out, lost}

-- the starts s with s + k ≤ n are those below suc n - k
unfoldable pub choose : ℕ → ℕ → StoredUpdates → Pick
choose n k h = least (ruled_out h k) (lost h k) (suc n - k)
