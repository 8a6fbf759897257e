-- The bytes of the best outcome: what the store should hold after the write.
--   emptied_at      the buffer s with the blocks of update i FFh, if a set has it
--   emptied_to      with those of the first i updates
--   candidate_at    with a candidate of t bytes at a start, and FFh behind it to the end of its run of n blocks
--   wanted_of       the store s after the best outcome, or as it was where there is none
--   wanted_in       the same, in the first 12,288 bytes of a buffer w
use Rattle.std.specs.Prelude.{ℕ, zero, suc, cond, ◌&&◌, List, nat_lt, slice_index, Option, Some, None}
use Rattle.test_samples.specs.SampleBytes.{put, fill}
use Rattle.test_all_outcomes.specs.declared.layout.Layout.{Layout}
use Rattle.test_all_outcomes.specs.declared.outcomes.Set.{Set}
use Rattle.test_all_outcomes.specs.declared.outcomes.Outcome.{Outcome}
use Rattle.test_all_outcomes.specs.SmallLayouts.{most_updates, block_bytes}
use Rattle.test_all_outcomes.specs.TriedOutcomes.{has_update}
use Rattle.test_all_outcomes.specs.MadeStores.{place_of}

unfoldable pub emptied_at : List ℕ → Layout → Set → ℕ → List ℕ
emptied_at s l set i = cond (nat_lt i most_updates && has_update set i) (fill s (place_of l i) (block_bytes (slice_index l.sizes i)) 255) s

unfoldable pub emptied_to : List ℕ → Layout → Set → ℕ → List ℕ
emptied_to s l set zero = s
emptied_to s l set (suc i) = emptied_at (emptied_to s l set i) l set i

unfoldable pub candidate_at : List ℕ → ℕ → List ℕ → ℕ → ℕ → List ℕ
candidate_at s start candidate t n = put (fill s (block_bytes start) (block_bytes n) 255) (block_bytes start) candidate t

unfoldable pub wanted_of : List ℕ → Layout → Option Outcome → List ℕ → ℕ → ℕ → List ℕ
wanted_of s l (Some o) candidate t n = candidate_at (emptied_to s l o.set most_updates) o.start candidate t n
wanted_of s l None candidate t n = s

unfoldable pub wanted_in : List ℕ → List ℕ → Layout → Option Outcome → List ℕ → ℕ → ℕ → List ℕ
wanted_in w s l best candidate t n = wanted_of (put w 0 s 12288) l best candidate t n
