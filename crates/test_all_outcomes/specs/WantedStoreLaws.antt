-- Laws of the wanted bytes, in the form in which a proof of the code takes them.
--   emptied_behind, emptied_outside, emptied_inside    `emptied_at` where a test fails, and where the set has the update
--   emptied_none, emptied_more, emptied_done           the loop over the updates
--   wanted_none, wanted_there                          the two ways of `wanted_in`
use Rattle.std.specs.Prelude.{◌≡◌, ℕ, ◌+◌, ◌<◌, ◌≤◌, true, false, List, nat_lt, slice_index, Option, Some, None}
use Rattle.std.proofs.Math.Path.{refl}
use Rattle.std.proofs.Math.Bool.{and-false}
use Rattle.std.proofs.Common.{add-one, arith, lt-ltb, le-ltb}
use Rattle.laws.specs.Arrays.{mark_at}
use Rattle.test_samples.specs.SampleBytes.{put, fill}
use Rattle.test_all_outcomes.specs.declared.layout.Layout.{Layout}
use Rattle.test_all_outcomes.specs.declared.outcomes.Set.{Set}
use Rattle.test_all_outcomes.specs.declared.outcomes.Outcome.{Outcome}
use Rattle.test_all_outcomes.specs.SmallLayouts.{most_updates, block_bytes}
use Rattle.test_all_outcomes.specs.MadeStores.{place_of}
use Rattle.test_all_outcomes.specs.WantedStores.{emptied_at, emptied_to, candidate_at, wanted_of, wanted_in}

module _ (s : List ℕ) (l : Layout) (set : Set) (i : ℕ) where
  pub emptied_behind : most_updates ≤ i → s ≡ emptied_at s l set i
  unfolding emptied_at
  emptied_behind h = rw (le-ltb i most_updates h)

  pub emptied_outside : mark_at set.has i ≡ false → s ≡ emptied_at s l set i
  unfolding emptied_at
  emptied_outside h = rw (h, and-false (nat_lt i most_updates))

  -- at and n are the place and the bytes that calls answered, r what a third left
  pub emptied_inside : (at n : ℕ) (r : List ℕ) → i < most_updates → mark_at set.has i ≡ true → at ≡ place_of l i
      → n ≡ block_bytes (slice_index l.sizes i) → r ≡ fill s at n 255 → r ≡ emptied_at s l set i
  unfolding emptied_at
  emptied_inside at n r h k e f g = rw (lt-ltb i most_updates h, k, ← e, ← f) g

module _ (s : List ℕ) (l : Layout) (set : Set) where
  pub emptied_none : s ≡ emptied_to s l set 0
  unfolding emptied_to
  emptied_none = refl

  pub emptied_more : (b r : List ℕ) (i : ℕ) → b ≡ emptied_to s l set i → r ≡ emptied_at b l set i → r ≡ emptied_to s l set (i + 1)
  unfolding emptied_to
  emptied_more b r i e h = rw (add-one i, ← e) h

  pub emptied_done : (b : List ℕ) (i : ℕ) → b ≡ emptied_to s l set i → i ≤ most_updates → most_updates ≤ i → b ≡ emptied_to s l set most_updates
  emptied_done b i e h k = let q : i ≡ most_updates = omega arith in rw q at e

-- m is the store that a call made, a the buffer with its bytes
module _ (w s m a : List ℕ) (l : Layout) (best : Option Outcome) (candidate : List ℕ) (t n : ℕ) (q : m ≡ s) (e : a ≡ put w 0 m 12288) where
  pub wanted_none : best ≡ None → a ≡ wanted_in w s l best candidate t n
  unfolding wanted_in wanted_of
  wanted_none h = rw (h, ← q) e

  pub wanted_there : (o : Outcome) (b r : List ℕ) → best ≡ Some o → b ≡ emptied_to a l o.set most_updates
      → r ≡ candidate_at b o.start candidate t n → r ≡ wanted_in w s l best candidate t n
  unfolding wanted_in wanted_of
  wanted_there o b r h f g = rw (h, ← q, ← e, ← f) g

pub ruleset emptying = (emptied_none, emptied_more, emptied_done)
