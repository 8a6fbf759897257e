-- The blocks of a set of updates, as the bits of a number.
--   most_blocks   how many blocks a layout has at most
--   takes         update i is in the set and has block c
--   taken         some update of the set has block c
--   set_blocks    bit c for each such block c
use Rattle.std.specs.Prelude.{ℕ, Bool, ◌&&◌}
use Rattle.laws.specs.Below.{any_below}
use Rattle.laws.specs.Bits.{bits_below}
use Rattle.test_all_outcomes.specs.declared.layout.Layout.{Layout}
use Rattle.test_all_outcomes.specs.declared.outcomes.Set.{Set}
use Rattle.test_all_outcomes.specs.SmallLayouts.{most_updates, owns}
use Rattle.test_all_outcomes.specs.TriedOutcomes.{has_update}

abbrev pub most_blocks : ℕ
most_blocks = 6

unfoldable pub takes : Layout → Set → ℕ → ℕ → Bool
takes l set c i = has_update set i && owns l i c

unfoldable pub taken : Layout → Set → ℕ → Bool
taken l set c = any_below most_updates (takes l set c)

unfoldable pub set_blocks : Layout → Set → ℕ
set_blocks l set = bits_below most_blocks (taken l set)
