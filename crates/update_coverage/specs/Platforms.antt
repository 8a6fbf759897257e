-- "How many platforms the header flags name, and the lowest platform (8 if none)" (document 01, "The catalogue").
--   platform_count    how many platforms from 0 to 7 the header's flags name
--   lowest_platform   the lowest of them, 8 where there is none
use Rattle.std.specs.Prelude.{ℕ, List}
use Rattle.laws.specs.Count.{count_below}
use Rattle.laws.specs.First.{first_below}
use Rattle.update_coverage.specs.Covers.{platforms_at, names}

unfoldable pub platform_count : List ℕ → ℕ
platform_count s = count_below 8 (names (platforms_at s 0))

unfoldable pub lowest_platform : List ℕ → ℕ
lowest_platform s = first_below 8 (names (platforms_at s 0))
