-- The ones and the trailing zeros of the flags that count are the catalogue's two numbers.
--   ones_count, zeros_first    from what a call answered
use Rattle.std.specs.Prelude.{ℕ, ◌<◌, ◌≡◌, refl, Bool, true, List, eqb}
use Rattle.std.proofs.Common.{arith, eqb-true}
use Rattle.std.specs.Int.Count.{ones, ones_in, count_trailing_zeros}
use Rattle.laws.specs.Below.{all_below, all_at}
use Rattle.laws.specs.Count.{count_below}
use Rattle.laws.specs.First.{first_below}
use Rattle.laws.specs.Bits.{bit}
use Rattle.update_coverage.specs.Covers.{platforms_at, names}
use Rattle.update_coverage.specs.Platforms.{platform_count, lowest_platform}

ones_right : ℕ → Bool
ones_right f = eqb (ones f) (count_below 8 (names f))

zeros_right : ℕ → Bool
zeros_right f = eqb (count_trailing_zeros 8 f) (first_below 8 (names f))

ones_table : all_below 256 ones_right ≡ true
unfolding all_below ones_right ones ones_in count_below names bit
ones_table = refl

zeros_table : all_below 256 zeros_right ≡ true
unfolding all_below zeros_right count_trailing_zeros ones_in ones first_below names bit
zeros_table = refl

-- r is what a call answered: the flags of the header that count
module _ (s : List ℕ) (r : ℕ) (e : r ≡ platforms_at s 0) where
  low : r < 256
  unfolding platforms_at
  low = rw e (omega arith)

  pub ones_count : ones r ≡ platform_count s
  unfolding platform_count ones_right
  ones_count = rw (← e) (eqb-true _ _ (all_at ones_right 256 r ones_table low))

  pub zeros_first : count_trailing_zeros 8 r ≡ lowest_platform s
  unfolding lowest_platform zeros_right
  zeros_first = rw (← e) (eqb-true _ _ (all_at zeros_right 256 r zeros_table low))
