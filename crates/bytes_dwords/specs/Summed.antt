-- A sum that is being made.
--   summed        a sum with the dwords from byte `at` on added to it, modulo 2^32
use Rattle.std.specs.Prelude.{ℕ, ◌+◌, ◌%◌, ◌^◌, List, drop}
use Rattle.bytes_dwords.specs.Sum.{dword_sum}

unfoldable pub summed : List ℕ → ℕ → ℕ → ℕ
summed s sum at = (sum + dword_sum (drop at s)) % 2 ^ 32
