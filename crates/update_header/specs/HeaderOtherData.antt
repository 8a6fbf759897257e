-- "Encrypted update data is never interpreted" (document 01, "What is built"): bytes that differ in the data alone have the same fields, sizes
-- and checks.
--   OtherData                          r is s with other data bytes
use Rattle.std.specs.Prelude.{ℕ, ◌+◌, ◌≤◌, ◌≡◌, List, length, get_or}
use Rattle.laws.specs.Same.{Same}
use Rattle.update_header.specs.Fields.{data_size}

pub record OtherData (s r : List ℕ) : Type 0 where
  pub long : length s ≡ length r
  pub before : Same s r 48
  pub behind : (i : ℕ) → 48 + data_size s ≤ i → get_or s i 0 ≡ get_or r i 0
