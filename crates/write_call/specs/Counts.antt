-- To count stored updates by number is to count them by first block.
--   at_entry         the set e has number i of the list xs
use Prim.Native.Nat.{ℕ}
use Rattle.std.specs.Prelude.{Bool, List, get_or}

unfoldable pub at_entry : List ℕ → (ℕ → Bool) → ℕ → Bool
at_entry xs e i = e (get_or xs i 0)
