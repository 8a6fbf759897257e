-- Loops that write lines into lent columns.
use Rattle.std.specs.Prelude.{ℕ, List, [], get_or, set}

-- number v put at place b of column k
abbrev pub put_at : List (List ℕ) → ℕ → ℕ → ℕ → List (List ℕ)
put_at cs k b v = set cs k (set (get_or cs k []) b v)
