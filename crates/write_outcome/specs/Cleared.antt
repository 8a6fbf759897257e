-- The outcome's bytes as the code makes them: one emptied update after the other is filled, then the candidate is put, then the rest of its last block is filled.
--   cleared          the old store with all blocks of the updates of e filled with FFh
use Rattle.std.specs.Prelude.{ℕ, Bool, List}
use Rattle.std.proofs.Math.ListN.{length}
use Rattle.laws.specs.Tabulate.{tabulate}
use Rattle.write_outcome.specs.OutcomeBytes.{cleared_byte}

unfoldable pub cleared : List ℕ → (ℕ → Bool) → List ℕ
cleared old e = tabulate (length old) 0 (cleared_byte old e)
