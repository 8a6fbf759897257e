-- The bytes of an outcome (document 01, "The words of demand 3"): the old store's, with all blocks of the emptied updates filled with FFh, then
-- the candidate's T bytes put at the start and FFh behind them to the end of the run.
--   owned_by          block c belongs to the stored update at block b, one of the set e
--   emptied_at        block c belongs to a stored update of the set e
--   in_run            block c is one of the k from the start on
--   run_byte          byte j of the run
--   cleared_byte      byte i with the updates of e emptied
--   outcome_byte      byte i of the outcome: the run's in the run, elsewhere the cleared one
--   outcome_bytes     the whole store, byte by byte
use Rattle.std.specs.Prelude.{ℕ, suc, ◌*◌, ◌-◌, ◌/◌, Bool, ◌&&◌, List, length, get_or, ltb}
use Rattle.laws.specs.Below.{any_below}
use Rattle.laws.specs.Span.{spans}
use Rattle.laws.specs.Unless.{unless}
use Rattle.laws.specs.Tabulate.{tabulate}
use Rattle.update_sizes.specs.Sizes.{blocks_of}
use Rattle.store_directory.specs.Scan.{first, size_at}

-- block c belongs to the update that begins at block b, which is of the set e
unfoldable pub owned_by : List ℕ → (ℕ → Bool) → ℕ → ℕ → Bool
owned_by s e c b = e b && (first s b && spans b (size_at s b) c)

unfoldable pub emptied_at : List ℕ → (ℕ → Bool) → ℕ → Bool
emptied_at s e c = any_below (suc c) (owned_by s e c)

abbrev pub in_run : ℕ → ℕ → ℕ → Bool
in_run start k c = spans start k c

-- the candidate's t bytes, FFh behind them
unfoldable pub run_byte : ℕ → List ℕ → ℕ → ℕ
run_byte t cand j = unless (ltb j t) 255 (get_or cand j 0)

-- the old byte, or FFh in an emptied update
unfoldable pub cleared_byte : List ℕ → (ℕ → Bool) → ℕ → ℕ
cleared_byte old e i = unless (emptied_at old e (i / 2048)) (get_or old i 0) 255

unfoldable pub outcome_byte : List ℕ → ℕ → List ℕ → ℕ → (ℕ → Bool) → ℕ → ℕ
outcome_byte old t cand start e i =
    unless (in_run start (blocks_of t) (i / 2048)) (cleared_byte old e i) (run_byte t cand (i - start * 2048))

unfoldable pub outcome_bytes : List ℕ → ℕ → List ℕ → ℕ → (ℕ → Bool) → List ℕ
outcome_bytes old t cand start e = tabulate (length old) 0 (outcome_byte old t cand start e)
