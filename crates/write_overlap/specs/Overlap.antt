-- One stored update against a run of blocks. The update has `size` blocks from `start` on; the candidate takes the k blocks from s on. `shares`
-- says that the update covers a processor that the candidate covers, `needed` that it covers a listed one that the candidate doesn't.
--   touches      the run and the update have a block in common
--   is_emptied   the update is emptied: it shares, wherever it lies, or is touched
--   rules_out    it rules the run out: it would be emptied, and is needed
--   loses        it is touched, and does not share
--   within       all its blocks are blocks of the run
--   fills        it is emptied, and not all its blocks are the run's: what the run covers, the candidate and the FFh behind it overwrite
use Rattle.std.specs.Prelude.{ℕ, ◌+◌, Bool, not, ◌&&◌, ◌||◌, ltb, leb}

abbrev pub touches : ℕ → ℕ → ℕ → ℕ → Bool
touches start size k s = ltb s (start + size) && ltb start (s + k)

abbrev pub is_emptied : ℕ → ℕ → Bool → ℕ → ℕ → Bool
is_emptied start size shares k s = shares || touches start size k s

-- For an update that doesn't share, `needed` is check 8's "covers a listed processor": it covers none of the candidate's (`processor_list`,
-- `unshared_needed`). One that shares and is needed is check 7's.
abbrev pub rules_out : ℕ → ℕ → Bool → Bool → ℕ → ℕ → Bool
rules_out start size shares needed k s = needed && is_emptied start size shares k s

abbrev pub loses : ℕ → ℕ → Bool → ℕ → ℕ → Bool
loses start size shares k s = not shares && touches start size k s

abbrev pub within : ℕ → ℕ → ℕ → ℕ → Bool
within start size k s = leb s start && leb (start + size) (s + k)

abbrev pub fills : ℕ → ℕ → Bool → ℕ → ℕ → Bool
fills start size shares k s = not (within start size k s) && is_emptied start size shares k s
