-- How often each answer was seen.
--   tally           a tally by its fields, in the order of the source
--   more            one more, as a number of 32 bits
--   no_tally        nothing was seen
--   with_written    a write that was done more, by its emptied count
--   with_refused    a refusal more, by its AL
--   with_became     one of the two
--   with_judged     a difference more, if what was seen is not as it should be
--   with_call       a write more
--   with_seen       all three
use Rattle.std.specs.Prelude.{ℕ, ◌+◌, ◌%◌, ◌^◌, Bool, cond, List, replicate, ◌==◌, nat_lt, slice_index, slice_set, Result, Ok, Err}
use Rattle.call_answers.specs.Codes.{sharing_needed, no_run}
use Rattle.test_all_outcomes.specs.declared.tally.Tally.{Tally}
use Rattle.test_all_outcomes.specs.declared.trial.Seen.{Seen}

abbrev pub tally : ℕ → ℕ → ℕ → ℕ → ℕ → List ℕ → Tally
tally writes both full written differences emptied =
    record { writes = writes; both_marks = both; full = full; written = written; differences = differences; emptied = emptied }

abbrev pub more : ℕ → ℕ
more n = (n + 1) % 2 ^ 32

unfoldable pub no_tally : Tally
no_tally = tally 0 0 0 0 0 (replicate 5 0)

unfoldable pub with_written : Tally → ℕ → Tally
with_written t n =
    tally t.writes t.both_marks t.full (more t.written) t.differences
    (cond (nat_lt n 5) (slice_set t.emptied n (more (slice_index t.emptied n))) t.emptied)

unfoldable pub with_refused : Tally → ℕ → Tally
with_refused t al =
    tally t.writes (cond (al == sharing_needed) (more t.both_marks) t.both_marks)
    (cond (al == no_run) (more t.full) t.full)
    t.written t.differences t.emptied

unfoldable pub with_became : Tally → Result ℕ ℕ → Tally
with_became t (Ok emptied) = with_written t emptied
with_became t (Err al) = with_refused t al

unfoldable pub with_judged : Tally → Bool → Tally
with_judged t same =
    tally t.writes t.both_marks t.full t.written (cond same t.differences (more t.differences)) t.emptied

unfoldable pub with_call : Tally → Tally
with_call t = tally (more t.writes) t.both_marks t.full t.written t.differences t.emptied

unfoldable pub with_seen : Tally → Seen → Tally
with_seen t s = with_call (with_judged (with_became t s.became) s.same)
