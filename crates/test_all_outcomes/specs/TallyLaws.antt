-- Laws of tallies, in the form in which a proof of the code takes them: a and b are sums with one more, which wrap at 2^32.
--   written_few, written_many                    the two ways of `with_written`
--   refused_both, refused_full, refused_other    the three of `with_refused`
--   number_written, number_refused               the two of `with_became`: n is its number
--   judged_same, judged_other                    the two of `with_judged`
use Rattle.std.specs.Prelude.{◌≡◌, ℕ, ◌<◌, ◌≤◌, Bool, true, false, ◌≢◌, slice_index, slice_set, Result, Ok, Err}
use borrow.Author.Tests.{ne_eqb, lt-ltb, le-ltb}
use Rattle.call_answers.specs.Codes.{sharing_needed, no_run}
use Rattle.test_all_outcomes.specs.declared.tally.Tally.{Tally}
use Rattle.test_all_outcomes.specs.Tallies.{tally, more, with_written, with_refused, with_became, with_judged}

module _ (t : Tally) (n a : ℕ) (e : a ≡ more t.written) where
  pub written_few : (b : ℕ) → n < 5 → b ≡ more (slice_index t.emptied n)
      → tally t.writes t.both_marks t.full a t.differences (slice_set t.emptied n b) ≡ with_written t n
  unfolding with_written
  written_few b h f = rw (lt-ltb n 5 h, e, f)

  pub written_many : 5 ≤ n → tally t.writes t.both_marks t.full a t.differences t.emptied ≡ with_written t n
  unfolding with_written
  written_many h = rw (le-ltb n 5 h, e)

module _ (t : Tally) (al : ℕ) where
  pub refused_both : (a : ℕ) → a ≡ more t.both_marks → al ≡ sharing_needed
      → tally t.writes a t.full t.written t.differences t.emptied ≡ with_refused t al
  unfolding with_refused
  refused_both a e h = rw (h, e)

  pub refused_full : (a : ℕ) → a ≡ more t.full → al ≡ no_run
      → tally t.writes t.both_marks a t.written t.differences t.emptied ≡ with_refused t al
  unfolding with_refused
  refused_full a e h = rw (h, e)

  pub refused_other : (al ≢ sharing_needed) → (al ≢ no_run) → t ≡ with_refused t al
  unfolding with_refused
  refused_other h k = rw (ne_eqb al sharing_needed h, ne_eqb al no_run k)

module _ (t r : Tally) (became : Result ℕ ℕ) (n : ℕ) where
  pub number_written : became ≡ Ok n → r ≡ with_written t n → r ≡ with_became t became
  unfolding with_became
  number_written h e = rw h e

  pub number_refused : became ≡ Err n → r ≡ with_refused t n → r ≡ with_became t became
  unfolding with_became
  number_refused h e = rw h e

module _ (t : Tally) (same : Bool) where
  pub judged_same : same ≡ true → t ≡ with_judged t same
  unfolding with_judged
  judged_same h = rw h

  pub judged_other : (a : ℕ) → a ≡ more t.differences → same ≡ false
      → tally t.writes t.both_marks t.full t.written a t.emptied ≡ with_judged t same
  unfolding with_judged
  judged_other a e h = rw (h, e)
