-- The loops' invariants: none is found while the scan goes on; no update passed shares with a revision that is equal or greater, no pair of
-- update `i` passed shares, and pair `j` shares with none of the candidate's passed.
use Rattle.std.proofs.Common.{◌≡◌, false}
use Rattle.laws.specs.Below.{any_below, rows}
use Rattle.update_coverage.specs.Covers.{pair_count}
use Rattle.update_sharing.specs.Shares.{shares_at}
use Rattle.write_plan.specs.CandidateMarks.{outdates}
use Rattle.write_plan.proofs.marks.outdated.Given as goal

abbrev pub invariant-scan : goal.invariant-scan
invariant-scan l = (l.found ≡ false) × (any_below l.i (outdates l.fn.store l.fn.candidate) ≡ false)

abbrev pub invariant-loop-j : goal.invariant-loop-j
invariant-loop-j l = (l.found ≡ false) × (any_below l.j (rows (pair_count l.fn.candidate) (shares_at l.u l.fn.candidate)) ≡ false)

abbrev pub invariant-loop-k : goal.invariant-loop-k
invariant-loop-k l = (l.found ≡ false) × (any_below l.k (shares_at l.u l.fn.candidate l.j) ≡ false)
