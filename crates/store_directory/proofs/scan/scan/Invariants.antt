-- The loop's invariant is `State`, what the reading of the blocks below b has found.
use Rattle.store_directory.specs.ScanLaws.{State}
use Rattle.store_directory.proofs.scan.scan.Given as goal

abbrev pub invariant-loop-b : goal.invariant-loop-b
invariant-loop-b l = State l.s l.b l.count l.next l.starts l.sizes
