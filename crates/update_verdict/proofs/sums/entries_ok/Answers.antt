-- `update_verdict::sums::entries_ok` meets its contract: the scan that leaves at the first wrong entry.
use Rattle.laws.specs.Loops.{each}
use Rattle.update_verdict.proofs.sums.entries_ok.Goals as goal

pub returns-then-not-entry_ok : goal.returns-then-not-entry_ok
returns-then-not-entry_ok c = search each
