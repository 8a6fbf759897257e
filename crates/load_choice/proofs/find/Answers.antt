-- `load_choice::find` meets its contract: by the scan of the directory.
use Rattle.std.proofs.Common.{rules, arith}
use Rattle.store_directory.proofs.StoreLaws.{stored_some, directory_few}
use Rattle.store_directory.proofs.PairedLaws.{directory_pairs}
use Rattle.load_choice.specs.LoadLaws.{finding}
use Rattle.load_choice.proofs.find.Goals as goal

pub loop-i-init : goal.loop-i-init
loop-i-init c = search finding

pub bounds-d-i : goal.bounds-d-i
bounds-d-i c = omega (arith, directory_few _ _ (stored_some _ _ c.requires).0)

pub judged_pairs-requires : goal.judged_pairs-requires
judged_pairs-requires c = rw (c.from_block-u.ensures, c.from-start.ensures) (directory_pairs _ _ (stored_some _ _ c.requires).0 c.loop-i.i (omega arith))

pub returns-then-covers_with : goal.returns-then-covers_with
returns-then-covers_with c = search (rules, finding)

pub loop-i-preserved : goal.loop-i-preserved
loop-i-preserved c = search (rules, finding)

pub returns : goal.returns
returns c = search (rules, finding)
