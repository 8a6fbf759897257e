-- A byte more at the front of `part`, a byte more at `at`, and the end of both loops of `bytes_copy::put`.
use Rattle.std.proofs.Common.{rules}
use Rattle.bytes_copy.specs.Paste.{pasting}
use Rattle.bytes_copy.proofs.put.Goals as goal

pub loop-i-preserved : goal.loop-i-preserved
loop-i-preserved c = search (rules, pasting)

pub loop-j-preserved : goal.loop-j-preserved
loop-j-preserved c = search (rules, pasting)

pub returns : goal.returns
returns c = search (rules, pasting)
