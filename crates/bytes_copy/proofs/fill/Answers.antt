-- The end of the loop of `bytes_copy::fill`: all `count` bytes are filled.
use Rattle.std.proofs.Common.{rules}
use Rattle.bytes_copy.specs.Paste.{pasting}
use Rattle.bytes_copy.proofs.fill.Goals as goal

pub returns : goal.returns
returns c = search (rules, pasting)
