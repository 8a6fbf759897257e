-- What the loop of `bytes_copy::fill` keeps: the first i of the bytes are filled.
use Rattle.std.proofs.Common.{◌≡◌, length, replicate}
use Rattle.bytes_copy.specs.Paste.{put_at}
use Rattle.bytes_copy.proofs.fill.Given as goal

abbrev pub invariant-loop-i : goal.invariant-loop-i
invariant-loop-i l = (length l.dst ≡ length l.fn.dst) × (l.dst ≡ put_at l.fn.dst l.from (replicate l.count 255) l.i)
