-- What the loops of `bytes_copy::put` keep: the first i of the bytes are put at the front of `part`; the first j of these at `at`.
use Rattle.std.proofs.Common.{◌≡◌, ◌≤◌, length}
use Rattle.bytes_copy.specs.Paste.{put_at}
use Rattle.bytes_copy.proofs.put.Given as goal

abbrev pub invariant-loop-i : goal.invariant-loop-i
invariant-loop-i l = (l.n ≤ length l.part) × (l.part ≡ put_at l.initial.part 0 l.src l.i)

abbrev pub invariant-loop-j : goal.invariant-loop-j
invariant-loop-j l = (length l.dst ≡ length l.fn.dst) × (l.dst ≡ put_at l.fn.dst l.at l.part l.j)
