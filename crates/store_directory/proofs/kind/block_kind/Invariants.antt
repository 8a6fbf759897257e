-- The loop's invariant: no entry passed has the block.
use Rattle.std.proofs.Common.{◌≡◌, false}
use Rattle.laws.specs.Below.{any_below}
use Rattle.store_directory.specs.Kind.{owns_at}
use Rattle.store_directory.proofs.kind.block_kind.Given as goal

abbrev pub invariant-loop-i : goal.invariant-loop-i
invariant-loop-i l = any_below l.i (owns_at l.d l.b) ≡ false
