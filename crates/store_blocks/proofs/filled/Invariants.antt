-- The loop's invariant: the `and` is FFFFFFFFh exactly if the bytes passed are FFh.
use Rattle.std.proofs.Common.{◌≡◌, ◌*◌, eqb}
use Rattle.laws.specs.Below.{all_below}
use Rattle.store_blocks.specs.Blocks.{is_ff}
use Rattle.store_blocks.proofs.filled.Given as goal

abbrev pub invariant-loop-k : goal.invariant-loop-k
invariant-loop-k l = eqb l.all 4294967295 ≡ all_below (4 * l.k) (is_ff l.s l.i)
