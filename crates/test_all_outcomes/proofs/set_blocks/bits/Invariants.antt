-- The bits are those of the blocks passed.
use Rattle.std.proofs.Common.{◌≡◌}
use Rattle.laws.specs.Bits.{bits_below}
use Rattle.test_all_outcomes.specs.SetBlocks.{taken}
use Rattle.test_all_outcomes.proofs.set_blocks.bits.Given as goal

abbrev pub invariant-loop-c : goal.invariant-loop-c
invariant-loop-c l = l.bits ≡ bits_below l.c (taken l.l l.set)
