-- The blocks passed are in the layout, and the digits of the others are left.
use Rattle.std.proofs.Common.{◌≡◌, ◌/◌, ◌^◌, Some}
use Rattle.test_all_outcomes.specs.SmallLayouts.{coded_to}
use Rattle.test_all_outcomes.proofs.layout.coded.Given as goal

abbrev pub invariant-loop-block : goal.invariant-loop-block
invariant-loop-block l = (coded_to l.blocks l.code l.block ≡ Some l.l) × (l.rest ≡ l.code / 9 ^ l.block)
