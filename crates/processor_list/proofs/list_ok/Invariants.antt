-- What the loop of `processor_list::list_ok` keeps: each platform passed is at most 7.
use Rattle.std.proofs.Common.{◌≡◌, true}
use Rattle.laws.specs.Below.{all_below}
use Rattle.processor_list.specs.Processors.{platform_ok}
use Rattle.processor_list.proofs.list_ok.Given as goal

abbrev pub invariant-loop-i : goal.invariant-loop-i
invariant-loop-i l = all_below l.i (platform_ok l.platforms) ≡ true
