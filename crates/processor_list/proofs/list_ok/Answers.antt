-- A platform above 7, in `processor_list::list_ok`.
use Rattle.std.proofs.Common.{◌≤◌, length, arith, rules}
use Rattle.processor_list.specs.ListLaws.{list_platform}
use Rattle.processor_list.proofs.list_ok.Goals as goal

pub returns-then-not-platform_ok : goal.returns-then-not-platform_ok
returns-then-not-platform_ok c =
    let some : 1 ≤ length c.args.signatures.now = grind arith in
    list_platform _ (omega arith) some (omega arith) c.loop-i.i c.platform_ok.result c.loop-i-test.true c.platform_ok.ensures (search rules)
