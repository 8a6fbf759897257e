-- A piece that isn't empty leaves less room, and what is counted within the buffer.
use Rattle.std.proofs.Common.{arith}
use Rattle.report_input.specs.InputLaws.{add_still, add_within, add_less}
use Rattle.catalogue.proofs.read.Goals as goal

pub loop-have-smaller : goal.loop-have-smaller
loop-have-smaller g c =
    let k = add_less _ _ _ _ _ _ c.loop-have-test.true c.if-n-eq0.false c.in_ok-n.ensures.bound.1 c.add-have.ensures.value c.add-have.ensures.buffer_after in
    let l = add_still _ _ _ _ _ _ c.loop-have-test.true c.if-n-eq0.false c.in_ok-n.ensures.bound.1 c.add-have.ensures.value c.add-have.ensures.buffer_after _ c.loop-have.invariant.long in
    omega (arith, k, l)

pub loop-have-preserved : goal.loop-have-preserved
loop-have-preserved g c =
    record {
      within = add_within _ _ _ _ _ _ c.loop-have-test.true c.if-n-eq0.false c.in_ok-n.ensures.bound.1 c.add-have.ensures.value c.add-have.ensures.buffer_after;
      long = add_still _ _ _ _ _ _ c.loop-have-test.true c.if-n-eq0.false c.in_ok-n.ensures.bound.1 c.add-have.ensures.value c.add-have.ensures.buffer_after _ c.loop-have.invariant.long;
    }
