-- `store_directory::clash::clash` meets its contract, by the laws of the two scans.
use Rattle.std.proofs.Common.{arith}
use Rattle.laws.specs.Below.{any_none}
use Rattle.store_directory.proofs.ClashLaws.{kept_none, kept_more, kept_at, clash_more, clash_apart, clash_stop, row_more, clash_done}
use Rattle.store_directory.proofs.clash.clash.Goals as goal

pub loop-i-init : goal.loop-i-init
loop-i-init c = (any_none _, kept_none _ _)

pub loop-j-init : goal.loop-j-init
loop-j-init c = any_none _

-- past an update, by the readings and by the bytes
pub loop-j-preserved-then-headers_apart : goal.loop-j-preserved-then-headers_apart
loop-j-preserved-then-headers_apart c =
    let kept = kept_more _ _ _ _ _ _ (omega arith) c.from_start-a.ensures c.loop-i.invariant.1 c.judged_pairs-p.ensures in
    clash_apart _ _ _ _ _ _ _ _ c.from_start-a.ensures c.judged_pairs-p.ensures (kept.each _ (omega arith)) c.headers_apart.ensures c.if-headers_apart.true c.loop-j.invariant

pub pairs_share-requires : goal.pairs_share-requires
pairs_share-requires c =
    let kept = kept_more _ _ _ _ _ _ (omega arith) c.from_start-a.ensures c.loop-i.invariant.1 c.judged_pairs-p.ensures in
    (c.judged_pairs-p.ensures, kept_at _ _ _ _ _ _ (omega arith) c.from_start-b.ensures kept)

pub loop-j-preserved : goal.loop-j-preserved
loop-j-preserved c =
    clash_more _ _ _ _ _ _ _ c.from_start-a.ensures c.from_start-b.ensures c.pairs_share.ensures c.loop-j.invariant c.if-pairs_share.false

pub loop-i-preserved : goal.loop-i-preserved
loop-i-preserved c = (
  row_more _ _ _ c.loop-i.invariant.0 _ c.loop-j.invariant (omega arith) (omega arith),
  kept_more _ _ _ _ _ _ (omega arith) c.from_start-a.ensures c.loop-i.invariant.1 c.judged_pairs-p.ensures,
)

pub returns : goal.returns
returns c = clash_done _ _ _ c.loop-i.invariant.0 _ (omega arith) (omega arith)

pub returns-then-pairs_share : goal.returns-then-pairs_share
returns-then-pairs_share c =
    clash_stop _ _ _ _ _ _ _ c.from_start-a.ensures c.from_start-b.ensures c.pairs_share.ensures _ (omega arith) (omega arith) c.if-pairs_share.true
