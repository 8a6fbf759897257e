-- `store_index::own::is_own` meets its contract: each entry of the directory, then the count of the used lines.
use Rattle.std.proofs.Common.{refl, ap, ◌∙◌, arith}
use Rattle.update_header.specs.Fields.{revision}
use Rattle.store_directory.proofs.StoreLaws.{stored_some, directory_few}
use Rattle.store_index.proofs.OwnIndexLaws.{behind_none, behind_more, entry_inside, end_inside, blocks_none, blocks_few, blocks_more, own_none, own_more, own_done}
use Rattle.store_index.proofs.own.is_own.Goals as goal

pub loop-i-init : goal.loop-i-init
loop-i-init c = let n = blocks_none _ _ in (own_none _ _ _ _ refl, n.0, behind_none _, n.1, directory_few _ _ (stored_some _ _ c.requires).0)

pub update_lines-differs-requires : goal.update_lines-differs-requires
update_lines-differs-requires c = entry_inside _ _ c.requires c.loop-i.i _ _ c.loop-i-test.true c.from-start.ensures c.from-size.ensures

pub overflow_add-blocks : goal.overflow_add-blocks
overflow_add-blocks c = omega (arith, blocks_few _ _ _ c.loop-i.invariant.1 c.loop-i.invariant.3)

pub loop-i-preserved : goal.loop-i-preserved
loop-i-preserved c =
    let h = c.loop-i in
    let e = c.requires in
    let t = c.loop-i-test.true in
    let q = c.from-start.ensures in
    let k = c.from-size.ensures in
    let f = c.revision-revision.ensures ∙ ap revision c.from_block.ensures in (
      own_more _ _ e h.i _ _ _ t q k f _ h.differs _ h.invariant.0 c.update_lines-differs.ensures,
      blocks_more _ _ e h.i _ _ _ t q k f h.blocks h.invariant.1 h.invariant.2,
      behind_more _ _ e h.i t,
      end_inside _ _ e h.i t,
      h.invariant.4,
    )

pub returns : goal.returns
returns c =
    let l = c.loop-i in
    own_done _ _ c.requires _ l.i _ _ l.differs (omega arith) l.invariant.2 l.invariant.3 l.invariant.0 l.invariant.1 c.used_lines-used.ensures
