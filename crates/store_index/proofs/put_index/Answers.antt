-- `store_index::put_index` meets its contract: the lines of one update after the other; of a bad store none.
use Rattle.std.proofs.Common.{refl, sym, ap, ◌∙◌, arith}
use Rattle.update_header.specs.Fields.{revision}
use Rattle.store_directory.proofs.StoreLaws.{stored_directory, stored_good, stored_bad, directory_few}
use Rattle.store_index.proofs.IndexLines.{lines_none, lines_inside, lines_more, no_lines, lines_done}
use Rattle.store_index.proofs.put_index.Goals as goal

pub returns-in_default-clause-valid : goal.returns-in_default-clause-valid
returns-in_default-clause-valid c = sym (stored_bad _ _ c.read_store.ensures c.in_default.is)

pub returns-in_default-clause-makes : goal.returns-in_default-clause-makes
returns-in_default-clause-makes c = no_lines _ _ refl _ (stored_bad _ _ c.read_store.ensures c.in_default.is) (lines_none _ _)

pub loop-i-init : goal.loop-i-init
loop-i-init c = (lines_none _ _, directory_few _ _ (stored_directory _ _ c.read_store.ensures _ c.in-Some.is))

pub put_lines-requires : goal.put_lines-requires
put_lines-requires c =
    let d = stored_directory _ _ c.read_store.ensures _ c.in-Some.is in
    let g = stored_good _ _ c.read_store.ensures _ c.in-Some.is in (
      omega arith,
      lines_inside _ _ d g c.loop-i.i _ _ c.loop-i-test.true c.from-start.ensures c.from-size.ensures,
      c.loop-i.invariant.0.long,
    )

pub loop-i-preserved : goal.loop-i-preserved
loop-i-preserved c =
    let d = stored_directory _ _ c.read_store.ensures _ c.in-Some.is in
    let g = stored_good _ _ c.read_store.ensures _ c.in-Some.is in (
      lines_more _ _ d g c.loop-i.i _ _ _ c.loop-i-test.true c.from-start.ensures c.from-size.ensures
          (c.revision-revision.ensures ∙ ap revision c.from_block.ensures) _ _ c.loop-i.invariant.0 c.put_lines.ensures,
      c.loop-i.invariant.1,
    )

pub returns-clause-valid : goal.returns-clause-valid
returns-clause-valid c = sym (stored_good _ _ c.read_store.ensures _ c.in-Some.is)

pub returns-clause-makes : goal.returns-clause-makes
returns-clause-makes c =
    let d = stored_directory _ _ c.read_store.ensures _ c.in-Some.is in
    lines_done _ _ d c.loop-i.i _ c.loop-i.invariant.0 (omega arith) (omega arith)
