-- The loop's invariant of `store_index::own::update_lines`: nothing differs exactly if the lines passed are the update's.
use Rattle.store_index.specs.IndexColumns.{index_in}
use Rattle.store_index.specs.OwnLines.{Gathered, UpdateFrom}
use Rattle.store_index.proofs.own.update_lines.Given as goal

abbrev pub invariant-loop-b : goal.invariant-loop-b
invariant-loop-b l = Gathered l.all l.differs (UpdateFrom (index_in l.columns) l.start l.revision l.size l.b)
