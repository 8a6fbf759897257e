-- `store_index::lines::put_line` meets its contract: four numbers, one in each column.
use Rattle.store_index.proofs.UpdateLineLaws.{put_line_lem}
use Rattle.store_index.proofs.lines.put_line.Goals as goal

pub returns : goal.returns
returns c = put_line_lem _ _ _ _ _ c.requires.0 _ c.requires.1
