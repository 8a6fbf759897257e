-- Lines of the index after a write, evaluated at the edges (document 02, One). The old index has every number 9, so that a line that stays
-- is told from one that is cleared.
--   nines, nine      the old index, and its lines
use Rattle.std.specs.Prelude.{replicate}
use Rattle.store_index.specs.declared.Line.{Line}
use Rattle.store_index.specs.declared.Index.{Index}

abbrev pub nines : Index
nines = record { kinds = replicate 32 9; starts = replicate 32 9; revisions = replicate 32 9; sizes = replicate 32 9 }

abbrev pub nine : Line
nine = record { kind = 9; start = 9; revision = 9; size = 9 }
