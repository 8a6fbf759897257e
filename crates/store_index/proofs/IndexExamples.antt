-- Lines of the index after a write, evaluated at the edges (document 02, One). The old index has every number 9, so that a line that stays
-- is told from one that is cleared.
--   placed           block 31 of a run of 16 from block 30 on: blocks above 31 are ignored
--   before_run       the block before it stays
--   cleared          a block whose bit is set is unused
--   run_over_bits    a block of the run is the candidate's, though its bit is set
--   above            a start above 31 places nothing
--   no_size          nor does a size of 0
--   far              nor does a run whose end is above 2^32
use Rattle.std.specs.Prelude.{◌≡◌, refl}
use Rattle.laws.specs.Bits.{bit}
use Rattle.laws.specs.Span.{spans}
use Rattle.laws.specs.Unless.{unless}
use Rattle.store_index.specs.Index.{unused_line, update_line, line_of}
use Rattle.store_index.specs.IndexAfter.{cleared_line, line_after}
use Rattle.store_index.specs.IndexExamples.{nines, nine}

pub placed : line_after nines 0 30 8 16 31 ≡ record { kind = 2; start = 30; revision = 8; size = 16 }
unfolding line_after cleared_line unless spans bit update_line line_of
placed = refl

pub before_run : line_after nines 0 30 8 16 29 ≡ nine
unfolding line_after cleared_line unless spans bit update_line line_of
before_run = refl

pub cleared : line_after nines 6 0 8 1 2 ≡ unused_line
unfolding line_after cleared_line unless spans bit update_line line_of
cleared = refl

pub run_over_bits : line_after nines 6 1 8 1 1 ≡ record { kind = 1; start = 1; revision = 8; size = 1 }
unfolding line_after cleared_line unless spans bit update_line line_of
run_over_bits = refl

pub above : line_after nines 0 32 8 1 31 ≡ nine
unfolding line_after cleared_line unless spans bit update_line line_of
above = refl

pub no_size : line_after nines 0 5 8 0 5 ≡ nine
unfolding line_after cleared_line unless spans bit update_line line_of
no_size = refl

pub far : line_after nines 0 4294967295 8 2 0 ≡ nine
unfolding line_after cleared_line unless spans bit update_line line_of
far = refl
