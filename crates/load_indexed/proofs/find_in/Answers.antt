-- `load_indexed::find_in` meets its contract: by the scan of the blocks.
use Rattle.std.proofs.Common.{refl, arith}
use Rattle.laws.specs.Below.{any_none}
use Rattle.load_indexed.proofs.IndexedLoadLaws.{blocks_most, first_pairs, scan_other, scan_next, scan_found, scan_nothing}
use Rattle.load_indexed.proofs.find_in.Goals as goal
use Rattle.load_indexed.proofs.find_in.Goals.{then-columns-b-eq-FIRST+else-covers_with, else-columns-b-eq-FIRST}

pub loop-b-init : goal.loop-b-init
loop-b-init c = (any_none _, blocks_most _ c.requires.0 _ c.requires.1)

pub judged_pairs-requires : goal.judged_pairs-requires
judged_pairs-requires c = first_pairs _ c.requires.0 _ c.requires.1 c.loop-b.b _ (omega arith) c.if-columns-b-eq-FIRST.true c.from_block-u.ensures

pub returns-then-covers_with : goal.returns-then-covers_with
returns-then-covers_with c =
    scan_found _ _ _ _ c.loop-b.b _ refl _ _ c.if-columns-b-eq-FIRST.true c.from_block-u.ensures c.covers_with.ensures c.loop-b.invariant.0 c.loop-b-test.true
    c.if-covers_with.true

pub loop-b-preserved : goal.loop-b-preserved
loop-b-preserved c =
    let l = c.loop-b in (
      elim c.if-columns-b-eq-FIRST.branch [
        | then-columns-b-eq-FIRST+else-covers_with w ↦
            scan_next _ _ _ _ l.b _ refl _ _ w.if-columns-b-eq-FIRST.true w.from_block-u.ensures w.covers_with.ensures l.invariant.0 w.if-covers_with.false
        | else-columns-b-eq-FIRST w ↦ scan_other _ _ _ _ l.b _ refl l.invariant.0 w.if-columns-b-eq-FIRST.false
      ],
      l.invariant.1,
    )

pub returns : goal.returns
returns c = scan_nothing _ _ _ _ c.loop-b.b _ refl c.loop-b.invariant.0 (omega arith) c.loop-b-test.false
