-- `store_directory::scan::scan` meets its contract, by the laws of `State`.
use Rattle.std.proofs.Common.{◌≡◌, arith, rules}
use Rattle.laws.specs.Below.{all_stop}
use Rattle.store_directory.specs.Scan.{sound, scanned, directory_to}
use Rattle.store_directory.specs.SlotLaws.{slot_byte}
use Rattle.store_directory.specs.ScanLaws.{slot_read, state_named, state_start, state_later, state_unused, state_update, state_bad}
use Rattle.store_directory.proofs.scan.scan.Goals as goal
use Rattle.store_directory.proofs.scan.scan.Goals.{then-next-b+in-Unused, then-next-b+in-Update, else-next-b}

pub loop-b-init : goal.loop-b-init
loop-b-init c = state_start _

pub overflow_cast-sizes : goal.overflow_cast-sizes
overflow_cast-sizes c = search (rules, slot_byte)

pub returns-in-Bad : goal.returns-in-Bad
unfolding scanned
returns-in-Bad c =
    let bad = slot_read _ _ _ _ _ c.from_block.ensures c.read_slot.ensures c.in-Bad.is in
    rw (all_stop (sound c.args.s.now) c.args.n c.loop-b.b c.loop-b-test.true (state_bad _ _ _ _ _ _ c.loop-b.invariant c.if-next-b.true bad))

pub loop-b-preserved : goal.loop-b-preserved
loop-b-preserved c =
    let st = c.loop-b.invariant in
    elim c.if-next-b.branch [
      | then-next-b+in-Unused w ↦ state_named _ _ _ _ _ _ _ _ _ _ w.starts-is w.sizes-is w.count-is w.next-is
          (state_unused _ _ _ _ _ _ st w.if-next-b.true (slot_read _ _ _ _ _ w.from_block.ensures w.read_slot.ensures w.in-Unused.is))
      | then-next-b+in-Update w ↦ state_named _ _ _ _ _ _ _ _ _ _ w.starts-is w.sizes-is w.count-is w.next-is
          (state_update _ _ _ _ _ _ st (omega arith) w.if-next-b.true _ (slot_read _ _ _ _ _ w.from_block.ensures w.read_slot.ensures w.in-Update.is))
      | else-next-b w ↦ state_named _ _ _ _ _ _ _ _ _ _ w.starts-is w.sizes-is w.count-is w.next-is (state_later _ _ _ _ _ _ st w.if-next-b.false)
    ]

pub returns : goal.returns
unfolding scanned directory_to
returns c =
    let st = c.loop-b.invariant in
    let e : c.loop-b.b ≡ c.args.n = omega arith in
    rw (← e, st.all_sound, st.count_is, ← st.starts_are, ← st.sizes_are)
