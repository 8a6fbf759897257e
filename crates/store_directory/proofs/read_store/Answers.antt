-- `store_directory::read_store` meets its contract, by the four ways to the directory.
use Rattle.std.proofs.Common.{◌≤◌, ◌/◌, length, sym, ◌∙◌, arith}
use Rattle.store_blocks.specs.LengthLaws.{length_few}
use Rattle.store_directory.proofs.StoreLaws.{scanned_few, store_length, store_bad, store_clash, store_good}
use Rattle.store_directory.proofs.PairedLaws.{scanned_pairs}
use Rattle.store_directory.proofs.read_store.Goals as goal

pub returns-then-not-length_ok : goal.returns-then-not-length_ok
returns-then-not-length_ok c = search store_length

pub scan-requires : goal.scan-requires
scan-requires c = length_few _ (sym c.length_ok.ensures ∙ c.if-not-length_ok.false)

pub returns-in_err-d : goal.returns-in_err-d
returns-in_err-d c = rw c.from_residual.ensures (store_bad _ _ c.length_ok.ensures c.if-not-length_ok.false _ c.scan.ensures c.in_err-d.was)

pub clash-requires : goal.clash-requires
clash-requires c =
    let k : length c.args.s.now / 2048 ≤ 32 = length_few _ (sym c.length_ok.ensures ∙ c.if-not-length_ok.false) in
    (omega (arith, scanned_few _ _ _ c.scan.ensures _ c.in_ok-d.was), scanned_pairs _ _ _ _ c.scan.ensures c.in_ok-d.was)

pub returns-then-clash : goal.returns-then-clash
returns-then-clash c =
    store_clash _ _ c.length_ok.ensures c.if-not-length_ok.false _ c.scan.ensures _ c.in_ok-d.was _ c.clash.ensures c.if-clash.true

pub returns : goal.returns
returns c =
    store_good _ _ c.length_ok.ensures c.if-not-length_ok.false _ c.scan.ensures _ c.in_ok-d.was _ c.clash.ensures c.if-clash.false
