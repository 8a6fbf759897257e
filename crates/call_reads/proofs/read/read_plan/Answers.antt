-- `call_reads::read::read_plan` meets its contract: the order of the refusals.
use Rattle.std.proofs.Common.{◌≡◌, Some, None, arith}
use Rattle.std.proofs.lemmas.Result.{err_from_is_err_and}
use Rattle.store_directory.proofs.StoreLaws.{stored_directory, stored_good, stored_bad, directory_few}
use Rattle.call_answers.specs.declared.refusal.Refusal.TheVariants.{BadStore}
use Rattle.call_reads.proofs.ReadLaws.{read_bad, read_number, read_kind_lem}
use Rattle.call_reads.proofs.read.read_plan.Goals as goal

pub returns-in_err-d : goal.returns-in_err-d
returns-in_err-d c =
    let n : c.read_store.result ≡ None = grind arith in
    let p = err_from_is_err_and c.from_residual.result c.from_residual.ensures.1 in
    let b : c.in_err-d.field-0.0 ≡ BadStore = grind arith in
    rw (p.1, p.2, b) (read_bad _ _ _ (stored_bad _ _ c.read_store.ensures n))

pub returns-then-block-store : goal.returns-then-block-store
returns-then-block-store c =
    let n : c.read_store.result ≡ Some c.in_ok-d.d = grind arith in
    read_number _ _ _ (stored_good _ _ c.read_store.ensures _ n) (omega arith)

pub block_kind-requires : goal.block_kind-requires
block_kind-requires c =
    let n : c.read_store.result ≡ Some c.in_ok-d.d = grind arith in
    directory_few _ _ (stored_directory _ _ c.read_store.ensures _ n)

pub returns : goal.returns
returns c =
    let n : c.read_store.result ≡ Some c.in_ok-d.d = grind arith in
    read_kind_lem _ _ _ _ (stored_directory _ _ c.read_store.ensures _ n) (stored_good _ _ c.read_store.ensures _ n) (omega arith)
    _ c.block_kind.ensures _ c.read_kind.ensures
