-- `call_indexed::read::indexed_plan` meets its contract: the order of the refusals.
use Rattle.std.proofs.Common.{◌≡◌, Some, None, arith, rules}
use Rattle.std.proofs.lemmas.Result.{err_from_is_err_and}
use Rattle.store_directory.proofs.StoreLaws.{stored_good, stored_bad}
use Rattle.store_directory.proofs.ValidLaws.{blocks_few}
use Rattle.store_index.specs.Index.{line_of}
use Rattle.call_answers.specs.declared.refusal.Refusal.TheVariants.{BadStore}
use Rattle.call_indexed.proofs.IndexedReadLaws.{indexed_bad, indexed_foreign, indexed_number, indexed_line}
use Rattle.call_indexed.proofs.read.indexed_plan.Goals as goal

pub returns-in_err-d : goal.returns-in_err-d
returns-in_err-d c =
    let n : c.read_store.result ≡ None = grind arith in
    let p = err_from_is_err_and c.from_residual.result c.from_residual.ensures.1 in
    let b : c.in_err-d.field-0.0 ≡ BadStore = grind arith in
    rw (p.1, p.2, b) (indexed_bad _ _ _ _ (stored_bad _ _ c.read_store.ensures n))

pub bounds-columns-b : goal.bounds-columns-b
bounds-columns-b c =
    let n : c.read_store.result ≡ Some c.in_ok-d.d = grind arith in
    omega (arith, blocks_few _ (stored_good _ _ c.read_store.ensures _ n))

pub bounds-columns-b-else-b-store : goal.bounds-columns-b-else-b-store
bounds-columns-b-else-b-store c =
    let n : c.read_store.result ≡ Some c.in_ok-d.d = grind arith in
    omega (arith, blocks_few _ (stored_good _ _ c.read_store.ensures _ n))

pub returns-then-not-is_own : goal.returns-then-not-is_own
returns-then-not-is_own c = search (rules, indexed_foreign, stored_good)

pub returns-then-b-store : goal.returns-then-b-store
returns-then-b-store c = search (rules, indexed_number, stored_good)

pub returns : goal.returns
unfolding line_of
returns c = search (rules, indexed_line, stored_good)
