-- `load_indexed::choose_by` meets its contract: the order of the answers.
use Rattle.std.proofs.Common.{rules, arith, ◌≡◌, None}
use Rattle.std.proofs.lemmas.Result.{err_from_is_err_and}
use Rattle.store_directory.proofs.StoreLaws.{stored_bad, stored_good}
use Rattle.call_answers.specs.declared.refusal.Refusal.TheVariants.{BadStore}
use Rattle.load_indexed.proofs.IndexedLoadLaws.{indexed_bad, indexed_foreign, indexed_off, indexed_on}
use Rattle.load_indexed.proofs.choose_by.Goals as goal

pub returns-in_err-d : goal.returns-in_err-d
returns-in_err-d c =
    let p = err_from_is_err_and c.from_residual.result c.from_residual.ensures.1 in
    let none : c.read_store.result ≡ None = grind arith in
    let e : c.in_err-d.field-0.0 ≡ BadStore = grind arith in
    rw (p.1, p.2, e) (indexed_bad _ _ _ _ _ (stored_bad _ _ c.read_store.ensures none))

pub returns-then-not-is_own : goal.returns-then-not-is_own
returns-then-not-is_own c = search (rules, indexed_foreign, stored_good)

pub returns-then-not-loading : goal.returns-then-not-loading
returns-then-not-loading c = search (rules, indexed_off, stored_good)

pub returns : goal.returns
returns c = search (rules, indexed_on, stored_good)
