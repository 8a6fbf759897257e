-- `write_call::accept` meets its contract: what each return answers and leaves is meant, by its check.
use Rattle.std.proofs.Common.{rules}
use Rattle.std.proofs.lemmas.Result.{err_from_is_err_and}
use Rattle.write_call.specs.CandidateSizeLaws.{good_total}
use Rattle.write_call.specs.PlanCases.{plan_bad, plan_list, plan_judged, plan_absent, plan_outdated, plan_newer}
use Rattle.write_call.proofs.Storing.{can_store}
use Rattle.write_call.proofs.WriteCases.{meant_err, meant_other, meant_done}
use Rattle.write_call.proofs.accept.Goals as goal

pub returns-in_default : goal.returns-in_default
returns-in_default c = meant_err _ _ _ _ _ (plan_bad _ _ _ _ c.read_store.ensures c.in_default.is)

pub returns-then-not-list_ok : goal.returns-then-not-list_ok
returns-then-not-list_ok c =
    meant_err _ _ _ _ _ (plan_list _ _ _ _ c.read_store.ensures _ c.in-Some.is _ c.list_ok.ensures c.if-not-list_ok.true)

pub returns-in-Err : goal.returns-in-Err
returns-in-Err c =
    rw c.refusal_of.ensures
    (meant_err _ _ _ _ _
    (plan_judged _ _ _ _ c.read_store.ensures _ c.in-Some.is _ c.list_ok.ensures c.if-not-list_ok.false _ c.check_update.ensures _ c.in-Err.is))

pub returns-then-not-covers_one : goal.returns-then-not-covers_one
returns-then-not-covers_one c =
    meant_err _ _ _ _ _
    (plan_absent _ _ _ _ c.read_store.ensures _ c.in-Some.is _ c.list_ok.ensures c.if-not-list_ok.false _ c.check_update.ensures _ c.in-Ok.is _ c.covered-covered.ensures _
    c.covers_one.ensures c.if-not-covers_one.true)

pub returns-then-outdated : goal.returns-then-outdated
returns-then-outdated c =
    meant_err _ _ _ _ _
    (plan_outdated _ _ _ _ c.read_store.ensures _ c.in-Some.is _ c.list_ok.ensures c.if-not-list_ok.false _ c.check_update.ensures _ c.in-Ok.is _ c.covered-covered.ensures _
    c.covers_one.ensures c.if-not-covers_one.false _ c.outdated.ensures c.if-outdated.true)

pub returns-in_err-run : goal.returns-in_err-run
returns-in_err-run c =
    let p = err_from_is_err_and c.from_residual.result c.from_residual.ensures.1 in
    rw (p.1, p.2)
    (meant_err _ _ _ _ _
    (plan_newer _ _ _ _ c.read_store.ensures _ c.in-Some.is _ c.list_ok.ensures c.if-not-list_ok.false _ c.check_update.ensures _ c.in-Ok.is _ c.covered-covered.ensures _
    c.covers_one.ensures c.if-not-covers_one.false _ c.outdated.ensures c.if-outdated.false _ c.mark-marked.ensures _ c.in_err-run.ensures))

pub returns-then-back-revision : goal.returns-then-back-revision
returns-then-back-revision c =
    meant_other _ _ _ _ _
    (plan_newer _ _ _ _ c.read_store.ensures _ c.in-Some.is _ c.list_ok.ensures c.if-not-list_ok.false _ c.check_update.ensures _ c.in-Ok.is _ c.covered-covered.ensures _
    c.covers_one.ensures c.if-not-covers_one.false _ c.outdated.ensures c.if-outdated.false _ c.mark-marked.ensures _ c.in_ok-run.ensures)
    _ c.revision.ensures (search rules)

pub store_candidate-emptied_blocks-requires : goal.store_candidate-emptied_blocks-requires
store_candidate-emptied_blocks-requires c = (
  can_store _ _ _ _ _
      (plan_newer _ _ _ _ c.read_store.ensures _ c.in-Some.is _ c.list_ok.ensures c.if-not-list_ok.false _ c.check_update.ensures _ c.in-Ok.is _ c.covered-covered.ensures _
      c.covers_one.ensures c.if-not-covers_one.false _ c.outdated.ensures c.if-outdated.false _ c.mark-marked.ensures _ c.in_ok-run.ensures)
      c.mark-marked.ensures,
  good_total _ _ _ c.check_update.ensures c.in-Ok.is,
)

pub returns : goal.returns
returns c =
    meant_done _ _ _ _ _
    (plan_newer _ _ _ _ c.read_store.ensures _ c.in-Some.is _ c.list_ok.ensures c.if-not-list_ok.false _ c.check_update.ensures _ c.in-Ok.is _ c.covered-covered.ensures _
    c.covers_one.ensures c.if-not-covers_one.false _ c.outdated.ensures c.if-outdated.false _ c.mark-marked.ensures _ c.in_ok-run.ensures)
    _ c.revision.ensures _ _ (search rules) c.store_candidate-emptied_blocks.ensures.answers c.store_candidate-emptied_blocks.ensures.stores
