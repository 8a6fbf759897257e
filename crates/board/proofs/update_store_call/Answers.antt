-- `board::update_store_call` meets its contract: a refused function or sub-function, laid out.
use mathlib.Core.Path.{refl, ap, ◌∙◌}
use Rattle.std.proofs.Common.{arith}
use Rattle.call_answers.specs.declared.answer.Reply.{Reply}
use Rattle.call_dispatch.specs.Call.{inputs_of, unknown}
use Rattle.call_dispatch.proofs.CallLaws.{unknown_called}
use Rattle.board_call_words.specs.Words.{ax_of, call_words}
use Rattle.board.proofs.update_store_call.Goals as goal

pub returns-then-is_err : goal.returns-then-is_err
unfolding unknown ax_of
returns-then-is_err c =
    let i = inputs_of c.args.function c.args.sub_function c.args.task c.args.block c.args.loading c.args.store.now c.args.signatures.now c.args.platforms.now c.args.candidate.now c.args.read_back c.args.destination.now in
    let q = unknown_called i (unknown c.args.loading) (grind arith) refl in
    record {
      result = ap (λ (r : Reply). ax_of r.answer) q.0;
      answers = c.unknown_words.ensures ∙ ap call_words q.0;
      stores = q.1.0;
      copies = q.1.1;
    }
