-- `call_dispatch::call` meets its contract: the verdict on function and sub-function, then what the called function ensures.
use Rattle.std.proofs.Common.{arith}
use Rattle.call_dispatch.specs.Call.{inputs_of}
use Rattle.call_dispatch.proofs.Demand1Laws.{demanded}
use Rattle.call_dispatch.proofs.CallLaws.{presence_called, write_called, control_called, read_called, unknown_called, at_presence, at_write, at_control, at_read}
use Rattle.call_dispatch.proofs.call.Goals as goal

pub returns-in-Ok-Presence : goal.returns-in-Ok-Presence
returns-in-Ok-Presence c =
    let i = inputs_of c.args.function c.args.sub c.args.task c.args.block c.args.loading c.args.store.now c.args.signatures.now c.args.platforms.now c.args.candidate.now c.args.back c.args.destination.now in
    let h = at_presence _ _ (rw c.in-Ok-Presence.field-0-is at c.in-Ok-Presence.ensures) in
    let q = demanded i _ _ _ (presence_called i h.0 _ h.1 c.presence.ensures) in
    record { replies = q.0; stores = q.1.0; copies = q.1.1.0; demand = q.1.1.1 }

pub returns-in-Ok-Write : goal.returns-in-Ok-Write
returns-in-Ok-Write c =
    let i = inputs_of c.args.function c.args.sub c.args.task c.args.block c.args.loading c.args.store.now c.args.signatures.now c.args.platforms.now c.args.candidate.now c.args.back c.args.destination.now in
    let h = at_write _ _ (rw c.in-Ok-Write.field-0-is at c.in-Ok-Write.ensures) in
    let q = demanded i _ _ _ (write_called i h.0 _ _ h.1 c.write.ensures.answers c.write.ensures.stores) in
    record { replies = q.0; stores = q.1.0; copies = q.1.1.0; demand = q.1.1.1 }

pub returns-in-Ok-Control : goal.returns-in-Ok-Control
returns-in-Ok-Control c =
    let i = inputs_of c.args.function c.args.sub c.args.task c.args.block c.args.loading c.args.store.now c.args.signatures.now c.args.platforms.now c.args.candidate.now c.args.back c.args.destination.now in
    let h = at_control _ _ (rw c.in-Ok-Control.field-0-is at c.in-Ok-Control.ensures) in
    let q = demanded i _ _ _ (control_called i h.0 _ h.1 c.control.ensures) in
    record { replies = q.0; stores = q.1.0; copies = q.1.1.0; demand = q.1.1.1 }

pub returns-in-Ok-Read : goal.returns-in-Ok-Read
returns-in-Ok-Read c =
    let i = inputs_of c.args.function c.args.sub c.args.task c.args.block c.args.loading c.args.store.now c.args.signatures.now c.args.platforms.now c.args.candidate.now c.args.back c.args.destination.now in
    let h = at_read _ _ (rw c.in-Ok-Read.field-0-is at c.in-Ok-Read.ensures) in
    let q = demanded i _ _ _ (read_called i h.0 _ _ h.1 c.read.ensures.answers c.read.ensures.copies) in
    record { replies = q.0; stores = q.1.0; copies = q.1.1.0; demand = q.1.1.1 }

pub returns-in-Err : goal.returns-in-Err
returns-in-Err c =
    let i = inputs_of c.args.function c.args.sub c.args.task c.args.block c.args.loading c.args.store.now c.args.signatures.now c.args.platforms.now c.args.candidate.now c.args.back c.args.destination.now in
    let q = demanded i _ _ _ (unknown_called i _ (grind arith) c.not_implemented.ensures) in
    record { replies = q.0; stores = q.1.0; copies = q.1.1.0; demand = q.1.1.1 }
