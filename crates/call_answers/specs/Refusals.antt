-- The refusals by their rules, and the codes of each (document 01, "Codes").
--   ah_for, al_for   its AH and AL
--   refused          the answer that refuses, its other numbers 0
use Rattle.std.specs.Prelude.{ℕ}
use Rattle.call_answers.specs.Codes.{not_implemented, read_failure, storage_full, cpu_not_present, invalid_header, invalid_header_cs, security_failure, invalid_revision, update_num_invalid, not_empty, none, bad_store, bad_processors, short_destination, sharing_needed, no_run}
use Rattle.call_answers.specs.Answers.{refusal}
use Rattle.call_answers.specs.declared.answer.Answer.{Answer}
use Rattle.call_answers.specs.declared.refusal.Refusal.{Refusal}
use Rattle.call_answers.specs.declared.refusal.Refusal.TheVariants.{NotImplemented, BadStore, BadProcessors, ShortDestination, SharingNeeded, NoRun, ProcessorNotPresent, InvalidHeader, InvalidHeaderSum, SecurityFailure, InvalidRevision, InvalidBlock, NotEmpty}

abbrev pub ah_for : Refusal → ℕ
ah_for NotImplemented = not_implemented
ah_for BadStore = read_failure
ah_for BadProcessors = read_failure
ah_for ShortDestination = read_failure
ah_for SharingNeeded = storage_full
ah_for NoRun = storage_full
ah_for ProcessorNotPresent = cpu_not_present
ah_for InvalidHeader = invalid_header
ah_for InvalidHeaderSum = invalid_header_cs
ah_for SecurityFailure = security_failure
ah_for InvalidRevision = invalid_revision
ah_for InvalidBlock = update_num_invalid
ah_for NotEmpty = not_empty

abbrev pub al_for : Refusal → ℕ
al_for NotImplemented = none
al_for BadStore = bad_store
al_for BadProcessors = bad_processors
al_for ShortDestination = short_destination
al_for SharingNeeded = sharing_needed
al_for NoRun = no_run
al_for ProcessorNotPresent = none
al_for InvalidHeader = none
al_for InvalidHeaderSum = none
al_for SecurityFailure = none
al_for InvalidRevision = none
al_for InvalidBlock = none
al_for NotEmpty = none

abbrev pub refused : Refusal → Answer
refused r = refusal (ah_for r) (al_for r)
