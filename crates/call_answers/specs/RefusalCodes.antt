-- The codes of each refusal, in the numbers of document 01, "Codes". The laws of the calls say which refusal a call answers, this one which
-- codes that is.
--   RefusalCodes    the answer of each refusal, by its AH and AL; refusal_codes (proofs/) proves it
use Rattle.std.specs.Prelude.{◌≡◌}
use Rattle.call_answers.specs.Answers.{refusal}
use Rattle.call_answers.specs.Refusals.{refused}
use Rattle.call_answers.specs.declared.refusal.Refusal.TheVariants.{NotImplemented, BadStore, BadProcessors, ShortDestination, SharingNeeded, NoRun, ProcessorNotPresent, InvalidHeader, InvalidHeaderSum, SecurityFailure, InvalidRevision, InvalidBlock, NotEmpty}

pub record RefusalCodes : Type 0 where
  pub unknown : refused NotImplemented ≡ refusal 0x86 0
  pub store : refused BadStore ≡ refusal 0x92 1
  pub processors : refused BadProcessors ≡ refusal 0x92 2
  pub destination : refused ShortDestination ≡ refusal 0x92 3
  pub sharing : refused SharingNeeded ≡ refusal 0x93 4
  pub run : refused NoRun ≡ refusal 0x93 5
  pub present : refused ProcessorNotPresent ≡ refusal 0x94 0
  pub header : refused InvalidHeader ≡ refusal 0x95 0
  pub sum : refused InvalidHeaderSum ≡ refusal 0x96 0
  pub security : refused SecurityFailure ≡ refusal 0x97 0
  pub revision : refused InvalidRevision ≡ refusal 0x98 0
  pub block : refused InvalidBlock ≡ refusal 0x99 0
  pub empty : refused NotEmpty ≡ refusal 0x9A 0
