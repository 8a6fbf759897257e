-- What a write leaves alone.
--   write_coded      the answer's codes are right
--   write_refused    a refused write changes no byte of the store
--   write_kept       the store is as it was, or the write was accepted
use Rattle.std.specs.Prelude.{ℕ, ◌≡◌, Bool, List, Ok, Err, ◌⊎◌}
use Rattle.std.proofs.Math.Path.{refl}
use Rattle.std.proofs.Math.Bool.{true, false}
use Rattle.std.proofs.Math.Logic.{inl, inr}
use Rattle.std.proofs.Math.Dec.{eqb}
use Rattle.laws.specs.Orders.{impossible}
use Rattle.laws.specs.Unless.{unless}
use Rattle.update_header.specs.Fields.{revision}
use Rattle.processor_list.specs.Processors.{ProcessorList}
use Rattle.write_outcome.specs.EmptiedBlocks.{emptied_blocks}
use Rattle.call_answers.specs.Codes.{success, none}
use Rattle.call_answers.specs.Answers.{Coded}
use Rattle.call_answers.specs.Refusals.{refused}
use Rattle.call_answers.specs.declared.answer.Written.{Written as WrittenNumbers}
use Rattle.call_answers.specs.declared.answer.Refused.{Refused as RefusedNumbers}
use Rattle.call_answers.specs.declared.answer.Answer.TheVariants.{Written, Refused}
use Rattle.call_answers.specs.declared.refusal.Refusal.{Refusal}
use Rattle.call_answers.specs.declared.refusal.Refusal.TheVariants.{NotImplemented, BadStore, BadProcessors, ShortDestination, SharingNeeded, NoRun, ProcessorNotPresent, InvalidHeader, InvalidHeaderSum, SecurityFailure, InvalidRevision, InvalidBlock, NotEmpty}
use Rattle.write_plan.specs.Plan.{Plan}
use Rattle.write_call.specs.Write.{write_plan, emptied_at, written, answered, write_answer, bytes_after, write_bytes}

-- each refusal has a code that is not SUCCESS
refused_coded : (r : Refusal) → Coded (refused r)
unfolding Coded
refused_coded NotImplemented = (refl, refl)
refused_coded BadStore = (refl, refl)
refused_coded BadProcessors = (refl, refl)
refused_coded ShortDestination = (refl, refl)
refused_coded SharingNeeded = (refl, refl)
refused_coded NoRun = (refl, refl)
refused_coded ProcessorNotPresent = (refl, refl)
refused_coded InvalidHeader = (refl, refl)
refused_coded InvalidHeaderSum = (refl, refl)
refused_coded SecurityFailure = (refl, refl)
refused_coded InvalidRevision = (refl, refl)
refused_coded InvalidBlock = (refl, refl)
refused_coded NotEmpty = (refl, refl)

-- of the answer of a plan
module _ (old cand : List ℕ) (back : ℕ) where
  answered_coded : (p : Plan) → Coded (answered old cand back p)
  unfolding answered unless Coded
  answered_coded (Ok r) = go (eqb back (revision cand))
    where
      go : (t : Bool) → Coded (unless t (refused SecurityFailure) (written r.start r.emptied (emptied_blocks old (emptied_at old cand r.start))))
      go true = (refl, refl, refl)
      go false = (refl, refl)
  answered_coded (Err r) = refused_coded r

  answered_refused : (p : Plan) (a : RefusedNumbers) → answered old cand back p ≡ Refused a → bytes_after old cand back p ≡ old
  unfolding answered bytes_after unless
  answered_refused (Ok r) a e = go (eqb back (revision cand)) refl e
    where
      go : (t : Bool) → eqb back (revision cand) ≡ t → unless t (refused SecurityFailure) (written r.start r.emptied (emptied_blocks old (emptied_at old cand r.start))) ≡ Refused a
          → bytes_after old cand back (Ok r) ≡ old
      go true q f = absurd (impossible (cc))
      go false q f = rw q
  answered_refused (Err r) a e = refl

  answered_kept : (p : Plan) → (bytes_after old cand back p ≡ old) ⊎ ((a : WrittenNumbers) × (answered old cand back p ≡ Written a))
  unfolding answered bytes_after unless
  answered_kept (Ok r) = go (eqb back (revision cand)) refl
    where
      go : (t : Bool) → eqb back (revision cand) ≡ t
          → (bytes_after old cand back (Ok r) ≡ old) ⊎ ((a : WrittenNumbers) × (answered old cand back (Ok r) ≡ Written a))
      go true q = inr (record { ah = success; al = none; carry = false; start = r.start; emptied = r.emptied; emptied_blocks = emptied_blocks old (emptied_at old cand r.start) }, rw q)
      go false q = inl (rw q)
  answered_kept (Err r) = inl refl

module _ (old : List ℕ) (list : ProcessorList) (cand : List ℕ) (back : ℕ) where
  pub write_coded : Coded (write_answer old list cand back)
  unfolding write_answer
  write_coded = answered_coded old cand back (write_plan old list cand)

  pub write_refused : (a : RefusedNumbers) → write_answer old list cand back ≡ Refused a → write_bytes old list cand back ≡ old
  unfolding write_answer write_bytes
  write_refused a e = answered_refused old cand back (write_plan old list cand) a e

  pub write_kept : (write_bytes old list cand back ≡ old) ⊎ ((a : WrittenNumbers) × (write_answer old list cand back ≡ Written a))
  unfolding write_answer write_bytes
  write_kept = answered_kept old cand back (write_plan old list cand)
