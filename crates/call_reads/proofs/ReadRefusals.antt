-- What presence and a read leave alone.
--   presence_coded, read_coded    the answers' codes are right
--   coded_all, plan_coded, answered_coded    so are those of a plan
--   answered_refused              a plan that refuses changes no byte of the destination
--   read_refused     a refused read changes no byte of the destination
--   read_kept        the destination is as it was, or the read was done
use Rattle.std.specs.Prelude.{ℕ, ◌≡◌, Bool, true, false, Ok, Err, List, ◌⊎◌, length}
use Rattle.std.proofs.Math.Path.{refl}
use Rattle.std.proofs.Math.Logic.{inl, inr}
use Rattle.laws.specs.Orders.{impossible}
use Rattle.laws.specs.Unless.{unless}
use Rattle.store_blocks.specs.Blocks.{block_count}
use Rattle.store_directory.specs.Scan.{store_ok}
use Rattle.call_answers.specs.Codes.{success, read_failure, none, bad_store}
use Rattle.call_answers.specs.Answers.{refusal, Coded}
use Rattle.call_answers.specs.RefusalLaws.{refusal_coded, refused_coded}
use Rattle.call_answers.specs.declared.answer.Read.{Read as ReadNumbers}
use Rattle.call_answers.specs.declared.answer.Refused.{Refused as RefusedNumbers}
use Rattle.call_answers.specs.declared.answer.Answer.TheVariants.{Read, Refused}
use Rattle.call_reads.specs.Presence.{present, presence_answer}
use Rattle.call_reads.specs.Read.{ReadPlan, read_plan, answered, copied, read_answer, read_bytes}
use Rattle.call_reads.specs.ReadRefusals.{coded}

pub presence_coded : (s : List ℕ) → Coded (presence_answer s)
unfolding presence_answer unless Coded
presence_coded s = go (store_ok s)
  where
    go : (t : Bool) → Coded (unless t (refusal read_failure bad_store) (present (block_count s)))
    go true = (refl, refl, refl)
    go false = (refl, refl)

-- of every plan
pub coded_all : (p : ReadPlan) → coded p ≡ true
unfolding coded
coded_all (Ok k) = refl
coded_all (Err r) = rw (refusal_coded r)

pub plan_coded : (s : List ℕ) (b m : ℕ) → coded (read_plan s b m) ≡ true
plan_coded s b m = coded_all (read_plan s b m)

pub answered_coded : (p : ReadPlan) → coded p ≡ true → Coded (answered p)
unfolding answered Coded
answered_coded (Ok k) c = (refl, refl, refl)
answered_coded (Err r) c = refused_coded r

module _ (s : List ℕ) (b : ℕ) (d : List ℕ) where
  pub answered_refused : (p : ReadPlan) (a : RefusedNumbers) → answered p ≡ Refused a → copied s b d p ≡ d
  unfolding answered copied
  answered_refused (Ok k) a e = absurd (impossible (cc))
  answered_refused (Err r) a e = refl

  answered_kept : (p : ReadPlan) → (copied s b d p ≡ d) ⊎ ((a : ReadNumbers) × (answered p ≡ Read a))
  unfolding answered copied
  answered_kept (Ok k) = inr (record { ah = success; al = none; carry = false; blocks = k }, refl)
  answered_kept (Err r) = inl refl

  pub read_coded : Coded (read_answer s b (length d))
  unfolding read_answer
  read_coded = answered_coded (read_plan s b (length d)) (plan_coded s b (length d))

  pub read_refused : (a : RefusedNumbers) → read_answer s b (length d) ≡ Refused a → read_bytes s b d ≡ d
  unfolding read_answer read_bytes
  read_refused a e = answered_refused (read_plan s b (length d)) a e

  pub read_kept : (read_bytes s b d ≡ d) ⊎ ((a : ReadNumbers) × (read_answer s b (length d) ≡ Read a))
  unfolding read_answer read_bytes
  read_kept = answered_kept (read_plan s b (length d))
