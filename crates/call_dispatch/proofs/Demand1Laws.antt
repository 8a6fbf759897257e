-- Demand 1 holds of every call.
--   demand1     the theorem
--   demanded    the same of what a call gave
use Rattle.std.specs.Prelude.{ℕ, ◌≤◌, ◌≡◌, Bool, false, List, ◌⊎◌, length, eqb}
use Rattle.std.proofs.Math.Path.{refl}
use Rattle.std.proofs.Common.{inr, ⊎_elim, arith, eqb-true}
use Rattle.std.proofs.Math.Bool.{true}
use Rattle.std.proofs.Math.Logic.{inl}
use Rattle.std.proofs.lemmas.Bool.{eqb-false}
use Rattle.laws.specs.Orders.{impossible}
use Rattle.call_answers.specs.Answers.{Coded}
use Rattle.call_answers.specs.declared.answer.Answer.{Answer}
use Rattle.call_answers.specs.declared.answer.Reply.{Reply}
use Rattle.call_control.specs.Control.{status_of, accepted, control_reply}
use Rattle.call_reads.specs.Presence.{presence_answer}
use Rattle.call_reads.specs.Read.{read_answer, read_bytes}
use Rattle.call_reads.proofs.ReadRefusals.{presence_coded, read_coded, read_refused, read_kept}
use Rattle.write_call.specs.Write.{write_answer, write_bytes}
use Rattle.write_call.proofs.Refusals.{write_coded, write_refused, write_kept}
use Rattle.call_dispatch.specs.Call.{CallInputs, replied, unknown, call_reply, call_store, call_destination}
use Rattle.call_dispatch.proofs.CallLaws.{Called, other_function, presence_called, write_called, control_called, read_called, other_sub}
use Rattle.call_dispatch.specs.Demand1.{Unknown, Same, Demand1}

module _ (i : CallInputs) where
  same : (a : Answer) → Same i (replied i.loading a) i.store i.destination
  same a = record { store_same = refl; destination_same = refl; loading_same = refl }

  -- NOT_IMPLEMENTED
  not_known : Demand1 i (unknown i.loading) i.store i.destination
  unfolding unknown Coded
  not_known = record {
    codes = (refl, refl);
    unimplemented = λ u. (refl, same _);
    refused = λ a e. same _;
    state = inl refl;
    stays_on = λ h. h;
    wrote = inl refl;
    copied = inl refl;
  }

  module _ (f : i.function ≡ 0xD042) where
    -- sub-function and task are known
    known : (i.sub ≤ 3) → (i.sub ≡ 2 → (i.task ≡ 1) ⊎ (i.task ≡ 2)) → Unknown i → ⊥
    known l t (inl u) = u f
    known l t (inr (inl u)) = omega arith
    known l t (inr (inr u)) = ⊎_elim (λ e. u.1 e) (λ e. u.2 e) (t u.0)

    presence_demand : i.sub ≡ 0 → Demand1 i (replied i.loading (presence_answer i.store)) i.store i.destination
    presence_demand h = record {
      codes = presence_coded i.store;
      unimplemented = λ u. absurd (known (omega arith) (λ e. absurd (let z : ⊥ = omega arith in z)) u);
      refused = λ a e. same _;
      state = inl refl;
      stays_on = λ on. on;
      wrote = inl refl;
      copied = inl refl;
    }

    write_demand : i.sub ≡ 1
        → Demand1 i (replied i.loading (write_answer i.store i.list i.cand i.back)) (write_bytes i.store i.list i.cand i.back) i.destination
    write_demand h = record {
      codes = write_coded i.store i.list i.cand i.back;
      unimplemented = λ u. absurd (known (omega arith) (λ e. absurd (let z : ⊥ = omega arith in z)) u);
      refused = λ a e. record { store_same = write_refused i.store i.list i.cand i.back a e; destination_same = refl; loading_same = refl };
      state = inl refl;
      stays_on = λ on. on;
      wrote = write_kept i.store i.list i.cand i.back;
      copied = inl refl;
    }

    read_demand : i.sub ≡ 3
        → Demand1 i (replied i.loading (read_answer i.store i.block (length i.destination))) i.store (read_bytes i.store i.block i.destination)
    read_demand h = record {
      codes = read_coded i.store i.block i.destination;
      unimplemented = λ u. absurd (known (omega arith) (λ e. absurd (let z : ⊥ = omega arith in z)) u);
      refused = λ a e. record { store_same = refl; destination_same = read_refused i.store i.block i.destination a e; loading_same = refl };
      state = inl refl;
      stays_on = λ on. on;
      wrote = inl refl;
      copied = read_kept i.store i.block i.destination;
    }

    control_demand : i.sub ≡ 2 → Demand1 i (control_reply i.task i.loading) i.store i.destination
    unfolding control_reply accepted status_of Coded
    control_demand h = go (eqb i.task 1) refl (eqb i.task 2) refl
      where
        -- a known task that leaves the loading state `on`
        done : (on : Bool) → (i.task ≡ 1) ⊎ (i.task ≡ 2) → (on ≡ i.loading) ⊎ ((i.function ≡ 0xD042) × (i.sub ≡ 2) × (i.task ≡ 1))
            → (i.loading ≡ true → on ≡ true) → Demand1 i (accepted on) i.store i.destination
        done on t state stays = record {
          codes = (refl, refl, refl);
          unimplemented = λ u. absurd (known (omega arith) (λ e. t) u);
          refused = λ a e. absurd (impossible (cc));
          state = state;
          stays_on = stays;
          wrote = inl refl;
          copied = inl refl;
        }

        go : (a : Bool) → eqb i.task 1 ≡ a → (b : Bool) → eqb i.task 2 ≡ b → Demand1 i (control_reply i.task i.loading) i.store i.destination
        go true p b q = rw p (done true (inl (eqb-true i.task 1 p)) (inr (f, h, eqb-true i.task 1 p)) (λ e. refl))
        go false p true q = rw (p, q) (done i.loading (inr (eqb-true i.task 2 q)) (inl refl) (λ e. e))
        go false p false q =
            rw (p, q) (record {
              codes = (refl, refl);
              unimplemented = λ u. (refl, same _);
              refused = λ a e. same _;
              state = inl refl;
              stays_on = λ e. e;
              wrote = inl refl;
              copied = inl refl;
            })

  -- from a reply, a store and a destination that are those of the definitions
  moved : (r : Reply) (s d : List ℕ) → Called i r s d → Demand1 i r s d → Demand1 i (call_reply i) (call_store i) (call_destination i)
  moved r s d c x = rw (← c.0, ← c.1.0, ← c.1.1) x

  pub demand1 : Demand1 i (call_reply i) (call_store i) (call_destination i)
  demand1 = by_function (eqb i.function 0xD042) refl
    where
      -- the sub-functions in turn
      by_sub : i.function ≡ 0xD042 → (a : Bool) → eqb i.sub 0 ≡ a → (b : Bool) → eqb i.sub 1 ≡ b → (c : Bool) → eqb i.sub 2 ≡ c → (d : Bool) → eqb i.sub 3 ≡ d
          → Demand1 i (call_reply i) (call_store i) (call_destination i)
      by_sub f true p b q c r d s = let h = eqb-true i.sub 0 p in moved _ _ _ (presence_called i f _ h refl) (presence_demand f h)
      by_sub f false p true q c r d s = let h = eqb-true i.sub 1 q in moved _ _ _ (write_called i f _ _ h refl refl) (write_demand f h)
      by_sub f false p false q true r d s = let h = eqb-true i.sub 2 r in moved _ _ _ (control_called i f _ h refl) (control_demand f h)
      by_sub f false p false q false r true s = let h = eqb-true i.sub 3 s in moved _ _ _ (read_called i f _ _ h refl refl) (read_demand f h)
      by_sub f false p false q false r false s =
          moved _ _ _
          (other_sub i f (unknown i.loading) (eqb-false i.sub 0 p) (eqb-false i.sub 1 q) (eqb-false i.sub 2 r) (eqb-false i.sub 3 s) refl)
          not_known

      by_function : (t : Bool) → eqb i.function 0xD042 ≡ t → Demand1 i (call_reply i) (call_store i) (call_destination i)
      by_function true e = by_sub (eqb-true i.function 0xD042 e) (eqb i.sub 0) refl (eqb i.sub 1) refl (eqb i.sub 2) refl (eqb i.sub 3) refl
      by_function false e = moved _ _ _ (other_function i (unknown i.loading) (eqb-false i.function 0xD042 e) refl) not_known

  -- with the equations of the contract
  pub demanded : (r : Reply) (s d : List ℕ) → Called i r s d → (r ≡ call_reply i) × ((s ≡ call_store i) × ((d ≡ call_destination i) × Demand1 i r s d))
  demanded r s d c = (c.0, (c.1.0, (c.1.1, rw (c.0, c.1.0, c.1.1) demand1)))
