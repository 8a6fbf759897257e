-- Laws of the state.
--   begun_within                     there is room for the lengths before the first step
--   called_within, judged_within     and where there was
--   length_within, lengths_within    and after a step that sets them
--   kept_within                      these, as `search` takes them
use Rattle.std.specs.Prelude.{◌≡◌, ℕ, Bool, true, false, cond, ◌&&◌, ◌==◌, nat_le, Option, Some, None}
use Rattle.std.proofs.Math.Path.{refl}
use Rattle.std.proofs.Common.{arith}
use borrow.Author.Tests.{leb-true}
use Rattle.laws.specs.Bools.{and_parts}
use Rattle.test_vectors.specs.declared.state.State.{State}
use Rattle.test_vectors.specs.RunState.{store_room, candidate_room, destination_room, list_room, begun, judged, called, with_length, with_lengths, Within, Kept}

-- one arm of a definition by tests: where `a` holds, there is room in x; where it doesn't, the arms behind keep it
passed : (a : Bool) (x : State) (y : Option State) → (a ≡ true → Within x) → Kept y → Kept (cond a (Some x) y)
passed true x y f h = f refl
passed false x y f h = h

pub begun_within : (r : State) → r ≡ begun → Within r
begun_within r e = rw e (record { store = omega arith; candidate = omega arith; destination = omega arith; signatures = omega arith; platforms = omega arith })

pub called_within : (s r : State) → Within s → r ≡ called s → Within r
called_within s r w e =
    rw e (record { store = w.store; candidate = w.candidate; destination = w.destination; signatures = w.signatures; platforms = w.platforms })

module _ (s : State) (r : Option State) (w : Within s) where
  pub judged_within : (good : Bool) → r ≡ judged s good → Kept r
  judged_within good e = rw e (passed good s None (λ q. w) tt)

  pub length_within : (buffer n : ℕ) → r ≡ with_length s buffer n → Kept r
  unfolding with_length
  length_within buffer n e =
      rw e
      (passed (buffer == 0 && nat_le n store_room) _ _
      (λ q. record {
        store = leb-true n store_room (and_parts (buffer == 0) (nat_le n store_room) q).1;
        candidate = w.candidate;
        destination = w.destination;
        signatures = w.signatures;
        platforms = w.platforms;
      })
      (passed (buffer == 1 && nat_le n candidate_room) _ _
      (λ q. record {
        store = w.store;
        candidate = leb-true n candidate_room (and_parts (buffer == 1) (nat_le n candidate_room) q).1;
        destination = w.destination;
        signatures = w.signatures;
        platforms = w.platforms;
      })
      (passed (buffer == 2 && nat_le n destination_room) _ _
      (λ q. record {
        store = w.store;
        candidate = w.candidate;
        destination = leb-true n destination_room (and_parts (buffer == 2) (nat_le n destination_room) q).1;
        signatures = w.signatures;
        platforms = w.platforms;
      })
      tt)))

  pub lengths_within : (m n : ℕ) → r ≡ with_lengths s m n → Kept r
  unfolding with_lengths
  lengths_within m n e =
      rw e
      (passed (nat_le m list_room && nat_le n list_room) _ _
      (λ q.
      let p = and_parts (nat_le m list_room) (nat_le n list_room) q in
      record {
        store = w.store;
        candidate = w.candidate;
        destination = w.destination;
        signatures = leb-true m list_room p.0;
        platforms = leb-true n list_room p.1;
      })
      tt)

pub ruleset kept_within = (begun_within, called_within, judged_within, length_within, lengths_within)
