-- What the steps have set so far.
--   store_room .. list_room   how many bytes or processors there is room for
--   state                     a state by its fields, in the order of the source
--   begun                     before the first step
--   judged                    after a step that changed nothing of it; none after one that breaks a bound
--   called                    after a call
--   with_length               with another length of buffer 0, 1 or 2; none where there is no such buffer, or no room for it
--   with_lengths              with other lengths of the two lists; none where there is no room for one
--   Within                    there is room for each length
--   Kept                      so there is, if there is a state
use Rattle.std.specs.Prelude.{ℕ, ◌+◌, ◌%◌, ◌^◌, ◌≤◌, Bool, cond, ◌&&◌, ◌==◌, nat_le, Option, Some, None, IfSome}
use Rattle.test_vectors.specs.declared.state.State.{State}

abbrev pub store_room : ℕ
store_room = 69632

abbrev pub candidate_room : ℕ
candidate_room = 36864

abbrev pub destination_room : ℕ
destination_room = 69632

abbrev pub list_room : ℕ
list_room = 16

abbrev pub state : ℕ → ℕ → ℕ → ℕ → ℕ → ℕ → State
state store candidate destination signatures platforms calls =
    record { store = store; candidate = candidate; destination = destination; signatures = signatures; platforms = platforms; calls = calls }

abbrev pub begun : State
begun = state 0 0 0 0 0 0

abbrev pub judged : State → Bool → Option State
judged s good = cond good (Some s) None

abbrev pub called : State → State
called s = state s.store s.candidate s.destination s.signatures s.platforms ((s.calls + 1) % 2 ^ 32)

unfoldable pub with_length : State → ℕ → ℕ → Option State
with_length s buffer n =
    cond (buffer == 0 && nat_le n store_room) (Some (state n s.candidate s.destination s.signatures s.platforms s.calls))
    (cond (buffer == 1 && nat_le n candidate_room) (Some (state s.store n s.destination s.signatures s.platforms s.calls))
    (cond (buffer == 2 && nat_le n destination_room) (Some (state s.store s.candidate n s.signatures s.platforms s.calls)) None))

unfoldable pub with_lengths : State → ℕ → ℕ → Option State
with_lengths s m n =
    cond (nat_le m list_room && nat_le n list_room) (Some (state s.store s.candidate s.destination m n s.calls)) None

pub record Within (s : State) : Type 0 where
  pub store : s.store ≤ store_room
  pub candidate : s.candidate ≤ candidate_room
  pub destination : s.destination ≤ destination_room
  pub signatures : s.signatures ≤ list_room
  pub platforms : s.platforms ≤ list_room

abbrev pub Kept : Option State → Type 0
Kept r = IfSome r Within
