-- The cases of a call, each from what the tests and the called function say.
--   Called                            the reply, the store and the destination afterwards are those of the definitions
--   other_function .. other_sub       so they are: an unknown function, the four sub-functions, an unknown sub-function
--   above_sub                         a sub-function above 3
--   at_presence .. at_read            the numbers that name a sub-function
--   unknown_called                    a refused function or sub-function
use Rattle.std.specs.Prelude.{ℕ, ◌<◌, ◌≡◌, Bool, Ok, is_err, List, length, eqb}
use Rattle.std.proofs.Math.Path.{refl}
use Rattle.std.proofs.Common.{arith, eqb-true}
use Rattle.std.proofs.Math.Bool.{true, false}
use Rattle.std.proofs.lemmas.Bool.{eqb-false}
use borrow.Author.Tests.{eq-eqb, ne_eqb}
use Rattle.laws.specs.Unless.{unless}
use Rattle.call_reads.specs.Presence.{presence_answer}
use Rattle.call_control.specs.Control.{control_reply}
use Rattle.call_reads.specs.Read.{read_answer, read_bytes}
use Rattle.call_answers.specs.declared.answer.Answer.{Answer}
use Rattle.call_answers.specs.declared.answer.Reply.{Reply}
use Rattle.write_call.specs.Write.{write_answer, write_bytes}
use Rattle.call_dispatch.specs.declared.SubFunction.TheVariants.{Presence, Write, Control, Read}
use Rattle.call_dispatch.specs.SubFunctions.{judged}
use Rattle.call_dispatch.specs.Call.{CallInputs, replied, unknown, call_reply, call_store, call_destination}

module _ (i : CallInputs) where
  abbrev pub Called : Reply → List ℕ → List ℕ → Type 0
  Called r s d = (r ≡ call_reply i) × ((s ≡ call_store i) × (d ≡ call_destination i))

  pub other_function : (r : Reply) → (i.function ≡ 0xD042 → ⊥) → r ≡ unknown i.loading → Called r i.store i.destination
  unfolding call_reply call_store call_destination unless
  other_function r n e = rw (ne_eqb i.function 0xD042 n) (e, (refl, refl))

  module _ (f : i.function ≡ 0xD042) where
    pub presence_called : (a : Answer) → i.sub ≡ 0 → a ≡ presence_answer i.store → Called (replied i.loading a) i.store i.destination
    unfolding call_reply call_store call_destination unless
    presence_called a h e = rw (eq-eqb i.function 0xD042 f, h) (rw e refl, (refl, refl))

    pub write_called : (a : Answer) (s : List ℕ) → i.sub ≡ 1 → a ≡ write_answer i.store i.list i.cand i.back
        → s ≡ write_bytes i.store i.list i.cand i.back → Called (replied i.loading a) s i.destination
    unfolding call_reply call_store call_destination unless
    write_called a s h e g = rw (eq-eqb i.function 0xD042 f, h) (rw e refl, (g, refl))

    pub control_called : (r : Reply) → i.sub ≡ 2 → r ≡ control_reply i.task i.loading → Called r i.store i.destination
    unfolding call_reply call_store call_destination unless
    control_called r h e = rw (eq-eqb i.function 0xD042 f, h) (e, (refl, refl))

    pub read_called : (a : Answer) (d : List ℕ) → i.sub ≡ 3 → a ≡ read_answer i.store i.block (length i.destination)
        → d ≡ read_bytes i.store i.block i.destination → Called (replied i.loading a) i.store d
    unfolding call_reply call_store call_destination unless
    read_called a d h e g = rw (eq-eqb i.function 0xD042 f, h) (rw e refl, (refl, g))

    pub other_sub : (r : Reply) → (i.sub ≡ 0 → ⊥) → (i.sub ≡ 1 → ⊥) → (i.sub ≡ 2 → ⊥) → (i.sub ≡ 3 → ⊥) → r ≡ unknown i.loading
        → Called r i.store i.destination
    unfolding call_reply call_store call_destination unless
    other_sub r n0 n1 n2 n3 e =
        rw (eq-eqb i.function 0xD042 f, ne_eqb i.sub 0 n0, ne_eqb i.sub 1 n1, ne_eqb i.sub 2 n2, ne_eqb i.sub 3 n3) (e, (refl, refl))

    pub above_sub : (r : Reply) → 3 < i.sub → r ≡ unknown i.loading → Called r i.store i.destination
    above_sub r l e = other_sub r (λ h. omega (arith, h)) (λ h. omega (arith, h)) (λ h. omega (arith, h)) (λ h. omega (arith, h)) e

-- f and n are the numbers
module _ (f n : ℕ) where
  pub at_presence : Ok Presence ≡ judged f n → (f ≡ 0xD042) × (n ≡ 0)
  at_presence e = (grind arith, grind arith)

  pub at_write : Ok Write ≡ judged f n → (f ≡ 0xD042) × (n ≡ 1)
  at_write e = (grind arith, grind arith)

  pub at_control : Ok Control ≡ judged f n → (f ≡ 0xD042) × (n ≡ 2)
  at_control e = (grind arith, grind arith)

  pub at_read : Ok Read ≡ judged f n → (f ≡ 0xD042) × (n ≡ 3)
  at_read e = (grind arith, grind arith)

  above : f ≡ 0xD042 → is_err (judged f n) ≡ true → 3 < n
  above e h = grind arith

-- a refused function or sub-function
pub unknown_called : (i : CallInputs) (r : Reply) → is_err (judged i.function i.sub) ≡ true → r ≡ unknown i.loading → Called i r i.store i.destination
unknown_called i r h e = go (eqb i.function 0xD042) refl
  where
    go : (t : Bool) → eqb i.function 0xD042 ≡ t → Called i r i.store i.destination
    go true q = let f = eqb-true i.function 0xD042 q in above_sub i f r (above i.function i.sub f h) e
    go false q = other_function i r (eqb-false i.function 0xD042 q) e
