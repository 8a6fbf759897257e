-- The answers (document 01, "Codes"): AH, AL, carry and the numbers of each case.
--   refusal       a refusal whose other numbers are 0
--   ah_of, al_of  the codes
--   carry_of      the carry
--   case_of       0 presence, 1 written, 2 control, 3 read, 4 refused
--   numbers_of    the case's numbers, in the document's order
--   Coded         the codes are as the document wants them: a call that was done has SUCCESS, AL 0 and no carry; a refusal has another AH; carry
--                 is set exactly if AH is not 0
use Rattle.std.specs.Prelude.{ℕ, ◌≡◌, Bool, true, false, List, [], ◌∷◌, eqb}
use Rattle.call_answers.specs.Codes.{success, none}
use Rattle.call_answers.specs.declared.answer.Answer.{Answer}
use Rattle.call_answers.specs.declared.answer.Answer.TheVariants.{Presence, Written, Control, Read, Refused}

abbrev pub refusal : ℕ → ℕ → Answer
refusal ah al = Refused (record { ah = ah; al = al; carry = true; status = 0 })

abbrev pub ah_of : Answer → ℕ
ah_of (Presence a) = a.ah
ah_of (Written a) = a.ah
ah_of (Control a) = a.ah
ah_of (Read a) = a.ah
ah_of (Refused a) = a.ah

abbrev pub al_of : Answer → ℕ
al_of (Presence a) = a.al
al_of (Written a) = a.al
al_of (Control a) = a.al
al_of (Read a) = a.al
al_of (Refused a) = a.al

abbrev pub carry_of : Answer → Bool
carry_of (Presence a) = a.carry
carry_of (Written a) = a.carry
carry_of (Control a) = a.carry
carry_of (Read a) = a.carry
carry_of (Refused a) = a.carry

abbrev pub case_of : Answer → ℕ
case_of (Presence a) = 0
case_of (Written a) = 1
case_of (Control a) = 2
case_of (Read a) = 3
case_of (Refused a) = 4

abbrev pub numbers_of : Answer → List ℕ
numbers_of (Presence a) =
    a.byte0 ∷ a.byte1 ∷ a.byte2 ∷ a.byte3 ∷ a.byte4 ∷ a.byte5 ∷ a.byte6 ∷ a.byte7
    ∷ a.loader_version ∷ a.blocks ∷ []
numbers_of (Written a) = a.start ∷ a.emptied ∷ a.emptied_blocks ∷ []
numbers_of (Control a) = a.status ∷ []
numbers_of (Read a) = a.blocks ∷ []
numbers_of (Refused a) = a.status ∷ []

-- a call that was done
abbrev pub Done : ℕ → ℕ → Bool → Type 0
Done ah al carry = (ah ≡ success) × (al ≡ none) × (carry ≡ false)

unfoldable pub Coded : Answer → Type 0
Coded (Presence a) = Done a.ah a.al a.carry
Coded (Written a) = Done a.ah a.al a.carry
Coded (Control a) = Done a.ah a.al a.carry
Coded (Read a) = Done a.ah a.al a.carry
Coded (Refused a) = (eqb a.ah success ≡ false) × (a.carry ≡ true)
