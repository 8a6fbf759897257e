-- Laws of the codes.
--   carry_law    "carry is set exactly if AH is not 0" (document 01, "Codes")
use Rattle.std.specs.Prelude.{◌≡◌, not, eqb}
use Rattle.call_answers.specs.Answers.{ah_of, carry_of, Coded}
use Rattle.call_answers.specs.declared.answer.Answer.{Answer}
use Rattle.call_answers.specs.declared.answer.Answer.TheVariants.{Presence, Written, Control, Read, Refused}

pub carry_law : (a : Answer) → Coded a → carry_of a ≡ not (eqb (ah_of a) 0)
unfolding Coded
carry_law (Presence a) c = rw (c.0, c.2)
carry_law (Written a) c = rw (c.0, c.2)
carry_law (Control a) c = rw (c.0, c.2)
carry_law (Read a) c = rw (c.0, c.2)
carry_law (Refused a) c = rw (c.0, c.1)
