-- Sub-function 0, presence (document 01, "The calls"): bad store, else the ASCII bytes INTE and LPEP, loader version 1, N.
--   present           the answer, for N blocks
--   presence_answer   the answer of the call
use Rattle.std.specs.Prelude.{ℕ, false, List}
use Rattle.laws.specs.Unless.{unless}
use Rattle.store_blocks.specs.Blocks.{block_count}
use Rattle.store_directory.specs.Scan.{store_ok}
use Rattle.call_answers.specs.Codes.{success, read_failure, none, bad_store}
use Rattle.call_answers.specs.Answers.{refusal}
use Rattle.call_answers.specs.declared.answer.Answer.{Answer}
use Rattle.call_answers.specs.declared.answer.Answer.TheVariants.{Presence}

-- I N T E L P E P, then the loader version and N
abbrev pub present : ℕ → Answer
present n =
    Presence (record {
      ah = success;
      al = none;
      carry = false;
      byte0 = 0x49;
      byte1 = 0x4E;
      byte2 = 0x54;
      byte3 = 0x45;
      byte4 = 0x4C;
      byte5 = 0x50;
      byte6 = 0x45;
      byte7 = 0x50;
      loader_version = 1;
      blocks = n;
    })

unfoldable pub presence_answer : List ℕ → Answer
presence_answer s = unless (store_ok s) (refusal read_failure bad_store) (present (block_count s))
