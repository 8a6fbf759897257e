-- The answer to presence, for a store that is valid or not.
--   presence_yes, presence_no    its cases
use Rattle.std.specs.Prelude.{ℕ, ◌/◌, ◌≡◌, true, false, List, length}
use Rattle.std.proofs.Common.{◌∙◌}
use Rattle.laws.specs.Unless.{unless}
use Rattle.store_blocks.specs.Blocks.{block_count}
use Rattle.store_directory.specs.Scan.{store_ok}
use Rattle.call_answers.specs.Answers.{refusal}
use Rattle.call_answers.specs.declared.answer.Answer.{Answer}
use Rattle.call_reads.specs.Presence.{present, presence_answer}

-- z is the answer
module _ (s : List ℕ) (z : Answer) where
  pub presence_yes : store_ok s ≡ true → z ≡ present (length s / 2048) → z ≡ presence_answer s
  unfolding presence_answer block_count unless
  presence_yes h k = k ∙ rw h

  pub presence_no : store_ok s ≡ false → z ≡ refusal 0x92 1 → z ≡ presence_answer s
  unfolding presence_answer unless
  presence_no h k = k ∙ rw h
