-- The data of a load choice.
--   data_chosen .. data_refused    the data of a choice, by its cases
--   part_local   an update's data are settled by its T bytes
use Rattle.std.specs.Prelude.{ℕ, ◌≤◌, ◌≡◌, List, length, take, Err}
use Rattle.std.proofs.Common.{◌∙◌, arith}
use Rattle.laws.specs.Same.{Same}
use Rattle.update_header.specs.DataPart.{data_part}
use Rattle.update_header.specs.DataPartLaws.{part_same}
use Rattle.update_verdict.specs.Verdict.{Good, verdict}
use Rattle.update_verdict.specs.VerdictLaws.{judged, good_size}
use Rattle.store_blocks.specs.Blocks.{from_block}
use Rattle.load_choice.specs.Load.{chosen_data}
use Rattle.call_answers.specs.Choice.{LoadChoice, Nothing, Chosen}
use Rattle.call_answers.specs.declared.refusal.Refusal.{Refusal}

-- c is the choice that is matched, r the part that a call gave
module _ (s : List ℕ) (c : LoadChoice) where
  pub data_chosen : (b v : ℕ) (u r : List ℕ) → c ≡ Chosen b v → u ≡ from_block s b → r ≡ data_part u → r ≡ chosen_data s c
  unfolding chosen_data
  data_chosen b v u r h e k = k ∙ rw (e, h)

  pub data_nothing : c ≡ Nothing → take 0 s ≡ chosen_data s c
  unfolding chosen_data
  data_nothing h = rw h

  pub data_refused : (x : Refusal) → c ≡ Err x → take 0 s ≡ chosen_data s c
  unfolding chosen_data
  data_refused x h = rw h

-- r has the T bytes of the update s
pub part_local : (s r : List ℕ) (t d n k : ℕ) → verdict s ≡ Good t d n k → Same s r t → t ≤ length r → data_part s ≡ data_part r
part_local s r t d n k good same long =
    let z = good_size s t d n k good in
    part_same s r t (omega (arith, (judged s t d n k good).data, z.3)) z.2 long same
