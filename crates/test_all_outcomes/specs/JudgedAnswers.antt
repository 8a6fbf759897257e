-- An answer compared with the best outcome, and one store with another.
--   seen           what was seen of a write by its fields, in the order of the source
--   written_right  a write that was done is right: there is a best outcome, with this start, emptied count and emptied blocks
--   full_al        AL of a refusal: 4 where some update has both marks, else 5
--   refused_right  a refusal is right: there is no best outcome, and the codes are those of a full store
--   judged         what was seen of an answer; a write has no answer of the other cases
--   same_at        two buffers reach to byte i and have the same there
--   same_first     they have the same first n bytes
use Rattle.std.specs.Prelude.{ℕ, Bool, false, cond, ◌&&◌, List, length, ◌==◌, nat_lt, slice_index, Option, Some, None, Result, Ok, Err}
use Rattle.laws.specs.Below.{all_below}
use Rattle.call_answers.specs.Codes.{storage_full, sharing_needed, no_run}
use Rattle.call_answers.specs.declared.answer.Answer.{Answer}
use Rattle.call_answers.specs.declared.answer.Answer.TheVariants.{Presence, Written, Control, Read, Refused}
use Rattle.test_all_outcomes.specs.declared.layout.Layout.{Layout}
use Rattle.test_all_outcomes.specs.declared.outcomes.Outcome.{Outcome}
use Rattle.test_all_outcomes.specs.declared.trial.Seen.{Seen}
use Rattle.test_all_outcomes.specs.SmallLayouts.{both_marks}
use Rattle.test_all_outcomes.specs.SetBlocks.{set_blocks}

abbrev pub seen : Bool → Result ℕ ℕ → Seen
seen same became = record { same = same; became = became }

unfoldable pub written_right : Layout → Option Outcome → ℕ → ℕ → ℕ → Bool
written_right l (Some o) start emptied blocks = start == o.start && emptied == o.emptied && blocks == set_blocks l o.set
written_right l None start emptied blocks = false

unfoldable pub full_al : Layout → ℕ
full_al l = cond (both_marks l) sharing_needed no_run

unfoldable pub refused_right : Layout → Option Outcome → ℕ → ℕ → ℕ → Bool
refused_right l (Some o) ah al status = false
refused_right l None ah al status = ah == storage_full && al == full_al l && status == 0

abbrev pub judged : Answer → Layout → Option Outcome → Seen
judged (Written w) l best = seen (written_right l best w.start w.emptied w.emptied_blocks) (Ok w.emptied)
judged (Refused r) l best = seen (refused_right l best r.ah r.al r.status) (Err r.al)
judged (Presence a) l best = seen false (Err 0)
judged (Control a) l best = seen false (Err 0)
judged (Read a) l best = seen false (Err 0)

unfoldable pub same_at : List ℕ → List ℕ → ℕ → Bool
same_at a b i = nat_lt i (length a) && nat_lt i (length b) && slice_index a i == slice_index b i

unfoldable pub same_first : List ℕ → List ℕ → ℕ → Bool
same_first a b n = all_below n (same_at a b)
