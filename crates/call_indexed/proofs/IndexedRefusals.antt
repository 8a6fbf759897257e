-- What a read through an index leaves alone.
--   indexed_plan_coded, indexed_coded     the plan refuses with a code; the answer's codes are right
--   indexed_refused     a refused read changes no byte of the destination
--   indexed_long        the destination keeps its length
use Rattle.std.specs.Prelude.{ℕ, ◌≡◌, List, length}
use Rattle.std.proofs.Math.Path.{refl}
use Rattle.std.proofs.Math.Bool.{true}
use Rattle.store_index.specs.declared.Index.{Index}
use Rattle.call_answers.specs.Answers.{Coded}
use Rattle.call_answers.specs.declared.answer.Refused.{Refused as RefusedNumbers}
use Rattle.call_answers.specs.declared.answer.Answer.TheVariants.{Refused}
use Rattle.call_reads.proofs.ReadLaws.{copied_long}
use Rattle.call_reads.specs.ReadRefusals.{coded}
use Rattle.call_reads.proofs.ReadRefusals.{coded_all, answered_coded, answered_refused}
use Rattle.call_indexed.specs.IndexedRead.{indexed_plan, indexed_answer, indexed_bytes}
use Rattle.call_indexed.proofs.IndexedReadLaws.{indexed_copyable}

module _ (s : List ℕ) (x : Index) (b : ℕ) where
  pub indexed_plan_coded : (m : ℕ) → coded (indexed_plan s x b m) ≡ true
  indexed_plan_coded m = coded_all (indexed_plan s x b m)

  pub indexed_coded : (m : ℕ) → Coded (indexed_answer s x b m)
  unfolding indexed_answer
  indexed_coded m = answered_coded (indexed_plan s x b m) (indexed_plan_coded m)

  pub indexed_refused : (d : List ℕ) (a : RefusedNumbers) → indexed_answer s x b (length d) ≡ Refused a → indexed_bytes s x b d ≡ d
  unfolding indexed_answer indexed_bytes
  indexed_refused d a e = answered_refused s b d (indexed_plan s x b (length d)) a e

  pub indexed_long : (d : List ℕ) → length (indexed_bytes s x b d) ≡ length d
  unfolding indexed_bytes
  indexed_long d = copied_long s d b (indexed_plan s x b (length d)) (indexed_copyable s x b (length d) (indexed_plan s x b (length d)) refl)
