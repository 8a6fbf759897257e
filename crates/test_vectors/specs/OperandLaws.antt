-- Laws of the operands.
--   good_place                               the place that they give is one of the 128
--   dwords_none, dwords_more, dwords_done    the loop that reads numbers: xs has the first i of them in front
use Rattle.std.specs.Prelude.{◌≡◌, ℕ, ◌+◌, ◌*◌, ◌<◌, ◌≤◌, List, [], length, take, slice_index, slice_set, Some, refl}
use Rattle.std.proofs.Common.{sym, ◌∙◌, add-one, arith, take_all, ltb-true}
use Rattle.std.proofs.Math.Seq.{take-suc-set}
use Rattle.std.proofs.lemmas.Option.{cond_some}
use Rattle.bytes_dwords.specs.Dword.{dword}
use Rattle.test_vectors.specs.declared.indexes.PutOperands.{PutOperands}
use Rattle.test_vectors.specs.Operands.{dwords, put_operands}

pub dwords_none : (b : List ℕ) → [] ≡ dwords b 0
unfolding dwords
dwords_none b = refl

module _ (b xs : List ℕ) where
  pub dwords_more : (i x : ℕ) → take i xs ≡ dwords b i → i < length xs → x ≡ dword b (4 * i) → take (i + 1) (slice_set xs i x) ≡ dwords b (i + 1)
  unfolding dwords
  dwords_more i x e l h = rw (add-one i, take-suc-set xs i x l, e, h)

  pub dwords_done : (i n : ℕ) → take i xs ≡ dwords b i → i ≤ n → n ≤ i → length xs ≡ n → xs ≡ dwords b n
  dwords_done i n e l m h = let q : i ≡ n = omega arith in sym (take_all n xs (omega arith)) ∙ (rw q at e)

pub ruleset reading = (dwords_none, dwords_more, dwords_done)

-- p are the operands that were read
pub good_place : (p : PutOperands) (b : List ℕ) → Some p ≡ put_operands b → p.place < 128
unfolding put_operands
good_place p b e = let w = cond_some _ _ _ (sym e) in rw (← w.1) (ltb-true (slice_index b 0) 128 w.0)
