-- Sub-function 3, read (document 01, "The calls"): bad store; 99; 9A; destination shorter than the blocks to copy (92, AL 3).
--   ReadPlan       so many blocks are to be copied, or why the read is refused
--   read_blocks    k blocks into a destination of m bytes
--   read_kind      by the kind of the block: an unused one is copied by itself, the first of an update with all its blocks
--   read_plan      the whole order: the blocks to copy, or the refusal of the check that fails
--   read_answer    the answer
--   read_bytes     the destination afterwards: the blocks copied, and the bytes behind them as they were; all as it was on a refusal
use Rattle.std.specs.Prelude.{ℕ, ◌*◌, false, Result, Ok, Err, List, ◌++◌, length, take, drop, leb, ltb}
use Rattle.laws.specs.Unless.{unless}
use Rattle.store_blocks.specs.Blocks.{block_count, from_block}
use Rattle.store_directory.specs.Scan.{store_ok}
use Rattle.store_directory.specs.Kind.{kind_at}
use Rattle.store_directory.specs.declared.kind.Kind.{Kind}
use Rattle.store_directory.specs.declared.kind.Kind.TheVariants.{Unused, First, Later}
use Rattle.call_answers.specs.Codes.{success, none}
use Rattle.call_answers.specs.Refusals.{refused}
use Rattle.call_answers.specs.declared.refusal.Refusal.{Refusal}
use Rattle.call_answers.specs.declared.refusal.Refusal.TheVariants.{BadStore, ShortDestination, InvalidBlock, NotEmpty}
use Rattle.call_answers.specs.declared.answer.Answer.{Answer}
use Rattle.call_answers.specs.declared.answer.Answer.TheVariants.{Read}

abbrev pub ReadPlan : Type 0
ReadPlan = Result ℕ Refusal

unfoldable pub read_blocks : ℕ → ℕ → ReadPlan
read_blocks k m = unless (leb (k * 2048) m) (Err ShortDestination) (Ok k)

unfoldable pub read_kind : Kind → ℕ → ReadPlan
read_kind Unused m = read_blocks 1 m
read_kind (First k) m = read_blocks k m
read_kind Later m = Err NotEmpty

unfoldable pub read_plan : List ℕ → ℕ → ℕ → ReadPlan
read_plan s b m =
    unless (store_ok s) (Err BadStore)
    (unless (ltb b (block_count s)) (Err InvalidBlock)
    (read_kind (kind_at s b) m))

-- of a plan
unfoldable pub answered : ReadPlan → Answer
answered (Ok k) = Read (record { ah = success; al = none; carry = false; blocks = k })
answered (Err r) = refused r

unfoldable pub copied : List ℕ → ℕ → List ℕ → ReadPlan → List ℕ
copied s b destination (Ok k) = take (k * 2048) (from_block s b) ++ drop (k * 2048) destination
copied s b destination (Err r) = destination

unfoldable pub read_answer : List ℕ → ℕ → ℕ → Answer
read_answer s b m = answered (read_plan s b m)

unfoldable pub read_bytes : List ℕ → ℕ → List ℕ → List ℕ
read_bytes s b destination = copied s b destination (read_plan s b (length destination))
