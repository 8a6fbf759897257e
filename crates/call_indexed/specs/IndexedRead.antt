-- A read through an index (document 02, One): bad store; right after that check an index that isn't the store's own (92, AL 1); then as a read
-- without it, by the index.
--   line_plan           by the line of the block: an unused one is copied by itself, the first of an update with all its blocks
--   indexed_plan        the whole order: the blocks to copy, or the refusal of the check that fails
--   indexed_answer      the answer
--   indexed_bytes       the destination afterwards
use Rattle.std.specs.Prelude.{ℕ, Err, List, length, eqb, ltb}
use Rattle.laws.specs.Unless.{unless}
use Rattle.store_blocks.specs.Blocks.{block_count}
use Rattle.store_directory.specs.Scan.{store_ok}
use Rattle.store_index.specs.Index.{unused, first, line_of, index_of}
use Rattle.store_index.specs.SameIndex.{same_index}
use Rattle.store_index.specs.declared.Index.{Index}
use Rattle.call_answers.specs.declared.refusal.Refusal.TheVariants.{BadStore, InvalidBlock, NotEmpty}
use Rattle.call_answers.specs.declared.answer.Answer.{Answer}
use Rattle.call_reads.specs.Read.{ReadPlan, read_blocks, answered, copied}

-- of a line's kind and size, into m bytes
unfoldable pub line_plan : ℕ → ℕ → ℕ → ReadPlan
line_plan kind size m = unless (eqb kind first) (unless (eqb kind unused) (Err NotEmpty) (read_blocks 1 m)) (read_blocks size m)

unfoldable pub indexed_plan : List ℕ → Index → ℕ → ℕ → ReadPlan
indexed_plan s x b m =
    unless (store_ok s) (Err BadStore)
    (unless (same_index x (index_of s)) (Err BadStore)
    (unless (ltb b (block_count s)) (Err InvalidBlock)
    (line_plan (line_of x b).kind (line_of x b).size m)))

unfoldable pub indexed_answer : List ℕ → Index → ℕ → ℕ → Answer
indexed_answer s x b m = answered (indexed_plan s x b m)

unfoldable pub indexed_bytes : List ℕ → Index → ℕ → List ℕ → List ℕ
indexed_bytes s x b destination = copied s b destination (indexed_plan s x b (length destination))
