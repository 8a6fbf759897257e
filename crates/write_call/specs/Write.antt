-- What the write answers, and the bytes that it leaves (document 01, "The calls", 1): each code exactly when its rule says, in the order 1 to 9.
--   good_plan       checks 5 to 8 of a candidate that passes checks 2 to 4
--   judged_plan     checks 2 to 8
--   write_plan      checks 1 to 8: a run, or the refusal of the first that fails
--   touched_at      the run from `start` touches the update at block b
--   emptied_at      the update at block b is emptied: it shares, wherever it lies, or the run touches it
--   written         the answer with a start block, an emptied count and the emptied blocks
--   answered        check 9, and the answer of a plan
--   write_answer    all of them
--   bytes_after     the store after a plan and check 9
--   write_bytes     the store afterwards: the outcome's bytes, or the old ones on a refusal
use Rattle.std.specs.Prelude.{ℕ, ◌+◌, Bool, false, not, ◌&&◌, ◌||◌, List, Ok, Err, ltb, eqb}
use Rattle.laws.specs.Unless.{unless}
use Rattle.update_header.specs.Fields.{revision, total_size}
use Rattle.update_sizes.specs.Sizes.{blocks_of}
use Rattle.update_verdict.specs.Verdict.{Verdict, verdict}
use Rattle.update_sharing.specs.Shares.{shares}
use Rattle.store_blocks.specs.Blocks.{from_block, block_count}
use Rattle.store_directory.specs.Scan.{size_at, store_ok}
use Rattle.processor_list.specs.Processors.{ProcessorList, list_ok, covers_one}
use Rattle.write_outcome.specs.OutcomeBytes.{outcome_bytes}
use Rattle.write_outcome.specs.EmptiedBlocks.{emptied_blocks}
use Rattle.call_answers.specs.Codes.{success, none}
use Rattle.call_answers.specs.Refusals.{refused}
use Rattle.call_answers.specs.declared.refusal.Refusal.TheVariants.{BadStore, BadProcessors, ProcessorNotPresent, SecurityFailure, InvalidRevision}
use Rattle.call_answers.specs.declared.answer.Answer.{Answer}
use Rattle.call_answers.specs.declared.answer.Answer.TheVariants.{Written}
use Rattle.write_plan.specs.CandidateMarks.{stored_updates, outdated}
use Rattle.write_plan.specs.Plan.{Plan, marked_plan}
use Rattle.write_plan.specs.VerdictCode.{refusal_of}

-- checks 5 to 8
unfoldable pub good_plan : List ℕ → ProcessorList → List ℕ → ℕ → Plan
good_plan old list cand k =
    unless (covers_one list cand) (Err ProcessorNotPresent)
    (unless (not (outdated old cand)) (Err InvalidRevision)
    (marked_plan (block_count old) (stored_updates old list cand) k))

-- checks 2 to 8
unfoldable pub judged_plan : List ℕ → ProcessorList → List ℕ → Verdict → Plan
judged_plan old list cand (Ok m) = good_plan old list cand m.blocks
judged_plan old list cand (Err x) = Err (refusal_of x)

-- checks 1 to 8
unfoldable pub write_plan : List ℕ → ProcessorList → List ℕ → Plan
write_plan old list cand =
    unless (store_ok old) (Err BadStore)
    (unless (list_ok list) (Err BadProcessors)
    (judged_plan old list cand (verdict cand)))

-- the run of k blocks from the start touches the update at block b
unfoldable pub touched_at : List ℕ → ℕ → ℕ → ℕ → Bool
touched_at old k start b = ltb start (b + size_at old b) && ltb b (start + k)

unfoldable pub emptied_at : List ℕ → List ℕ → ℕ → ℕ → Bool
emptied_at old cand start b = shares (from_block old b) cand || touched_at old (blocks_of (total_size cand)) start b

abbrev pub written : ℕ → ℕ → ℕ → Answer
written start emptied blocks =
    Written (record { ah = success; al = none; carry = false; start = start; emptied = emptied; emptied_blocks = blocks })

-- check 9: the revision that the processor read back is the candidate's
unfoldable pub answered : List ℕ → List ℕ → ℕ → Plan → Answer
answered old cand back (Ok r) =
    unless (eqb back (revision cand)) (refused SecurityFailure) (written r.start r.emptied (emptied_blocks old (emptied_at old cand r.start)))
answered old cand back (Err r) = refused r

unfoldable pub write_answer : List ℕ → ProcessorList → List ℕ → ℕ → Answer
write_answer old list cand back = answered old cand back (write_plan old list cand)

unfoldable pub bytes_after : List ℕ → List ℕ → ℕ → Plan → List ℕ
bytes_after old cand back (Ok r) =
    unless (eqb back (revision cand)) old (outcome_bytes old (total_size cand) cand r.start (emptied_at old cand r.start))
bytes_after old cand back (Err r) = old

unfoldable pub write_bytes : List ℕ → ProcessorList → List ℕ → ℕ → List ℕ
write_bytes old list cand back = bytes_after old cand back (write_plan old list cand)
