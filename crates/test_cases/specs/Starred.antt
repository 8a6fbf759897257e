-- The starred cases of document 01, "Examples at the edges", and the sizes of document 02, Three: one table under one statement.
--   p           the update P, with a revision and a checksum
--   code_of     the AH that document 01 gives for the verdict on bytes
--   Code        the AH of all bytes with these sizes and this count field
--   answer      what check 8 finds, of stored updates by start, size and marks
--   Starred     the table, a line for each case
use Rattle.std.specs.Prelude.{◌≡◌, ℕ, ◌/◌, ◌%◌, ◌^◌, ◌<◌, ◌≤◌, Bool, true, false, List, [], ◌∷◌, ◌++◌, length, replicate, ◌≢◌, slice_index, slice_index_or, Err}
use Rattle.update_sizes.specs.Sizes.{sizes_ok, blocks_of}
use Rattle.update_header.specs.Fields.{data_size, total_size, table_count, entry_count}
use Rattle.update_header.specs.Checks.{sizes_fit}
use Rattle.update_verdict.specs.Verdict.{Good, verdict}
use Rattle.update_coverage.specs.Covers.{covers}
use Rattle.write_marks.specs.StoredUpdates.{StoredUpdates}
use Rattle.write_placement.specs.Choose.{choose}
use Rattle.call_answers.specs.Codes.{storage_full, invalid_header, invalid_header_cs, no_run}
use Rattle.call_answers.specs.Answers.{refusal}
use Rattle.call_answers.specs.Refusals.{refused}
use Rattle.call_answers.specs.declared.refusal.Refusal.TheVariants.{NoRun}
use Rattle.write_plan.specs.Plan.{Plan, run, placed}
use Rattle.write_plan.specs.VerdictCode.{verdict_ah}

unfoldable pub bytes : ℕ → List ℕ
bytes x = x % 256 ∷ x / 256 % 256 ∷ x / 65536 % 256 ∷ x / 16777216 % 256 ∷ []

-- D = 0, total field 0, date 07181998h, signature 00000650h, flags 06h, all else 0 but versions 1
unfoldable pub p : ℕ → ℕ → List ℕ
p revision checksum =
    bytes 1 ++ bytes revision ++ bytes 0x07181998 ++ bytes 0x650 ++ bytes checksum ++ bytes 1 ++ bytes 6
    ++ replicate 2020 0

-- stored updates by their starts and sizes, none of which shares; the last list says which cover a listed processor
unfoldable pub stored : List ℕ → List ℕ → List Bool → StoredUpdates
stored starts sizes needed =
    record { count = length starts; start = λ i. slice_index starts i; size = λ i. slice_index sizes i; shares = λ i. false; needed = λ i. slice_index_or needed i false }

-- what check 8 finds of n blocks, of which k are wanted
unfoldable pub answer : ℕ → ℕ → StoredUpdates → Plan
answer n k h = placed h (choose n k h)

-- stale, unused, unused, unused
unfoldable pub stale_first : StoredUpdates
stale_first = stored (0 ∷ []) (1 ∷ []) (false ∷ [])

-- a stale update of two, a stale one of one, unused
unfoldable pub two_stale : StoredUpdates
two_stale = stored (0 ∷ 2 ∷ []) (2 ∷ 1 ∷ []) (false ∷ false ∷ [])

-- needed, stale, needed, stale
unfoldable pub alternating : StoredUpdates
alternating = stored (0 ∷ 1 ∷ 2 ∷ 3 ∷ []) (1 ∷ 1 ∷ 1 ∷ 1 ∷ []) (true ∷ false ∷ true ∷ false ∷ [])

abbrev pub code_of : List ℕ → ℕ
code_of s = verdict_ah (verdict s)

-- all bytes whose D and T mean these sizes, with this count field behind the data
abbrev pub Code : ℕ → ℕ → ℕ → ℕ → Type 0
Code d t n ah = (s : List ℕ) → data_size s ≡ d → total_size s ≡ t → table_count s ≡ n → code_of s ≡ ah

pub record Starred : Type 0 where
  pub p_is_valid : verdict (p 7 0xF8E7E009) ≡ Good 2048 2000 0 1
  pub p_with_checksum_f8e7e00a : code_of (p 7 0xF8E7E00A) ≡ invalid_header_cs
  -- revision 8 needs F8E7E008h: with any other checksum the same bytes are 96
  pub p_with_revision_8 : verdict (p 8 0xF8E7E008) ≡ Good 2048 2000 0 1
  pub revision_8_needs : (c : ℕ) → c < 2 ^ 32 → (c ≢ 0xF8E7E008) → code_of (p 8 c) ≡ invalid_header_cs
  pub p_covers_650_1 : covers (p 7 0xF8E7E009) 0x650 1 ≡ true
  pub p_covers_650_2 : covers (p 7 0xF8E7E009) 0x650 2 ≡ true
  pub p_not_650_0 : covers (p 7 0xF8E7E009) 0x650 0 ≡ false
  pub d_976_t_1024 : (n : ℕ) → (sizes_ok 976 1024 n ≡ true) × (blocks_of 1024 ≡ 1)
  pub d_1968_t_2048_n_1 : (sizes_ok 1968 2048 1 ≡ true) × (blocks_of 2048 ≡ 1)
  pub d_1212_t_2048_n_64 : sizes_ok 1212 2048 64 ≡ true
  pub d_1200_t_2048_n_65 : Code 1200 2048 65 invalid_header
  pub d_964_t_1024 : (n : ℕ) → Code 964 1024 n invalid_header
  pub d_32720_t_32768 : (n : ℕ) → (sizes_ok 32720 32768 n ≡ true) × (blocks_of 32768 ≡ 16)
  pub t_33792 : (d n : ℕ) → Code d 33792 n invalid_header
  -- with a table T needs only be a multiple of 4: both sides of 2,048 with one entry
  pub d_1964_t_2044_n_1 : (sizes_ok 1964 2044 1 ≡ true) × (blocks_of 2044 ≡ 1)
  pub d_1972_t_2052_n_1 : (sizes_ok 1972 2052 1 ≡ true) × (blocks_of 2052 ≡ 2)
  -- the smallest with a table
  pub d_4_t_84_n_1 : (sizes_ok 4 84 1 ≡ true) × (blocks_of 84 ≡ 1)
  pub none_under_84 : (s : List ℕ) → sizes_fit s ≡ true → 1 ≤ entry_count s → 84 ≤ total_size s
  pub d_980_t_1028 : (n : ℕ) → Code 980 1028 n invalid_header
  pub t_no_dwords : (d t n : ℕ) → (t % 4 ≢ 0) → Code d t n invalid_header
  pub d_32688_t_32768_n_1 : sizes_ok 32688 32768 1 ≡ true
  pub t_32772 : (d n : ℕ) → Code d 32772 n invalid_header
  pub stale_then_three_unused : answer 4 2 stale_first ≡ run 1 0
  pub stale_of_two_stale_of_one_unused : answer 4 2 two_stale ≡ run 0 1
  pub needed_stale_needed_stale : (answer 4 2 alternating ≡ Err NoRun) × (refused NoRun ≡ refusal storage_full no_run)
