-- The starred cases, proved by evaluation.
--   starred    the table holds
--   p_made     the programs write the same P
use Rattle.std.specs.Prelude.{◌≡◌, ℕ, ◌+◌, ◌*◌, ◌/◌, ◌%◌, ◌^◌, ◌<◌, ◌≤◌, Bool, true, false, cond, ◌&&◌, List, take, replicate, ◌==◌, ◌≢◌, nat_le, refl}
use Rattle.std.proofs.Common.{sym, arith, ne_eqb}
use Rattle.std.proofs.Math.Bool.{and-false}
use Rattle.std.proofs.lemmas.Bool.{eqb-false}
use Rattle.laws.specs.Bools.{no_true}
use Rattle.laws.specs.Below.{all_below, any_below}
use Rattle.laws.specs.Count.{count_below}
use Rattle.laws.specs.Least.{least}
use Rattle.laws.specs.Unless.{unless}
use Rattle.laws.specs.Bits.{bit}
use Rattle.bytes_dwords.specs.Dword.{little, dword}
use Rattle.bytes_dwords.specs.Sum.{dwords_of, total, dword_sum}
use Rattle.update_sizes.specs.Sizes.{data_size_of, total_size_of, sizes_ok, entries_of, blocks_of, entry_offset}
use Rattle.update_header.specs.Fields.{data_size, total_size, table_count, entry_count}
use Rattle.update_sizes.proofs.SizeLaws.{sizes_sized, too_long, plain}
use Rattle.update_header.specs.Checks.{header_ok, sizes_fit}
use Rattle.update_header.specs.Inside.{inside}
use Rattle.update_verdict.specs.Sums.{sum_of, header_sum, entry_ok, table, sums_ok}
use Rattle.update_verdict.specs.Verdict.{BadHeader, verdict}
use Rattle.update_coverage.specs.Covers.{pair_count, signature_offset, flags_offset, signature_at, flags_at, platforms_at, names, pair_covers, covers_at, covers}
use Rattle.write_marks.specs.Against.{touches_by_number, emptied_by_number, rules_out, loses, ruled_out, lost}
use Rattle.write_placement.specs.Choose.{choose}
use Rattle.write_plan.specs.Plan.{placed}
use Rattle.write_plan.specs.VerdictCode.{verdict_ah}
use Rattle.call_answers.specs.Codes.{invalid_header, invalid_header_cs}
use Rattle.bytes_copy.specs.Paste.{put_at}
use Rattle.test_samples.specs.SampleBytes.{put}
use Rattle.test_samples.specs.Make as sample
use Rattle.test_cases.specs.Starred.{bytes, p, stored, answer, stale_first, two_stale, alternating, code_of, Code, Starred}

-- a size rule is broken
sizes_code : (d t n : ℕ) → sizes_ok d t n ≡ false → Code d t n invalid_header
unfolding verdict sizes_fit unless
sizes_code d t n h s e f g = rw (e, f, g, h) (go (header_ok s))
  where
    go : (x : Bool) → verdict_ah (unless x BadHeader BadHeader) ≡ invalid_header
    go true = refl
    go false = refl

no_dwords : (d t n : ℕ) → (t % 4 ≢ 0) → sizes_ok d t n ≡ false
no_dwords d t n h = no_true (sizes_ok d t n) (λ k. let z = sizes_sized d t n k in h (omega (arith, z.dwords, z.layout)))

-- there are always data
some_data : (x : ℕ) → 1 ≤ data_size_of x
unfolding data_size_of
some_data x = go (x == 0) refl
  where
    go : (t : Bool) → (x == 0) ≡ t → 1 ≤ cond t 2000 x
    go true e = omega arith
    go false e = omega (arith, eqb-false x 0 e)

least_tabled : (s : List ℕ) → sizes_fit s ≡ true → 1 ≤ entry_count s → 84 ≤ total_size s
unfolding data_size
least_tabled s h l = let z = (inside s h).sized in omega (arith, z.dwords, z.layout, some_data (dword s 28))

-- the four bytes of a number below 2^32 are that number
byte_1 : (c : ℕ) → c / 256 % 256 + 256 * (c / 65536) ≡ c / 256
byte_1 c = omega arith

byte_2 : (c : ℕ) → c / 65536 % 256 + 256 * (c / 16777216) ≡ c / 65536
byte_2 c = omega arith

byte_3 : (c : ℕ) → c < 2 ^ 32 → c / 16777216 % 256 ≡ c / 16777216
byte_3 c l = omega arith

joined : (b0 b1 b2 b3 d1 d2 d3 c : ℕ) → c ≡ b0 + 256 * d1 → b1 + 256 * d2 ≡ d1 → b2 + 256 * d3 ≡ d2 → b3 ≡ d3 → little b0 b1 b2 b3 ≡ c
joined b0 b1 b2 b3 d1 d2 d3 c e f g h = omega arith

whole : (c : ℕ) → c < 2 ^ 32 → little (c % 256) (c / 256 % 256) (c / 65536 % 256) (c / 16777216 % 256) ≡ c
whole c l = joined (c % 256) (c / 256 % 256) (c / 65536 % 256) (c / 16777216 % 256) (c / 256) (c / 65536) (c / 16777216) c (omega arith) (byte_1 c) (byte_2 c) (byte_3 c l)

-- with a checksum c the dwords of P with revision 8 sum to c + 07181FF8h
sum_is : (c : ℕ) → c < 2 ^ 32 → dword_sum (take 2048 (p 8 c)) ≡ (c + 0x07181FF8) % 2 ^ 32
unfolding p bytes dword_sum dwords_of total
sum_is c l = rw (whole c l) (omega arith)

sums_wrong : (c : ℕ) → c < 2 ^ 32 → (c ≢ 0xF8E7E008) → sums_ok (p 8 c) ≡ false
unfolding sums_ok p bytes total_size total_size_of dword
sums_wrong c l n = rw (ne_eqb (dword_sum (take 2048 (p 8 c))) 0 (λ e. n (omega (arith, sum_is c l))))

checked : (c : ℕ) → c < 2 ^ 32 → (c ≢ 0xF8E7E008) → code_of (p 8 c) ≡ invalid_header_cs
unfolding verdict unless header_ok sizes_fit p bytes dword data_size total_size data_size_of total_size_of sizes_ok table_count
checked c l n = rw (sums_wrong c l n)

pub starred : Starred
unfolding p bytes verdict unless header_ok sizes_fit sums_ok table dword_sum dwords_of total dword data_size total_size data_size_of total_size_of sizes_ok table_count entries_of entry_count blocks_of all_below entry_ok entry_offset sum_of header_sum covers covers_at pair_covers pair_count signature_at signature_offset platforms_at flags_at flags_offset names bit any_below answer stored stale_first two_stale alternating placed choose least ruled_out rules_out emptied_by_number touches_by_number lost loses count_below
starred =
    record {
      p_is_valid = refl;
      p_with_checksum_f8e7e00a = refl;
      p_with_revision_8 = refl;
      revision_8_needs = checked;
      p_covers_650_1 = refl;
      p_covers_650_2 = refl;
      p_not_650_0 = refl;
      d_976_t_1024 = λ n. (refl, refl);
      d_1968_t_2048_n_1 = (refl, refl);
      d_1212_t_2048_n_64 = refl;
      d_1200_t_2048_n_65 = sizes_code 1200 2048 65 refl;
      d_964_t_1024 = λ n. sizes_code 964 1024 n (rw (ne_eqb 1024 (48 + 964 + 20 + 12 * n) (λ e. omega arith), and-false (nat_le 1 n && nat_le n 64)));
      d_32720_t_32768 = λ n. (refl, refl);
      t_33792 = λ d n. sizes_code d 33792 n (sym (too_long d 33792 n (omega arith)));
      d_1964_t_2044_n_1 = (refl, refl);
      d_1972_t_2052_n_1 = (refl, refl);
      d_4_t_84_n_1 = (refl, refl);
      none_under_84 = least_tabled;
      d_980_t_1028 = λ n. sizes_code 980 1028 n (sym (plain 980 1028 n (λ k. omega arith) refl));
      t_no_dwords = λ d t n h. sizes_code d t n (no_dwords d t n h);
      d_32688_t_32768_n_1 = refl;
      t_32772 = λ d n. sizes_code d 32772 n (sym (too_long d 32772 n (omega arith)));
      stale_then_three_unused = refl;
      stale_of_two_stale_of_one_unused = refl;
      needed_stale_needed_stale = (refl, refl);
    }

-- in a buffer of zeros
pub p_made : sample.p (replicate 2048 0) 7 0xF8E7E009 ≡ p 7 0xF8E7E009
unfolding p bytes sample.p sample.header put put_at
p_made = refl
