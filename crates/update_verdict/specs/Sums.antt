-- The three kinds of sums, each modulo 2^32 (document 01, "The update").
--   sum_of          signature + flags + checksum
--   header_sum      that of the header
--   entry_ok        the sum of entry k is `want`
--   table           the table's bytes
--   sums_ok         all sums are right
use Rattle.std.specs.Prelude.{ℕ, ◌+◌, ◌-◌, ◌%◌, ◌^◌, Bool, ◌&&◌, List, take, drop, ◌==◌}
use Rattle.laws.specs.Below.{all_below}
use Rattle.bytes_dwords.specs.Dword.{dword}
use Rattle.bytes_dwords.specs.Sum.{dword_sum}
use Rattle.update_header.specs.Fields.{signature, flags, checksum, data_size, total_size, entry_count}
use Rattle.update_sizes.specs.Sizes.{entry_offset}

unfoldable pub sum_of : ℕ → ℕ → ℕ → ℕ
sum_of signature flags checksum = (signature + flags + checksum) % 2 ^ 32

unfoldable pub header_sum : List ℕ → ℕ
header_sum s = sum_of (signature s) (flags s) (checksum s)

unfoldable pub entry_ok : List ℕ → ℕ → ℕ → ℕ → Bool
entry_ok s d want k = sum_of (dword s (entry_offset d k)) (dword s (entry_offset d k + 4)) (dword s (entry_offset d k + 8)) == want

-- what lies between the data and the end: the table's 20 + 12 n bytes, or nothing
unfoldable pub table : List ℕ → List ℕ
table s = take (total_size s - (48 + data_size s)) (drop (48 + data_size s) s)

-- All dwords of the T bytes sum to 0. The table's bytes sum to 0. For each entry, signature + flags + checksum equals the header's.
unfoldable pub sums_ok : List ℕ → Bool
sums_ok s =
    (dword_sum (take (total_size s) s) == 0)
    && (dword_sum (table s) == 0 && all_below (entry_count s) (entry_ok s (data_size s) (header_sum s)))
