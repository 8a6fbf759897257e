-- The candidates and the stores of layouts: what their makers leave in a buffer s. A cover is one signature and its flags.
--   cover           a cover by its fields
--   plain_of        an update of t bytes without a table, with D as given and one byte as its data
--   headed_of       the header and the data of an update with a table of one entry, of revision 5
--   table_of        a table of one entry at `at`, whose bytes to `end` sum to 0
--   tabled_of       the two, in t bytes; nothing where t is too small for it
--   plain_data      D where the data fill T: T less the header, as a number of 32 bits
--   candidate_of    the candidate of t bytes and revision 9, which covers (100, 0) to (100, 7)
--   total_of        T of a stored update: it fills its last block, or leaves the half of it
--   sharing_cover   the one platform by which update i shares, with the candidate's signature
--   own_cover       a signature of update i alone
--   single_data     D of a stored update without a table: 0 for one block that begins at an odd block
--   single_of       a stored update without a table
--   both_of         one that shares and is needed: it shares by its header or, at an odd block, by its entry
--   marked_of       update i by its start, marks, T and data byte
--   stored_of       update i by its start, size and marks
--   place_of        the first byte of update i of a layout
--   stored_at       update i of a layout, at its place, if the buffer reaches so far
--   placed          the first i updates of a layout, each at its place
--   store_of        six blocks of FFh, with all updates of a layout
use Rattle.std.specs.Prelude.{ℕ, zero, suc, ◌+◌, ◌-◌, ◌%◌, ◌^◌, Bool, cond, ◌&&◌, List, ◌++◌, length, take, drop, ◌==◌, nat_le, nat_lt, slice_index}
use Rattle.laws.specs.Arrays.{mark_at}
use Rattle.test_samples.specs.SampleBytes.{fill, put_dword}
use Rattle.test_samples.specs.Make.{header, balance, plain, entry}
use Rattle.test_all_outcomes.specs.declared.layout.Layout.{Layout}
use Rattle.test_all_outcomes.specs.declared.make.Cover.{Cover}
use Rattle.test_all_outcomes.specs.SmallLayouts.{most_updates, block_bytes}

abbrev pub cover : ℕ → ℕ → Cover
cover signature flags = record { signature = signature; flags = flags }

unfoldable pub plain_of : List ℕ → ℕ → Cover → ℕ → ℕ → ℕ → List ℕ
plain_of s revision c d t byte = plain (fill s 0 t byte) revision c.signature c.flags d t

abbrev pub headed_of : List ℕ → Cover → ℕ → ℕ → List ℕ
headed_of s one t byte = balance (header (fill s 0 t byte) 5 one.signature one.flags (t - 80) t) 16 0 (t - 32)

abbrev pub table_of : List ℕ → Cover → ℕ → ℕ → List ℕ
table_of s other at end = balance (entry (put_dword s at 1) at 0 other.signature other.flags) (at + 4) at end

-- the table is the last 32 bytes
unfoldable pub tabled_of : List ℕ → Cover → Cover → ℕ → ℕ → List ℕ
tabled_of s one other t byte = cond (nat_le 80 t) (table_of (headed_of s one t byte) other (t - 32) t) s

unfoldable pub plain_data : ℕ → ℕ
plain_data t = (t + (2 ^ 32 - 48)) % 2 ^ 32

unfoldable pub candidate_of : List ℕ → ℕ → List ℕ
candidate_of s t = plain_of s 9 (cover 0x100 0xFF) (plain_data t) t 0xC5

unfoldable pub total_of : ℕ → ℕ → ℕ
total_of start size = cond (size == 1) 2048 (cond (start % 2 == 0) 4096 3072)

unfoldable pub sharing_cover : ℕ → Cover
sharing_cover i = cover 0x100 (cond (nat_lt i 3) (2 ^ i) 8)

unfoldable pub own_cover : ℕ → ℕ → Cover
own_cover signature i = cover ((signature + i % 4) % 2 ^ 32) 1

unfoldable pub single_data : ℕ → ℕ → ℕ
single_data start t = cond (t == 2048 && start % 2 == 1) 0 (plain_data t)

unfoldable pub single_of : List ℕ → Cover → ℕ → ℕ → ℕ → List ℕ
single_of s c start t byte = plain_of s 5 c (single_data start t) t byte

unfoldable pub both_of : List ℕ → ℕ → ℕ → ℕ → ℕ → List ℕ
both_of s i start t byte =
    cond (start % 2 == 0) (tabled_of s (sharing_cover i) (own_cover 0x200 i) t byte) (tabled_of s (own_cover 0x200 i) (sharing_cover i) t byte)

unfoldable pub marked_of : List ℕ → ℕ → ℕ → Bool → Bool → ℕ → ℕ → List ℕ
marked_of s i start shares needed t byte =
    cond shares (cond needed (both_of s i start t byte) (single_of s (sharing_cover i) start t byte))
    (cond needed (single_of s (own_cover 0x200 i) start t byte) (single_of s (own_cover 0x300 i) start t byte))

unfoldable pub stored_of : List ℕ → ℕ → ℕ → ℕ → Bool → Bool → List ℕ
stored_of s i start size shares needed = marked_of s i start shares needed (total_of start size) (i % 4 + 1)

abbrev pub place_of : Layout → ℕ → ℕ
place_of l i = block_bytes (slice_index l.starts i)

unfoldable pub stored_at : List ℕ → Layout → ℕ → List ℕ
stored_at s l i =
    cond (nat_lt i most_updates && nat_le (place_of l i) (length s))
    (take (place_of l i) s
    ++ stored_of (drop (place_of l i) s) i (slice_index l.starts i) (slice_index l.sizes i) (mark_at l.shares i) (mark_at l.needed i))
    s

unfoldable pub placed : List ℕ → Layout → ℕ → List ℕ
placed s l zero = s
placed s l (suc i) = stored_at (placed s l i) l i

abbrev pub store_of : List ℕ → Layout → List ℕ
store_of s l = placed (fill s 0 12288 255) l l.count
