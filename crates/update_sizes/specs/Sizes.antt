-- The sizes of an update, as numbers: what D = 0 means, the size rules, the number of entries and the number of blocks (document 01, "The
-- update", as document 02, Three, amends it).
--   header, table_head, entry    bytes of the header, of the table before its entries, and of an entry
--   most_entries, most_total     the most entries, and the greatest T
--   data_unit                    D is a multiple of this, and so is T with a table
--   total_unit                   T without a table is a multiple of this
--   block                        bytes of a block
--   data_size_of, total_size_of  the sizes that the stored D and T mean
--   plain_ok, tabled_ok  the rule for T without a table, and with one of n entries
--   sizes_ok      the rule for D, T and the table's count field; every sum is one of whole numbers
--   entries_of    n, the number of entries: none where T = 48 + D
--   entry_offset  where entry k begins, behind d data bytes
--   blocks_of     ceiling(T / 2,048), the blocks that T bytes occupy
use Rattle.std.specs.Prelude.{ℕ, ◌+◌, ◌*◌, ◌-◌, ◌%◌, ◌/◌, Bool, cond, ◌&&◌, ◌||◌, leb, eqb}

abbrev pub header : ℕ
header = 48

-- count, checksum, 12 reserved bytes
abbrev pub table_head : ℕ
table_head = 20

-- signature, flags, checksum
abbrev pub entry : ℕ
entry = 12

abbrev pub most_entries : ℕ
most_entries = 64

abbrev pub most_total : ℕ
most_total = 32768

abbrev pub data_unit : ℕ
data_unit = 4

abbrev pub total_unit : ℕ
total_unit = 1024

abbrev pub block : ℕ
block = 2048

-- D = 0 means 2,000 data bytes and T = 2,048, whatever stands at 32
unfoldable pub data_size_of : ℕ → ℕ
data_size_of d = cond (eqb d 0) 2000 d

unfoldable pub total_size_of : ℕ → ℕ → ℕ
total_size_of d t = cond (eqb d 0) 2048 t

-- without a table
abbrev pub plain_ok : ℕ → ℕ → Bool
plain_ok d t = eqb t (header + d) && eqb (t % total_unit) 0

-- with a table of n entries
abbrev pub tabled_ok : ℕ → ℕ → ℕ → Bool
tabled_ok d t n = leb 1 n && leb n most_entries && eqb t (header + d + table_head + entry * n) && eqb (t % data_unit) 0

-- D is a multiple of 4, T at most 32,768, and either T = 48 + D, a multiple of 1,024, or T = 48 + D + 20 + 12 n, a multiple of 4, with a
-- table of n entries, n from 1 to 64; n is the table's count field
unfoldable pub sizes_ok : ℕ → ℕ → ℕ → Bool
sizes_ok d t n = eqb (d % data_unit) 0 && leb t most_total && (plain_ok d t || tabled_ok d t n)

unfoldable pub entries_of : ℕ → ℕ → ℕ → ℕ
entries_of d t n = cond (eqb t (header + d)) 0 n

-- the table begins at 48 + D
unfoldable pub entry_offset : ℕ → ℕ → ℕ
entry_offset d k = header + d + table_head + entry * k

unfoldable pub blocks_of : ℕ → ℕ
blocks_of t = (t + (block - 1)) / block
