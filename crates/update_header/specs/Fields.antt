-- The fields of the header, as stored, and the sizes that they mean (document 01, "The update").
--   version .. stored_total_size  the nine numbers of the header, at their offsets
--   data_size, total_size  the sizes that the stored D and T mean
--   table_count   the table's count field
--   entry_count   the number of entries
use Rattle.std.specs.Prelude.{ℕ, ◌+◌, List}
use Rattle.bytes_dwords.specs.Dword.{dword}
use Rattle.update_sizes.specs.Sizes.{data_size_of, total_size_of, entries_of}

abbrev pub version : List ℕ → ℕ
version s = dword s 0

abbrev pub revision : List ℕ → ℕ
revision s = dword s 4

abbrev pub date : List ℕ → ℕ
date s = dword s 8

abbrev pub signature : List ℕ → ℕ
signature s = dword s 12

abbrev pub checksum : List ℕ → ℕ
checksum s = dword s 16

abbrev pub loader_version : List ℕ → ℕ
loader_version s = dword s 20

abbrev pub flags : List ℕ → ℕ
flags s = dword s 24

-- D as stored
abbrev pub stored_data_size : List ℕ → ℕ
stored_data_size s = dword s 28

-- T as stored
abbrev pub stored_total_size : List ℕ → ℕ
stored_total_size s = dword s 32

unfoldable pub data_size : List ℕ → ℕ
data_size s = data_size_of (stored_data_size s)

unfoldable pub total_size : List ℕ → ℕ
total_size s = total_size_of (stored_data_size s) (stored_total_size s)

-- it stands behind the data
unfoldable pub table_count : List ℕ → ℕ
table_count s = dword s (48 + data_size s)

unfoldable pub entry_count : List ℕ → ℕ
entry_count s = entries_of (data_size s) (total_size s) (table_count s)
