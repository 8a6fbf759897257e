-- The write's checks 2 and 3 (document 01, "The calls"), on any bytes.
--   header_ok    check 2: at least 48 bytes, header version, loader version
--   sizes_fit    check 3: the size rules, and T within the lent bytes
use Rattle.std.specs.Prelude.{ℕ, Bool, ◌&&◌, List, length, leb, eqb}
use Rattle.update_header.specs.Fields.{version, loader_version, data_size, total_size, table_count}
use Rattle.update_sizes.specs.Sizes.{sizes_ok}

unfoldable pub header_ok : List ℕ → Bool
header_ok s = leb 48 (length s) && eqb (version s) 1 && eqb (loader_version s) 1

unfoldable pub sizes_fit : List ℕ → Bool
sizes_fit s = sizes_ok (data_size s) (total_size s) (table_count s) && leb (total_size s) (length s)
