-- The data bytes of an update (document 01, "The update"): those behind the header, as many as D says, or as there are.
--   data_part  the data bytes
use Rattle.std.specs.Prelude.{ℕ, List, take, drop}
use Rattle.update_header.specs.Fields.{data_size}

unfoldable pub data_part : List ℕ → List ℕ
data_part v = take (data_size v) (drop 48 v)
