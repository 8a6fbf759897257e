-- A text that is being made, as the code holds it.
--   text_room     how many bytes it has room for
--   text_of       its bytes so far
--   no_text       no bytes so far, and a row of zeros to hold those that come
--   added         the text t with the bytes xs behind it
use Rattle.std.specs.Prelude.{ℕ, ◌+◌, List, length, take, replicate}
use Rattle.bytes_copy.specs.Paste.{put_at}
use Rattle.report_text.specs.declared.Text.{Text}

abbrev pub text_room : ℕ
text_room = 1024

abbrev pub text_of : Text → List ℕ
text_of t = take t.len t.bytes

unfoldable pub no_text : Text
no_text = record { bytes = replicate text_room 0; len = 0 }

unfoldable pub added : Text → List ℕ → Text
added t xs = record { bytes = put_at t.bytes t.len xs (length xs); len = t.len + length xs }
