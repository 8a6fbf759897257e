-- A step that sets bytes of a buffer.
--   following    how many bytes may follow a step
--   source_of    the one byte, where there is one, as often as counted; else the bytes that follow
--   source       the bytes that it puts: the one byte as often as counted, or those that follow
--   few          no more bytes follow than may
--   fits         the buffer has such a part, and no more bytes follow than may
--   edited       the buffer afterwards: the part is the source's, and nothing changes where it doesn't fit
--   sets         the step sets buffer k
--   edit_good    whether the step is good: there is such a buffer, and it fits
--   edited_by    buffer k afterwards
use Rattle.std.specs.Prelude.{ℕ, ◌+◌, Bool, true, false, cond, ◌&&◌, List, length, replicate, ◌==◌, nat_le, Option, Some, None}
use Rattle.bytes_copy.specs.Paste.{put_at}
use Rattle.test_vectors.specs.declared.edits.Edit.{Edit}

abbrev pub following : ℕ
following = 1024

abbrev pub source_of : Option ℕ → ℕ → List ℕ → List ℕ
source_of (Some byte) n bytes = replicate n byte
source_of None n bytes = bytes

unfoldable pub source : Edit → List ℕ → List ℕ
source e bytes = source_of e.byte e.count bytes

abbrev pub few : Option ℕ → ℕ → Bool
few (Some byte) n = true
few None n = nat_le n following

unfoldable pub fits : Edit → List ℕ → Bool
fits e s = nat_le (e.offset + e.count) (length s) && few e.byte e.count

unfoldable pub edited : Edit → List ℕ → List ℕ → List ℕ
edited e bytes s = cond (fits e s) (put_at s e.offset (source e bytes) e.count) s

unfoldable pub sets : Edit → ℕ → Bool
sets e k = e.buffer == k

unfoldable pub edit_good : Edit → List ℕ → List ℕ → List ℕ → Bool
edit_good e store candidate destination =
    cond (sets e 0) (fits e store) (cond (sets e 1) (fits e candidate) (cond (sets e 2) (fits e destination) false))

unfoldable pub edited_by : Edit → ℕ → List ℕ → List ℕ → List ℕ
edited_by e k bytes s = cond (sets e k) (edited e bytes s) s
