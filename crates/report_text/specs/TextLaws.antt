-- Laws of a text that is being made.
--   added_none     nothing is added
--   added_byte     one byte is
--   added_twice, added_more     what is added in two steps
--   added_long     how many bytes count then
--   none_long      no text has no bytes
--   made_text      what was added to no text is the text
--   text_length    the text has as many bytes as count
use Rattle.std.specs.Prelude.{ℕ, ◌+◌, ◌<◌, ◌≤◌, ◌≡◌, List, [], ◌∷◌, ◌++◌, length, set}
use Rattle.std.proofs.Common.{ap, arith, zero-add, add-zero, add_assoc, length-append, length-take-le}
use Rattle.std.proofs.Math.Seq.{take-length, take-append_seam}
use Rattle.bytes_copy.specs.Paste.{put_at, put_start}
use Rattle.report_text.specs.Texts.{text_room, text_of, no_text, added}
use Rattle.report_text.specs.TextListLaws.{put_one, put_both}
use Rattle.report_text.specs.declared.Text.{Text}

pub added_none : (t : Text) → t ≡ added t []
unfolding added
added_none t = rw (← put_start t.bytes t.len [], add-zero t.len)

pub added_byte : (t r : Text) (b : ℕ) → t.len < length t.bytes → r.bytes ≡ set t.bytes t.len b → r.len ≡ t.len + 1
    → r ≡ added t (b ∷ [])
unfolding added
added_byte t r b l e f = rw (← put_one t.bytes t.len b l, ← e, ← f)

pub added_twice : (t : Text) (xs ys : List ℕ) → added (added t xs) ys ≡ added t (xs ++ ys)
unfolding added
added_twice t xs ys = rw (put_both t.bytes t.len xs ys, length-append xs ys, add_assoc)

pub added_more : (t u r : Text) (xs ys : List ℕ) → u ≡ added t xs → r ≡ added u ys → r ≡ added t (xs ++ ys)
added_more t u r xs ys e f = rw (f, e) (added_twice t xs ys)

pub added_long : (t r : Text) (xs : List ℕ) → r ≡ added t xs → r.len ≡ t.len + length xs
unfolding added
added_long t r xs e = ap (λ (x : Text). x.len) e

pub none_long : (t : Text) → t ≡ no_text → t.len ≡ 0
unfolding no_text
none_long t e = ap (λ (x : Text). x.len) e

pub made_text : (r : Text) (xs : List ℕ) → r ≡ added no_text xs → text_of r ≡ xs
unfolding no_text added put_at
made_text r xs e = rw (e, zero-add (length xs), take-length xs) (take-append_seam xs _)

pub text_length : (t : Text) → length t.bytes ≡ text_room → t.len ≤ text_room → length (text_of t) ≡ t.len
text_length t e l = length-take-le t.len t.bytes (omega arith)
