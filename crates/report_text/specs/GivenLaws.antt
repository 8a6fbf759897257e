-- Laws of a text in a lent buffer.
--   given_fits, given_short    what becomes of a text that fits, and of one that doesn't
--   bytes_fit, bytes_short     and the buffer afterwards
--   giving                     the four, as `search` takes them
--   given_inside, given_cut    a text that was given lies within the buffer, and its part there has its length
use Rattle.std.specs.Prelude.{ℕ, ◌<◌, ◌≤◌, ◌≡◌, Bool, List, ◌++◌, Ok, take, leb}
use Rattle.std.proofs.Common.{sym, ◌∙◌, length-take-le, arith}
use Rattle.std.proofs.Math.Bool.{true, false}
use Rattle.std.proofs.Math.ListN.{length, drop, length-append}
use borrow.Author.Tests.{le-leb, lt-leb}
use Rattle.laws.specs.Orders.{impossible}
use Rattle.laws.specs.Unless.{unless}
use Rattle.bytes_copy.specs.Paste.{put_at, put_first}
use Rattle.report_text.specs.Given.{Report, too_short, given, given_bytes}

-- n is the local that holds the length
module _ (bytes : List ℕ) (n : ℕ) (e : length (take n bytes) ≡ n) where
  pub given_fits : (m : ℕ) → n ≤ m → ◌≡◌ {A = Report} (Ok n) (given (take n bytes) m)
  unfolding given unless
  given_fits m l = rw (e, le-leb n m l)

  pub given_short : (m : ℕ) → m < n → too_short n ≡ given (take n bytes) m
  unfolding given unless
  given_short m l = rw (e, lt-leb n m l)

  module _ (out : List ℕ) where
    pub bytes_fit : (r : List ℕ) → n ≤ length out → r ≡ put_at out 0 bytes n → r ≡ given_bytes (take n bytes) out
    unfolding given_bytes unless
    bytes_fit r l h = rw (e, le-leb n (length out) l) (h ∙ put_first out bytes n)

    pub bytes_short : length out < n → out ≡ given_bytes (take n bytes) out
    unfolding given_bytes unless
    bytes_short l = rw (e, lt-leb n (length out) l)

pub ruleset giving = (given_fits, given_short, bytes_fit, bytes_short)

-- r and q are what a call answered, and left in the buffer
module _ (text out q : List ℕ) (r : Report) (n : ℕ) (e : r ≡ given text (length out)) (f : q ≡ given_bytes text out) (h : r ≡ Ok n) where
  pub given_inside : n ≤ length q
  unfolding given given_bytes unless
  given_inside = go (leb (length text) (length out)) (sym h ∙ e) f
    where
      go : (t : Bool) → ◌≡◌ {A = Report} (Ok n) (unless t (too_short (length text)) (Ok (length text))) → q ≡ unless t out (text ++ drop (length text) out) → n ≤ length q
      go true i j = let k : n ≡ length text = cc in rw j (omega (arith, length-append text (drop (length text) out)))
      go false i j = absurd (impossible (cc))

  pub given_cut : n ≡ length (take n q)
  given_cut = sym (length-take-le n q given_inside)
