-- Updates made over what stands in a buffer.
--   header      right versions, the date of document 01's P, and D and T as given
--   negated     the number that makes a sum 0
--   balance     the dword at `at` by which the bytes from `from` to `end` sum to 0
--   p           the update P of document 01, in a buffer of zeros
--   plain       an update of t bytes without a table
--   rest_of     the checksum of an entry by which it sums to what the header's signature, flags and checksum sum to
--   entry       entry k of the table at `at`
--   entries     its first n entries, for the signatures after `signature`
--   tabled      an update of d data bytes with a table of n entries; nothing where d or n is far too large
--   entries_none, entries_more, entries_done    the loop over the entries
--   tabled_long, tabled_many, tabled_made       the ways of the code to `tabled`
use Rattle.std.specs.Prelude.{◌≡◌, ℕ, zero, suc, ◌+◌, ◌-◌, ◌*◌, ◌%◌, ◌^◌, ◌<◌, ◌≤◌, cond, ◌&&◌, List, take, drop, nat_le}
use Rattle.std.proofs.Math.Path.{refl}
use Rattle.std.proofs.Math.Bool.{and-false}
use Rattle.std.proofs.Common.{add-one, arith}
use borrow.Author.Tests.{le-leb, lt-leb}
use Rattle.bytes_dwords.specs.Sum.{dword_sum}
use Rattle.update_header.specs.Fields as fields
use Rattle.test_samples.specs.SampleBytes.{put_dword}

unfoldable pub header : List ℕ → ℕ → ℕ → ℕ → ℕ → ℕ → List ℕ
header s revision signature flags d t =
    put_dword (put_dword (put_dword (put_dword (put_dword (put_dword (put_dword (put_dword s 0 1) 4 revision) 8 0x07181998) 12 signature) 20 1) 24 flags) 28 d) 32 t

abbrev pub negated : ℕ → ℕ
negated x = (2 ^ 32 - x) % 2 ^ 32

unfoldable pub balance : List ℕ → ℕ → ℕ → ℕ → List ℕ
balance s at from end = put_dword (put_dword s at 0) at (negated (dword_sum (drop from (take end (put_dword s at 0)))))

unfoldable pub p : List ℕ → ℕ → ℕ → List ℕ
p s revision checksum = put_dword (header s revision 0x650 6 0 0) 16 checksum

unfoldable pub plain : List ℕ → ℕ → ℕ → ℕ → ℕ → ℕ → List ℕ
plain s revision signature flags d t = balance (header s revision signature flags d t) 16 0 t

unfoldable pub rest_of : List ℕ → ℕ → ℕ → ℕ
rest_of s signature flags = (((fields.signature s + fields.flags s) % 2 ^ 32 + fields.checksum s) % 2 ^ 32 + negated ((signature + flags) % 2 ^ 32)) % 2 ^ 32

unfoldable pub entry : List ℕ → ℕ → ℕ → ℕ → ℕ → List ℕ
entry s at k signature flags =
    put_dword (put_dword (put_dword s (at + 20 + 12 * k) signature) (at + 20 + 12 * k + 4) flags) (at + 20 + 12 * k + 8) (rest_of s signature flags)

unfoldable pub entries : List ℕ → ℕ → ℕ → ℕ → ℕ → List ℕ
entries s at signature flags zero = s
entries s at signature flags (suc k) = entry (entries s at signature flags k) at k ((signature + (k + 1)) % 2 ^ 32) flags

unfoldable pub tabled : List ℕ → ℕ → ℕ → ℕ → ℕ → List ℕ
tabled s signature flags d n =
    cond (nat_le d 65536 && nat_le n 1000)
    (balance (entries (put_dword (balance (header s 7 signature flags d (48 + d + 20 + 12 * n)) 16 0 (48 + d)) (48 + d) n) (48 + d) signature flags n) (48 + d + 4) (48 + d) (48 + d + 20 + 12 * n))
    s

module _ (s : List ℕ) (at signature flags : ℕ) where
  pub entries_none : s ≡ entries s at signature flags 0
  unfolding entries
  entries_none = refl

  -- b is the buffer with k entries, and r with one more
  pub entries_more : (b r : List ℕ) (k next : ℕ) → b ≡ entries s at signature flags k → next ≡ (signature + (k + 1)) % 2 ^ 32 → r ≡ entry b at k next flags → r ≡ entries s at signature flags (k + 1)
  unfolding entries
  entries_more b r k next e f h = rw (add-one k, ← e, ← f) h

  pub entries_done : (b : List ℕ) (k n : ℕ) → b ≡ entries s at signature flags k → k ≤ n → n ≤ k → b ≡ entries s at signature flags n
  entries_done b k n e l m = let q : k ≡ n = omega arith in rw q at e

module _ (s : List ℕ) (signature flags d n : ℕ) where
  pub tabled_long : 65536 < d → s ≡ tabled s signature flags d n
  unfolding tabled
  tabled_long l = rw (lt-leb d 65536 l)

  pub tabled_many : 1000 < n → s ≡ tabled s signature flags d n
  unfolding tabled
  tabled_many l = rw (lt-leb n 1000 l, and-false (nat_le d 65536))

  -- what each call left
  pub tabled_made : (a b c e r : List ℕ) → d ≤ 65536 → n ≤ 1000 → a ≡ header s 7 signature flags d (48 + d + 20 + 12 * n) → b ≡ balance a 16 0 (48 + d) → c ≡ put_dword b (48 + d) n
      → e ≡ entries c (48 + d) signature flags n → r ≡ balance e (48 + d + 4) (48 + d) (48 + d + 20 + 12 * n) → r ≡ tabled s signature flags d n
  unfolding tabled
  tabled_made a b c e r l m f g h i j = rw (le-leb d 65536 l, le-leb n 1000 m, ← f, ← g, ← h, ← i) j
