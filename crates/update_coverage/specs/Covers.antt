-- Which processors an update covers (document 01, "The update"): the header and the entries are its pairs of a signature and flags. Pair 0
-- is the header's, pair k + 1 that of entry k.
--   pair_count                      how many pairs: none where check 2 or 3 fails
--   signature_offset, flags_offset  where they stand
--   signature_at, flags_at          the fields of pair i, as stored
--   platforms_at                    the flags of pair i that count: bits 8 to 31 are ignored
--   pairs_of                        one reading of the header: the number of data bytes, that of the pairs, and pair 0
--   names                           the flags f name platform p, 0 to 7
--   pair_covers, covers_at          a pair, and pair i, has the signature and names the platform
--   covers                          some pair does
--   Covers                          the same in the document's words; `CoverLaws` joins the two
use Rattle.std.specs.Prelude.{ℕ, ◌+◌, ◌-◌, ◌%◌, ◌<◌, ◌≡◌, Bool, true, cond, ◌&&◌, List, ltb, eqb}
use Rattle.laws.specs.Below.{any_below}
use Rattle.laws.specs.Unless.{unless}
use Rattle.laws.specs.Bits.{bit}
use Rattle.bytes_dwords.specs.Dword.{dword}
use Rattle.update_header.specs.Fields.{data_size, entry_count}
use Rattle.update_sizes.specs.Sizes.{entry_offset}
use Rattle.update_header.specs.Checks.{header_ok, sizes_fit}
use Rattle.update_coverage.specs.declared.Pairs.{Pairs}

unfoldable pub pair_count : List ℕ → ℕ
pair_count s = unless (header_ok s) 0 (unless (sizes_fit s) 0 (entry_count s + 1))

-- where the two fields of pair i stand, behind d data bytes
unfoldable pub signature_offset : ℕ → ℕ → ℕ
signature_offset d i = cond (eqb i 0) 12 (entry_offset d (i - 1))

unfoldable pub flags_offset : ℕ → ℕ → ℕ
flags_offset d i = cond (eqb i 0) 24 (entry_offset d (i - 1) + 4)

unfoldable pub signature_at : List ℕ → ℕ → ℕ
signature_at s i = dword s (signature_offset (data_size s) i)

unfoldable pub flags_at : List ℕ → ℕ → ℕ
flags_at s i = dword s (flags_offset (data_size s) i)

unfoldable pub platforms_at : List ℕ → ℕ → ℕ
platforms_at s i = flags_at s i % 256

unfoldable pub pairs_of : List ℕ → Pairs
pairs_of s = record { «data» = data_size s; count = pair_count s; signature = signature_at s 0; platforms = platforms_at s 0 }

unfoldable pub names : ℕ → ℕ → Bool
names f p = ltb p 8 && bit f p

unfoldable pub pair_covers : ℕ → ℕ → ℕ → ℕ → Bool
pair_covers signature f x p = eqb signature x && names f p

unfoldable pub covers_at : List ℕ → ℕ → ℕ → ℕ → Bool
covers_at s x p i = pair_covers (signature_at s i) (platforms_at s i) x p

-- the update covers the processor of signature x and platform p
unfoldable pub covers : List ℕ → ℕ → ℕ → Bool
covers s x p = any_below (pair_count s) (covers_at s x p)

-- The header or some entry has that signature and has bit (platform) set in its flags; a platform is a number from 0 to 7.
pub record Covers (s : List ℕ) (x p : ℕ) : Type 0 where
  pub platform : p < 8
  pub pair : ℕ
  pub within : pair < pair_count s
  pub has_signature : signature_at s pair ≡ x
  pub has_bit : bit (flags_at s pair) p ≡ true
