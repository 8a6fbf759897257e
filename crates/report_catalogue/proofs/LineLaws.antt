-- Laws of lines: the numbers in them have at most two digits.
--   few_platforms, low_platform    the numbers of platforms, where n is what a call answered of the part u
--   entry_small                    the first block and the size of an entry of a valid store's directory
--   revision_long                  the revision and the byte behind it
--   line_is                        the line of the update at a block, from what the calls answered of it
use Rattle.std.specs.Prelude.{ℕ, ◌+◌, ◌<◌, ◌≡◌, true, List, [], ◌∷◌}
use Rattle.std.proofs.Common.{arith}
use Rattle.laws.specs.Count.{count_most}
use Rattle.laws.specs.First.{first_is}
use Rattle.update_header.specs.Fields.{revision}
use Rattle.update_coverage.specs.Covers.{platforms_at, names}
use Rattle.update_coverage.specs.Platforms.{platform_count, lowest_platform}
use Rattle.store_blocks.specs.Blocks.{from_block}
use Rattle.store_directory.specs.Scan.{store_ok, directory}
use Rattle.store_directory.proofs.ValidLaws.{store_valid}
use Rattle.store_directory.specs.DirectoryEntries.{start_of, size_of}
use Rattle.store_directory.proofs.DirectoryLaws.{listing}
use Rattle.store_directory.specs.declared.Directory.{Directory}
use Rattle.report_text.specs.Digits.{TwoDigits, hex8}
use Rattle.report_text.specs.DigitLaws.{hex_long}
use Rattle.report_text.specs.Texts.{added}
use Rattle.report_text.specs.TextLaws.{added_long}
use Rattle.report_text.specs.declared.Text.{Text}
use Rattle.report_catalogue.specs.Catalogue.{line_of, catalogue_line}

module _ (u : List ℕ) (n : ℕ) where
  pub few_platforms : n ≡ platform_count u → TwoDigits n
  unfolding platform_count
  few_platforms e = omega (arith, count_most (names (platforms_at u 0)) 8)

  pub low_platform : n ≡ lowest_platform u → TwoDigits n
  unfolding lowest_platform
  low_platform e = omega (arith, (first_is 8 (names (platforms_at u 0))).within)

pub entry_small : (s : List ℕ) (d : Directory) (i : ℕ) → store_ok s ≡ true → d ≡ directory s → i < d.count
    → TwoDigits (start_of d i) × TwoDigits (size_of d i)
entry_small s d i ok e l =
    let h = listing s ok d e in
    let v = (store_valid s ok).few in
    (omega (arith, h.ends i l, h.some i l), omega (arith, h.ends i l))

pub revision_long : (t u r : Text) (n b : ℕ) → u ≡ added t (hex8 n) → r ≡ added u (b ∷ []) → r.len ≡ t.len + 9
revision_long t u r n b e f = omega (arith, added_long t u (hex8 n) e, hex_long n, added_long u r (b ∷ []) f)

pub line_is : (s u : List ℕ) (b k v n m : ℕ) (t r : Text) → u ≡ from_block s b → v ≡ revision u → n ≡ platform_count u
    → m ≡ lowest_platform u → r ≡ added t (line_of b k v n m) → r ≡ added t (catalogue_line s b k)
line_is s u b k v n m t r e f g h a = rw (← e, ← f, ← g, ← h) a
