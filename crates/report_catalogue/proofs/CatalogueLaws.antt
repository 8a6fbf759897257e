-- Laws of the whole text: the walk of the entries, and the two ways to the text.
--   count_is, count_small    a store has so many blocks as the code counts, and no more than the most
--   head_long                the first line's word
--   walk_none                before the first entry
--   walk_more                what an entry adds to the lines
--   text_good, text_bad      the text, from what the calls gave
--   text_short               it has no more bytes than the text that was made
--   input_text_lem           one byte more than the largest store has is enough of any input
use Rattle.std.specs.Prelude.{ℕ, ◌+◌, ◌/◌, ◌<◌, ◌≤◌, ◌≡◌, refl, true, false, List, ◌++◌, length, take}
use Rattle.std.proofs.Common.{arith, ⊎_elim, length-take, take_all, length-take-le, le-leb}
use Rattle.std.proofs.lemmas.Bool.{lt-leb}
use Rattle.laws.specs.Orders.{le_or_lt}
use Rattle.laws.specs.Unless.{unless}
use Rattle.update_sizes.specs.Sizes.{block}
use Rattle.store_blocks.specs.Blocks.{most_blocks, block_count, length_ok}
use Rattle.store_directory.specs.Scan.{store_ok, directory}
use Rattle.store_directory.proofs.ValidLaws.{store_valid}
use Rattle.store_directory.specs.DirectoryEntries.{start_of, size_of}
use Rattle.store_directory.specs.declared.Directory.{Directory}
use Rattle.report_text.specs.Digits.{decimal}
use Rattle.report_text.specs.Texts.{text_room, no_text, added}
use Rattle.report_text.specs.TextLaws.{added_none, added_more, added_long, none_long, made_text}
use Rattle.report_text.specs.declared.Text.{Text}
use Rattle.report_catalogue.specs.Catalogue.{newline, blocks_word, free_word, bad_text, largest_store, input_room}
use Rattle.report_catalogue.specs.Catalogue.{catalogue_line, unused_to, catalogue_text, input_text}
use Rattle.report_catalogue.specs.Walk.{entries_to, used_to}
use Rattle.report_catalogue.proofs.WalkLaws.{entries_none, entries_more, lines_entries, free_entries}

pub count_is : (s : List ℕ) → length s / block ≡ block_count s
unfolding block_count
count_is s = refl

pub count_small : (s : List ℕ) (n : ℕ) → store_ok s ≡ true → n ≡ block_count s → n ≤ most_blocks
count_small s n ok e = omega (arith, (store_valid s ok).few)

pub head_long : (t r : Text) → t ≡ no_text → r ≡ added t blocks_word → r.len ≡ 7
head_long t r e f = omega (arith, none_long t e, added_long t r blocks_word f)

pub walk_none : (s : List ℕ) (d : Directory) (t : Text) → t ≡ added t (entries_to s d 0)
walk_none s d t = rw (entries_none s d) (added_none t)

-- b and k are what was read of entry i
pub walk_more : (s : List ℕ) (d : Directory) (i b k : ℕ) (t u r : Text) → b ≡ start_of d i → k ≡ size_of d i → u ≡ added t (entries_to s d i)
    → r ≡ added u (catalogue_line s b k) → r ≡ added t (entries_to s d (i + 1))
walk_more s d i b k t u r e f g h = rw (entries_more s d i, ← e, ← f) (added_more t u r (entries_to s d i) (catalogue_line s b k) g h)

module _ (s : List ℕ) where
  pub text_bad : (empty text : Text) → store_ok s ≡ false → empty ≡ no_text → text ≡ added empty bad_text → text ≡ added no_text (catalogue_text s)
  unfolding catalogue_text unless
  text_bad empty text f g h = rw (f, h, g)

  -- d is the local that holds the directory; what stands before the lines, with them, before the last number, and the whole
  pub text_good : (d : Directory) → d ≡ directory s → (empty word head lines foot text : Text) (n i free : ℕ) → store_ok s ≡ true → n ≡ block_count s → i ≤ d.count → d.count ≤ i
      → free + used_to d i ≡ n → empty ≡ no_text → word ≡ added empty blocks_word → head ≡ added word (decimal n ++ newline)
      → lines ≡ added head (entries_to s d i) → foot ≡ added lines free_word → text ≡ added foot (decimal free ++ newline) → text ≡ added no_text (catalogue_text s)
  unfolding catalogue_text unless
  text_good d e empty word head lines foot text n i free ok c l m f g h j k o p =
      let q : unused_to s (block_count s) ≡ free = omega (arith, free_entries s ok d e i l m) in
      rw (ok, lines_entries s ok d e i l m, q, ← c, ← g)
      (added_more _ _ _ _ _ (added_more _ _ _ _ _ (added_more _ _ _ _ _ (added_more _ _ _ _ _ h j) k) o) p)

pub text_short : (s : List ℕ) (t : Text) → t ≡ added no_text (catalogue_text s) → t.len ≤ text_room → length (catalogue_text s) ≤ text_room
text_short s t e l = rw (← made_text t (catalogue_text s) e) (omega (arith, length-take t.len t.bytes))

-- more bytes than the most blocks have are no store
long_bad : (s : List ℕ) → length s ≡ input_room → catalogue_text s ≡ bad_text
unfolding catalogue_text unless store_ok length_ok
long_bad s e = rw e

pub input_text_lem : (all : List ℕ) → catalogue_text (take input_room all) ≡ input_text all
unfolding input_text unless
input_text_lem all =
    ⊎_elim (λ (h : length all ≤ largest_store). rw (take_all input_room all (omega arith), le-leb (length all) largest_store h))
    (λ (h : largest_store < length all).
    rw (lt-leb (length all) largest_store h) (long_bad (take input_room all) (length-take-le input_room all (omega arith))))
    (le_or_lt (length all) largest_store)
