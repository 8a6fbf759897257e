-- The catalogue of a store (document 01, "The catalogue"). Numbers are decimal, without padding, single spaces, one newline a line.
--   space, newline .. bad_text     the fixed parts, in ASCII
--   largest_store, input_room      the bytes of the most blocks, 65,536, and one more
--   line_of             the line of an update, of its five numbers
--   catalogue_line      the line of the update of k blocks that begins at block b
--   kind_line           what a block of a kind adds
--   block_line          what block b adds: the line of the update that begins there, or nothing
--   lines_to            the lines of the updates that begin at the blocks below n, by start
--   is_unused, unused_at   a kind is Unused; the kind of block b is
--   unused_to           how many of the blocks below n are unused
--   catalogue_text      the whole text
--   input_text          the text of any input
use Rattle.std.specs.Prelude.{ℕ, zero, suc, ◌+◌, ◌*◌, Bool, true, false, List, [], ◌∷◌, ◌++◌, length, leb}
use Rattle.laws.specs.Unless.{unless}
use Rattle.laws.specs.Count.{count_below}
use Rattle.update_header.specs.Fields.{revision}
use Rattle.update_coverage.specs.Platforms.{platform_count, lowest_platform}
use Rattle.update_sizes.specs.Sizes.{block}
use Rattle.store_blocks.specs.Blocks.{most_blocks, from_block, block_count}
use Rattle.store_directory.specs.Scan.{store_ok}
use Rattle.store_directory.specs.Kind.{kind_at}
use Rattle.store_directory.specs.declared.kind.Kind.{Kind}
use Rattle.store_directory.specs.declared.kind.Kind.TheVariants.{Unused, First, Later}
use Rattle.report_text.specs.Digits.{decimal, hex8}

abbrev pub space : List ℕ
space = 32 ∷ []

abbrev pub newline : List ℕ
newline = 10 ∷ []

-- "blocks ", "free ", and "bad store" with its newline
abbrev pub blocks_word : List ℕ
blocks_word = 98 ∷ 108 ∷ 111 ∷ 99 ∷ 107 ∷ 115 ∷ 32 ∷ []

abbrev pub free_word : List ℕ
free_word = 102 ∷ 114 ∷ 101 ∷ 101 ∷ 32 ∷ []

abbrev pub bad_text : List ℕ
bad_text = 98 ∷ 97 ∷ 100 ∷ 32 ∷ 115 ∷ 116 ∷ 111 ∷ 114 ∷ 101 ∷ 10 ∷ []

abbrev pub largest_store : ℕ
largest_store = most_blocks * block

abbrev pub input_room : ℕ
input_room = largest_store + 1

-- its start, blocks, revision in eight upper-case hex digits, how many platforms the header flags name, and the lowest platform
unfoldable pub line_of : ℕ → ℕ → ℕ → ℕ → ℕ → List ℕ
line_of start blocks revision platforms lowest =
    (decimal start ++ space) ++ (decimal blocks ++ space) ++ hex8 revision ++ space
    ++ (decimal platforms ++ space) ++ (decimal lowest ++ newline)

abbrev pub catalogue_line : List ℕ → ℕ → ℕ → List ℕ
catalogue_line s b k = line_of b k (revision (from_block s b)) (platform_count (from_block s b)) (lowest_platform (from_block s b))

unfoldable pub kind_line : List ℕ → ℕ → Kind → List ℕ
kind_line s b Unused = []
kind_line s b (First k) = catalogue_line s b k
kind_line s b Later = []

abbrev pub block_line : List ℕ → ℕ → List ℕ
block_line s b = kind_line s b (kind_at s b)

unfoldable pub lines_to : List ℕ → ℕ → List ℕ
lines_to s zero = []
lines_to s (suc b) = lines_to s b ++ block_line s b

abbrev pub is_unused : Kind → Bool
is_unused Unused = true
is_unused (First k) = false
is_unused Later = false

unfoldable pub unused_at : List ℕ → ℕ → Bool
unused_at s b = is_unused (kind_at s b)

unfoldable pub unused_to : List ℕ → ℕ → ℕ
unused_to s n = count_below n (unused_at s)

-- the line `blocks N`; per update, by start, its line; then the line `free F`, F being the count of unused blocks.
-- Of a bad store `bad store` and a newline only.
unfoldable pub catalogue_text : List ℕ → List ℕ
catalogue_text s =
    unless (store_ok s) bad_text
    (blocks_word ++ (decimal (block_count s) ++ newline)
    ++ lines_to s (block_count s)
    ++ free_word ++ (decimal (unused_to s (block_count s)) ++ newline))

-- "for a bad store or more than 65,536 bytes it writes `bad store` and a newline only"
unfoldable pub input_text : List ℕ → List ℕ
input_text all = unless (leb (length all) largest_store) bad_text (catalogue_text all)
