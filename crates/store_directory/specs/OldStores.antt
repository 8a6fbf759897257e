-- A store by document 01's size rule as it stood before document 02, Three: T was a multiple of 1,024 with a table too. Each definition is
-- today's with the old rule in the new one's place. `OldStoreLaws` says what has become of such a store, and nothing else uses them.
--   old_sizes_ok                  the old rule for D, T and the table's count field
--   old_sizes_fit, old_verdict    check 3 and the verdict by it
--   old_pair_count .. old_shares  how many pairs an update had, which processors it covered, and whether two updates shared one
--   old_slot_of .. old_sound      the reading of a store: what stood at a block, where the reading went on, and whether it was bad
--   old_starts, old_sizes         the first blocks and the sizes of the stored updates
--   old_clash_at .. old_clash     two of them shared
--   old_store_ok                  the verdict on a store
--   old_directory, old_kind_at    its directory, and the kind of a block
use Rattle.std.specs.Prelude.{ℕ, zero, suc, ◌+◌, ◌*◌, ◌%◌, Bool, cond, not, ◌&&◌, ◌||◌, List, length, get_or, leb, eqb}
use Rattle.laws.specs.Below.{all_below, any_below, rows}
use Rattle.laws.specs.NumbersBelow.{itself, list_below}
use Rattle.laws.specs.Unless.{unless}
use Rattle.update_sizes.specs.Sizes.{blocks_of}
use Rattle.update_header.specs.Fields.{data_size, total_size, table_count, entry_count}
use Rattle.update_header.specs.Checks.{header_ok}
use Rattle.update_verdict.specs.Sums.{sums_ok}
use Rattle.update_verdict.specs.Verdict.{Verdict, Good, BadHeader, BadSum}
use Rattle.update_coverage.specs.Covers.{covers_at}
use Rattle.update_sharing.specs.Shares.{shares_at}
use Rattle.store_blocks.specs.Blocks.{unused, from_block, block_count, length_ok}
use Rattle.store_blocks.specs.Slot.{update_slot}
use Rattle.store_blocks.specs.declared.slot.Slot.{Slot}
use Rattle.store_blocks.specs.declared.slot.Slot.TheVariants.{Unused}
use Rattle.store_directory.specs.Scan.{slot_size, is_update, is_bad, pad, no_updates}
use Rattle.store_directory.specs.Kind.{kind_of}
use Rattle.store_directory.specs.declared.Directory.{Directory}
use Rattle.store_directory.specs.declared.kind.Kind.{Kind}

-- D is a multiple of 4, T a multiple of 1,024 and at most 32,768, and either T = 48 + D, or T = 48 + D + 20 + 12 n with a table of n
-- entries, n from 1 to 64
unfoldable pub old_sizes_ok : ℕ → ℕ → ℕ → Bool
old_sizes_ok d t n =
    eqb (d % 4) 0 && eqb (t % 1024) 0 && leb t 32768
    && (eqb t (48 + d) || (leb 1 n && leb n 64 && eqb t (48 + d + 20 + 12 * n)))

unfoldable pub old_sizes_fit : List ℕ → Bool
old_sizes_fit s = old_sizes_ok (data_size s) (total_size s) (table_count s) && leb (total_size s) (length s)

unfoldable pub old_verdict : List ℕ → Verdict
old_verdict s =
    unless (header_ok s) BadHeader
    (unless (old_sizes_fit s) BadHeader
    (unless (sums_ok s) BadSum
    (Good (total_size s) (data_size s) (entry_count s) (blocks_of (total_size s)))))

unfoldable pub old_pair_count : List ℕ → ℕ
old_pair_count s = unless (header_ok s) 0 (unless (old_sizes_fit s) 0 (entry_count s + 1))

unfoldable pub old_covers : List ℕ → ℕ → ℕ → Bool
old_covers s x p = any_below (old_pair_count s) (covers_at s x p)

unfoldable pub old_shares : List ℕ → List ℕ → Bool
old_shares a b = any_below (old_pair_count a) (rows (old_pair_count b) (shares_at a b))

unfoldable pub old_slot_of : List ℕ → Slot
old_slot_of s = unless (unused s) (update_slot s (old_verdict s)) Unused

unfoldable pub old_slot_at : List ℕ → ℕ → Slot
old_slot_at s b = old_slot_of (from_block s b)

unfoldable pub old_next_slot : List ℕ → ℕ → ℕ
old_next_slot s zero = 0
old_next_slot s (suc b) = cond (leb (old_next_slot s b) b) (b + slot_size (old_slot_at s b)) (old_next_slot s b)

unfoldable pub old_begins : List ℕ → ℕ → Bool
old_begins s b = leb (old_next_slot s b) b

unfoldable pub old_first : List ℕ → ℕ → Bool
old_first s b = old_begins s b && is_update (old_slot_at s b)

unfoldable pub old_sound : List ℕ → ℕ → Bool
old_sound s b = not (old_begins s b && is_bad (old_slot_at s b))

abbrev pub old_starts : List ℕ → List ℕ
old_starts s = list_below (old_first s) itself (block_count s)

abbrev pub old_size_at : List ℕ → ℕ → ℕ
old_size_at s b = slot_size (old_slot_at s b)

abbrev pub old_sizes : List ℕ → List ℕ
old_sizes s = list_below (old_first s) (old_size_at s) (block_count s)

unfoldable pub old_clash_at : List ℕ → List ℕ → ℕ → ℕ → Bool
old_clash_at s xs i j = old_shares (from_block s (get_or xs i 0)) (from_block s (get_or xs j 0))

unfoldable pub old_clash_row : List ℕ → List ℕ → ℕ → Bool
old_clash_row s xs i = any_below i (old_clash_at s xs i)

unfoldable pub old_clash : List ℕ → List ℕ → ℕ → Bool
old_clash s xs n = any_below n (old_clash_row s xs)

unfoldable pub old_store_ok : List ℕ → Bool
old_store_ok s = length_ok (length s) && all_below (block_count s) (old_sound s) && not (old_clash s (old_starts s) (length (old_starts s)))

unfoldable pub old_directory : List ℕ → Directory
old_directory s =
    cond (old_store_ok s) (record { count = length (old_starts s); starts = pad (old_starts s); sizes = pad (old_sizes s) }) no_updates

unfoldable pub old_kind_at : List ℕ → ℕ → Kind
old_kind_at s b = kind_of (old_begins s b) (old_slot_at s b)
