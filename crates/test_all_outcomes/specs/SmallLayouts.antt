-- A small store as blocks and marks: at most four updates, by start, size in blocks and two marks against the candidate.
--   layout         a layout by its fields, in the order of the source
--   most_updates   how many updates there is room for
--   unused         no update
--   block_bytes    the bytes of a number of blocks below 64
--   has_room       an update that begins at `block` lies behind the last one and in the store, and is not the fifth
--   added          the layout with an update more
--   with_update    that one where there is room, and else none
--   kind_size      the blocks of an update of a kind: one for 1 to 4, two for 5 to 8
--   with_kind      the layout with a block of a kind: 0 begins no update; the marks are the last two bits of the kind
--   codes          how many codes there are: nine kinds for each of 1 to 6 blocks
--   kind_of        the kind of block b in a code: its digit b to base nine
--   coded_to       the layout with a code, its first b blocks; none where some update has no room
--   coded          the whole of it
--   owns           update i has block c
--   both_at        update i shares and is needed
--   both_marks     some update does
use Rattle.std.specs.Prelude.{ℕ, zero, suc, ◌+◌, ◌*◌, ◌/◌, ◌%◌, ◌^◌, Bool, false, cond, ◌&&◌, List, replicate, ◌==◌, nat_le, nat_lt, slice_index, slice_set, Option, Some, None, option_and_then}
use Rattle.laws.specs.Below.{any_below}
use Rattle.laws.specs.Arrays.{mark_at}
use Rattle.test_all_outcomes.specs.declared.layout.Layout.{Layout}

abbrev pub layout : ℕ → ℕ → ℕ → List ℕ → List ℕ → List Bool → List Bool → Layout
layout blocks count behind starts sizes shares needed =
    record {
      blocks = blocks;
      count = count;
      behind = behind;
      starts = starts;
      sizes = sizes;
      shares = shares;
      needed = needed;
    }

abbrev pub most_updates : ℕ
most_updates = 4

unfoldable pub unused : ℕ → Layout
unused blocks =
    layout blocks 0 0 (replicate most_updates 0) (replicate most_updates 0) (replicate most_updates false) (replicate most_updates false)

abbrev pub block_bytes : ℕ → ℕ
block_bytes blocks = blocks % 64 * 2048

unfoldable pub has_room : Layout → ℕ → ℕ → Bool
has_room l block size = nat_le l.behind block && nat_lt l.count most_updates && nat_le (block + size) l.blocks

unfoldable pub added : Layout → ℕ → ℕ → Bool → Bool → Layout
added l block size shares needed =
    layout l.blocks (l.count + 1) (block + size) (slice_set l.starts l.count block) (slice_set l.sizes l.count size)
    (slice_set l.shares l.count shares) (slice_set l.needed l.count needed)

unfoldable pub with_update : Layout → ℕ → ℕ → Bool → Bool → Option Layout
with_update l block size shares needed = cond (has_room l block size) (Some (added l block size shares needed)) None

unfoldable pub kind_size : ℕ → ℕ
kind_size kind = cond (nat_lt kind 5) 1 2

unfoldable pub with_kind : Layout → ℕ → ℕ → Option Layout
with_kind l block kind = cond (kind == 0) (Some l) (with_update l block (kind_size kind) (kind % 2 == 1) (kind / 2 % 2 == 1))

unfoldable pub codes : ℕ → ℕ
codes blocks = cond (nat_le 1 blocks && nat_le blocks 6) (9 ^ blocks) 0

abbrev pub kind_of : ℕ → ℕ → ℕ
kind_of code b = code / 9 ^ b % 9

unfoldable pub coded_to : ℕ → ℕ → ℕ → Option Layout
coded_to blocks code zero = Some (unused blocks)
coded_to blocks code (suc b) = option_and_then (λ l. with_kind l b (kind_of code b)) (coded_to blocks code b)

abbrev pub coded : ℕ → ℕ → Option Layout
coded blocks code = coded_to blocks code blocks

unfoldable pub owns : Layout → ℕ → ℕ → Bool
owns l i c = nat_lt i most_updates && nat_le (slice_index l.starts i) c && nat_lt c (slice_index l.starts i + slice_index l.sizes i)

unfoldable pub both_at : Layout → ℕ → Bool
both_at l i = mark_at l.shares i && mark_at l.needed i

unfoldable pub both_marks : Layout → Bool
both_marks l = any_below most_updates (both_at l)
