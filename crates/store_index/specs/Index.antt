-- The index of a store (document 02, One): for each of up to 32 blocks whether it is unused, the first block of an update or a later one, with
-- the first block's number, the revision and the size in blocks; 0 for an unused block; entries behind N are unused.
--   unused, first, later      the numbers of the three kinds
--   unused_line               the line of an unused block
--   update_line               the line of block b, which belongs to the update that begins at `start`
--   owner_at                  the first block of the update that block b belongs to: the nearest first block at or before it
--   stored_line               the line of block b, which belongs to the update of the store that begins at block a
--   line_of_kind, line_at     the line of block b of a store, by its kind
--   line_in                   the same, and an unused line behind N
--   line_of                   line b of an index
--   kind_of .. size_of        the four columns of 32 lines
--   index_by                  the index of 32 lines
--   all_unused                the index of a bad store
--   index_of                  the index of a store
use Rattle.std.specs.Prelude.{ℕ, zero, suc, cond, List, get_or, replicate, eqb, ltb}
use Rattle.laws.specs.Tabulate.{tabulate}
use Rattle.laws.specs.Unless.{unless}
use Rattle.update_header.specs.Fields.{revision as revision_of}
use Rattle.store_blocks.specs.Blocks.{from_block, block_count}
use Rattle.store_directory.specs.Scan.{first as begins-update, size_at, store_ok}
use Rattle.store_directory.specs.Kind.{kind_at}
use Rattle.store_directory.specs.declared.kind.Kind.{Kind}
use Rattle.store_directory.specs.declared.kind.Kind.TheVariants.{Unused, First, Later}
use Rattle.store_index.specs.declared.Line.{Line}
use Rattle.store_index.specs.declared.Index.{Index}

abbrev pub unused : ℕ
unused = 0

abbrev pub first : ℕ
first = 1

abbrev pub later : ℕ
later = 2

abbrev pub unused_line : Line
unused_line = record { kind = unused; start = 0; revision = 0; size = 0 }

unfoldable pub update_line : ℕ → ℕ → ℕ → ℕ → Line
update_line start revision size b = record { kind = cond (eqb start b) first later; start = start; revision = revision; size = size }

unfoldable pub owner_at : List ℕ → ℕ → ℕ
owner_at s zero = 0
owner_at s (suc b) = cond (begins-update s (suc b)) (suc b) (owner_at s b)

unfoldable pub stored_line : List ℕ → ℕ → ℕ → Line
stored_line s a b = update_line a (revision_of (from_block s a)) (size_at s a) b

unfoldable pub line_of_kind : List ℕ → ℕ → Kind → Line
line_of_kind s b Unused = unused_line
line_of_kind s b (First k) = stored_line s b b
line_of_kind s b Later = stored_line s (owner_at s b) b

unfoldable pub line_at : List ℕ → ℕ → Line
line_at s b = line_of_kind s b (kind_at s b)

unfoldable pub line_in : List ℕ → ℕ → Line
line_in s b = unless (ltb b (block_count s)) unused_line (line_at s b)

unfoldable pub line_of : Index → ℕ → Line
line_of x b = record { kind = get_or x.kinds b 0; start = get_or x.starts b 0; revision = get_or x.revisions b 0; size = get_or x.sizes b 0 }

abbrev pub kind_of : (ℕ → Line) → ℕ → ℕ
kind_of f b = (f b).kind

abbrev pub start_of : (ℕ → Line) → ℕ → ℕ
start_of f b = (f b).start

abbrev pub revision_in : (ℕ → Line) → ℕ → ℕ
revision_in f b = (f b).revision

abbrev pub size_of : (ℕ → Line) → ℕ → ℕ
size_of f b = (f b).size

unfoldable pub index_by : (ℕ → Line) → Index
index_by f = record {
  kinds = tabulate 32 0 (kind_of f);
  starts = tabulate 32 0 (start_of f);
  revisions = tabulate 32 0 (revision_in f);
  sizes = tabulate 32 0 (size_of f);
}

unfoldable pub all_unused : Index
all_unused = record { kinds = replicate 32 0; starts = replicate 32 0; revisions = replicate 32 0; sizes = replicate 32 0 }

unfoldable pub index_of : List ℕ → Index
index_of s = unless (store_ok s) all_unused (index_by (line_in s))
