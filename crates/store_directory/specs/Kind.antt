-- The kind of a block: unused, the first of an update, or a later one of one (document 01, the calls' read and its code 9A).
--   kind_of, kind_at    by what the reading finds at the block; the kind of block b of a store
--   owns_at             entry i of the directory has block b among its blocks
--   kind_if, kind_by    the kind of block b by an update that has it, and by entry i
--   kind_in             the kind of block b by the directory
use Rattle.std.specs.Prelude.{ℕ, Bool, true, false, cond, List, get_or, ltb, eqb}
use Rattle.laws.specs.Span.{spans}
use Rattle.laws.specs.First.{first_below}
use Rattle.store_directory.specs.Scan.{slot_at, begins}
use Rattle.store_blocks.specs.declared.slot.Slot.{Slot}
use Rattle.store_blocks.specs.declared.slot.Slot.TheVariants.{Unused, Update, Bad}
use Rattle.store_directory.specs.declared.kind.Kind.{Kind}
use Rattle.store_directory.specs.declared.kind.Kind.TheVariants.{Unused as UnusedBlock, First, Later}
use Rattle.store_directory.specs.declared.Directory.{Directory}

-- what the reading makes of a block: one at which it reads no slot is a later block of an update. A bad slot stands in no valid store, so any
-- kind would do for it.
abbrev pub kind_of : Bool → Slot → Kind
kind_of true Unused = UnusedBlock
kind_of true (Update k) = First k
kind_of true Bad = Later
kind_of false x = Later

unfoldable pub kind_at : List ℕ → ℕ → Kind
kind_at s b = kind_of (begins s b) (slot_at s b)

unfoldable pub owns_at : Directory → ℕ → ℕ → Bool
owns_at d b i = spans (get_or d.starts i 0) (get_or d.sizes i 0) b

-- of an update that has block b
unfoldable pub kind_if : ℕ → ℕ → ℕ → Kind
kind_if start size b = cond (eqb start b) (First size) Later

-- of the first entry that has it
unfoldable pub kind_by : Directory → ℕ → ℕ → Kind
kind_by d b i = cond (ltb i d.count) (kind_if (get_or d.starts i 0) (get_or d.sizes i 0) b) UnusedBlock

unfoldable pub kind_in : Directory → ℕ → Kind
kind_in d b = kind_by d b (first_below d.count (owns_at d b))
