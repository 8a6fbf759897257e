-- The lines of an index held against those of a store, as the code does it: those of each update are compared, and the used ones counted.
--   used_line          some number of the line isn't 0
--   used_in, used_of   line c of an index is used; line c of a store's own
--   UpdateFrom         the lines from `start` to below `end` are those of an update
--   Gathered           nothing differs now exactly if nothing did, and a fact holds
--   end_to             where the entry before number i ends
--   Behind             the entries before number i end at or before `next`, the others begin at or behind it
--   EntriesOwn         the lines of the entries before number i are the store's own
use Rattle.std.specs.Prelude.{ℕ, zero, suc, ◌+◌, ◌<◌, ◌≤◌, ◌≡◌, Bool, not, List, ◌↔◌, eqb}
use Rattle.std.specs.Int.Bits.{bit_or}
use Rattle.laws.specs.Span.{Spans}
use Rattle.store_directory.specs.DirectoryEntries.{start_of, size_of}
use Rattle.store_directory.specs.declared.Directory.{Directory}
use Rattle.store_index.specs.declared.Line.{Line}
use Rattle.store_index.specs.declared.Index.{Index}
use Rattle.store_index.specs.Index.{update_line, line_in, line_of}

unfoldable pub used_line : Line → Bool
used_line y = not (eqb (bit_or (bit_or (bit_or y.kind y.start) y.revision) y.size) 0)

unfoldable pub used_in : Index → ℕ → Bool
used_in x c = used_line (line_of x c)

unfoldable pub used_of : List ℕ → ℕ → Bool
used_of s c = used_line (line_in s c)

unfoldable pub UpdateFrom : Index → ℕ → ℕ → ℕ → ℕ → Type 0
UpdateFrom x start revision size end = (c : ℕ) → start ≤ c → c < end → line_of x c ≡ update_line start revision size c

abbrev pub Gathered : ℕ → ℕ → Type 0 → Type 0
Gathered now before P = (now ≡ 0) ↔ ((before ≡ 0) × P)

unfoldable pub end_to : Directory → ℕ → ℕ
end_to d zero = 0
end_to d (suc i) = start_of d i + size_of d i

pub record Behind (d : Directory) (i next : ℕ) : Type 0 where
  pub passed : (j : ℕ) → j < i → start_of d j + size_of d j ≤ next
  pub ahead : (j : ℕ) → i ≤ j → j < d.count → next ≤ start_of d j

unfoldable pub EntriesOwn : List ℕ → Directory → Index → ℕ → Type 0
EntriesOwn s d x i = (j c : ℕ) → j < i → Spans (start_of d j) (size_of d j) c → line_of x c ≡ line_in s c
