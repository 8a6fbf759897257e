-- The index of a store, as the code makes it: the lines of one update after the other.
--   LinesTo                     the lines of the first i entries of the directory stand, and the others are unused
use Rattle.std.specs.Prelude.{ℕ, ◌<◌, ◌≡◌, List}
use Rattle.laws.specs.Span.{Spans}
use Rattle.store_directory.specs.DirectoryEntries.{start_of, size_of}
use Rattle.store_directory.specs.declared.Directory.{Directory}
use Rattle.store_index.specs.Index.{unused_line, stored_line, line_of}
use Rattle.store_index.specs.IndexColumns.{index_in}
use Rattle.store_index.specs.UpdateLines.{Columns}

pub record LinesTo (s : List ℕ) (d : Directory) (i : ℕ) (cs : List (List ℕ)) : Type 0 where
  pub long : Columns cs
  pub entry : (j c : ℕ) → j < i → Spans (start_of d j) (size_of d j) c → line_of (index_in cs) c ≡ stored_line s (start_of d j) c
  pub rest : (c : ℕ) → ((j : ℕ) → j < i → Spans (start_of d j) (size_of d j) c → ⊥) → line_of (index_in cs) c ≡ unused_line
