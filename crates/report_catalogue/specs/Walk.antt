-- The walk of the directory's entries, by which the code makes the text.
--   longest_number, longest_line  at most so many bytes: two digits and a byte behind them; four such numbers, eight hex digits and a byte
--   entry_line     the line of entry i
--   entries_to     the lines of the entries below i
--   used_to        how many blocks these have
--   end_to         the block behind the last of them
use Rattle.std.specs.Prelude.{ℕ, zero, suc, ◌+◌, List, [], ◌++◌}
use Rattle.store_directory.specs.DirectoryEntries.{start_of, size_of}
use Rattle.store_directory.specs.declared.Directory.{Directory}
use Rattle.report_catalogue.specs.Catalogue.{catalogue_line}

abbrev pub longest_number : ℕ
longest_number = 3

abbrev pub longest_line : ℕ
longest_line = 21

abbrev pub entry_line : List ℕ → Directory → ℕ → List ℕ
entry_line s d i = catalogue_line s (start_of d i) (size_of d i)

unfoldable pub entries_to : List ℕ → Directory → ℕ → List ℕ
entries_to s d zero = []
entries_to s d (suc i) = entries_to s d i ++ entry_line s d i

unfoldable pub used_to : Directory → ℕ → ℕ
used_to d zero = 0
used_to d (suc i) = used_to d i + size_of d i

unfoldable pub end_to : Directory → ℕ → ℕ
end_to d zero = 0
end_to d (suc i) = start_of d i + size_of d i
