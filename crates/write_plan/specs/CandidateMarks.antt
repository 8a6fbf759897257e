-- The stored updates with their two marks against a candidate (document 01, checks 6 to 8).
--   update_at        the store from the first block of update number i on
--   shares_entry     update number i shares a processor with the candidate, listed or not
--   needed_entry     it covers a listed processor that the candidate doesn't
--   stored_updates         the stored updates, by number, as the choice of a run sees them
--   outdates         it shares, and its revision is equal or greater
--   outdated         some stored update does
use Rattle.std.specs.Prelude.{ℕ, Bool, ◌&&◌, List, leb}
use Rattle.laws.specs.Below.{any_below}
use Rattle.update_header.specs.Fields.{revision}
use Rattle.update_sharing.specs.Shares.{shares}
use Rattle.store_blocks.specs.Blocks.{from_block}
use Rattle.store_directory.specs.Scan.{directory}
use Rattle.store_directory.specs.DirectoryEntries.{start_of, size_of}
use Rattle.processor_list.specs.Processors.{ProcessorList, is_needed}
use Rattle.write_marks.specs.StoredUpdates.{StoredUpdates}

-- the bytes from the first block of update number i on
abbrev pub update_at : List ℕ → ℕ → List ℕ
update_at old i = from_block old (start_of (directory old) i)

unfoldable pub shares_entry : List ℕ → List ℕ → ℕ → Bool
shares_entry old cand i = shares (update_at old i) cand

unfoldable pub needed_entry : List ℕ → ProcessorList → List ℕ → ℕ → Bool
needed_entry old list cand i = is_needed list cand (update_at old i)

unfoldable pub stored_updates : List ℕ → ProcessorList → List ℕ → StoredUpdates
stored_updates old list cand =
    record {
      count = (directory old).count;
      start = start_of (directory old);
      size = size_of (directory old);
      shares = shares_entry old cand;
      needed = needed_entry old list cand;
    }

unfoldable pub outdates : List ℕ → List ℕ → ℕ → Bool
outdates old cand i = shares_entry old cand i && leb (revision cand) (revision (update_at old i))

unfoldable pub outdated : List ℕ → List ℕ → Bool
outdated old cand = any_below (directory old).count (outdates old cand)
