-- Check 6 computes what its words say.
--   outdated_law    of a valid store: check 6 refuses exactly if a stored update shares and its revision is equal or greater
use Rattle.std.specs.Prelude.{ℕ, ◌≡◌, refl, true, List, ◌↔◌, leb}
use Rattle.std.proofs.Common.{arith}
use borrow.Author.Tests.{leb-true, le-leb}
use Rattle.laws.specs.Bools.{and_parts, and_made}
use Rattle.laws.specs.Below.{any_at, any_stop}
use Rattle.update_header.specs.Fields.{revision}
use Rattle.update_sharing.specs.Shares.{shares}
use Rattle.update_sharing.proofs.ShareLaws.{shares_law}
use Rattle.store_blocks.specs.Blocks.{from_block}
use Rattle.store_directory.specs.Scan.{store_ok, directory}
use Rattle.store_directory.specs.DirectoryEntries.{start_of}
use Rattle.store_directory.specs.DirectoryLaws.{Listing}
use Rattle.store_directory.proofs.DirectoryLaws.{listing}
use Rattle.write_plan.specs.CandidateMarks.{shares_entry, outdates, outdated}
use Rattle.write_call.specs.Outdated.{Outdated}

module _ (old cand : List ℕ) (ok : store_ok old ≡ true) where
  entries : Listing old (directory old)
  entries = listing old ok (directory old) refl

  outdated_at : outdated old cand ≡ true → Outdated old cand
  unfolding outdated outdates shares_entry
  outdated_at h =
      let i = any_at (outdates old cand) (directory old).count h in
      let b = start_of (directory old) i.0 in
      let a = and_parts (shares (from_block old b) cand) (leb (revision cand) (revision (from_block old b))) i.2 in
      record {
        block = b;
        below = omega (arith, entries.some i.0 i.1, entries.ends i.0 i.1);
        begins = entries.begin i.0 i.1;
        shared = (shares_law (from_block old b) cand).0 a.0;
        not_older = leb-true (revision cand) (revision (from_block old b)) a.1;
      }

  outdated_made : Outdated old cand → outdated old cand ≡ true
  unfolding outdated outdates shares_entry
  outdated_made w =
      let b = w.block in
      let i = entries.every b w.below w.begins in
      let s = (shares_law (from_block old b) cand).1 w.shared in
      let r = le-leb (revision cand) (revision (from_block old b)) w.not_older in
      any_stop (outdates old cand) (directory old).count i.0 i.1 (rw i.2 (and_made s r))

  pub outdated_law : (outdated old cand ≡ true) ↔ Outdated old cand
  outdated_law = (outdated_at, outdated_made)
