-- The marks as the code keeps them, and how they stand for those of the definitions.
--   shares_is, needed_is        a turn of the loop that marks; marks_made: its end
--   outdate_older, outdate_apart    a turn of the scan for one that shares and isn't older: past an older one, past one that doesn't share
--   outdate_stop, outdate_done      its way out, and its end
--   marking, outdating          what the proofs of the two go by
--   stored_same                 right marks agree with the definitions' table
use Rattle.std.specs.Prelude.{ℕ, ◌+◌, ◌<◌, ◌≤◌, ◌≡◌, Bool, true, false, ◌&&◌, List, length, get_or, leb}
use Rattle.std.proofs.Math.Path.{sym}
use Rattle.std.proofs.Common.{◌∙◌}
use Rattle.std.proofs.Math.Bool.{and-false}
use borrow.Author.Tests.{le-leb, lt-leb}
use Rattle.processor_list.specs.Processors.{ProcessorList}
use Rattle.laws.specs.Below.{any_below, rows, any_none, any_more, any_stop}
use Rattle.laws.specs.Loops.{scan_done, nest_more}
use Rattle.laws.specs.Arrays.{Filled, filled_none, filled_more, filled_all}
use Rattle.update_header.specs.Fields.{revision}
use Rattle.update_coverage.specs.Covers.{pair_count}
use Rattle.update_coverage.proofs.PairLaws.{count_is}
use Rattle.update_sharing.specs.Shares.{shares_at, shares}
use Rattle.update_sharing.proofs.ShareLaws.{share_more, share_stop}
use Rattle.store_blocks.specs.Blocks.{from_block}
use Rattle.store_directory.specs.Scan.{directory}
use Rattle.store_directory.proofs.StoreLaws.{directory_few}
use Rattle.store_directory.proofs.PairedLaws.{directory_pairs}
use Rattle.store_directory.specs.declared.Directory.{Directory}
use Rattle.write_placement.specs.Agree.{Agree}
use Rattle.write_marks.specs.StoredMarks.{stored_of, marks_of}
use Rattle.write_marks.specs.declared.Marked.{Marked}
use Rattle.processor_list.specs.Covered.{Covered, needed_by_marks}
use Rattle.processor_list.proofs.CoveredLaws.{needed_by_is}
use Rattle.write_plan.specs.RightMarks.{Marks}
use Rattle.write_plan.specs.CandidateMarks.{shares_entry, needed_entry, stored_updates, outdates, outdated}

-- a turn: d is the directory, u the part at the start of entry i
module _ (old u cand : List ℕ) (d : Directory) (i : ℕ) (r : Bool) (e : d ≡ directory old) (part : u ≡ from_block old (get_or d.starts i 0)) where
  pub shares_is : r ≡ shares u cand → r ≡ shares_entry old cand i
  unfolding shares_entry
  shares_is h = h ∙ rw (part, e)

  pub needed_is : (list : ProcessorList) (marks : List Bool) → Covered list cand marks → r ≡ any_below (length list.signatures) (needed_by_marks list marks u) → r ≡ needed_entry old list cand i
  unfolding needed_entry
  needed_is list marks right h = needed_by_is list cand marks right u r h ∙ rw (part, e)

-- the loop's end
pub marks_made : (old : List ℕ) (list : ProcessorList) (cand : List ℕ) (d : Directory) (i : ℕ) (xs ys : List Bool) → d ≡ directory old → (few : d.count ≤ 32)
    → Filled false 32 (shares_entry old cand) i xs → Filled false 32 (needed_entry old list cand) i ys → i ≤ d.count → d.count ≤ i
    → Marks old list cand (marks_of d.starts d.sizes xs ys d.count few)
marks_made old list cand d i xs ys e few a b l m =
    record {
      sizes = rw e;
      shared = record { starts_are = rw e; count_is = rw e; few = few; marks = filled_all false 32 (shares_entry old cand) xs i d.count a l m };
      needed = filled_all false 32 (needed_entry old list cand) ys i d.count b l m;
    }

-- check 6: d is the directory, u the part at the start of entry i, v its revision as a call read it, and new the candidate's
module _ (old cand u : List ℕ) (d : Directory) (i new v : ℕ) (e : d ≡ directory old) (part : u ≡ from_block old (get_or d.starts i 0)) (w : v ≡ revision u) (g : new ≡ revision cand) where
  outdates_is : shares u cand && leb new v ≡ outdates old cand i
  unfolding outdates shares_entry
  outdates_is = rw (w, part, e, g)

  -- a turn past an older update
  pub outdate_older : v < new → any_below i (outdates old cand) ≡ false → any_below (i + 1) (outdates old cand) ≡ false
  outdate_older l k = any_more (outdates old cand) i k (sym outdates_is ∙ rw (lt-leb new v l) (and-false (shares u cand)))

  -- a turn past one that doesn't share: none of its pairs does
  pub outdate_apart : (j m : ℕ) → m ≡ pair_count u → any_below j (rows (pair_count cand) (shares_at u cand)) ≡ false → j ≤ m → m ≤ j → any_below i (outdates old cand) ≡ false → any_below (i + 1) (outdates old cand) ≡ false
  unfolding shares
  outdate_apart j m q h a b k =
      any_more (outdates old cand) i k (sym outdates_is ∙ rw (← scan_done (rows (pair_count cand) (shares_at u cand)) j m (pair_count u) q a b h))

  -- the way out: a pair of it shares
  pub outdate_stop : i < d.count → new ≤ v → true ≡ shares u cand → true ≡ outdated old cand
  unfolding outdated
  outdate_stop l a h = sym (any_stop (outdates old cand) (directory old).count i (rw e at l) (sym outdates_is ∙ rw (← h, le-leb new v a)))

pub outdate_done : (old cand : List ℕ) (d : Directory) (i : ℕ) → d ≡ directory old → any_below i (outdates old cand) ≡ false → i ≤ d.count → d.count ≤ i → false ≡ outdated old cand
unfolding outdated
outdate_done old cand d i e h a b = scan_done (outdates old cand) i d.count (directory old).count (rw e) a b h

pub stored_same : (old : List ℕ) (list : ProcessorList) (cand : List ℕ) (m : Marked) → Marks old list cand m → Agree (stored_of m) (stored_updates old list cand)
unfolding stored_of stored_updates
stored_same old list cand m right =
    let s = right.shared in
    record {
      count = s.count_is;
      start = λ i l. rw s.starts_are;
      size = λ i l. rw right.sizes;
      shares = λ i l. s.marks.each i l;
      needed = λ i l. right.needed.each i l;
    }

pub ruleset marking = (directory_few, directory_pairs, filled_none, filled_more, shares_is, needed_is, marks_made)

pub ruleset outdating = (directory_few, directory_pairs, any_none, count_is, nest_more, share_more, share_stop, outdate_older, outdate_apart, outdate_stop, outdate_done)
