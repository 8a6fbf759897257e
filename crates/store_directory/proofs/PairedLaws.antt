-- The updates that the reading of a store lists have pairs, since they have passed checks 2 and 3.
--   slot_pairs         an update's slot
--   scanned_pairs      what the reading lists
--   directory_pairs    the entries of a directory
use Rattle.std.specs.Prelude.{ℕ, ◌<◌, ◌≡◌, Bool, cond, List, length, Option, Some}
use Rattle.std.proofs.Math.Bool.{true, false}
use Rattle.std.proofs.Common.{arith}
use Rattle.std.proofs.Math.ListN.{get_or}
use Rattle.update_verdict.specs.VerdictLaws.{judged}
use Rattle.update_coverage.specs.Covers.{pair_count}
use Rattle.update_coverage.proofs.PairLaws.{pairs_made}
use Rattle.store_blocks.specs.Blocks.{from_block, block_count}
use Rattle.store_blocks.specs.Slot.{slot_of}
use Rattle.store_blocks.specs.declared.slot.Slot.TheVariants.{Update}
use Rattle.store_directory.specs.Scan.{slot_at, starts_to, pad, no_updates, directory_to, scanned, store_ok, directory}
use Rattle.store_directory.specs.DirectoryEntries.{HavePairs}
use Rattle.store_directory.specs.SlotLaws.{slotted}
use Rattle.store_directory.specs.BlockLaws.{first_entry}
use Rattle.store_directory.proofs.StoreLaws.{pad_at, scanned_some}
use Rattle.store_directory.specs.LayoutLaws.{first_parts}
use Rattle.store_directory.specs.declared.Directory.{Directory}

pub slot_pairs : (s : List ℕ) (k : ℕ) → slot_of s ≡ Update k → 0 < pair_count s
slot_pairs s k e =
    let d = slotted s k e in
    let j = judged s d.total d.data d.entries k d.good in
    omega (arith, pairs_made s j.header j.sizes)

module _ (s : List ℕ) where
  starts_pairs : (n : ℕ) → HavePairs s (pad (starts_to s n)) (length (starts_to s n))
  unfolding slot_at
  starts_pairs n i l =
      let b = get_or (starts_to s n) i 0 in
      let k = (first_parts s b (first_entry s n i l).0).1 in
      rw (pad_at (starts_to s n) i l) (slot_pairs (from_block s b) k.0 k.1)

  -- r is what the reading of n blocks answered
  pub scanned_pairs : (n : ℕ) (r : Option Directory) (d : Directory) → r ≡ scanned s n → r ≡ Some d → HavePairs s d.starts d.count
  unfolding directory_to
  scanned_pairs n r d e h = rw (scanned_some s n r e d h).1 (starts_pairs n)

  pub directory_pairs : (d : Directory) → d ≡ directory s → HavePairs s d.starts d.count
  unfolding directory directory_to no_updates
  directory_pairs d e = rw e (go (store_ok s))
    where
      go : (t : Bool) → HavePairs s (cond t (directory_to s (block_count s)) no_updates).starts (cond t (directory_to s (block_count s)) no_updates).count
      go true = starts_pairs (block_count s)
      go false = λ i l. absurd (omega arith)
