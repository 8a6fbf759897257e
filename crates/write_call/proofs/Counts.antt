-- To count stored updates by number is to count them by first block.
--   entries_count    as many members of e stand in the list of first blocks below n as among these blocks
--   number_count     an outcome empties as many by number as by first block
use Prim.Native.Nat.{ℕ, zero, suc, ◌+◌}
use Rattle.std.specs.Prelude.{◌≡◌, Bool, ◌&&◌, List, [], ◌∷◌, ◌++◌, length}
use Rattle.std.proofs.Math.Path.{refl, ap}
use Rattle.std.proofs.Common.{◌∙◌, arith, length-append}
use Rattle.std.proofs.Math.Bool.{true, false, cond}
use Rattle.std.proofs.Math.ListN.{get_or-append}
use Rattle.std.proofs.lemmas.List.{get_or_at}
use Rattle.processor_list.specs.Processors.{ProcessorList}
use Rattle.laws.specs.NumbersBelow.{list_below}
use Rattle.laws.specs.Count.{count_below, count_cong}
use Rattle.store_blocks.specs.Blocks.{block_count}
use Rattle.store_directory.specs.Scan.{first, starts_to, pad, directory_to, store_ok, directory}
use Rattle.store_directory.proofs.StoreLaws.{pad_at, directory_entries}
use Rattle.store_directory.specs.declared.Directory.{Directory}
use Rattle.write_placement.specs.LegalByNumber.{emptied_count_by_number}
use Rattle.write_outcome.specs.Legal.{stored_in, emptied_count}
use Rattle.write_plan.specs.CandidateMarks.{stored_updates}
use Rattle.write_call.specs.Join.{by_number}
use Rattle.write_call.specs.Counts.{at_entry}

-- one more at the end of the list
entry_more : (xs : List ℕ) (e : ℕ → Bool) (n m : ℕ) → length xs ≡ m
    → count_below (length (xs ++ (n ∷ []))) (at_entry (xs ++ (n ∷ [])) e) ≡ cond (e n) (count_below m (at_entry xs e) + 1) (count_below m (at_entry xs e))
unfolding count_below at_entry
entry_more xs e n m q =
    let l : length (xs ++ (n ∷ [])) ≡ suc m = omega (arith, length-append xs (n ∷ [])) in
    rw l (rw (get_or_at xs n [] 0 m q, count_cong (at_entry (xs ++ (n ∷ [])) e) (at_entry xs e) m (λ i k. ap e (get_or-append xs (n ∷ []) 0 i (omega arith)))))

module _ (s : List ℕ) (e : ℕ → Bool) where
  pub entries_count : (n : ℕ) → count_below (length (starts_to s n)) (at_entry (starts_to s n) e) ≡ count_below n (stored_in s e)
  unfolding count_below stored_in list_below
  entries_count zero = refl
  entries_count (suc n) = go (entries_count n) (first s n)
    where
      go : count_below (length (starts_to s n)) (at_entry (starts_to s n) e) ≡ count_below n (stored_in s e) → (t : Bool)
          → count_below (length (cond t (starts_to s n ++ (n ∷ [])) (starts_to s n))) (at_entry (cond t (starts_to s n ++ (n ∷ [])) (starts_to s n)) e)
          ≡ cond (t && e n) (count_below n (stored_in s e) + 1) (count_below n (stored_in s e))
      go ih true = entry_more (starts_to s n) e n (length (starts_to s n)) refl ∙ rw ih
      go ih false = ih

  -- the array of the directory has the list at its beginning
  entry_count_lem : (d : Directory) (n : ℕ) → d ≡ directory_to s n → count_below d.count (at_entry d.starts e) ≡ count_below n (stored_in s e)
  unfolding directory_to at_entry
  entry_count_lem d n q =
      rw q (count_cong (at_entry (pad (starts_to s n)) e) (at_entry (starts_to s n) e) (length (starts_to s n)) (λ i l. ap e (pad_at (starts_to s n) i l))
      ∙ entries_count n)

pub number_count : (old : List ℕ) (list : ProcessorList) (cand : List ℕ) (e : ℕ → Bool) → store_ok old ≡ true
    → emptied_count_by_number (stored_updates old list cand) (by_number old e) ≡ emptied_count old e
unfolding emptied_count_by_number stored_updates emptied_count by_number at_entry
number_count old list cand e ok = entry_count_lem old e (directory old) (block_count old) (directory_entries old (directory old) refl ok)
