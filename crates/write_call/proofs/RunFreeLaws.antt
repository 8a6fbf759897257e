-- Check 8 computes what its words say.
--   free_legal    where no update has both marks, a free run is the run of a legal outcome
--   legal_free    the run of a legal outcome is free
--   run_law       of a valid store, where check 7 passes: no start is chosen exactly if no run is free
use Rattle.std.specs.Prelude.{ℕ, ◌+◌, ◌-◌, ◌<◌, ◌≤◌, ◌≡◌, Bool, ◌||◌, List, ◌↔◌, ◌⊎◌, length, ltb}
use Rattle.std.proofs.Math.Path.{refl}
use Rattle.std.proofs.Common.{sym, ◌∙◌, arith, ltb-true, lt-ltb}
use Rattle.std.proofs.Math.Bool.{true, false, true≢false}
use Rattle.std.proofs.Math.Logic.{⊎_elim, inl, inr}
use Rattle.laws.specs.Orders.{le_or_lt}
use Rattle.laws.specs.Bools.{and_parts, and_made, no_true}
use Rattle.laws.specs.Below.{any_below, any_stop}
use Rattle.laws.specs.Least.{Pick, nowhere, at}
use Rattle.update_header.specs.Fields.{total_size}
use Rattle.update_sizes.specs.Sizes.{blocks_of}
use Rattle.update_sharing.specs.Shares.{shares, Shares}
use Rattle.update_sharing.proofs.ShareLaws.{shares_law}
use Rattle.store_blocks.specs.Blocks.{from_block, block_count}
use Rattle.store_directory.specs.Scan.{size_at, first, store_ok, directory}
use Rattle.store_directory.specs.Kind.{kind_at}
use Rattle.store_directory.specs.Valid.{Owned}
use Rattle.store_directory.proofs.ValidLaws.{store_valid}
use Rattle.store_directory.specs.LayoutLaws.{size_some}
use Rattle.store_directory.specs.KindLaws.{free_unowned}
use Rattle.store_directory.specs.DirectoryLaws.{Listing}
use Rattle.store_directory.proofs.DirectoryLaws.{listing}
use Rattle.store_directory.specs.declared.kind.Kind.TheVariants.{Unused}
use Rattle.processor_list.specs.Processors.{ProcessorList, covers_listed, covers_one, is_needed, Needed}
use Rattle.processor_list.proofs.NeededLaws.{needed_law, unshared_needed}
use Rattle.write_marks.specs.StoredUpdates.{StoredUpdates}
use Rattle.write_marks.specs.Against.{both_marks, emptied_by_number}
use Rattle.write_placement.specs.Choose.{choose}
use Rattle.write_placement.specs.Best.{choose_some}
use Rattle.write_outcome.specs.Legal.{Legal}
use Rattle.write_plan.specs.CandidateMarks.{shares_entry, needed_entry, stored_updates}
use Rattle.write_call.specs.Write.{touched_at, emptied_at}
use Rattle.write_call.specs.Planned.{stored_laid}
use Rattle.write_call.proofs.Join.{legal_blocks, emptied_number}
use Rattle.write_call.proofs.Chosen.{chosen_none}
use Rattle.write_call.specs.RunFree.{RunFree}

-- an update that covers no listed processor isn't needed
unlisted_spare : (list : ProcessorList) (cand u : List ℕ) → Needed list cand u → covers_one list u ≡ true
unfolding covers_one covers_listed
unlisted_spare list cand u k =
    let l = k.listed in
    any_stop (covers_listed list u) (length list.signatures) l.number l.within (rw (l.signature, l.platform) k.covered)

module _ (old : List ℕ) (list : ProcessorList) (cand : List ℕ) (ok : store_ok old ≡ true) where
  abbrev h : StoredUpdates
  h = stored_updates old list cand

  -- a block belongs to one update
  owner_low : (a b c : ℕ) → c < block_count old → Owned old (first old) a c → Owned old (first old) b c → b ≤ a
  owner_low a b c l x y =
      ⊎_elim
      (λ (p : b ≤ a). p)
      (λ (p : a < b). absurd (omega (arith, (store_valid old ok).layout.order a b p (omega (arith, y.from)) x.at y.at, x.upto, y.from)))
      (le_or_lt b a)

  owner_one : (a b c : ℕ) → c < block_count old → Owned old (first old) a c → Owned old (first old) b c → a ≡ b
  owner_one a b c l x y = omega (arith, owner_low a b c l x y, owner_low b a c l y x)

  module _ (start : ℕ) where
    pub legal_free : (e : ℕ → Bool) → Legal old list cand (total_size cand) start e → RunFree old list cand start
    legal_free e legal = record {
      ends = legal.ends;
      free = λ c p q. ⊎_elim
          (λ (w : kind_at old c ≡ Unused). inl w)
          (λ (w : (b : ℕ) × (e b ≡ true) × Owned old (first old) b c).
          inr (w.0, w.2, go w.0 (omega (arith, legal.ends, w.2.from)) w.2.at w.1 (shares (from_block old w.0) cand) refl))
          (legal.free c p q);
    }
      where
        go : (b : ℕ) → b < block_count old → first old b ≡ true → e b ≡ true → (t : Bool) → shares (from_block old b) cand ≡ t
            → Shares (from_block old b) cand ⊎ (covers_one list (from_block old b) ≡ false)
        go b l f g true q = inl ((shares_law (from_block old b) cand).0 q)
        go b l f g false q =
            inr (sym (unshared_needed list cand (from_block old b) q)
            ∙ no_true (is_needed list cand (from_block old b)) (λ n. legal.spares b l f ((needed_law list cand (from_block old b)).0 n) g))

    module _ (some : 1 ≤ blocks_of (total_size cand)) (none : any_below h.count (both_marks h) ≡ false)
        (run : RunFree old list cand start) where
      -- an update that shares isn't needed
      shared_spare : (b : ℕ) → b < block_count old → first old b ≡ true → shares (from_block old b) cand ≡ true
          → Needed list cand (from_block old b) → ⊥
      unfolding both_marks stored_updates shares_entry needed_entry
      shared_spare b l f s k =
          let entries : Listing old (directory old) = listing old ok (directory old) refl in
          let i = entries.every b l f in
          let n = (needed_law list cand (from_block old b)).1 k in
          true≢false (sym (any_stop (both_marks h) h.count i.0 i.1 (rw i.2 (and_made s n))) ∙ none)

      -- one that the run touches isn't needed either
      touched_spare : (b : ℕ) → b < block_count old → first old b ≡ true → start < b + size_at old b → b < start + blocks_of (total_size cand)
          → Needed list cand (from_block old b) → ⊥
      touched_spare b l f p q k =
          let c = start + (b - start) in
          let o : Owned old (first old) b c = record { at = f; from = omega arith; upto = omega (arith, size_some old b) } in
          ⊎_elim
          (λ (w : kind_at old c ≡ Unused). free_unowned old c w b o)
          (λ (w : (a : ℕ) × Owned old (first old) a c × (Shares (from_block old a) cand ⊎ (covers_one list (from_block old a) ≡ false))).
          let e : w.0 ≡ b = owner_one w.0 b c (omega (arith, run.ends)) w.1 o in
          ⊎_elim
          (λ (x : Shares (from_block old w.0) cand). shared_spare b l f (rw (← e) ((shares_law (from_block old w.0) cand).1 x)) k)
          (λ (x : covers_one list (from_block old w.0) ≡ false).
          true≢false (sym (unlisted_spare list cand (from_block old b) k) ∙ rw (← e) x))
          w.2)
          (run.free c (omega arith) (omega arith))

      -- no update that is emptied is needed
      emptied_spare : (b : ℕ) → b < block_count old → first old b ≡ true → Needed list cand (from_block old b)
          → emptied_at old cand start b ≡ true → ⊥
      unfolding emptied_at touched_at
      emptied_spare b l f k e = go (shares (from_block old b) cand) refl e
        where
          go : (t : Bool) → shares (from_block old b) cand ≡ t → t || touched_at old (blocks_of (total_size cand)) start b ≡ true → ⊥
          go true s w = shared_spare b l f s k
          go false s w =
              let x = and_parts (ltb start (b + size_at old b)) (ltb b (start + blocks_of (total_size cand))) w in
              touched_spare b l f (ltb-true start (b + size_at old b) x.0) (ltb-true b (start + blocks_of (total_size cand)) x.1) k

      -- an update that has a block of the run is emptied
      touched_emptied : (b c : ℕ) → start ≤ c → c < start + blocks_of (total_size cand) → Owned old (first old) b c
          → emptied_at old cand start b ≡ true
      unfolding emptied_at touched_at
      touched_emptied b c p q o = go (shares (from_block old b) cand)
        where
          go : (t : Bool) → t || (touched_at old (blocks_of (total_size cand)) start b) ≡ true
          go true = refl
          go false =
              and_made (lt-ltb start (b + size_at old b) (omega (arith, o.upto)))
              (lt-ltb b (start + blocks_of (total_size cand)) (omega (arith, o.from)))

      pub free_legal : Legal old list cand (total_size cand) start (emptied_at old cand start)
      unfolding emptied_at
      free_legal = record {
        ends = run.ends;
        free = λ c p q. ⊎_elim
            (λ (w : kind_at old c ≡ Unused). inl w)
            (λ (w : (b : ℕ) × Owned old (first old) b c × (Shares (from_block old b) cand ⊎ (covers_one list (from_block old b) ≡ false))).
            inr (w.0, touched_emptied w.0 c p q w.1, w.1))
            (run.free c p q);
        spares = emptied_spare;
        frees = λ b l f w. rw ((shares_law (from_block old b) cand).1 w);
      }

  module _ (some : 1 ≤ blocks_of (total_size cand)) (none : any_below h.count (both_marks h) ≡ false) where
    pub run_law : (choose (block_count old) (blocks_of (total_size cand)) h ≡ nowhere) ↔ ((start : ℕ) → RunFree old list cand start → ⊥)
    run_law = (
      λ q start run. chosen_none old list cand ok some q start (emptied_at old cand start) (free_legal start some none run),
      λ shut. go shut (choose (block_count old) (blocks_of (total_size cand)) h) refl,
    )
      where
        go : ((start : ℕ) → RunFree old list cand start → ⊥) → (p : Pick)
            → choose (block_count old) (blocks_of (total_size cand)) h ≡ p → p ≡ nowhere
        go shut nowhere e = refl
        go shut (at start c) e =
            let best = (choose_some (block_count old) (blocks_of (total_size cand)) h some (stored_laid old list cand ok) start c e).0 in
            absurd (shut start (legal_free start (emptied_at old cand start)
            (legal_blocks old list cand ok (total_size cand) start (emptied_at old cand start) (emptied_by_number h (blocks_of (total_size cand)) start)
            (emptied_number old list cand ok start) best.legal)))
