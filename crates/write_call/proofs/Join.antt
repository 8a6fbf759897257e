-- Outcomes over first blocks, as the demand has them, and over numbers of updates, as the choice of a run has them.
--   unowned_unused      a block that no entry holds is unused
--   legal_numbers    a legal outcome over first blocks is one over numbers
--   legal_blocks     and the other way round, where the two sets agree
--   emptied_number      the updates that are emptied, by first block and by number
use Rattle.std.specs.Prelude.{ℕ, ◌<◌, ◌≡◌, Bool, List}
use Rattle.std.proofs.Math.Path.{refl, sym, ap}
use Rattle.std.proofs.Common.{◌∙◌, arith}
use Rattle.std.proofs.Math.Bool.{true, true≢false}
use Rattle.std.proofs.Math.Logic.{⊎_elim, inl, inr}
use Rattle.laws.specs.Bools.{no_true}
use Rattle.update_header.specs.Fields.{total_size}
use Rattle.update_sizes.specs.Sizes.{blocks_of}
use Rattle.update_sharing.specs.Shares.{shares}
use Rattle.update_sharing.proofs.ShareLaws.{shares_law}
use Rattle.store_blocks.specs.Blocks.{from_block, block_count}
use Rattle.store_directory.specs.Scan.{first, store_ok, directory}
use Rattle.store_directory.specs.Kind.{kind_at}
use Rattle.store_directory.specs.Valid.{Owned}
use Rattle.store_directory.specs.DirectoryLaws.{Listing}
use Rattle.store_directory.proofs.DirectoryLaws.{listing, kind_free}
use Rattle.store_directory.specs.declared.kind.Kind.TheVariants.{Unused}
use Rattle.write_marks.specs.StoredUpdates.{StoredUpdates, Holds}
use Rattle.write_placement.specs.LegalByNumber.{LegalByNumber}
use Rattle.write_marks.specs.Against.{touches_by_number, emptied_by_number}
use Rattle.processor_list.specs.Processors.{ProcessorList, is_needed}
use Rattle.processor_list.proofs.NeededLaws.{needed_law}
use Rattle.write_outcome.specs.Legal.{Legal}
use Rattle.store_directory.specs.KindLaws.{free_unowned}
use Rattle.write_plan.specs.CandidateMarks.{shares_entry, needed_entry, stored_updates}
use Rattle.write_call.specs.Write.{touched_at, emptied_at}
use Rattle.write_call.specs.Join.{by_number}

module _ (old : List ℕ) (list : ProcessorList) (cand : List ℕ) (ok : store_ok old ≡ true) where
  abbrev h : StoredUpdates
  h = stored_updates old list cand

  entries : Listing old (directory old)
  entries = listing old ok (directory old) refl

  -- to hold a block, by number and by first block
  holds_owned : (i c : ℕ) → i < h.count → Holds h i c → Owned old (first old) (h.start i) c
  unfolding stored_updates
  holds_owned i c l x = record { at = entries.begin i l; from = x.from; upto = rw (← entries.sized i l) x.upto }

  owned_holds : (i b c : ℕ) → i < h.count → h.start i ≡ b → Owned old (first old) b c → Holds h i c
  unfolding stored_updates
  owned_holds i b c l e o = record { from = rw e o.from; upto = rw (entries.sized i l) (rw e o.upto) }

  unowned_unused : (c : ℕ) → c < block_count old → ((i : ℕ) → i < h.count → Holds h i c → ⊥) → kind_at old c ≡ Unused
  unfolding stored_updates
  unowned_unused c l none =
      sym (kind_free old ok (directory old) refl c l (λ b o.
      let i = entries.every b (omega (arith, o.from)) o.at in none i.0 i.1 (owned_holds i.0 b c i.1 i.2 o)))

  -- update number i begins below N
  start_below : (i : ℕ) → i < h.count → h.start i < block_count old
  unfolding stored_updates
  start_below i l = omega (arith, entries.some i l, entries.ends i l)

  module _ (t start : ℕ) (e : ℕ → Bool) where
    pub legal_numbers : Legal old list cand t start e → LegalByNumber (block_count old) (blocks_of t) h start (by_number old e)
    unfolding by_number stored_updates needed_entry shares_entry
    legal_numbers legal = record {
      ends = legal.ends;
      free = λ c p q. ⊎_elim
          (λ (w : kind_at old c ≡ Unused). inl (λ i l x. free_unowned old c w (h.start i) (holds_owned i c l x)))
          (λ (w : (b : ℕ) × (e b ≡ true) × Owned old (first old) b c).
          let i = entries.every w.0 (omega (arith, legal.ends, w.2.from)) w.2.at in
          inr (i.0, i.1, owned_holds i.0 w.0 c i.1 i.2 w.2, ap e i.2 ∙ w.1))
          (legal.free c p q);
      spares = λ i l g.
          no_true (needed_entry old list cand i) (λ w.
          legal.spares (h.start i) (start_below i l) (entries.begin i l) ((needed_law list cand (from_block old (h.start i))).0 w) g);
      frees = λ i l w. legal.frees (h.start i) (start_below i l) (entries.begin i l) ((shares_law (from_block old (h.start i)) cand).0 w);
    }

    module _ (f : ℕ → Bool) (same : (i : ℕ) → i < h.count → by_number old e i ≡ f i) (legal : LegalByNumber (block_count old) (blocks_of t) h start f) where
      -- the set has block b, which is the first of update number i, exactly if it has number i
      set_same : (b i : ℕ) → i < h.count → h.start i ≡ b → e b ≡ f i
      unfolding by_number stored_updates
      set_same b i l q = ap e (sym q) ∙ same i l

      pub legal_blocks : Legal old list cand t start e
      unfolding stored_updates needed_entry shares_entry
      legal_blocks = record {
        ends = legal.ends;
        free = λ c p q. ⊎_elim
            (λ (w : (i : ℕ) → i < h.count → Holds h i c → ⊥). inl (unowned_unused c (omega (arith, legal.ends)) w))
            (λ (w : (i : ℕ) × (i < h.count) × Holds h i c × (f i ≡ true)).
            inr (h.start w.0, set_same (h.start w.0) w.0 w.1 refl ∙ w.3, holds_owned w.0 c w.1 w.2))
            (legal.free c p q);
        spares = λ b l g k w.
            let i = entries.every b l g in
            let x : is_needed list cand (from_block old b) ≡ true = (needed_law list cand (from_block old b)).1 k in
            true≢false (sym (rw (← i.2) at x) ∙ legal.spares i.0 i.1 (sym (set_same b i.0 i.1 i.2) ∙ w));
        frees = λ b l g k.
            let i = entries.every b l g in
            let x : shares (from_block old b) cand ≡ true = (shares_law (from_block old b) cand).1 k in
            set_same b i.0 i.1 i.2 ∙ legal.frees i.0 i.1 (rw (← i.2) at x);
      }

  pub emptied_number : (start i : ℕ) → i < h.count → by_number old (emptied_at old cand start) i ≡ emptied_by_number h (blocks_of (total_size cand)) start i
  unfolding by_number stored_updates emptied_at emptied_by_number touched_at touches_by_number shares_entry
  emptied_number start i l = rw (entries.sized i l)
