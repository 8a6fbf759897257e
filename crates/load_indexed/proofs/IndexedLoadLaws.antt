-- The load choice through an index against the plain one.
--   found_own           an index that is the same as the store's own finds the same update
--   choice_own          so the choice is that of the plain one
--   load_own, load_own_data    with the store's own index: the choice, and the data part
--   indexed_inside      a chosen update begins below block 32
--   blocks_most         the store has at most 32 blocks
--   first_pairs         by its line an update begins at the block, so it has pairs
--   scan_other .. scan_nothing    the scan of the blocks
--   indexed_bad .. indexed_on     the order of the answers
use Rattle.std.specs.Prelude.{ℕ, ◌+◌, ◌/◌, ◌<◌, ◌≤◌, ◌≡◌, Bool, List, get_or, leb, ltb, Err}
use Rattle.std.proofs.Math.Path.{refl, sym, ap}
use Rattle.std.proofs.Common.{◌∙◌}
use Rattle.std.proofs.Math.Bool.{true, false}
use native.Mathlib.Omega.{arith}
use Rattle.std.proofs.Math.ListN.{length}
use borrow.Author.Tests.{lt-ltb, le-ltb, ltb-true, le-leb, lt-leb, eq-eqb, ne_eqb}
use Rattle.laws.specs.Below.{any_below, any_more}
use Rattle.laws.specs.First.{first_below, first_is, first_cong, first_found, first_none}
use Rattle.laws.specs.Bools.{and_parts}
use Rattle.laws.specs.Orders.{impossible}
use Rattle.laws.specs.Unless.{unless}
use Rattle.update_header.specs.Fields.{revision}
use Rattle.update_coverage.specs.Covers.{pair_count, covers}
use Rattle.store_blocks.specs.Blocks.{from_block, block_count}
use Rattle.store_directory.specs.Scan.{slot_at, first, store_ok}
use Rattle.store_directory.specs.LayoutLaws.{first_parts}
use Rattle.store_directory.proofs.PairedLaws.{slot_pairs}
use Rattle.store_directory.proofs.ValidLaws.{store_valid}
use Rattle.store_index.specs.Index.{line_of, index_of}
use Rattle.store_index.specs.SameIndex.{same_index}
use Rattle.store_index.specs.SameIndexLaws.{same_self}
use Rattle.store_index.proofs.OwnIndex.{own_first, own_revision}
use Rattle.store_index.specs.declared.Index.{Index}
use Rattle.call_answers.specs.Choice.{LoadChoice, Nothing, Chosen}
use Rattle.call_answers.specs.declared.refusal.Refusal.TheVariants.{BadStore, BadProcessors}
use Rattle.load_choice.specs.Load.{holds, holder, chosen_at, found, load_choice, chosen_data}
use Rattle.load_choice.specs.LoadBounds.{StartBelow32}
use Rattle.load_choice.specs.LoadBoundLaws.{load_inside}
use Rattle.load_indexed.specs.IndexedLoad.{holds_in, chosen_in, found_in, indexed_choice}

-- x is the same as the index of a valid store
module _ (s : List ℕ) (ok : store_ok s ≡ true) (x : Index) (h : same_index x (index_of s) ≡ true) where
  module _ (signature platform : ℕ) where
    holds_own : (b : ℕ) → b < block_count s → holds_in s x signature platform b ≡ holds s signature platform b
    unfolding holds_in holds
    holds_own b l = rw (own_first s ok x h b l)

    chosen_own : (b : ℕ) (t : Bool) → ltb b (block_count s) ≡ t → (t ≡ true → first s b ≡ true)
        → unless t Nothing (Chosen b (line_of x b).revision) ≡ unless t Nothing (Chosen b (revision (from_block s b)))
    unfolding unless
    chosen_own b true e f = ap (Chosen b) (own_revision s ok x h b (ltb-true b (block_count s) e) (f refl))
    chosen_own b false e f = refl

    pub found_own : found_in s x signature platform ≡ found s signature platform
    unfolding found_in chosen_in found chosen_at holder holds
    found_own =
        let e = first_cong (holds_in s x signature platform) (holds s signature platform) (block_count s) holds_own in
        let b = first_below (block_count s) (holds s signature platform) in
        rw e (chosen_own b (ltb b (block_count s)) refl (λ t.
        (and_parts (first s b) (covers (from_block s b) signature platform) ((first_is (block_count s) (holds s signature platform)).passes (ltb-true b (block_count s) t))).0))

  pub blocks_most : length s / 2048 ≤ 32
  unfolding block_count
  blocks_most = (store_valid s ok).few

  -- a block whose line says that an update begins there
  pub first_pairs : (b : ℕ) (u : List ℕ) → b < length s / 2048 → get_or x.kinds b 0 ≡ 1 → u ≡ from_block s b → 0 < pair_count u
  unfolding line_of slot_at block_count
  first_pairs b u l k e =
      let f : first s b ≡ true = sym (own_first s ok x h b l) ∙ eq-eqb (get_or x.kinds b 0) 1 k in
      let w = (first_parts s b f).1 in
      rw e (slot_pairs (from_block s b) w.0 w.1)

-- for every store, and any index that is the same as its own
module _ (loading : Bool) (s : List ℕ) (x : Index) (h : same_index x (index_of s) ≡ true) (signature platform : ℕ) where
  pub choice_own : indexed_choice loading s x signature platform ≡ load_choice loading s signature platform
  unfolding indexed_choice load_choice unless
  choice_own = rw h (go (store_ok s) refl)
    where
      go : (t : Bool) → store_ok s ≡ t
          → unless t (Err BadStore) (unless (leb platform 7) (Err BadProcessors) (unless loading Nothing (found_in s x signature platform)))
          ≡ unless t (Err BadStore) (unless (leb platform 7) (Err BadProcessors) (unless loading Nothing (found s signature platform)))
      go true e = rw (found_own s e x h signature platform)
      go false e = refl

-- with the store's own index: for every store, processor and loading state
module _ (loading : Bool) (s : List ℕ) (signature platform : ℕ) where
  pub load_own : indexed_choice loading s (index_of s) signature platform ≡ load_choice loading s signature platform
  load_own = choice_own loading s (index_of s) (same_self (index_of s)) signature platform

  pub load_own_data : chosen_data s (indexed_choice loading s (index_of s) signature platform) ≡ chosen_data s (load_choice loading s signature platform)
  load_own_data = ap (chosen_data s) load_own

-- another index is refused
foreign_choice : (loading : Bool) (s : List ℕ) (x : Index) (signature platform : ℕ) → same_index x (index_of s) ≡ false
    → indexed_choice loading s x signature platform ≡ Err BadStore
unfolding indexed_choice unless
foreign_choice loading s x signature platform h = rw h (go (store_ok s))
  where
    go : (t : Bool) → unless {A = LoadChoice} t (Err BadStore) (Err BadStore) ≡ Err BadStore
    go true = refl
    go false = refl

pub indexed_inside : (c : LoadChoice) (loading : Bool) (s : List ℕ) (x : Index) (signature platform : ℕ) → c ≡ indexed_choice loading s x signature platform → StartBelow32 c
unfolding StartBelow32
indexed_inside c loading s x signature platform e = go (same_index x (index_of s)) refl
  where
    go : (t : Bool) → same_index x (index_of s) ≡ t → StartBelow32 c
    go true h = load_inside c loading s signature platform (e ∙ choice_own loading s x h signature platform)
    go false h = λ b r q. absurd (impossible (cc (sym q ∙ e ∙ foreign_choice loading s x signature platform h)))

-- the scan of the n blocks: r is what a call answered of the part u at block b
module _ (s : List ℕ) (x : Index) (signature platform b n : ℕ) (all : n ≡ length s / 2048) where
  pub scan_other : any_below b (holds_in s x signature platform) ≡ false → (get_or x.kinds b 0 ≡ 1 → ⊥) → any_below (b + 1) (holds_in s x signature platform) ≡ false
  unfolding holds_in line_of
  scan_other none k = any_more (holds_in s x signature platform) b none (rw (ne_eqb (get_or x.kinds b 0) 1 k))

  module _ (u : List ℕ) (r : Bool) (k : get_or x.kinds b 0 ≡ 1) (part : u ≡ from_block s b) (e : r ≡ covers u signature platform) where
    holds_is : holds_in s x signature platform b ≡ r
    unfolding holds_in line_of
    holds_is = rw (eq-eqb (get_or x.kinds b 0) 1 k, ← part) (sym e)

    pub scan_next : any_below b (holds_in s x signature platform) ≡ false → r ≡ false → any_below (b + 1) (holds_in s x signature platform) ≡ false
    scan_next none f = any_more (holds_in s x signature platform) b none (holds_is ∙ f)

    pub scan_found : any_below b (holds_in s x signature platform) ≡ false → b < n → r ≡ true → Chosen b (get_or x.revisions b 0) ≡ found_in s x signature platform
    unfolding found_in chosen_in unless line_of block_count
    scan_found none l f =
        let m : b < length s / 2048 = omega arith in
        rw (first_found (length s / 2048) b (holds_in s x signature platform) none m (holds_is ∙ f), lt-ltb b (length s / 2048) m)

  pub scan_nothing : any_below b (holds_in s x signature platform) ≡ false → b ≤ n → n ≤ b → Nothing ≡ found_in s x signature platform
  unfolding found_in chosen_in unless block_count
  scan_nothing none l m =
      let q : b ≡ length s / 2048 = omega arith in
      rw (first_none (length s / 2048) (holds_in s x signature platform) (rw q at none), le-ltb (length s / 2048) (length s / 2048) (omega arith))

-- the order: t tells whether x is the store's own index, z is the answer
module _ (loading : Bool) (s : List ℕ) (x : Index) (signature platform : ℕ) where
  pub indexed_bad : store_ok s ≡ false → Err BadStore ≡ indexed_choice loading s x signature platform
  unfolding indexed_choice unless
  indexed_bad h = rw h

  module _ (ok : store_ok s ≡ true) (t : Bool) (g : t ≡ same_index x (index_of s)) where
    pub indexed_foreign : t ≡ false → Err BadStore ≡ indexed_choice loading s x signature platform
    unfolding indexed_choice unless
    indexed_foreign h = rw (ok, ← g, h)

    module _ (h : t ≡ true) where
      pub indexed_platform : 7 < platform → Err BadProcessors ≡ indexed_choice loading s x signature platform
      unfolding indexed_choice unless
      indexed_platform l = rw (ok, ← g, h, lt-leb platform 7 l)

      pub indexed_off : platform ≤ 7 → loading ≡ false → Nothing ≡ indexed_choice loading s x signature platform
      unfolding indexed_choice unless
      indexed_off l k = rw (ok, ← g, h, le-leb platform 7 l, k)

      pub indexed_on : (z : LoadChoice) → platform ≤ 7 → loading ≡ true → z ≡ found_in s x signature platform → z ≡ indexed_choice loading s x signature platform
      unfolding indexed_choice unless
      indexed_on z l k q = rw (ok, ← g, h, le-leb platform 7 l, k) q
