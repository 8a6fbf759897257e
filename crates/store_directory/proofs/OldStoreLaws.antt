-- "Old stores stay valid" (document 02, Three).
--   old_sizes_lem  sizes that were right are right
--   old_stores     the theorem, of every store
use Prim.Native.Nat.{ℕ, zero, suc, ◌+◌, ◌*◌, ◌%◌, ◌<◌, ◌≤◌}
use Rattle.std.specs.Prelude.{◌≡◌, Bool, ◌&&◌, ◌||◌, List, length, get_or, eqb}
use Rattle.std.proofs.Math.Path.{refl, sym}
use Rattle.std.proofs.Common.{◌∙◌, true≢false, arith}
use Rattle.std.proofs.Math.Bool.{true, false, cond, not}
use Rattle.std.proofs.Math.Dec.{leb}
use borrow.Author.Tests.{leb-true, eqb-true, not-true}
use Rattle.laws.specs.Bools.{and_parts}
use Rattle.laws.specs.Below.{all_below, all_at, all_cong, any_cong}
use Rattle.laws.specs.NumbersBelow.{itself, list_cong}
use Rattle.laws.specs.Unless.{unless}
use Rattle.update_sizes.specs.Sizes.{sizes_ok}
use Rattle.update_sizes.proofs.SizeLaws.{plain, tabled}
use Rattle.update_header.specs.Fields.{data_size, total_size, table_count}
use Rattle.update_header.specs.Checks.{header_ok, sizes_fit}
use Rattle.update_verdict.specs.Verdict.{BadHeader, verdict}
use Rattle.update_coverage.specs.Covers.{pair_count, covers}
use Rattle.update_sharing.specs.Shares.{shares}
use Rattle.store_blocks.specs.Blocks.{unused, from_block, block_count, length_ok}
use Rattle.store_blocks.specs.Slot.{update_slot, slot_of}
use Rattle.store_blocks.specs.declared.slot.Slot.TheVariants.{Unused, Bad}
use Rattle.store_directory.specs.Scan.{is_update, is_bad, slot_at, size_at, next_slot, begins, first, sound, starts_to, sizes_to, directory_to, clash_at, clash_row, clash, apart, store_ok, directory}
use Rattle.store_directory.specs.Kind.{kind_of, kind_at}
use Rattle.store_directory.specs.BlockLaws.{first_entry}
use Rattle.store_directory.specs.OldStores.{old_sizes_ok, old_sizes_fit, old_verdict, old_pair_count, old_covers, old_shares, old_slot_of, old_slot_at, old_size_at, old_next_slot, old_begins, old_first, old_sound, old_starts, old_sizes, old_clash_at, old_clash_row, old_clash, old_store_ok, old_directory, old_kind_at}
use Rattle.store_directory.specs.OldStoreLaws.{StaysValid}

pub old_sizes_lem : (d t n : ℕ) → old_sizes_ok d t n ≡ true → sizes_ok d t n ≡ true
unfolding old_sizes_ok
old_sizes_lem d t n h =
    let a = and_parts _ _ h in
    let b = and_parts _ _ a.0 in
    let c = and_parts _ _ b.0 in
    go (eqb-true (d % 4) 0 c.0) c.1 (leb-true t 32768 b.1) (eqb t (48 + d)) refl a.1
  where
    go : d % 4 ≡ 0 → eqb (t % 1024) 0 ≡ true → t ≤ 32768 → (u : Bool) → eqb t (48 + d) ≡ u → u || (leb 1 n && leb n 64 && eqb t (48 + d + 20 + 12 * n)) ≡ true → sizes_ok d t n ≡ true
    go dwords kilobytes small true q w = sym (plain d t n (λ k. small) (eqb-true t (48 + d) q)) ∙ kilobytes
    go dwords kilobytes small false q w =
        let x = and_parts (leb 1 n && leb n 64) (eqb t (48 + d + 20 + 12 * n)) w in
        let y = and_parts (leb 1 n) (leb n 64) x.0 in
        sym (tabled d t n dwords small (λ e. omega (arith, e, eqb-true t (48 + d + 20 + 12 * n) x.1)) (leb-true 1 n y.0) (leb-true n 64 y.1)) ∙ x.1

-- bytes whose sizes were right
module _ (s : List ℕ) (h : old_sizes_fit s ≡ true) where
  fit_same : sizes_fit s ≡ true
  unfolding old_sizes_fit sizes_fit
  fit_same =
      let a = and_parts (old_sizes_ok (data_size s) (total_size s) (table_count s)) (leb (total_size s) (length s)) h in
      rw (old_sizes_lem (data_size s) (total_size s) (table_count s) a.0) a.1

  verdict_same : old_verdict s ≡ verdict s
  unfolding old_verdict verdict
  verdict_same = rw (h, fit_same)

  pairs_same : old_pair_count s ≡ pair_count s
  unfolding old_pair_count pair_count
  pairs_same = rw (h, fit_same)

  covers_same : (x p : ℕ) → covers s x p ≡ old_covers s x p
  unfolding old_covers covers
  covers_same x p = rw (pairs_same)

shares_same : (a b : List ℕ) → old_sizes_fit a ≡ true → old_sizes_fit b ≡ true → old_shares a b ≡ shares a b
unfolding old_shares shares
shares_same a b h k = rw (pairs_same a h, pairs_same b k)

-- bytes whose sizes were wrong began no update
module _ (s : List ℕ) (h : old_sizes_fit s ≡ false) where
  verdict_bad : old_verdict s ≡ BadHeader
  unfolding old_verdict unless
  verdict_bad = rw h (go (header_ok s))
    where
      go : (x : Bool) → unless x BadHeader BadHeader ≡ BadHeader
      go true = refl
      go false = refl

  slot_bad : old_slot_of s ≡ unless (unused s) Bad Unused
  unfolding old_slot_of update_slot
  slot_bad = rw (verdict_bad)

slot_same : (s : List ℕ) → is_bad (old_slot_of s) ≡ false → old_slot_of s ≡ slot_of s
unfolding old_slot_of slot_of unless
slot_same s b = go (old_sizes_fit s) refl
  where
    go : (x : Bool) → old_sizes_fit s ≡ x → unless (unused s) (update_slot s (old_verdict s)) Unused ≡ unless (unused s) (update_slot s (verdict s)) Unused
    go true h = rw (verdict_same s h)
    go false h = blank (unused s) (rw (slot_bad s h) at b)
      where
        blank : (x : Bool) → is_bad (unless x Bad Unused) ≡ false → unless x (update_slot s (old_verdict s)) Unused ≡ unless x (update_slot s (verdict s)) Unused
        blank true b = refl
        blank false b = absurd (true≢false b)

update_fit : (s : List ℕ) → is_update (old_slot_of s) ≡ true → old_sizes_fit s ≡ true
unfolding unless
update_fit s h = go (old_sizes_fit s) refl
  where
    none : (x : Bool) → is_update (unless x Bad Unused) ≡ true → false ≡ true
    none true h = h
    none false h = h

    go : (x : Bool) → old_sizes_fit s ≡ x → old_sizes_fit s ≡ true
    go true q = q
    go false q = absurd (true≢false (sym (none (unused s) (rw (slot_bad s q) at h))))

-- the reading of n blocks that found nothing bad
module _ (s : List ℕ) (n : ℕ) (h : all_below n (old_sound s) ≡ true) where
  read_same : (b : ℕ) → b < n → old_begins s b ≡ true → old_slot_at s b ≡ slot_at s b
  unfolding old_sound old_slot_at slot_at
  read_same b l e = slot_same (from_block s b) (not-true _ (rw e at (all_at (old_sound s) n b h l)))

  next_same : (b : ℕ) → b ≤ n → old_next_slot s b ≡ next_slot s b
  unfolding old_next_slot next_slot old_begins
  next_same zero l = refl
  next_same (suc b) l = rw (← next_same b (omega arith)) (go (leb (old_next_slot s b) b) refl)
    where
      go : (x : Bool) → leb (old_next_slot s b) b ≡ x → cond x (b + old_size_at s b) (old_next_slot s b) ≡ cond x (b + size_at s b) (old_next_slot s b)
      go true e = rw (read_same b l e)
      go false e = refl

  module _ (b : ℕ) (l : b < n) where
    begins_same : old_begins s b ≡ begins s b
    unfolding old_begins begins
    begins_same = rw (next_same b (omega arith))

    first_same : old_first s b ≡ first s b
    unfolding old_first first
    first_same = rw (← begins_same) (go (old_begins s b) refl)
      where
        go : (x : Bool) → old_begins s b ≡ x → x && is_update (old_slot_at s b) ≡ x && is_update (slot_at s b)
        go true e = rw (read_same b l e)
        go false e = refl

    sound_same : old_sound s b ≡ sound s b
    unfolding old_sound sound
    sound_same = rw (← begins_same) (go (old_begins s b) refl)
      where
        go : (x : Bool) → old_begins s b ≡ x → not (x && is_bad (old_slot_at s b)) ≡ not (x && is_bad (slot_at s b))
        go true e = rw (read_same b l e)
        go false e = refl

    kind_same : kind_at s b ≡ old_kind_at s b
    unfolding old_kind_at kind_at
    kind_same = rw (← begins_same) (go (old_begins s b) refl)
      where
        go : (x : Bool) → old_begins s b ≡ x → kind_of x (slot_at s b) ≡ kind_of x (old_slot_at s b)
        go true e = rw (read_same b l e)
        go false e = refl

    -- the first block of an update
    module _ (f : first s b ≡ true) where
      size_same : old_size_at s b ≡ size_at s b
      unfolding old_first
      size_same = rw (read_same b l (and_parts (old_begins s b) (is_update (old_slot_at s b)) (first_same ∙ f)).0)

      stored_fit : old_sizes_fit (from_block s b) ≡ true
      unfolding old_first old_slot_at
      stored_fit = update_fit (from_block s b) (and_parts (old_begins s b) (is_update (old_slot_at s b)) (first_same ∙ f)).1

module _ (s : List ℕ) (ok : old_store_ok s ≡ true) where
  parts : (length_ok (length s) ≡ true) × (all_below (block_count s) (old_sound s) ≡ true) × (old_clash s (old_starts s) (length (old_starts s)) ≡ false)
  unfolding old_store_ok
  parts =
      let x = and_parts (length_ok (length s) && all_below (block_count s) (old_sound s)) (not (old_clash s (old_starts s) (length (old_starts s)))) ok in
      let y = and_parts (length_ok (length s)) (all_below (block_count s) (old_sound s)) x.0 in
      (y.0, y.1, not-true _ x.1)

  starts_same : old_starts s ≡ starts_to s (block_count s)
  starts_same = list_cong (old_first s) (first s) itself itself (block_count s) (first_same s (block_count s) parts.1) (λ b l f. refl)

  sizes_same : old_sizes s ≡ sizes_to s (block_count s)
  sizes_same = list_cong (old_first s) (first s) (old_size_at s) (size_at s) (block_count s) (first_same s (block_count s) parts.1) (size_same s (block_count s) parts.1)

  no_clash : clash s (starts_to s (block_count s)) (length (starts_to s (block_count s))) ≡ false
  unfolding clash clash_row clash_at old_clash old_clash_row old_clash_at
  no_clash =
      let n = block_count s in
      let xs = starts_to s n in
      sym (any_cong (old_clash_row s xs) (clash_row s xs) (length xs) (λ i li.
      any_cong (old_clash_at s xs i) (clash_at s xs i) i (λ j lj.
      let x = first_entry s n i li in
      let y = first_entry s n j (omega arith) in
      shares_same (from_block s (get_or xs i 0)) (from_block s (get_or xs j 0)) (stored_fit s n parts.1 (get_or xs i 0) x.1 x.0) (stored_fit s n parts.1 (get_or xs j 0) y.1 y.0))))
      ∙ rw (starts_same) at parts.2

  store_same : store_ok s ≡ true
  unfolding store_ok apart
  store_same = rw (parts.0, ← all_cong (old_sound s) (sound s) (block_count s) (sound_same s (block_count s) parts.1), parts.1, no_clash)

  pub old_stores : StaysValid s
  unfolding directory directory_to old_directory
  old_stores =
      record {
        valid = store_same;
        entries = rw (store_same, ok, starts_same, sizes_same);
        kinds = kind_same s (block_count s) parts.1;
        firsts = λ b l. sym (first_same s (block_count s) parts.1 b l);
        covered = λ b l f. covers_same (from_block s b) (stored_fit s (block_count s) parts.1 b l f);
      }
