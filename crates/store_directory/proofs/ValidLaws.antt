-- The verdict `store_ok` says exactly that the store is valid, with the first blocks that the reading finds.
--   valid_law       the theorem, both ways
--   store_valid     from the verdict, with N and the first blocks read
--   valid_store     to the verdict
--   blocks_few      a valid store has at most 32 blocks
--   valid_apart     no two stored updates share, as the Bool that computes
use Rattle.std.specs.Prelude.{ℕ, ◌%◌, ◌/◌, ◌<◌, ◌≤◌, ◌≡◌, Bool, true, false, List, ◌↔◌}
use Rattle.std.proofs.Math.Path.{sym, ap}
use Rattle.std.proofs.Common.{◌∙◌, eq-or-lt_of_le}
use Rattle.std.proofs.Math.Bool.{true≢false}
use Rattle.std.proofs.Math.Logic.{⊎_elim}
use native.Mathlib.Omega.{arith}
use Rattle.std.proofs.Math.ListN.{length, get_or}
use borrow.Author.Tests.{le-leb, not-true}
use Rattle.laws.specs.Bools.{no_true}
use Rattle.laws.specs.Below.{any_fails, any_false}
use Rattle.laws.specs.Orders.{le_or_lt}
use Rattle.update_sharing.specs.Shares.{shares}
use Rattle.update_sharing.proofs.ShareLaws.{shares_law}
use Rattle.store_blocks.specs.Blocks.{from_block, block_count, length_ok}
use Rattle.store_blocks.specs.LengthLaws.{length_parts}
use Rattle.store_directory.specs.Scan.{first, starts_to, clash_at, clash_row, clash, apart, store_ok}
use Rattle.store_directory.specs.Valid.{Valid, ValidStore}
use Rattle.store_directory.proofs.StoreLaws.{store_parts}
use Rattle.store_directory.specs.BlockLaws.{entry_first, first_entry, starts_increase}
use Rattle.store_directory.specs.LayoutLaws.{layout_first, layout_sound, scan_layout}

module _ (s : List ℕ) where
  -- the test over the directory's entries is one over first blocks
  clash_none : (n b c : ℕ) → clash s (starts_to s n) (length (starts_to s n)) ≡ false → c < b → b < n → first s b ≡ true → first s c ≡ true
      → shares (from_block s b) (from_block s c) ≡ false
  unfolding clash clash_row clash_at
  clash_none n b c h l q f g =
      let x = entry_first s n b q f in
      let y = entry_first s n c (omega arith) g in
      ⊎_elim
      (λ (p : x.0 ≤ y.0). absurd (⊎_elim
      (λ (o : x.0 ≡ y.0). let w : b ≡ c = sym x.2 ∙ ap (λ k. get_or (starts_to s n) k 0) o ∙ y.2 in let v : ⊥ = omega arith in v)
      (λ (o : x.0 < y.0). let w = starts_increase s n y.0 x.0 o y.1 in let v : ⊥ = omega (arith, x.2, y.2) in v)
      (eq-or-lt_of_le p)))
      (λ (p : y.0 < x.0).
      rw (x.2, y.2) at (any_fails (clash_at s (starts_to s n) x.0) x.0 y.0 (any_fails (clash_row s (starts_to s n)) (length (starts_to s n)) x.0 h x.1) p))
      (le_or_lt x.0 y.0)

  pub store_valid : store_ok s ≡ true → Valid s (block_count s) (first s)
  unfolding apart
  store_valid h =
      let x = store_parts s h in
      let z = length_parts s x.0 in
      record {
        long = z.0;
        some = z.1;
        few = z.2;
        layout = scan_layout s (block_count s) x.1;
        apart = λ b c l q f g w. true≢false (sym ((shares_law (from_block s b) (from_block s c)).1 w) ∙ clash_none (block_count s) b c (not-true _ x.2) l q f g);
      }

  module _ (n : ℕ) (u : ℕ → Bool) (valid : Valid s n u) where
    pub valid_apart : (b c : ℕ) → c < b → b < n → u b ≡ true → u c ≡ true → shares (from_block s b) (from_block s c) ≡ false
    valid_apart b c l q f g = no_true (shares (from_block s b) (from_block s c)) (λ h. valid.apart b c l q f g ((shares_law (from_block s b) (from_block s c)).0 h))

    pub valid_count : block_count s ≡ n
    unfolding block_count
    valid_count = omega (arith, valid.long)

    length_good : length_ok (length s) ≡ true
    unfolding length_ok
    length_good =
        let q : length s / 2048 ≡ n = omega (arith, valid.long) in
        let r : length s % 2048 ≡ 0 = omega (arith, valid.long) in
        rw (q, r, le-leb 1 n valid.some, le-leb n 32 valid.few)

    no_clash : clash s (starts_to s n) (length (starts_to s n)) ≡ false
    unfolding clash clash_row clash_at
    no_clash =
        any_false (clash_row s (starts_to s n)) (length (starts_to s n)) (λ i l.
        any_false (clash_at s (starts_to s n) i) i (λ j k.
        let x = first_entry s n i l in
        let y = first_entry s n j (omega arith) in
        valid_apart (get_or (starts_to s n) i 0) (get_or (starts_to s n) j 0) (starts_increase s n i j k l) x.1
        (sym (layout_first s n u valid.layout (get_or (starts_to s n) i 0) x.1) ∙ x.0)
        (sym (layout_first s n u valid.layout (get_or (starts_to s n) j 0) y.1) ∙ y.0)))

    pub valid_store : store_ok s ≡ true
    unfolding store_ok apart
    valid_store = rw (length_good, valid_count, layout_sound s n u valid.layout, no_clash)

  pub valid_law : (store_ok s ≡ true) ↔ ValidStore s
  valid_law = (λ h. (block_count s, first s, store_valid h), λ v. valid_store v.0 v.1 v.2)

pub blocks_few : (s : List ℕ) → store_ok s ≡ true → length s / 2048 ≤ 32
blocks_few s h = let v = store_valid s h in omega (arith, v.long, v.few)
