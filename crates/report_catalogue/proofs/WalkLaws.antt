-- The walk of the entries of a valid store's directory passes every update, and the blocks of no entry are the unused ones.
--   entries_none, entries_more    the lines before the first entry, and with one more
--   used_none, used_more          the blocks that entries have, in the same way
--   used_inside                   no more than the store has
--   lines_entries                 the lines of the entries are those of the blocks, by start
--   free_entries                  the blocks of no entry are the unused ones
use Prim.Native.Nat.{ℕ, zero, suc, ◌+◌, ◌-◌, ◌<◌, ◌≤◌}
use Rattle.std.specs.Prelude.{◌≡◌, true, List, [], ◌++◌}
use Rattle.std.proofs.Math.Path.{refl, ap}
use Rattle.std.proofs.Common.{sym, ◌∙◌, append-nil, eq-or-lt_of_le, le_of_suc-le-suc, not-suc-le-zero, add-zero, add-suc, add-one}
use Rattle.std.proofs.Math.Logic.{⊎_elim}
use native.Mathlib.Omega.{arith}
use Rattle.laws.specs.Orders.{le_or_lt}
use Rattle.laws.specs.Count.{count_below}
use Rattle.store_blocks.specs.Blocks.{block_count}
use Rattle.store_directory.specs.Scan.{size_at, first, store_ok, directory}
use Rattle.store_directory.specs.Kind.{kind_at}
use Rattle.store_directory.specs.Valid.{Owned}
use Rattle.store_directory.specs.BlockLaws.{later_blocks}
use Rattle.store_directory.specs.LayoutLaws.{first_parts}
use Rattle.store_directory.specs.DirectoryEntries.{start_of, size_of}
use Rattle.store_directory.specs.DirectoryLaws.{Listing}
use Rattle.store_directory.proofs.DirectoryLaws.{listing, kind_free}
use Rattle.store_directory.specs.declared.kind.Kind.TheVariants.{Unused, First, Later}
use Rattle.store_directory.specs.declared.Directory.{Directory}
use Rattle.report_catalogue.specs.Catalogue.{kind_line, lines_to, unused_at, unused_to}
use Rattle.report_catalogue.specs.Walk.{entry_line, entries_to, used_to, end_to}

pub entries_none : (s : List ℕ) (d : Directory) → entries_to s d 0 ≡ []
unfolding entries_to
entries_none s d = refl

pub entries_more : (s : List ℕ) (d : Directory) (i : ℕ) → entries_to s d (i + 1) ≡ entries_to s d i ++ entry_line s d i
unfolding entries_to
entries_more s d i = rw (add-one i)

pub used_none : (d : Directory) → used_to d 0 ≡ 0
unfolding used_to
used_none d = refl

pub used_more : (d : Directory) (i : ℕ) → used_to d (i + 1) ≡ used_to d i + size_of d i
unfolding used_to
used_more d i = rw (add-one i)

-- what a block of a kind adds to the lines, and to the count of unused blocks
module _ (s : List ℕ) (b : ℕ) where
  pass_unused : kind_at s b ≡ Unused → (lines_to s (suc b) ≡ lines_to s b) × (unused_to s (suc b) ≡ unused_to s b + 1)
  unfolding lines_to kind_line unused_to count_below unused_at
  pass_unused e = rw e (append-nil (lines_to s b), refl)

  pass_first : (k : ℕ) → kind_at s b ≡ First k → (lines_to s (suc b) ≡ lines_to s b ++ kind_line s b (First k)) × (unused_to s (suc b) ≡ unused_to s b)
  unfolding lines_to kind_line unused_to count_below unused_at
  pass_first k e = rw e (refl, refl)

  pass_later : kind_at s b ≡ Later → (lines_to s (suc b) ≡ lines_to s b) × (unused_to s (suc b) ≡ unused_to s b)
  unfolding lines_to kind_line unused_to count_below unused_at
  pass_later e = rw e (append-nil (lines_to s b), refl)

-- the k blocks from b on
module _ (s : List ℕ) (b : ℕ) where
  all_unused_lem : (k : ℕ) → ((j : ℕ) → j < k → kind_at s (b + j) ≡ Unused)
      → (lines_to s (b + k) ≡ lines_to s b) × (unused_to s (b + k) ≡ unused_to s b + k)
  all_unused_lem zero h = rw (add-zero b) (refl, sym (add-zero _))
  all_unused_lem (suc k) h =
      let u = all_unused_lem k (λ j l. h j (omega arith)) in
      let v = pass_unused s (b + k) (h k (omega arith)) in
      rw (add-suc b k) (v.0 ∙ u.0, omega (arith, u.1, v.1))

  all_later : (k : ℕ) → ((j : ℕ) → j < k → kind_at s (b + j) ≡ Later)
      → (lines_to s (b + k) ≡ lines_to s b) × (unused_to s (b + k) ≡ unused_to s b)
  all_later zero h = rw (add-zero b) (refl, refl)
  all_later (suc k) h =
      let u = all_later k (λ j l. h j (omega arith)) in
      let v = pass_later s (b + k) (h k (omega arith)) in
      rw (add-suc b k) (v.0 ∙ u.0, v.1 ∙ u.1)

module _ (s : List ℕ) (ok : store_ok s ≡ true) (d : Directory) (e : d ≡ directory s) where
  entries : Listing s d
  entries = listing s ok d e

  -- the first block of an entry, and a later one
  entry_first : (i : ℕ) → i < d.count → kind_at s (start_of d i) ≡ First (size_of d i)
  unfolding kind_at
  entry_first i l = let f = first_parts s (start_of d i) (entries.begin i l) in rw (entries.sized i l, f.0, f.1.1)

  entry_later : (i j : ℕ) → i < d.count → j + 1 < size_of d i → kind_at s (suc (start_of d i) + j) ≡ Later
  unfolding kind_at
  entry_later i j l m =
      let f = first_parts s (start_of d i) (entries.begin i l) in
      let h : start_of d i + (j + 1) ≡ suc (start_of d i) + j = omega arith in
      let g = later_blocks s (start_of d i) (size_at s (start_of d i)) (j + 1) f.0 refl (omega arith) (rw (← entries.sized i l) m) in
      rw (rw h at g)

  -- the entries before number i end where it begins, or before
  ended : (i j : ℕ) → j < i → i ≤ d.count → start_of d j + size_of d j ≤ end_to d i
  unfolding end_to
  ended zero j l m = absurd (not-suc-le-zero l)
  ended (suc i) j l m =
      ⊎_elim (λ (q : j ≡ i). rw q (omega arith))
      (λ (q : j < i). omega (arith, entries.order i j q m))
      (eq-or-lt_of_le (le_of_suc-le-suc l))

  -- a block behind the entries before number i, and before those from i on
  gap : (i c : ℕ) → i ≤ d.count → end_to d i ≤ c → c < block_count s → ((j : ℕ) → i ≤ j → j < d.count → c < start_of d j)
      → kind_at s c ≡ Unused
  gap i c l p q h = sym (kind_free s ok d e c q none)
    where
      none : (a : ℕ) → Owned s (first s) a c → ⊥
      none a o =
          let w = entries.every a (omega (arith, o.from)) o.at in
          let z : size_of d w.0 ≡ size_at s a = entries.sized w.0 w.1 ∙ ap (size_at s) w.2 in
          ⊎_elim (λ (m : i ≤ w.0). let v : ⊥ = omega (arith, h w.0 m w.1, w.2, o.from) in v)
          (λ (m : w.0 < i). let v : ⊥ = omega (arith, ended i w.0 m l, w.2, z, o.upto) in v)
          (le_or_lt i w.0)

  starts_up : (i j : ℕ) → i ≤ j → j < d.count → start_of d i ≤ start_of d j
  starts_up i j l m =
      ⊎_elim (λ (q : i ≡ j). rw q (omega arith))
      (λ (q : i < j). omega (arith, entries.order j i q m))
      (eq-or-lt_of_le l)

  before_start : (i : ℕ) → i < d.count → end_to d i ≤ start_of d i
  unfolding end_to
  before_start zero l = omega arith
  before_start (suc i) l = entries.order (suc i) i (omega arith) l

  -- the lines and the count up to block b, where the entries before number i are passed
  Passed : ℕ → ℕ → Type 0
  Passed i b = (lines_to s b ≡ entries_to s d i) × (unused_to s b + used_to d i ≡ b)

  -- up to a block before which no further entry begins
  pass_gap : (i b : ℕ) → i ≤ d.count → end_to d i ≤ b → b ≤ block_count s → ((j : ℕ) → i ≤ j → j < d.count → b ≤ start_of d j)
      → Passed i (end_to d i) → Passed i b
  unfolding Passed
  pass_gap i b l p q h u =
      let f : end_to d i + (b - end_to d i) ≡ b = omega arith in
      let k : (j : ℕ) → j < b - end_to d i → kind_at s (end_to d i + j) ≡ Unused =
      λ j m. gap i (end_to d i + j) l (omega arith) (omega arith) (λ k x y. omega (arith, h k x y)) in
      let g = all_unused_lem s (end_to d i) (b - end_to d i) k in
      let w : (lines_to s b ≡ lines_to s (end_to d i)) × (unused_to s b ≡ unused_to s (end_to d i) + (b - end_to d i)) = rw f at g in
      (w.0 ∙ u.0, omega (arith, w.1, u.1))

  -- the blocks of entry i
  pass_entry : (i : ℕ) → i < d.count → Passed i (start_of d i) → Passed (suc i) (start_of d i + size_of d i)
  unfolding Passed entries_to used_to kind_line
  pass_entry i l u =
      let n = entries.some i l in
      let f = pass_first s (start_of d i) (size_of d i) (entry_first i l) in
      let g : suc (start_of d i) + (size_of d i - 1) ≡ start_of d i + size_of d i = omega arith in
      let t = all_later s (suc (start_of d i)) (size_of d i - 1) (λ j m. entry_later i j l (omega arith)) in
      let w : (lines_to s (start_of d i + size_of d i) ≡ lines_to s (suc (start_of d i))) × (unused_to s (start_of d i + size_of d i) ≡ unused_to s (suc (start_of d i))) = rw g at t in
      (w.0 ∙ f.0 ∙ ap (λ l. l ++ entry_line s d i) u.0, omega (arith, w.1, f.1, u.1))

  passed : (i : ℕ) → i ≤ d.count → Passed i (end_to d i)
  unfolding Passed end_to lines_to entries_to used_to unused_to count_below
  passed zero l = (refl, refl)
  passed (suc i) l =
      pass_entry i l (pass_gap i (start_of d i) (omega arith) (before_start i l) (omega (arith, entries.ends i l)) (starts_up i) (passed i (omega arith)))

  end_inside : (i : ℕ) → i ≤ d.count → end_to d i ≤ block_count s
  unfolding end_to
  end_inside zero l = omega arith
  end_inside (suc i) l = entries.ends i l

  all_passed : (i : ℕ) → i ≤ d.count → d.count ≤ i → Passed i (block_count s)
  all_passed i l m = pass_gap i (block_count s) l (end_inside i l) (omega arith) (λ j p q. absurd (omega arith)) (passed i l)

  pub used_inside : (i : ℕ) → i < d.count → used_to d i + size_of d i ≤ block_count s
  unfolding Passed used_to
  used_inside i l = omega (arith, (passed (suc i) l).1, end_inside (suc i) l)

  -- after the last entry
  pub lines_entries : (i : ℕ) → i ≤ d.count → d.count ≤ i → lines_to s (block_count s) ≡ entries_to s d i
  unfolding Passed
  lines_entries i l m = (all_passed i l m).0

  pub free_entries : (i : ℕ) → i ≤ d.count → d.count ≤ i → unused_to s (block_count s) + used_to d i ≡ block_count s
  unfolding Passed
  free_entries i l m = (all_passed i l m).1
