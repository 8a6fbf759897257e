-- What the directory of a valid store lists: the laws by which the layers above use it.
--   listing      of the directory of a valid store
--   kind_owned   a block of an update is its first or a later one
--   kind_free    a block that no update owns is free
--   kind_law     the kind of a block by the directory is its kind in the store
use Rattle.std.specs.Prelude.{ℕ, ◌+◌, ◌-◌, ◌<◌, ◌≤◌, ◌≡◌, Bool, ◌&&◌, List}
use Rattle.std.proofs.Math.Path.{refl}
use Rattle.std.proofs.Common.{sym, ◌∙◌, eq-or-lt_of_le}
use Rattle.std.proofs.Math.Bool.{true, false, cond, not, true≢false}
use Rattle.std.proofs.Math.Logic.{⊎_elim}
use native.Mathlib.Omega.{arith}
use Rattle.std.proofs.Math.ListN.{length, get_or}
use Rattle.std.proofs.Math.Dec.{ltb}
use borrow.Author.Tests.{ltb-true, ltb-false, eq-eqb, ne_eqb}
use Rattle.laws.specs.Below.{all_at}
use Rattle.laws.specs.Span.{spans_law}
use Rattle.laws.specs.First.{first_below, First, first_is}
use Rattle.store_blocks.specs.Blocks.{block_count}
use Rattle.store_directory.specs.Scan.{slot_at, size_at, is_bad, begins, first, sound, starts_to, sizes_to, pad, directory_to, store_ok, directory}
use Rattle.store_directory.specs.Kind.{kind_of, kind_at, owns_at, kind_if, kind_by, kind_in}
use Rattle.store_directory.specs.Valid.{Valid, Owned}
use Rattle.store_directory.specs.SlotLaws.{ends_inside}
use Rattle.store_directory.specs.BlockLaws.{entry_first, first_entry, starts_increase, entry_sizes, sizes_long, later_blocks}
use Rattle.store_directory.proofs.StoreLaws.{pad_at, directory_entries, directory_few}
use Rattle.store_directory.specs.LayoutLaws.{size_some, first_parts, home, layout_sound}
use Rattle.store_directory.proofs.ValidLaws.{store_valid}
use Rattle.store_blocks.specs.declared.slot.Slot.{Slot}
use Rattle.store_blocks.specs.declared.slot.Slot.TheVariants.{Unused, Update, Bad}
use Rattle.store_directory.specs.declared.kind.Kind.TheVariants as kinds
use Rattle.store_directory.specs.declared.Directory.{Directory}
use Rattle.store_directory.specs.DirectoryEntries.{start_of, size_of}
use Rattle.store_directory.specs.DirectoryLaws.{Listing}

module _ (s : List ℕ) (ok : store_ok s ≡ true) where
  valid : Valid s (block_count s) (first s)
  valid = store_valid s ok

  starts_listing : Listing s (directory_to s (block_count s))
  unfolding directory_to
  starts_listing =
      let n = block_count s in
      let l = directory_few s (directory s) refl in
      let start : (i : ℕ) → i < length (starts_to s n) → get_or (pad (starts_to s n)) i 0 ≡ get_or (starts_to s n) i 0 = pad_at (starts_to s n) in
      let size : (i : ℕ) → i < length (starts_to s n) → get_or (pad (sizes_to s n)) i 0 ≡ get_or (sizes_to s n) i 0 = λ i l. pad_at (sizes_to s n) i (omega (arith, sizes_long s n)) in
      let sized : (i : ℕ) → i < length (starts_to s n) → get_or (pad (sizes_to s n)) i 0 ≡ size_at s (get_or (pad (starts_to s n)) i 0) = λ i l. rw (size i l, start i l) (sym (entry_sizes s n i l)) in
      let begin : (i : ℕ) → i < length (starts_to s n) → (first s (get_or (pad (starts_to s n)) i 0) ≡ true) × (get_or (pad (starts_to s n)) i 0 < n) = λ i l. rw (start i l) (first_entry s n i l) in
      record {
        few = rw (directory_entries s (directory s) refl ok) at l;
        begin = λ i l. (begin i l).0;
        sized = sized;
        some = λ i l. rw (sized i l) (size_some s (get_or (pad (starts_to s n)) i 0));
        ends = λ i l. let k = (first_parts s (get_or (pad (starts_to s n)) i 0) (begin i l).0).1 in rw (sized i l) (rw k.1 (ends_inside s n (get_or (pad (starts_to s n)) i 0) k.0 valid.long k.1));
        order = λ i j l m. rw (sized j (omega arith)) (valid.layout.order (get_or (pad (starts_to s n)) j 0) (get_or (pad (starts_to s n)) i 0) (rw (start i m, start j (omega arith)) (starts_increase s n i j l m)) (begin i m).1 (begin j (omega arith)).0 (begin i m).0);
        every = λ b l h. let w = entry_first s n b l h in (w.0, w.1, start w.0 w.1 ∙ w.2);
      }

  pub listing : (d : Directory) → d ≡ directory s → Listing s d
  listing d e = rw (directory_entries s d e ok) starts_listing

  -- a block that belongs to a stored update, and one that doesn't
  module _ (d : Directory) (e : d ≡ directory s) (b : ℕ) (l : b < block_count s) where
    entries : Listing s d
    entries = listing d e

    owned : (i : ℕ) → i < d.count → owns_at d b i ≡ true → Owned s (first s) (start_of d i) b
    unfolding owns_at
    owned i m h =
        let a = (spans_law (start_of d i) (size_of d i) b).0 h in
        record { at = entries.begin i m; from = a.from; upto = rw (← entries.sized i m) a.upto }

    owning : (i a : ℕ) → i < d.count → start_of d i ≡ a → Owned s (first s) a b → owns_at d b i ≡ true
    unfolding owns_at
    owning i a m q o =
        (spans_law (start_of d i) (size_of d i) b).1 (record { from = omega (arith, o.from); upto = rw (entries.sized i m) (rw q o.upto) })

    -- an owned block is the first of its owner or a later one
    pub kind_owned : (a : ℕ) → Owned s (first s) a b → kind_if a (size_at s a) b ≡ kind_at s b
    unfolding kind_if kind_at first
    kind_owned a o =
        let f = first_parts s a o.at in
        ⊎_elim
        (λ (q : a ≡ b). rw (eq-eqb a b q, ← q, f.0, f.1.1))
        (λ (q : a < b).
        let j : a + (b - a) ≡ b = omega arith in
        let g : begins s b ≡ false = rw j at (later_blocks s a (size_at s a) (b - a) f.0 refl (omega arith) (omega (arith, o.upto))) in
        rw (ne_eqb a b (λ x. omega arith), g))
        (eq-or-lt_of_le o.from)

    -- a block that no update owns is unused
    pub kind_free : ((a : ℕ) → Owned s (first s) a b → ⊥) → kinds.Unused ≡ kind_at s b
    unfolding kind_at sound first
    kind_free none = let h = home s b in go h.0 h.1 h.2 h.3 (slot_at s h.0) refl (all_at (sound s) (block_count s) h.0 (layout_sound s (block_count s) (first s) valid.layout) (omega (arith, h.2)))
      where
        go : (a : ℕ) → begins s a ≡ true → a ≤ b → b < a + size_at s a → (x : Slot) → slot_at s a ≡ x → not (begins s a && is_bad (slot_at s a)) ≡ true → kinds.Unused ≡ kind_of (begins s b) (slot_at s b)
        go a g p q Unused y k = let f : a ≡ b = omega (arith, rw y at q) in rw (← f, g, y)
        go a g p q (Update j) y k = absurd (none a (record { at = rw (g, y); from = p; upto = q }))
        go a g p q Bad y k = absurd (true≢false (sym (rw (g, y) at k)))

    pub kind_law : kind_in d b ≡ kind_at s b
    unfolding kind_in kind_by
    kind_law = let f = first_is d.count (owns_at d b) in go (first_below d.count (owns_at d b)) f (ltb (first_below d.count (owns_at d b)) d.count) refl
      where
        go : (i : ℕ) → First d.count (owns_at d b) i → (t : Bool) → ltb i d.count ≡ t → cond t (kind_if (start_of d i) (size_of d i) b) kinds.Unused ≡ kind_at s b
        go i f true q =
            let m = ltb-true i d.count q in
            rw (entries.sized i m) (kind_owned (start_of d i) (owned i m (f.passes m)))
        go i f false q =
            kind_free (λ a o.
            let w = entries.every a (omega (arith, o.from)) o.at in
            true≢false (sym (owning w.0 a w.1 w.2 o) ∙ f.before w.0 (omega (arith, ltb-false i d.count q, w.1))))
