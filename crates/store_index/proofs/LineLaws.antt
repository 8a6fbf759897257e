-- What the lines of a valid store's index say.
--   owner_is        a block of an update has it as its owner
--   later_block     no update begins at a later block
--   owned_or_free   each block of the store belongs to an update or to none
--   owned_line      the line of a block of an update
--   free_line       the line of a block that no update has
--   index_is        an index is settled by its 32 lines
--   line_by         line b of an index of lines
use Prim.Native.Nat.{ℕ, zero, suc, ◌<◌}
use Rattle.std.specs.Prelude.{◌≡◌, Bool, List, ◌⊎◌, length}
use Rattle.std.proofs.Math.Path.{refl, ap}
use Rattle.std.proofs.Common.{sym, ◌∙◌, eq-or-lt_of_le, arith, eq-eqb, ne_eqb}
use Rattle.std.proofs.Math.Bool.{true, false, true≢false}
use Rattle.std.proofs.Math.Logic.{⊎_elim, inl, inr}
use Rattle.laws.specs.Bools.{no_true}
use Rattle.laws.specs.Below.{any_below, any_at, any_fails}
use Rattle.laws.specs.Span.{Spans, spans_law}
use Rattle.laws.specs.Tabulate.{get_or_tabulate, is_tabulate}
use Rattle.store_blocks.specs.Blocks.{block_count}
use Rattle.store_directory.specs.Scan.{first, store_ok, directory}
use Rattle.store_directory.specs.Kind.{kind_if, owns_at}
use Rattle.store_directory.specs.DirectoryEntries as entry
use Rattle.store_directory.specs.Valid.{Owned}
use Rattle.store_directory.proofs.ValidLaws.{store_valid}
use Rattle.store_directory.specs.DirectoryLaws.{Listing}
use Rattle.store_directory.proofs.DirectoryLaws.{listing, kind_owned, kind_free}
use Rattle.store_directory.specs.declared.Directory.{Directory}
use Rattle.store_index.specs.declared.Line.{Line}
use Rattle.store_index.specs.declared.Index.{Index}
use Rattle.store_index.specs.Index.{unused_line, owner_at, stored_line, line_of_kind, line_at, line_of, kind_of, start_of, revision_in, size_of, index_by}

module _ (s : List ℕ) (ok : store_ok s ≡ true) where
  owner_first : (a : ℕ) → first s a ≡ true → owner_at s a ≡ a
  unfolding owner_at
  owner_first zero h = refl
  owner_first (suc a) h = rw h

  -- the next block, if no update begins there
  owner_next : (c : ℕ) → first s (suc c) ≡ false → owner_at s (suc c) ≡ owner_at s c
  unfolding owner_at
  owner_next c h = rw h

  -- no other update begins in an update
  pub later_block : (a c : ℕ) → a < c → c < block_count s → Owned s (first s) a c → first s c ≡ false
  later_block a c l m o = no_true (first s c) (λ h. omega (arith, (store_valid s ok).layout.order a c l m o.at h, o.upto))

  pub owner_is : (a c : ℕ) → c < block_count s → Owned s (first s) a c → owner_at s c ≡ a
  owner_is a zero l o = let e : a ≡ 0 = omega (arith, o.from) in rw (← e) (owner_first a o.at)
  owner_is a (suc c) l o =
      ⊎_elim (λ (q : a ≡ suc c). rw (← q) (owner_first a o.at))
      (λ (q : a < suc c).
      owner_next c (later_block a (suc c) q l o) ∙ owner_is a c (omega arith) (record { at = o.at; from = omega arith; upto = omega (arith, o.upto) }))
      (eq-or-lt_of_le o.from)

  module _ (c : ℕ) (l : c < block_count s) where
    -- by the directory
    d : Directory
    d = directory s

    entries : Listing s d
    unfolding d
    entries = listing s ok (directory s) refl

    pub owned_or_free : ((a : ℕ) × Owned s (first s) a c) ⊎ ((a : ℕ) → Owned s (first s) a c → ⊥)
    unfolding owns_at
    owned_or_free = go (any_below d.count (owns_at d c)) refl
      where
        go : (t : Bool) → any_below d.count (owns_at d c) ≡ t → ((a : ℕ) × Owned s (first s) a c) ⊎ ((a : ℕ) → Owned s (first s) a c → ⊥)
        go true h =
            let w = any_at (owns_at d c) d.count h in
            let y = (spans_law (entry.start_of d w.0) (entry.size_of d w.0) c).0 w.2 in
            inl (entry.start_of d w.0, record { at = entries.begin w.0 w.1; from = y.from; upto = rw (← entries.sized w.0 w.1) y.upto })
        go false h =
            inr (λ a o.
            let w = entries.every a (omega (arith, o.from)) o.at in
            let y : Spans (entry.start_of d w.0) (entry.size_of d w.0) c = record { from = omega (arith, o.from, w.2); upto = rw (w.2, entries.sized w.0 w.1, w.2) o.upto } in
            true≢false (sym ((spans_law (entry.start_of d w.0) (entry.size_of d w.0) c).1 y) ∙ any_fails (owns_at d c) d.count w.0 h w.1))

    pub owned_line : (a : ℕ) → Owned s (first s) a c → line_at s c ≡ stored_line s a c
    unfolding line_at line_of_kind kind_if
    owned_line a o =
        ap (line_of_kind s c) (sym (kind_owned s ok (directory s) refl c l a o))
        ∙ ⊎_elim (λ (q : a ≡ c). rw (eq-eqb a c q, q))
        (λ (q : a < c). rw (ne_eqb a c (λ x. omega arith), owner_is a c l o))
        (eq-or-lt_of_le o.from)

    pub free_line : ((a : ℕ) → Owned s (first s) a c → ⊥) → line_at s c ≡ unused_line
    unfolding line_at line_of_kind
    free_line none = ap (line_of_kind s c) (sym (kind_free s ok (directory s) refl c l none))

-- an index of 32 lines
module _ (f : ℕ → Line) where
  pub index_is : (x : Index) → length x.kinds ≡ 32 → length x.starts ≡ 32 → length x.revisions ≡ 32 → length x.sizes ≡ 32
      → ((c : ℕ) → c < 32 → line_of x c ≡ f c) → x ≡ index_by f
  unfolding index_by line_of
  index_is x p q r t h =
      let kinds = is_tabulate 32 (kind_of f) x.kinds p (λ c l. ap (λ (y : Line). y.kind) (h c l)) in
      let starts = is_tabulate 32 (start_of f) x.starts q (λ c l. ap (λ (y : Line). y.start) (h c l)) in
      let revisions = is_tabulate 32 (revision_in f) x.revisions r (λ c l. ap (λ (y : Line). y.revision) (h c l)) in
      let sizes = is_tabulate 32 (size_of f) x.sizes t (λ c l. ap (λ (y : Line). y.size) (h c l)) in
      rw (← kinds, ← starts, ← revisions, ← sizes)

  pub line_by : (c : ℕ) → c < 32 → line_of (index_by f) c ≡ f c
  unfolding index_by line_of
  line_by c l = rw (get_or_tabulate 32 (kind_of f) c l, get_or_tabulate 32 (start_of f) c l, get_or_tabulate 32 (revision_in f) c l, get_or_tabulate 32 (size_of f) c l)
