-- An index that is the same as the store's own.
--   own_line      its lines are those of the store
--   own_first     its kind tells where an update begins
--   own_revision  there it has the update's revision
use Rattle.std.specs.Prelude.{ℕ, ◌<◌, ◌≡◌, true, List}
use Rattle.std.proofs.Math.Path.{sym, ap}
use Rattle.std.proofs.Common.{◌∙◌, eq-or-lt_of_le, arith, lt-ltb, eq-eqb, ne_eqb}
use Rattle.std.proofs.Math.Logic.{⊎_elim}
use Rattle.std.proofs.Math.Dec.{eqb}
use Rattle.laws.specs.Bools.{no_true}
use Rattle.laws.specs.Unless.{unless}
use Rattle.update_header.specs.Fields.{revision}
use Rattle.store_blocks.specs.Blocks.{from_block, block_count}
use Rattle.store_directory.specs.Scan.{first as begins-update, store_ok}
use Rattle.store_directory.specs.LayoutLaws.{size_some}
use Rattle.store_directory.specs.Valid.{Owned}
use Rattle.store_directory.proofs.ValidLaws.{store_valid}
use Rattle.store_index.specs.declared.Line.{Line}
use Rattle.store_index.specs.declared.Index.{Index}
use Rattle.store_index.specs.Index.{first, update_line, stored_line, line_at, line_in, line_of, index_of}
use Rattle.store_index.specs.SameIndex.{same_index}
use Rattle.store_index.specs.SameIndexLaws.{same_lines}
use Rattle.store_index.proofs.LineLaws.{later_block, owned_or_free, owned_line, free_line, line_by}

module _ (s : List ℕ) (ok : store_ok s ≡ true) where
  -- a line of the store's index
  index_line : (b : ℕ) → b < block_count s → line_of (index_of s) b ≡ line_at s b
  unfolding index_of line_in unless
  index_line b l =
      rw ok (line_by (line_in s) b (omega (arith, (store_valid s ok).few)) ∙ rw (lt-ltb b (block_count s) l))

  -- an update begins where the kind says so
  first_kind : (b : ℕ) → b < block_count s → eqb (line_at s b).kind first ≡ begins-update s b
  unfolding stored_line update_line
  first_kind b l =
      ⊎_elim
      (λ (w : (a : ℕ) × Owned s (begins-update s) a b).
      ap (λ (y : Line). eqb y.kind first) (owned_line s ok b l w.0 w.1)
      ∙ ⊎_elim (λ (q : w.0 ≡ b). rw (eq-eqb w.0 b q) (sym (ap (begins-update s) (sym q) ∙ w.1.at)))
      (λ (q : w.0 < b). rw (ne_eqb w.0 b (λ e. omega arith)) (sym (later_block s ok w.0 b q l w.1)))
      (eq-or-lt_of_le w.1.from))
      (λ (n : (a : ℕ) → Owned s (begins-update s) a b → ⊥).
      ap (λ (y : Line). eqb y.kind first) (free_line s ok b l n)
      ∙ sym (no_true (begins-update s b) (λ h. n b (record { at = h; from = omega arith; upto = omega (arith, size_some s b) }))))
      (owned_or_free s ok b l)

  -- x is the same index
  module _ (x : Index) (h : same_index x (index_of s) ≡ true) (b : ℕ) (l : b < block_count s) where
    pub own_line : line_of x b ≡ line_at s b
    own_line = same_lines x (index_of s) h b (omega (arith, (store_valid s ok).few)) ∙ index_line b l

    pub own_first : eqb (line_of x b).kind first ≡ begins-update s b
    own_first = ap (λ (y : Line). eqb y.kind first) own_line ∙ first_kind b l

    pub own_revision : begins-update s b ≡ true → (line_of x b).revision ≡ revision (from_block s b)
    unfolding stored_line update_line
    own_revision f =
        ap (λ (y : Line). y.revision) (own_line ∙ owned_line s ok b l b (record { at = f; from = omega arith; upto = omega (arith, size_some s b) }))
