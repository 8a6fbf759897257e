-- The read through an index against the plain one.
--   own_plan, plan_own     an index that is the same as the store's own gives the plan of a read without it
--   read_own           with the store's own index the answer is that of the plain read
--   read_own_bytes     and so are the copied bytes
--   foreign_plan       another index is refused
--   indexed_bad .. indexed_line    the order of the codes
--   indexed_copyable   what the plan may rely on
use Rattle.std.specs.Prelude.{ℕ, ◌/◌, ◌<◌, ◌≤◌, ◌≡◌, Bool, Err, List, length}
use Rattle.std.proofs.Math.Path.{refl, ap}
use Rattle.std.proofs.Common.{sym, ◌∙◌, eq-or-lt_of_le, arith}
use Rattle.std.proofs.Math.Bool.{true, false}
use Rattle.std.proofs.Math.Logic.{⊎_elim}
use Rattle.std.proofs.Math.Dec.{ltb}
use borrow.Author.Tests.{lt-ltb, le-ltb, ltb-true, eq-eqb, ne_eqb}
use Rattle.laws.specs.Orders.{impossible}
use Rattle.laws.specs.Unless.{unless}
use Rattle.store_blocks.specs.Blocks.{block_count}
use Rattle.store_directory.specs.Scan.{first, size_at, store_ok, directory}
use Rattle.store_directory.specs.Kind.{kind_at, kind_if}
use Rattle.store_directory.specs.Valid.{Owned}
use Rattle.store_directory.proofs.DirectoryLaws.{kind_owned, kind_free}
use Rattle.store_directory.specs.declared.kind.Kind.{Kind}
use Rattle.store_index.specs.Index.{update_line, stored_line, line_at, line_of, index_of}
use Rattle.store_index.specs.SameIndex.{same_index}
use Rattle.store_index.specs.SameIndexLaws.{same_self}
use Rattle.store_index.proofs.OwnIndex.{own_line}
use Rattle.store_index.proofs.LineLaws.{owned_or_free, owned_line, free_line}
use Rattle.store_index.specs.declared.Line.{Line}
use Rattle.store_index.specs.declared.Index.{Index}
use Rattle.call_answers.specs.declared.refusal.Refusal.TheVariants.{BadStore, InvalidBlock}
use Rattle.call_reads.specs.Read.{ReadPlan, read_kind, read_plan, answered, copied, read_answer, read_bytes}
use Rattle.call_reads.specs.CopyBounds.{Copyable}
use Rattle.call_reads.proofs.ReadLaws.{copyable}
use Rattle.call_indexed.specs.IndexedRead.{line_plan, indexed_plan, indexed_answer, indexed_bytes}

module _ (s : List ℕ) (ok : store_ok s ≡ true) (b m : ℕ) (l : b < block_count s) where
  -- a block of an update
  owned_plan : (a : ℕ) → Owned s (first s) a b → line_plan (stored_line s a b).kind (stored_line s a b).size m ≡ read_kind (kind_if a (size_at s a) b) m
  unfolding line_plan stored_line update_line read_kind kind_if unless
  owned_plan a o =
      ⊎_elim (λ (q : a ≡ b). rw (eq-eqb a b q)) (λ (q : a < b). rw (ne_eqb a b (λ e. omega arith))) (eq-or-lt_of_le o.from)

  -- and one of none
  free_plan : ((a : ℕ) → Owned s (first s) a b → ⊥) → line_plan (line_at s b).kind (line_at s b).size m ≡ read_kind (kind_at s b) m
  unfolding line_plan read_kind unless
  free_plan n =
      ap (λ (y : Line). line_plan y.kind y.size m) (free_line s ok b l n) ∙ ap (λ (k : Kind). read_kind k m) (kind_free s ok (directory s) refl b l n)

  line_plan_lem : line_plan (line_at s b).kind (line_at s b).size m ≡ read_kind (kind_at s b) m
  line_plan_lem =
      ⊎_elim
      (λ (w : (a : ℕ) × Owned s (first s) a b).
      ap (λ (y : Line). line_plan y.kind y.size m) (owned_line s ok b l w.0 w.1) ∙ owned_plan w.0 w.1
      ∙ ap (λ (k : Kind). read_kind k m) (kind_owned s ok (directory s) refl b l w.0 w.1))
      free_plan
      (owned_or_free s ok b l)

  -- and a line of an index that is the same
  pub own_plan : (x : Index) → same_index x (index_of s) ≡ true → line_plan (line_of x b).kind (line_of x b).size m ≡ read_kind (kind_at s b) m
  own_plan x h = ap (λ (y : Line). line_plan y.kind y.size m) (own_line s ok x h b l) ∙ line_plan_lem

-- x is the same as the store's own index: all of it is as without an index
module _ (s : List ℕ) (x : Index) (h : same_index x (index_of s) ≡ true) (b : ℕ) where
  pub plan_own : (m : ℕ) → indexed_plan s x b m ≡ read_plan s b m
  unfolding indexed_plan read_plan unless
  plan_own m = rw h (go (store_ok s) refl)
    where
      below : store_ok s ≡ true → (t : Bool) → ltb b (block_count s) ≡ t
          → unless t (Err InvalidBlock) (line_plan (line_of x b).kind (line_of x b).size m) ≡ unless t (Err InvalidBlock) (read_kind (kind_at s b) m)
      below ok true e = own_plan s ok b m (ltb-true b (block_count s) e) x h
      below ok false e = refl

      go : (t : Bool) → store_ok s ≡ t
          → unless t (Err BadStore) (unless (ltb b (block_count s)) (Err InvalidBlock) (line_plan (line_of x b).kind (line_of x b).size m))
          ≡ unless t (Err BadStore) (unless (ltb b (block_count s)) (Err InvalidBlock) (read_kind (kind_at s b) m))
      go true e = below e (ltb b (block_count s)) refl
      go false e = refl

-- with the store's own index: for every store, block and destination
module _ (s : List ℕ) (b : ℕ) where
  pub read_own : (m : ℕ) → indexed_answer s (index_of s) b m ≡ read_answer s b m
  unfolding indexed_answer read_answer
  read_own m = ap answered (plan_own s (index_of s) (same_self (index_of s)) b m)

  pub read_own_bytes : (d : List ℕ) → indexed_bytes s (index_of s) b d ≡ read_bytes s b d
  unfolding indexed_bytes read_bytes
  read_own_bytes d = ap (copied s b d) (plan_own s (index_of s) (same_self (index_of s)) b (length d))

-- the order of the codes; t is whether x is the store's own index
module _ (s : List ℕ) (x : Index) (b m : ℕ) where
  pub indexed_bad : store_ok s ≡ false → Err BadStore ≡ indexed_plan s x b m
  unfolding indexed_plan unless
  indexed_bad h = rw h

  module _ (ok : store_ok s ≡ true) (t : Bool) (g : t ≡ same_index x (index_of s)) where
    pub indexed_foreign : t ≡ false → Err BadStore ≡ indexed_plan s x b m
    unfolding indexed_plan unless
    indexed_foreign h = rw (ok, ← g, h)

    module _ (h : t ≡ true) where
      pub indexed_number : length s / 2048 ≤ b → Err InvalidBlock ≡ indexed_plan s x b m
      unfolding indexed_plan unless block_count
      indexed_number l = rw (ok, ← g, h, le-ltb b (length s / 2048) l)

      pub indexed_line : (z : ReadPlan) → b < length s / 2048 → z ≡ line_plan (line_of x b).kind (line_of x b).size m → z ≡ indexed_plan s x b m
      unfolding indexed_plan unless block_count
      indexed_line z l q = q ∙ rw (ok, ← g, h, lt-ltb b (length s / 2048) l)

-- another index is refused
pub foreign_plan : (s : List ℕ) (x : Index) (b m : ℕ) → same_index x (index_of s) ≡ false → indexed_plan s x b m ≡ Err BadStore
unfolding indexed_plan unless
foreign_plan s x b m h = rw h (go (store_ok s))
  where
    go : (t : Bool) → unless {A = ReadPlan} t (Err BadStore) (Err BadStore) ≡ Err BadStore
    go true = refl
    go false = refl

-- what the plan may rely on
pub indexed_copyable : (s : List ℕ) (x : Index) (b m : ℕ) (p : ReadPlan) → p ≡ indexed_plan s x b m → Copyable s b m p
unfolding Copyable
indexed_copyable s x b m p e = go (same_index x (index_of s)) refl
  where
    go : (t : Bool) → same_index x (index_of s) ≡ t → Copyable s b m p
    go true h = copyable s b m p (e ∙ plan_own s x h b m)
    go false h = λ k q. absurd (impossible (cc (sym q ∙ e ∙ foreign_plan s x b m h)))
