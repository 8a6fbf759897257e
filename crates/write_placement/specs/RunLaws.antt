-- Runs and the updates that they touch.
--   meets, met       an update that a run touches holds a block of it, and the other way round
--   holds_one        no two updates hold one block
--   legal_empties      a legal outcome empties each update that shares or is touched
--   legal_open       no update rules its start out
--   legal_more       it empties no fewer than those that go
--   open_legal       at a start that no update rules out, to empty those that go is legal
--   emptied_split    those that are emptied are those that share and those that are lost
use Rattle.std.specs.Prelude.{ℕ, ◌+◌, ◌<◌, ◌≤◌, max, ◌≡◌, ◌⊎◌, ◌↔◌, Bool, ◌&&◌, ◌||◌, ltb}
use Rattle.std.proofs.Math.Path.{refl}
use Rattle.std.proofs.Common.{sym, ap, ◌∙◌, inl, inr, ⊎_elim}
use Rattle.std.proofs.Math.Bool.{true, false, true≢false, or-true}
use native.Mathlib.Omega.{arith}
use borrow.Author.Tests.{ltb-true, ltb-false, lt-ltb}
use Rattle.laws.specs.Bools.{and_parts, and_made, no_true}
use Rattle.laws.specs.Below.{any_below, any_at, any_fails, any_false}
use Rattle.laws.specs.Span.{spans, spans_law}
use Rattle.laws.specs.Count.{count_below, either, second, count_mono, count_split}
use Rattle.write_marks.specs.StoredUpdates.{StoredUpdates, Holds, Laid}
use Rattle.write_placement.specs.LegalByNumber.{LegalByNumber, emptied_count_by_number}
use Rattle.write_marks.specs.Against.{touches_by_number, emptied_by_number, rules_out, loses, ruled_out, lost}

module _ (h : StoredUpdates) (k s i : ℕ) where
  -- the higher of the two starts
  meets : 1 ≤ k → 1 ≤ h.size i → touches_by_number h k s i ≡ true → (c : ℕ) × (s ≤ c) × (c < s + k) × Holds h i c
  unfolding touches_by_number
  meets some size t =
      let x = and_parts (ltb s (h.start i + h.size i)) (ltb (h.start i) (s + k)) t in
      let p = ltb-true s (h.start i + h.size i) x.0 in
      let q = ltb-true (h.start i) (s + k) x.1 in
      (max s (h.start i), omega arith, omega arith, record { from = omega arith; upto = omega arith })

  met : (c : ℕ) → s ≤ c → c < s + k → Holds h i c → touches_by_number h k s i ≡ true
  unfolding touches_by_number
  met c p q x = and_made (lt-ltb s (h.start i + h.size i) (omega arith)) (lt-ltb (h.start i) (s + k) (omega arith))

module _ (n : ℕ) (h : StoredUpdates) (laid : Laid n h) (i j c : ℕ) where
  holds_one : i < h.count → j < h.count → Holds h i c → Holds h j c → i ≡ j
  holds_one l m x y = go (ltb i j) refl (ltb j i) refl
    where
      go : (t : Bool) → ltb i j ≡ t → (u : Bool) → ltb j i ≡ u → i ≡ j
      go true e u f = absurd (omega (arith, laid.apart i j (ltb-true i j e) m))
      go false e true f = absurd (omega (arith, laid.apart j i (ltb-true j i f) l))
      go false e false f = omega (arith, ltb-false i j e, ltb-false j i f)

module _ (n k : ℕ) (h : StoredUpdates) (some : 1 ≤ k) (laid : Laid n h) (s : ℕ) (e : ℕ → Bool) (legal : LegalByNumber n k h s e) where
  touched : (i : ℕ) → i < h.count → touches_by_number h k s i ≡ true → e i ≡ true
  touched i l t =
      let m = meets h k s i some (laid.some i l) t in
      ⊎_elim
      (λ (f : (j : ℕ) → j < h.count → Holds h j m.0 → ⊥). absurd (f i l m.3))
      (λ (f : (j : ℕ) × (j < h.count) × Holds h j m.0 × (e j ≡ true)). ap e (holds_one n h laid i f.0 m.0 l f.1 m.3 f.2) ∙ f.3)
      (legal.free m.0 m.1 m.2)

  pub legal_empties : (i : ℕ) → i < h.count → emptied_by_number h k s i ≡ true → e i ≡ true
  unfolding emptied_by_number touches_by_number
  legal_empties i l g = go (h.shares i) refl g
    where
      go : (a : Bool) → h.shares i ≡ a → a || touches_by_number h k s i ≡ true → e i ≡ true
      go true q g = legal.frees i l q
      go false q g = touched i l g

  pub legal_open : ruled_out h k s ≡ false
  unfolding ruled_out rules_out emptied_by_number
  legal_open =
      any_false (rules_out h k s) h.count (λ i l. no_true (h.needed i && emptied_by_number h k s i) (λ b.
      let x = and_parts (h.needed i) (emptied_by_number h k s i) b in
      true≢false (sym x.0 ∙ legal.spares i l (legal_empties i l x.1))))

  pub legal_more : emptied_count_by_number h (emptied_by_number h k s) ≤ emptied_count_by_number h e
  unfolding emptied_count_by_number
  legal_more = count_mono (emptied_by_number h k s) e h.count legal_empties

-- update i holds block c, as a Bool
unfoldable holding : StoredUpdates → ℕ → ℕ → Bool
holding h c i = spans (h.start i) (h.size i) c

holding_law : (h : StoredUpdates) (c i : ℕ) → (holding h c i ≡ true) ↔ Holds h i c
unfolding holding
holding_law h c i = spans_law (h.start i) (h.size i) c

module _ (n k : ℕ) (h : StoredUpdates) (s : ℕ) where
  met_emptied : (c : ℕ) → s ≤ c → c < s + k → (i : ℕ) → Holds h i c → emptied_by_number h k s i ≡ true
  unfolding emptied_by_number touches_by_number
  met_emptied c p q i x = rw (met h k s i c p q x) (or-true (h.shares i))

  run_free : (c : ℕ) → s ≤ c → c < s + k
      → ((i : ℕ) → i < h.count → Holds h i c → ⊥) ⊎ ((i : ℕ) × (i < h.count) × Holds h i c × (emptied_by_number h k s i ≡ true))
  run_free c p q = go (any_below h.count (holding h c)) refl
    where
      go : (t : Bool) → any_below h.count (holding h c) ≡ t
          → ((i : ℕ) → i < h.count → Holds h i c → ⊥) ⊎ ((i : ℕ) × (i < h.count) × Holds h i c × (emptied_by_number h k s i ≡ true))
      go true e =
          let w = any_at (holding h c) h.count e in
          let x = (holding_law h c w.0).0 w.2 in
          inr (w.0, w.1, x, met_emptied c p q w.0 x)
      go false e = inl (λ i l x. true≢false (sym ((holding_law h c i).1 x) ∙ any_fails (holding h c) h.count i e l))

  pub open_legal : s + k ≤ n → ruled_out h k s ≡ false → LegalByNumber n k h s (emptied_by_number h k s)
  unfolding ruled_out rules_out emptied_by_number
  open_legal ends clear = record {
    ends = ends;
    free = run_free;
    spares = λ i l g. no_true (h.needed i) (λ b. true≢false (sym (and_made b g) ∙ any_fails (rules_out h k s) h.count i clear l));
    frees = λ i l b. rw b;
  }

  pub emptied_split : emptied_count_by_number h (emptied_by_number h k s) ≡ count_below h.count h.shares + lost h k s
  unfolding emptied_count_by_number emptied_by_number lost loses touches_by_number either second
  emptied_split = count_split h.shares (touches_by_number h k s) h.count
