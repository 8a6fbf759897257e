-- The index after a write is made of the cleared lines and those of the run.
--   low_few                                           at most 24 low bits are passed at once
--   clear_none .. clear_done                          the loop over the bits of the emptied blocks
--   run_inside                                        the run ends at block 32 or before
--   after_run, after_none                             the whole index, with a run and without one
use Rattle.std.specs.Prelude.{ℕ, ◌+◌, ◌*◌, ◌/◌, ◌%◌, ◌^◌, ◌<◌, ◌≤◌, ◌≡◌, Bool, List}
use Rattle.std.proofs.Math.Path.{refl, ap}
use Rattle.std.proofs.Common.{sym, ◌∙◌, eq-or-lt_of_le, pow_pos, pow_mono, shr-shr}
use Rattle.std.proofs.Math.Bool.{true, false, cond}
use Rattle.std.proofs.Math.Logic.{⊎_elim}
use Rattle.std.proofs.Math.Nat.{div-eq_of_lt, mod-lt}
use native.Mathlib.Omega.{arith}
use Rattle.std.proofs.Math.Pow.{split}
use Rattle.std.proofs.Math.Dec.{eqb, ltb}
use borrow.Author.Tests.{eqb-true, eq-eqb, ne_eqb, ltb-true, ltb-false}
use Rattle.laws.specs.Bits.{bit, bit_mod, bit_behind}
use Rattle.laws.specs.Orders.{le_or_lt}
use Rattle.laws.specs.Span.{spans, Spans, spans_law}
use Rattle.laws.specs.Bools.{no_true}
use Rattle.laws.specs.Unless.{unless}
use Rattle.store_index.specs.declared.Line.{Line}
use Rattle.store_index.specs.Index.{unused_line, line_of}
use Rattle.store_index.specs.IndexColumns.{columns_of, index_in}
use Rattle.store_index.specs.IndexAfter.{cleared_line, line_after, index_after}
use Rattle.store_index.specs.UpdateLines.{Columns, LinePut, LinesPut}
use Rattle.store_index.proofs.UpdateLineLaws.{columns_are}
use Rattle.store_index.specs.AfterLines.{run_end, low_zeros, Cleared}

-- `left` are the bits from b on
pub clear_left : (emptied b left : ℕ) → left ≡ emptied / 2 ^ b → left / 2 ≡ emptied / 2 ^ (b + 1)
clear_left emptied b left e = ap (λ (y : ℕ). y / 2) e ∙ shr-shr emptied b 1

pub clear_inside : (emptied b left : ℕ) → emptied < 4294967296 → left ≡ emptied / 2 ^ b → (left ≡ 0 → ⊥) → b < 32
clear_inside emptied b left small e n =
    ⊎_elim
    (λ (l : 32 ≤ b). absurd (n (e ∙ div-eq_of_lt (let p : 2 ^ 32 ≤ 2 ^ b = pow_mono l in omega arith))))
    (λ (l : b < 32). l)
    (le_or_lt 32 b)

-- r low bits are 0
module _ (bits r : ℕ) (e : r ≡ low_zeros bits) where
  low_zeros_lem : (bits % 2 ^ r ≡ 0) × (r ≤ 24)
  unfolding low_zeros
  low_zeros_lem = rw e (go (eqb (bits % 16777216) 0) (eqb (bits % 65536) 0) (eqb (bits % 256) 0) refl refl refl)
    where
      go : (a b c : Bool) → eqb (bits % 16777216) 0 ≡ a → eqb (bits % 65536) 0 ≡ b → eqb (bits % 256) 0 ≡ c
          → (bits % 2 ^ cond a 24 (cond b 16 (cond c 8 0)) ≡ 0) × (cond a 24 (cond b 16 (cond c 8 0)) ≤ 24)
      go true b c p q t = (eqb-true (bits % 16777216) 0 p, omega arith)
      go false true c p q t = (eqb-true (bits % 65536) 0 q, omega arith)
      go false false true p q t = (eqb-true (bits % 256) 0 t, omega arith)
      go false false false p q t = (omega arith, omega arith)

  pub low_few : r ≤ 24
  low_few = low_zeros_lem.1

module _ (emptied : ℕ) (old : List (List ℕ)) where
  -- bits that are 0 empty nothing
  pub clear_none : (b : ℕ) → b ≡ low_zeros emptied → Columns old → Cleared emptied b old old
  unfolding cleared_line unless
  clear_none b z long = record { long = long; below = λ c l. rw (sym (bit_mod emptied b c l) ∙ ap (λ (y : ℕ). bit y c) (low_zeros_lem emptied b z).0 ∙ bit_behind 0 0 c (omega arith) (omega arith)); rest = λ c l. refl }

  module _ (b left : ℕ) (e : left ≡ emptied / 2 ^ b) (new : List (List ℕ)) (h : Cleared emptied b old new) where
    pub clear_unset : (left % 2 ≡ 1 → ⊥) → Cleared emptied (b + 1) old new
    unfolding cleared_line unless bit
    clear_unset n = record {
      long = h.long;
      below = λ c l.
          ⊎_elim
          (λ (q : c ≡ b). rw q (h.rest b (omega arith) ∙ rw (ne_eqb (emptied / 2 ^ b % 2) 1 (λ w. n (ap (λ (y : ℕ). y % 2) e ∙ w)))))
          (λ (q : c < b). h.below c q)
          (eq-or-lt_of_le {n = c} {m = b} (omega arith));
      rest = λ c l. h.rest c (omega arith);
    }

    pub clear_set : left % 2 ≡ 1 → (next : List (List ℕ)) → LinePut b unused_line new next → Cleared emptied (b + 1) old next
    unfolding cleared_line unless bit
    clear_set t next p = record {
      long = p.long;
      below = λ c m.
          ⊎_elim
          (λ (q : c ≡ b). rw q (p.here ∙ rw (eq-eqb (emptied / 2 ^ b % 2) 1 (ap (λ (y : ℕ). y % 2) (sym e) ∙ t))))
          (λ (q : c < b). p.others c (λ w. omega arith) ∙ h.below c q)
          (eq-or-lt_of_le {n = c} {m = b} (omega arith));
      rest = λ c m. p.others c (λ w. omega arith) ∙ h.rest c (omega arith);
    }

  -- no bit is left
  pub clear_done : (b left : ℕ) (new : List (List ℕ)) → emptied < 4294967296 → left ≡ emptied / 2 ^ b → left ≡ 0 → Cleared emptied b old new → Cleared emptied 32 old new
  unfolding cleared_line unless
  clear_done b left new small e z h =
      let q : emptied < 2 ^ b = omega (arith, split emptied b, mod-lt emptied (pow_pos b), ap (λ (y : ℕ). y * 2 ^ b) (sym e ∙ z)) in
      record {
        long = h.long;
        below = λ c l.
            ⊎_elim (λ (p : b ≤ c). h.rest c p ∙ rw (bit_behind emptied b c q p)) (λ (p : c < b). h.below c p) (le_or_lt b c);
        rest = λ c l.
            ⊎_elim (λ (p : b ≤ c). h.rest c p) (λ (p : c < b). h.below c p ∙ rw (bit_behind emptied 32 c small l)) (le_or_lt b c);
      }

-- the end of the run
module _ (start size : ℕ) where
  pub run_inside : run_end start size ≤ 32
  unfolding run_end
  run_inside = go (ltb (start + size) 32) refl
    where
      go : (t : Bool) → ltb (start + size) 32 ≡ t → cond t (start + size) 32 ≤ 32
      go true e = omega (arith, ltb-true (start + size) 32 e)
      go false e = omega arith

  run_most : run_end start size ≤ start + size
  unfolding run_end
  run_most = go (ltb (start + size) 32) refl
    where
      go : (t : Bool) → ltb (start + size) 32 ≡ t → cond t (start + size) 32 ≤ start + size
      go true e = omega arith
      go false e = omega (arith, ltb-false (start + size) 32 e)

  run_whole : (c : ℕ) → c < 32 → c < start + size → c < run_end start size
  unfolding run_end
  run_whole c l m = go (ltb (start + size) 32)
    where
      go : (t : Bool) → c < cond t (start + size) 32
      go true = m
      go false = l

-- the lines of the run, written over the cleared ones
module _ (old : List (List ℕ)) (emptied start revised size end : ℕ) (e : end ≡ run_end start size) (cleared : List (List ℕ)) (h : Cleared emptied 32 old cleared) where
  abbrev after : ℕ → Line
  after = line_after (index_in old) emptied start revised size

  -- a line outside the run
  outside : (c : ℕ) → c < 32 → (Spans start size c → ⊥) → line_of (index_in cleared) c ≡ after c
  unfolding line_after unless
  outside c l n = h.below c l ∙ rw (no_true (spans start size c) (λ w. n ((spans_law start size c).0 w)))

  pub after_none : end ≤ start → cleared ≡ columns_of (index_after (index_in old) emptied start revised size)
  unfolding index_after
  after_none m = columns_are after cleared h.long (λ c l. outside c l (λ w. omega (arith, run_whole start size c l w.upto, w.from)))

  module _ (new : List (List ℕ)) (p : LinesPut start revised size end cleared new) where
    run_line : (c : ℕ) → start ≤ c → c < end → line_of (index_in new) c ≡ after c
    unfolding line_after unless
    run_line c m n = p.inside c m n ∙ rw ((spans_law start size c).1 (record { from = m; upto = omega (arith, run_most start size) }))

    run_or_not : (c : ℕ) → c < 32 → line_of (index_in new) c ≡ after c
    run_or_not c l =
        ⊎_elim
        (λ (m : start ≤ c).
        ⊎_elim
        (λ (n : end ≤ c). p.behind c n ∙ outside c l (λ w. omega (arith, run_whole start size c l w.upto)))
        (λ (n : c < end). run_line c m n)
        (le_or_lt end c))
        (λ (m : c < start). p.before c m ∙ outside c l (λ w. omega (arith, w.from)))
        (le_or_lt start c)

    pub after_run : new ≡ columns_of (index_after (index_in old) emptied start revised size)
    unfolding index_after
    after_run = columns_are after new p.long run_or_not
