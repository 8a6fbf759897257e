-- The used lines of an index, and the gathering of differences in those of an update.
--   used_no, used_unused, used_update         which lines are used
--   used_not, used_more                       the loop that counts them
--   update_none, update_more, update_done     the loop over the lines of an update
use Rattle.std.specs.Prelude.{ℕ, ◌+◌, ◌<◌, ◌≤◌, ◌≡◌, Bool, cond, not, ◌↔◌, eqb}
use Rattle.std.proofs.Math.Path.{refl, sym, ap}
use Rattle.std.proofs.Common.{◌∙◌, true≢false, eq-or-lt_of_le, eqb-true, ne_eqb}
use Rattle.std.proofs.Math.Bool.{true, false}
use Rattle.std.proofs.Math.Logic.{⊎_elim}
use native.Mathlib.Omega.{arith}
use Rattle.std.proofs.Math.ListN.{get_or}
use Rattle.std.specs.Int.Bits.{bit_or, bit_xor, or_zero_l, xor_self}
use Rattle.laws.specs.Bits.{or_none, xor_none}
use Rattle.laws.specs.Bools.{no_false}
use Rattle.laws.specs.Count.{count_below, count_yes, count_no}
use Rattle.store_index.specs.declared.Line.{Line}
use Rattle.store_index.specs.declared.Index.{Index}
use Rattle.store_index.specs.Index.{unused_line, update_line, line_of}
use Rattle.store_index.specs.UpdateLines.{kind_from}
use Rattle.store_index.specs.OwnLines.{used_line, used_in, UpdateFrom, Gathered}

-- numbers gathered
four : (k s r z : ℕ) → (bit_or (bit_or (bit_or k s) r) z ≡ 0) ↔ ((k ≡ 0) × (s ≡ 0) × (r ≡ 0) × (z ≡ 0))
four k s r z = (
  λ e.
      let w = or_none (bit_or (bit_or k s) r) z e in
      let v = or_none (bit_or k s) r w.0 in
      let u = or_none k s v.0 in
      (u.0, u.1, v.1, w.1),
  λ h. rw (h.0, h.1, h.2, h.3) (rw (or_zero_l 0, or_zero_l 0) (or_zero_l 0)),
)

five : (d k s r z : ℕ) → (bit_or (bit_or (bit_or (bit_or d k) s) r) z ≡ 0) ↔ ((d ≡ 0) × (k ≡ 0) × (s ≡ 0) × (r ≡ 0) × (z ≡ 0))
five d k s r z =
    let w = four (bit_or d k) s r z in (
      λ e. let h = w.0 e in let t = or_none d k h.0 in (t.0, t.1, h.1, h.2, h.3),
      λ h. w.1 (rw (h.0, h.1) (or_zero_l 0), h.2, h.3, h.4),
    )

-- a line that isn't used is unused
pub used_no : (y : Line) → used_line y ≡ false → y ≡ unused_line
unfolding used_line
used_no y h =
    let n : bit_or (bit_or (bit_or y.kind y.start) y.revision) y.size ≡ 0 = eqb-true (bit_or (bit_or (bit_or y.kind y.start) y.revision) y.size) 0 (not_no h) in
    let w = (four y.kind y.start y.revision y.size).0 n in
    rw (w.0, w.1, w.2, w.3)
  where
    not_no : {t : Bool} → not t ≡ false → t ≡ true
    not_no {t = true} e = refl
    not_no {t = false} e = absurd (true≢false e)

pub used_unused : used_line unused_line ≡ false
unfolding used_line
used_unused = refl

-- and that of an update is used
pub used_update : (start revised size c : ℕ) → used_line (update_line start revised size c) ≡ true
unfolding update_line
used_update start revised size c = no_false (used_line (update_line start revised size c)) (λ h. kind_some (eqb start c) (ap (λ (y : Line). y.kind) (used_no (update_line start revised size c) h)))
  where
    kind_some : (t : Bool) → ◌≡◌ {A = ℕ} (cond t 1 2) 0 → ⊥
    kind_some true e = omega (arith, e)
    kind_some false e = omega (arith, e)

-- the count: line b is used exactly if its four numbers give something
module _ (x : Index) (b used : ℕ) (h : used ≡ count_below b (used_in x)) where
  pub used_not : bit_or (bit_or (bit_or (get_or x.kinds b 0) (get_or x.starts b 0)) (get_or x.revisions b 0)) (get_or x.sizes b 0) ≡ 0 → used ≡ count_below (b + 1) (used_in x)
  unfolding used_in used_line line_of
  used_not e = count_no (used_in x) b used h false (sym (rw e)) refl

  pub used_more : (bit_or (bit_or (bit_or (get_or x.kinds b 0) (get_or x.starts b 0)) (get_or x.revisions b 0)) (get_or x.sizes b 0) ≡ 0 → ⊥) → used + 1 ≡ count_below (b + 1) (used_in x)
  unfolding used_in used_line line_of
  used_more n = count_yes (used_in x) b used h true (sym (rw (ne_eqb _ 0 n))) refl

-- line c is gathered: P says so of the lines before it, Q of those up to it
gather_line : (d d' before : ℕ) (P Q line : Type 0) → Gathered d before P → ((d' ≡ 0) ↔ ((d ≡ 0) × line)) → (P → line → Q) → (Q → P × line) → Gathered d' before Q
gather_line d d' before P Q line g h f k = (
  λ e. let w = h.0 e in let p = g.0 w.0 in (p.0, f p.1 w.1),
  λ q. let w = k q.1 in h.1 (g.1 (q.0, w.0), w.1),
)

-- the lines of an update
module _ (x : Index) (start revised size : ℕ) where
  update_line_lem : (c d k : ℕ) → k ≡ kind_from start c
      → (bit_or (bit_or (bit_or (bit_or d (bit_xor (get_or x.kinds c 0) k)) (bit_xor (get_or x.starts c 0) start)) (bit_xor (get_or x.revisions c 0) revised)) (bit_xor (get_or x.sizes c 0) size) ≡ 0)
      ↔ ((d ≡ 0) × (line_of x c ≡ update_line start revised size c))
  unfolding line_of update_line kind_from
  update_line_lem c d k e =
      let w = five d (bit_xor (get_or x.kinds c 0) k) (bit_xor (get_or x.starts c 0) start) (bit_xor (get_or x.revisions c 0) revised) (bit_xor (get_or x.sizes c 0) size) in (
        λ q.
            let h = w.0 q in (
              h.0,
              rw (
                xor_none (get_or x.kinds c 0) k h.1,
                xor_none (get_or x.starts c 0) start h.2,
                xor_none (get_or x.revisions c 0) revised h.3,
                xor_none (get_or x.sizes c 0) size h.4,
                e,
              ),
            ),
        λ h.
            let a : get_or x.kinds c 0 ≡ k = ap (λ (y : Line). y.kind) h.1 ∙ sym e in
            let b : get_or x.starts c 0 ≡ start = ap (λ (y : Line). y.start) h.1 in
            let r : get_or x.revisions c 0 ≡ revised = ap (λ (y : Line). y.revision) h.1 in
            let z : get_or x.sizes c 0 ≡ size = ap (λ (y : Line). y.size) h.1 in
            w.1 (h.0, rw a (xor_self k), rw b (xor_self start), rw r (xor_self revised), rw z (xor_self size)),
      )

  module _ (before : ℕ) where
    pub update_none : Gathered before before (UpdateFrom x start revised size start)
    unfolding UpdateFrom
    update_none = (λ e. (e, λ c l m. absurd (let v : ⊥ = omega arith in v)), λ h. h.0)

    pub update_more : (b d k : ℕ) → Gathered d before (UpdateFrom x start revised size b) → start ≤ b → k ≡ kind_from start b
        → Gathered (bit_or (bit_or (bit_or (bit_or d (bit_xor (get_or x.kinds b 0) k)) (bit_xor (get_or x.starts b 0) start)) (bit_xor (get_or x.revisions b 0) revised)) (bit_xor (get_or x.sizes b 0) size)) before
        (UpdateFrom x start revised size (b + 1))
    unfolding UpdateFrom
    update_more b d k g l e =
        gather_line d _ before (UpdateFrom x start revised size b) (UpdateFrom x start revised size (b + 1)) (line_of x b ≡ update_line start revised size b) g (update_line_lem b d k e)
        (λ p q c m n. ⊎_elim (λ (w : c ≡ b). rw w q) (λ (w : c < b). p c m w) (eq-or-lt_of_le {n = c} {m = b} (omega arith)))
        (λ q. (λ c m n. q c m (omega arith), q b l (omega arith)))

    pub update_done : (b end d : ℕ) → Gathered d before (UpdateFrom x start revised size b) → b ≤ end → end ≤ b → Gathered d before (UpdateFrom x start revised size end)
    update_done b end d g l m = let q : b ≡ end = omega arith in rw q at g
