-- The outcome's bytes as the code makes them: one emptied update after the other is filled, then the candidate is put, then the rest of its last block is filled.
--   cleared_long     it is as long
--   cleared_none     none is emptied
--   cleared_same     the set matters only by its elements
--   cleared_more     one update more
--   outcome_made     the last two steps
use Rattle.std.specs.Prelude.{ℕ, ◌+◌, ◌*◌, ◌-◌, ◌/◌, ◌<◌, ◌≤◌, ◌≡◌, Bool, true, false, List, ◌⊎◌}
use Rattle.std.proofs.Math.Path.{refl, sym}
use Rattle.std.proofs.Common.{◌∙◌, inl, inr, lt-ltb, le-ltb}
use Rattle.std.proofs.Math.Bool.{true≢false}
use Rattle.std.proofs.Math.Logic.{⊎_elim}
use native.Mathlib.Omega.{arith}
use Rattle.std.proofs.Math.ListN.{length, get_or}
use Rattle.std.proofs.Math.Seq.{ext_get_or}
use Rattle.laws.specs.Bools.{no_true}
use Rattle.laws.specs.Orders.{le_or_lt}
use Rattle.laws.specs.Unless.{unless}
use Rattle.laws.specs.Tabulate.{length_tabulate, get_or_tabulate}
use Rattle.bytes_copy.specs.Paste.{put_at, fill_at, put_long, put_low, put_mid, put_high, fill_long, fill_out, fill_mid}
use Rattle.update_sizes.specs.Sizes.{blocks_of}
use Rattle.store_directory.specs.Scan.{size_at, first}
use Rattle.write_outcome.specs.OutcomeBytes.{emptied_at, run_byte, cleared_byte, outcome_bytes}
use Rattle.write_outcome.proofs.ByteLaws.{emptied_at_lem, at_emptied, emptied_same, at_run, not_run, outcome_length, outcome_run, outcome_out}
use Rattle.write_outcome.specs.Cleared.{cleared}

module _ (old : List ℕ) where
  pub cleared_long : (e : ℕ → Bool) → length (cleared old e) ≡ length old
  unfolding cleared
  cleared_long e = length_tabulate (length old) 0 (cleared_byte old e)

  cleared_at : (e : ℕ → Bool) (i : ℕ) → i < length old → get_or (cleared old e) i 0 ≡ cleared_byte old e i
  unfolding cleared
  cleared_at e i l = get_or_tabulate (length old) (cleared_byte old e) i l

  pub cleared_none : (e : ℕ → Bool) → ((b : ℕ) → e b ≡ false) → old ≡ cleared old e
  unfolding cleared_byte unless
  cleared_none e h =
      ext_get_or 0 old (cleared old e) (sym (cleared_long e))
      (λ i l. sym (cleared_at e i l ∙ rw (no_true (emptied_at old e (i / 2048)) (λ w. let x = emptied_at_lem old e (i / 2048) w in true≢false (sym x.1 ∙ h x.0)))))

  pub cleared_same : (e f : ℕ → Bool) → ((b : ℕ) → e b ≡ f b) → cleared old e ≡ cleared old f
  unfolding cleared_byte
  cleared_same e f h =
      ext_get_or 0 (cleared old e) (cleared old f) (cleared_long e ∙ sym (cleared_long f))
      (λ i l. cleared_at e i (omega (arith, cleared_long e)) ∙ rw (emptied_same old e f (i / 2048) (λ b o. h b)) (sym (cleared_at f i (omega (arith, cleared_long e)))))

  module _ (e f : ℕ → Bool) (b k : ℕ) (h : first old b ≡ true) (s : size_at old b ≡ k) (l : (b + k) * 2048 ≤ length old)
      (at_b : f b ≡ true) (elsewhere : (c : ℕ) → (c ≡ b → ⊥) → e c ≡ f c) where
    outside : (c : ℕ) → (c < b) ⊎ (b + k ≤ c) → emptied_at old e c ≡ emptied_at old f c
    outside c o =
        emptied_same old e f c (λ x w. elsewhere x (λ q.
        let u = w.upto in
        let v : c < b + k = rw (← s) (rw (← q) u) in
        let z : b ≤ c = rw (← q) w.from in
        ⊎_elim (λ (p : c < b). let y : ⊥ = omega arith in y) (λ (p : b + k ≤ c). let y : ⊥ = omega arith in y) o))

    inside : (c : ℕ) → b ≤ c → c < b + k → emptied_at old f c ≡ true
    inside c p q = at_emptied old f c b at_b (record { at = h; from = p; upto = rw s q })

    pub cleared_more : fill_at (cleared old e) (b * 2048) (k * 2048) ≡ cleared old f
    unfolding cleared_byte unless
    cleared_more =
        let d = cleared old e in
        let g : b * 2048 + k * 2048 ≤ length d = omega (arith, cleared_long e) in
        ext_get_or 0 (fill_at d (b * 2048) (k * 2048)) (cleared old f) (fill_long d (b * 2048) (k * 2048) g ∙ cleared_long e ∙ sym (cleared_long f))
        (λ i m.
        let n : i < length old = omega (arith, fill_long d (b * 2048) (k * 2048) g, cleared_long e) in
        let out : (i < b * 2048) ⊎ (b * 2048 + k * 2048 ≤ i) → (i / 2048 < b) ⊎ (b + k ≤ i / 2048) → get_or (fill_at d (b * 2048) (k * 2048)) i 0 ≡ get_or (cleared old f) i 0
        = λ o p. fill_out d (b * 2048) (k * 2048) g i o ∙ cleared_at e i n ∙ rw (outside (i / 2048) p) (sym (cleared_at f i n)) in
        ⊎_elim
        (λ (o : b * 2048 ≤ i). ⊎_elim
        (λ (p : b * 2048 + k * 2048 ≤ i). out (inr p) (inr (omega arith)))
        (λ (p : i < b * 2048 + k * 2048). fill_mid d (b * 2048) (k * 2048) g i o p ∙ sym (cleared_at f i n ∙ rw (inside (i / 2048) (omega arith) (omega arith))))
        (le_or_lt (b * 2048 + k * 2048) i))
        (λ (o : i < b * 2048). out (inl o) (inl (omega arith)))
        (le_or_lt (b * 2048) i))

  module _ (t : ℕ) (cand : List ℕ) (start : ℕ) (e : ℕ → Bool) (l : (start + blocks_of t) * 2048 ≤ length old) (h : t ≤ length cand) where
    -- the candidate is put, then the rest of its last block is filled
    abbrev stored : List ℕ
    stored = put_at (cleared old e) (start * 2048) cand t

    abbrev rest : ℕ
    rest = blocks_of t * 2048 - t

    cand_inside : start * 2048 + t ≤ length (cleared old e)
    unfolding blocks_of
    cand_inside = omega (arith, cleared_long e)

    stored_long : length stored ≡ length old
    stored_long = put_long (cleared old e) (start * 2048) cand t cand_inside h ∙ cleared_long e

    rest_ends : t + rest ≡ blocks_of t * 2048
    unfolding blocks_of
    rest_ends = omega arith

    rest_inside : start * 2048 + t + rest ≤ length stored
    rest_inside = omega (arith, stored_long, rest_ends)

    made_at : (i : ℕ) → i < length old → get_or (fill_at stored (start * 2048 + t) rest) i 0 ≡ get_or (outcome_bytes old t cand start e) i 0
    unfolding run_byte unless
    made_at i n = go (le_or_lt (start * 2048) i) (le_or_lt (start * 2048 + blocks_of t * 2048) i) (le_or_lt (start * 2048 + t) i)
      where
        go : (start * 2048 ≤ i) ⊎ (i < start * 2048) → (start * 2048 + blocks_of t * 2048 ≤ i) ⊎ (i < start * 2048 + blocks_of t * 2048) → (start * 2048 + t ≤ i) ⊎ (i < start * 2048 + t)
            → get_or (fill_at stored (start * 2048 + t) rest) i 0 ≡ get_or (outcome_bytes old t cand start e) i 0
        go (inr o) q r =
            fill_out stored (start * 2048 + t) rest rest_inside i (inl (omega arith)) ∙ put_low (cleared old e) (start * 2048) cand t cand_inside h i o ∙ cleared_at e i n
            ∙ sym (outcome_out old t cand start e (i / 2048) i n refl (not_run start (blocks_of t) (i / 2048) (inl (omega arith))))
        go (inl o) (inl q) r =
            fill_out stored (start * 2048 + t) rest rest_inside i (inr (omega (arith, rest_ends))) ∙ put_high (cleared old e) (start * 2048) cand t cand_inside h i (omega (arith, rest_ends)) ∙ cleared_at e i n
            ∙ sym (outcome_out old t cand start e (i / 2048) i n refl (not_run start (blocks_of t) (i / 2048) (inr (omega arith))))
        go (inl o) (inr q) (inl r) =
            fill_mid stored (start * 2048 + t) rest rest_inside i r (omega (arith, rest_ends))
            ∙ sym (outcome_run old t cand start e (i / 2048) i n refl (at_run start (blocks_of t) (i / 2048) (omega arith) (omega arith)) ∙ rw (le-ltb (i - start * 2048) t (omega arith)))
        go (inl o) (inr q) (inr r) =
            fill_out stored (start * 2048 + t) rest rest_inside i (inl r) ∙ put_mid (cleared old e) (start * 2048) cand t cand_inside h i o r
            ∙ sym (outcome_run old t cand start e (i / 2048) i n refl (at_run start (blocks_of t) (i / 2048) (omega arith) (omega (arith, rest_ends))) ∙ rw (lt-ltb (i - start * 2048) t (omega arith)))

    pub outcome_made : fill_at stored (start * 2048 + t) rest ≡ outcome_bytes old t cand start e
    outcome_made =
        let p = fill_long stored (start * 2048 + t) rest rest_inside ∙ stored_long in
        ext_get_or 0 (fill_at stored (start * 2048 + t) rest) (outcome_bytes old t cand start e) (p ∙ sym (outcome_length old t cand start e)) (λ i m. made_at i (omega arith))
