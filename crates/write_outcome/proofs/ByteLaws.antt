-- Laws of an outcome's bytes.
--   emptied_at_lem, at_emptied         a block is emptied exactly if it has an owner of the set
--   emptied_same                       the set matters only where it has, or has not, the owner of the block
--   run_at, at_run, not_run            a block is in the run exactly if it lies between its ends
--   outcome_length                     an outcome is as long as the old store
--   outcome_run, outcome_out           its byte in the run, and outside it
--   outcome_emptied, outcome_kept      outside the run: in an emptied update, and elsewhere
use Rattle.std.specs.Prelude.{ℕ, suc, ◌+◌, ◌*◌, ◌-◌, ◌/◌, ◌<◌, ◌≤◌, ◌≡◌, refl, Bool, ◌&&◌, List, ◌⊎◌, length, get_or}
use Rattle.std.proofs.Math.Path.{sym}
use Rattle.std.proofs.Common.{◌∙◌, inl, inr, arith}
use Rattle.std.proofs.Math.Bool.{true, false, and-false}
use Rattle.laws.specs.Span.{spans, spans_law}
use Rattle.laws.specs.Bools.{and_parts, no_true}
use Rattle.laws.specs.Below.{any_at, any_stop, any_cong}
use Rattle.laws.specs.Unless.{unless}
use Rattle.laws.specs.Tabulate.{length_tabulate, get_or_tabulate}
use Rattle.update_sizes.specs.Sizes.{blocks_of}
use Rattle.store_directory.specs.Scan.{size_at, first}
use Rattle.store_directory.specs.Valid.{Owned}
use Rattle.write_outcome.specs.OutcomeBytes.{owned_by, emptied_at, in_run, run_byte, cleared_byte, outcome_byte, outcome_bytes}

module _ (s : List ℕ) where
  -- the update at b, of whatever set, has block c
  owner : (c b : ℕ) → first s b && spans b (size_at s b) c ≡ true → Owned s (first s) b c
  owner c b h =
      let x = and_parts (first s b) (spans b (size_at s b) c) h in
      let y = (spans_law b (size_at s b) c).0 x.1 in
      record { at = x.0; from = y.from; upto = y.upto }

  pub emptied_at_lem : (e : ℕ → Bool) (c : ℕ) → emptied_at s e c ≡ true → (b : ℕ) × (e b ≡ true) × Owned s (first s) b c
  unfolding emptied_at owned_by
  emptied_at_lem e c h =
      let w = any_at (owned_by s e c) (suc c) h in
      let x = and_parts (e w.0) (first s w.0 && spans w.0 (size_at s w.0) c) w.2 in
      (w.0, x.0, owner c w.0 x.1)

  pub at_emptied : (e : ℕ → Bool) (c b : ℕ) → e b ≡ true → Owned s (first s) b c → emptied_at s e c ≡ true
  unfolding emptied_at owned_by
  at_emptied e c b h o =
      any_stop (owned_by s e c) (suc c) b (omega (arith, o.from)) (rw (h, o.at) ((spans_law b (size_at s b) c).1 (record { from = o.from; upto = o.upto })))

  pub emptied_same : (e f : ℕ → Bool) (c : ℕ) → ((b : ℕ) → Owned s (first s) b c → e b ≡ f b) → emptied_at s e c ≡ emptied_at s f c
  unfolding emptied_at owned_by
  emptied_same e f c h = any_cong (owned_by s e c) (owned_by s f c) (suc c) (λ k l. go k (first s k && spans k (size_at s k) c) refl)
    where
      go : (k : ℕ) (t : Bool) → first s k && spans k (size_at s k) c ≡ t → e k && t ≡ f k && t
      go k true q = rw (h k (owner c k q))
      go k false q = and-false (e k) ∙ sym (and-false (f k))

module _ (start k c : ℕ) where
  pub run_at : in_run start k c ≡ true → (start ≤ c) × (c < start + k)
  run_at h = let x = (spans_law start k c).0 h in (x.from, x.upto)

  pub at_run : start ≤ c → c < start + k → in_run start k c ≡ true
  at_run l m = (spans_law start k c).1 (record { from = l; upto = m })

  pub not_run : (c < start) ⊎ (start + k ≤ c) → in_run start k c ≡ false
  not_run (inl l) = no_true (in_run start k c) (λ h. omega (arith, (run_at h).0))
  not_run (inr l) = no_true (in_run start k c) (λ h. omega (arith, (run_at h).1))

-- each byte by its block
module _ (old : List ℕ) (t : ℕ) (cand : List ℕ) (start : ℕ) (e : ℕ → Bool) where
  pub outcome_length : length (outcome_bytes old t cand start e) ≡ length old
  unfolding outcome_bytes
  outcome_length = length_tabulate (length old) 0 (outcome_byte old t cand start e)

  module _ (c i : ℕ) (l : i < length old) (q : i / 2048 ≡ c) where
    outcome_at_lem : get_or (outcome_bytes old t cand start e) i 0 ≡ unless (in_run start (blocks_of t) c) (cleared_byte old e i) (run_byte t cand (i - start * 2048))
    unfolding outcome_bytes outcome_byte
    outcome_at_lem = get_or_tabulate (length old) (outcome_byte old t cand start e) i l ∙ rw q

    pub outcome_run : in_run start (blocks_of t) c ≡ true → get_or (outcome_bytes old t cand start e) i 0 ≡ run_byte t cand (i - start * 2048)
    unfolding unless
    outcome_run h = outcome_at_lem ∙ rw h

    pub outcome_out : in_run start (blocks_of t) c ≡ false → get_or (outcome_bytes old t cand start e) i 0 ≡ cleared_byte old e i
    unfolding unless
    outcome_out h = outcome_at_lem ∙ rw h

    pub outcome_emptied : in_run start (blocks_of t) c ≡ false → emptied_at old e c ≡ true → get_or (outcome_bytes old t cand start e) i 0 ≡ 255
    unfolding cleared_byte unless
    outcome_emptied h g = outcome_out h ∙ rw (q, g)

    pub outcome_kept : in_run start (blocks_of t) c ≡ false → emptied_at old e c ≡ false → get_or (outcome_bytes old t cand start e) i 0 ≡ get_or old i 0
    unfolding cleared_byte unless
    outcome_kept h g = outcome_out h ∙ rw (q, g)
