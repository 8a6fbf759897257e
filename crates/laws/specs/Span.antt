-- Number c is one of the `size` numbers from `start` on.
--   spans, Spans    as a Bool that computes, and by both ends
--   spans_law       the two say the same
use Rattle.std.specs.Prelude.{ℕ, ◌+◌, ◌<◌, ◌≤◌, ◌≡◌, Bool, true, ◌&&◌, ◌↔◌, leb, ltb}
use Rattle.std.proofs.Common.{leb-true, ltb-true, le-leb, lt-ltb}
use Rattle.laws.specs.Bools.{and_parts, and_made}

unfoldable pub spans : ℕ → ℕ → ℕ → Bool
spans start size c = leb start c && ltb c (start + size)

pub record Spans (start size c : ℕ) : Type 0 where
  pub from : start ≤ c
  pub upto : c < start + size

pub spans_law : (start size c : ℕ) → (spans start size c ≡ true) ↔ Spans start size c
unfolding spans
spans_law start size c = (
  λ h. let x = and_parts (leb start c) (ltb c (start + size)) h in record { from = leb-true start c x.0; upto = ltb-true c (start + size) x.1 },
  λ x. and_made (le-leb start c x.from) (lt-ltb c (start + size) x.upto),
)
