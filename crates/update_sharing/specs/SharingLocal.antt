-- The processors that an update covers are settled by its T bytes.
--   covers_local     bytes that agree with an update there cover the same processors
--   Alike            two updates cover the same processors
--   shares_move      two updates share a processor if two that cover the same do
--   shares_turn      sharing goes both ways
use Rattle.std.specs.Prelude.{ℕ, ◌+◌, ◌<◌, ◌≤◌, ◌≡◌, List, length}
use Rattle.std.proofs.Common.{sym, ap, ◌∙◌, arith}
use Rattle.laws.specs.Below.{any_cong}
use Rattle.laws.specs.Same.{Same}
use Rattle.bytes_dwords.proofs.DwordLaws.{dword_same}
use Rattle.update_header.specs.Fields.{data_size}
use Rattle.update_verdict.specs.Verdict.{Good, verdict}
use Rattle.update_verdict.specs.VerdictLaws.{Judged, judged}
use Rattle.update_verdict.specs.VerdictLocal.{verdict_local, data_local}
use Rattle.update_coverage.specs.Covers.{pair_count, signature_offset, flags_offset, signature_at, flags_at, platforms_at, covers_at, covers}
use Rattle.update_sharing.specs.Shares.{Shares}
use Rattle.update_coverage.proofs.PairLaws.{pair_inside, pairs_made}

module _ (s r : List ℕ) (t d n k : ℕ) (good : verdict s ≡ Good t d n k) (same : Same s r t) (long : t ≤ length r) where
  here : Judged s t d n k
  here = judged s t d n k good

  there : Judged r t d n k
  there = judged r t d n k (verdict_local s r t d n k good same long)

  data_same : data_size s ≡ data_size r
  data_same = data_local s r t d n k good same long

  pairs_local : pair_count s ≡ pair_count r
  pairs_local =
      pairs_made s here.header here.sizes
      ∙ ap (λ (m : ℕ). m + 1) (sym here.entries ∙ there.entries)
      ∙ sym (pairs_made r there.header there.sizes)

  signature_local : (i : ℕ) → i < pair_count s → signature_at s i ≡ signature_at r i
  unfolding signature_at
  signature_local i l = rw (← data_same) (dword_same s r t (signature_offset (data_size s) i) same (omega (arith, (pair_inside s i l).signature, here.total)))

  platforms_local : (i : ℕ) → i < pair_count s → platforms_at s i ≡ platforms_at r i
  unfolding platforms_at flags_at
  platforms_local i l = rw (← data_same, dword_same s r t (flags_offset (data_size s) i) same (omega (arith, (pair_inside s i l).flags, here.total)))

  pub covers_local : (x p : ℕ) → covers s x p ≡ covers r x p
  unfolding covers covers_at
  covers_local x p = rw (← pairs_local) (any_cong (covers_at s x p) (covers_at r x p) (pair_count s) (λ i l. rw (signature_local i l, platforms_local i l)))

abbrev pub Alike : List ℕ → List ℕ → Type 0
Alike a b = (x p : ℕ) → covers a x p ≡ covers b x p

pub shares_move : (a b c d : List ℕ) → Alike a c → Alike b d → Shares c d → Shares a b
shares_move a b c d e f w =
    record { signature = w.signature; platform = w.platform; processor = w.processor; left = e w.signature w.platform ∙ w.left; right = f w.signature w.platform ∙ w.right }

pub shares_turn : (a b : List ℕ) → Shares a b → Shares b a
shares_turn a b w = record { signature = w.signature; platform = w.platform; processor = w.processor; left = w.right; right = w.left }
