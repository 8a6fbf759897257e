-- The sizes of a good candidate, as the verdict gives them.
--   entries_few             a good verdict names at most 64 entries
--   good_data, good_count   the numbers of data bytes and of pairs
--   good_total              T
use Rattle.std.specs.Prelude.{ℕ, ◌+◌, ◌≤◌, ◌≡◌, List, Ok}
use Rattle.std.proofs.Common.{sym, ◌∙◌}
use Rattle.update_header.specs.Fields.{data_size, total_size}
use Rattle.update_header.specs.Inside.{inside}
use Rattle.update_verdict.specs.Verdict.{Verdict, verdict}
use Rattle.update_verdict.specs.declared.Measures.{Measures}
use Rattle.update_verdict.specs.VerdictLaws.{Judged, judged}
use Rattle.update_coverage.specs.Covers.{pair_count}
use Rattle.update_coverage.proofs.PairLaws.{pairs_made}

-- v is what a call answered
module _ (cand : List ℕ) (v : Verdict) (m : Measures) (e : v ≡ verdict cand) (h : v ≡ Ok m) where
  facts : Judged cand m.total m.data m.entries m.blocks
  facts = judged cand m.total m.data m.entries m.blocks (sym e ∙ h)

  pub entries_few : m.entries ≤ 64
  entries_few = rw facts.entries (inside cand facts.sizes).sized.few

  pub good_data : m.data ≡ data_size cand
  good_data = facts.data

  pub good_count : m.entries + 1 ≡ pair_count cand
  good_count = rw facts.entries (sym (pairs_made cand facts.header facts.sizes))

  pub good_total : m.total ≡ total_size cand
  good_total = facts.total
