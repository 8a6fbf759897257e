-- Laws of views.
--   viewing         the bytes of a view by the verdict, as `search` takes them
--   seen            the view of a good update is that update: its verdict, fields, sizes and data
--   only_good       a view holds bytes only of a good update
--   holds_update    a view of s holds bytes exactly if an update begins s
use Rattle.std.specs.Prelude.{ℕ, ◌+◌, ◌≤◌, ◌≡◌, refl, true, List, length, get_or, take, drop, Ok, Err}
use Rattle.std.proofs.Math.Path.{sym}
use Rattle.std.proofs.Common.{ap, ◌∙◌, true≢false, arith, get_or-take, length-take-le}
use Rattle.std.proofs.Math.ListN.{length-drop}
use borrow.Author.Tests.{lt-ltb}
use Rattle.laws.specs.Same.{Same}
use Rattle.bytes_dwords.specs.Dword.{dword}
use Rattle.update_header.specs.Fields.{data_size}
use Rattle.update_header.specs.DataPart.{data_part}
use Rattle.update_header.specs.DataPartLaws.{part_same}
use Rattle.update_verdict.specs.Verdict.{Verdict, measures, Good, BadHeader, BadSum, verdict}
use Rattle.update_verdict.specs.VerdictLaws.{judged, good_size}
use Rattle.update_verdict.specs.VerdictLocal.{field_local, data_local, verdict_local}
use Rattle.update_verdict.specs.declared.Measures.{Measures}
use Rattle.update_verdict.specs.declared.BadUpdate.{BadUpdate}
use Rattle.update_verdict.specs.declared.BadUpdate.TheVariants.{Header, Sum}
use Rattle.update_view.specs.View.{viewed_by, viewed, is_good, is_update, holds_bytes}
use Rattle.update_view.specs.ViewLaws.{Seen}

-- c is the verdict that is matched
module _ (s : List ℕ) (c : Verdict) (e : c ≡ verdict s) where
  module _ (m : Measures) (h : c ≡ Ok m) where
    pub view_count : m.total ≡ length (take m.total s)
    view_count = sym (length-take-le m.total s (good_size s m.total m.data m.entries m.blocks (sym e ∙ h)).2)

    pub view_good : take m.total s ≡ viewed s
    unfolding viewed viewed_by
    view_good = rw (← e, h)

  pub view_header : c ≡ BadHeader → take 0 s ≡ viewed s
  unfolding viewed viewed_by
  view_header h = rw (← e, h)

  pub view_sum : c ≡ BadSum → take 0 s ≡ viewed s
  unfolding viewed viewed_by
  view_sum h = rw (← e, h)

  pub view_bad : (x : BadUpdate) → c ≡ Err x → take 0 s ≡ viewed s
  view_bad Header h = view_header h
  view_bad Sum h = view_sum h

pub ruleset viewing = (view_count, view_good, view_bad)

module _ (s : List ℕ) (t d n k : ℕ) (g : verdict s ≡ Good t d n k) where
  size : (48 ≤ t) × (t ≤ 32768) × (t ≤ length s) × (48 + d ≤ t)
  size = good_size s t d n k g

  front : take t s ≡ viewed s
  front = view_good s (verdict s) refl (measures t d n k) g

  long : length (viewed s) ≡ t
  long = rw (← front) (length-take-le t s size.2)

  same : Same s (viewed s) t
  same i l = sym (get_or-take t s i 0 l) ∙ ap (λ (v : List ℕ). get_or v i 0) front

  field : (i : ℕ) → i + 4 ≤ 48 → dword (viewed s) i ≡ dword s i
  field i l = sym (field_local s (viewed s) t d n k g same (omega (arith, long)) i l)

  counted : d ≡ data_size (viewed s)
  counted = (judged s t d n k g).«data» ∙ data_local s (viewed s) t d n k g same (omega (arith, long))

  pub seen : Seen s t d n k
  unfolding data_part
  seen = record {
    update = lt-ltb 0 (length (viewed s)) (omega (arith, long, size));
    good = verdict_local s (viewed s) t d n k g same (omega (arith, long));
    version_same = field 0 (omega arith);
    revision_same = field 4 (omega arith);
    date_same = field 8 (omega arith);
    signature_same = field 12 (omega arith);
    checksum_same = field 16 (omega arith);
    loader_version_same = field 20 (omega arith);
    flags_same = field 24 (omega arith);
    total = long;
    data_same = sym (part_same s (viewed s) t (omega (arith, (judged s t d n k g).«data», size)) size.2 (omega (arith, long)) same);
    data_long = rw (← counted) (length-take-le d (drop 48 (viewed s)) (omega (arith, length-drop 48 (viewed s), long, size)));
  }

-- a view holds bytes only of a good update
pub only_good : (s : List ℕ) → holds_bytes (viewed s) ≡ true → (t : ℕ) × (d : ℕ) × (n : ℕ) × (k : ℕ) × (verdict s ≡ Good t d n k)
unfolding viewed viewed_by
only_good s h = go (verdict s) refl h
  where
    go : (c : Verdict) → verdict s ≡ c → holds_bytes (viewed_by s c) ≡ true → (t : ℕ) × (d : ℕ) × (n : ℕ) × (k : ℕ) × (verdict s ≡ Good t d n k)
    go (Ok m) e h = (m.total, m.data, m.entries, m.blocks, e)
    go (Err Header) e h = absurd (true≢false (sym h))
    go (Err Sum) e h = absurd (true≢false (sym h))

-- a view of s holds bytes exactly if an update begins s
pub holds_update : (s : List ℕ) → holds_bytes (viewed s) ≡ is_update s
unfolding viewed viewed_by is_update
holds_update s = go (verdict s) refl
  where
    go : (c : Verdict) → verdict s ≡ c → holds_bytes (viewed_by s c) ≡ is_good c
    go (Ok m) e = ap (λ (c : Verdict). holds_bytes (viewed_by s c)) (sym e) ∙ (seen s m.total m.data m.entries m.blocks e).update
    go (Err Header) e = refl
    go (Err Sum) e = refl
