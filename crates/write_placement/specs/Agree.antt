-- The choice of a run goes by the updates below the count, and no others.
--   Agree                     two tables of updates are the same below the count
--   choose_same, shared_same, both_marks_same    then so are the choice, the number that share, and check 7
use Rattle.std.specs.Prelude.{ℕ, suc, ◌-◌, ◌<◌, ◌≡◌}
use Rattle.std.proofs.Common.{◌∙◌}
use Rattle.laws.specs.Below.{any_below, any_cong}
use Rattle.laws.specs.Count.{count_below, count_cong}
use Rattle.laws.proofs.Least.{least_cong}
use Rattle.write_marks.specs.StoredUpdates.{StoredUpdates}
use Rattle.write_marks.specs.Against.{rules_out, loses, ruled_out, lost, both_marks}
use Rattle.write_placement.specs.Choose.{choose}

-- two tables of updates that agree below the count
pub record Agree (g h : StoredUpdates) : Type 0 where
  pub count : g.count ≡ h.count
  pub start : (i : ℕ) → i < g.count → g.start i ≡ h.start i
  pub size : (i : ℕ) → i < g.count → g.size i ≡ h.size i
  pub shares : (i : ℕ) → i < g.count → g.shares i ≡ h.shares i
  pub needed : (i : ℕ) → i < g.count → g.needed i ≡ h.needed i

module _ (g h : StoredUpdates) (a : Agree g h) where
  rules_out_same : (k s i : ℕ) → i < g.count → rules_out g k s i ≡ rules_out h k s i
  unfolding rules_out
  rules_out_same k s i l = rw (a.start i l, a.size i l, a.shares i l, a.needed i l)

  loses_same : (k s i : ℕ) → i < g.count → loses g k s i ≡ loses h k s i
  unfolding loses
  loses_same k s i l = rw (a.start i l, a.size i l, a.shares i l)

  ruled_out_same : (k s : ℕ) → ruled_out g k s ≡ ruled_out h k s
  unfolding ruled_out
  ruled_out_same k s = any_cong (rules_out g k s) (rules_out h k s) g.count (rules_out_same k s) ∙ rw a.count

  lost_same : (k s : ℕ) → lost g k s ≡ lost h k s
  unfolding lost
  lost_same k s = count_cong (loses g k s) (loses h k s) g.count (loses_same k s) ∙ rw a.count

  pub choose_same : (n k : ℕ) → choose n k g ≡ choose n k h
  unfolding choose
  choose_same n k = least_cong (ruled_out g k) (ruled_out h k) (lost g k) (lost h k) (suc n - k) (ruled_out_same k) (lost_same k)

  pub shared_same : count_below g.count g.shares ≡ count_below h.count h.shares
  shared_same = count_cong g.shares h.shares g.count a.shares ∙ rw a.count

  both_marks_at : (i : ℕ) → i < g.count → both_marks g i ≡ both_marks h i
  unfolding both_marks
  both_marks_at i l = rw (a.shares i l, a.needed i l)

  pub both_marks_same : any_below g.count (both_marks g) ≡ any_below h.count (both_marks h)
  both_marks_same = any_cong (both_marks g) (both_marks h) g.count both_marks_at ∙ rw a.count
