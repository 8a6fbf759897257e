-- The kind of a block by the directory, as the code finds it.
--   finding    the scan of the entries, as `search` takes it
use Rattle.std.specs.Prelude.{ℕ, ◌+◌, ◌<◌, ◌≤◌, ◌≡◌, Bool, true, false, get_or}
use Rattle.std.proofs.Common.{sym, ◌∙◌}
use native.Mathlib.Omega.{arith}
use borrow.Author.Tests.{lt-ltb, le-ltb}
use Rattle.laws.specs.Below.{any_below, any_none, any_more}
use Rattle.laws.specs.Span.{spans}
use Rattle.laws.specs.First.{first_found, first_none}
use Rattle.store_directory.specs.declared.kind.Kind.{Kind}
use Rattle.store_directory.specs.declared.kind.Kind.TheVariants.{Unused}
use Rattle.store_directory.specs.declared.Directory.{Directory}
use Rattle.store_directory.specs.Kind.{owns_at, kind_if, kind_by, kind_in}

-- the scan of the entries: r is what a call answered of entry i, and z the kind that another gave
module _ (d : Directory) (b i : ℕ) (none : any_below i (owns_at d b) ≡ false) where
  pub kind_found : (start size : ℕ) (r : Bool) (z : Kind) → start ≡ get_or d.starts i 0 → size ≡ get_or d.sizes i 0 → i < d.count
      → r ≡ spans start size b → r ≡ true → z ≡ kind_if start size b → z ≡ kind_in d b
  unfolding kind_in kind_by owns_at
  kind_found start size r z e f l h k q =
      q ∙ rw (first_found d.count i (owns_at d b) none l (rw (← e, ← f) (sym h ∙ k)), lt-ltb i d.count l, e, f)

  pub kind_next : (start size : ℕ) (r : Bool) → start ≡ get_or d.starts i 0 → size ≡ get_or d.sizes i 0 → r ≡ spans start size b → r ≡ false → any_below (i + 1) (owns_at d b) ≡ false
  unfolding owns_at
  kind_next start size r e f h k = any_more (owns_at d b) i none (rw (← e, ← f) (sym h ∙ k))

  pub kind_none : i ≤ d.count → d.count ≤ i → Unused ≡ kind_in d b
  unfolding kind_in kind_by
  kind_none l m =
      let q : i ≡ d.count = omega arith in
      rw (first_none d.count (owns_at d b) (rw q at none), le-ltb d.count d.count (omega arith))

pub ruleset finding = (any_none, kind_found, kind_next, kind_none)
