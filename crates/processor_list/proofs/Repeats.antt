-- "Repeats are harmless" (document 01, "The store"): a list counts by the processors that it lists, whatever their order and however often.
--   covers_same     an update covers some processor of the one exactly if it covers some of the other
--   needed_same     the same of a listed processor that the candidate doesn't cover
use Rattle.std.specs.Prelude.{ℕ, ◌≡◌, true, List, length, get_or}
use Rattle.std.proofs.Math.Path.{refl}
use Rattle.laws.specs.Bools.{bool_same}
use Rattle.laws.specs.Below.{any_at, any_stop}
use Rattle.processor_list.specs.Processors.{ProcessorList, Listed, covers_listed, covers_one, is_needed}
use Rattle.processor_list.proofs.NeededLaws.{needed_law}
use Rattle.processor_list.specs.Repeats.{SameListed}

-- what the one list says, the other says
module _ (list other : ProcessorList) (same : (x p : ℕ) → Listed list x p → Listed other x p) (u : List ℕ) where
  covers_moved : covers_one list u ≡ true → covers_one other u ≡ true
  unfolding covers_one covers_listed
  covers_moved h =
      let i = any_at (covers_listed list u) (length list.signatures) h in
      let l = same (get_or list.signatures i.0 0) (get_or list.platforms i.0 0) (record { number = i.0; within = i.1; signature = refl; platform = refl }) in
      any_stop (covers_listed other u) (length other.signatures) l.number l.within (rw (l.signature, l.platform) i.2)

  needed_moved : (cand : List ℕ) → is_needed list cand u ≡ true → is_needed other cand u ≡ true
  needed_moved cand h =
      let k = (needed_law list cand u).0 h in
      (needed_law other cand u).1 (record { signature = k.signature; platform = k.platform; listed = same k.signature k.platform k.listed; covered = k.covered; uncovered = k.uncovered })

module _ (list other : ProcessorList) (same : SameListed list other) (u : List ℕ) where
  pub covers_same : covers_one list u ≡ covers_one other u
  covers_same =
      bool_same _ _ (covers_moved list other (λ x p. (same x p).0) u)
      (covers_moved other list (λ x p. (same x p).1) u)

  pub needed_same : (cand : List ℕ) → is_needed list cand u ≡ is_needed other cand u
  needed_same cand =
      bool_same _ _ (needed_moved list other (λ x p. (same x p).0) u cand)
      (needed_moved other list (λ x p. (same x p).1) u cand)
