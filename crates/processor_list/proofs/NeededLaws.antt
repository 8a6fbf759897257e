-- What it is to be needed.
--   needed_law        the Bool says what the words do
--   unshared_needed   of an update that doesn't share: it covers some listed processor
use Rattle.std.specs.Prelude.{ℕ, ◌≡◌, refl, Bool, true, false, not, ◌&&◌, List, ◌↔◌, length, get_or}
use Rattle.std.proofs.Common.{sym, ◌∙◌, true≢false}
use Rattle.std.proofs.lemmas.Bool.{not-true}
use Rattle.laws.specs.Bools.{and_parts, no_true}
use Rattle.laws.specs.Below.{any_at, any_stop, any_cong}
use Rattle.update_coverage.specs.Covers.{covers}
use Rattle.update_sharing.specs.Shares.{shares}
use Rattle.update_coverage.proofs.CoverLaws.{covers_platform}
use Rattle.update_sharing.proofs.ShareLaws.{shares_law}
use Rattle.processor_list.specs.Processors.{ProcessorList, covers_listed, covers_one, needed_for, is_needed, Needed}

pub needed_law : (list : ProcessorList) (cand u : List ℕ) → (is_needed list cand u ≡ true) ↔ Needed list cand u
unfolding is_needed needed_for covers_listed
needed_law list cand u = (
  λ h.
      let i = any_at (needed_for list cand u) (length list.signatures) h in
      let a = and_parts (covers_listed list u i.0) (not (covers_listed list cand i.0)) i.2 in
      record {
        signature = get_or list.signatures i.0 0;
        platform = get_or list.platforms i.0 0;
        listed = record { number = i.0; within = i.1; signature = refl; platform = refl };
        covered = a.0;
        uncovered = not-true _ a.1;
      },
  λ k.
      let l = k.listed in
      any_stop (needed_for list cand u) (length list.signatures) l.number l.within
      (rw (l.signature, l.platform, k.covered, k.uncovered)),
)

-- a processor that u covers, where u and the candidate share none
unshared_one : (cand u : List ℕ) (x p : ℕ) → shares u cand ≡ false → (t : Bool) → covers u x p ≡ t → t && not (covers cand x p) ≡ t
unshared_one cand u x p h false e = refl
unshared_one cand u x p h true e =
    rw (no_true (covers cand x p) (λ c.
    true≢false (sym ((shares_law u cand).1 (record { signature = x; platform = p; processor = covers_platform u x p e; left = e; right = c })) ∙ h)))

pub unshared_needed : (list : ProcessorList) (cand u : List ℕ) → shares u cand ≡ false → is_needed list cand u ≡ covers_one list u
unfolding is_needed needed_for covers_one covers_listed
unshared_needed list cand u h =
    any_cong (needed_for list cand u) (covers_listed list u) (length list.signatures)
    (λ i l. unshared_one cand u (get_or list.signatures i 0) (get_or list.platforms i 0) h (covers u (get_or list.signatures i 0) (get_or list.platforms i 0)) refl)
