-- The board's processor list (document 01, "The store"), and what it makes of a stored update.
--   ProcessorList    signatures with platform numbers
--   list_of          two lent slices as a list
--   platform_ok      platform number i is at most 7
--   list_ok          1 to 8 signatures with as many platform numbers, each at most 7
--   Listed           the processor of signature x and platform p is listed: present, in the words of demand 3
--   covers_listed    the update covers listed processor i
--   covers_one       the update covers some listed processor
--   needed_for       the update covers listed processor i, and the candidate doesn't
--   is_needed        the update is needed: it covers a listed processor that the candidate doesn't cover
--   Needed           the same in words; `needed_law` (NeededLaws) joins the two
use Rattle.std.specs.Prelude.{ℕ, ◌<◌, ◌≡◌, Bool, true, false, not, ◌&&◌, List, length, get_or, leb, eqb}
use Rattle.laws.specs.Below.{all_below, any_below}
use Rattle.update_coverage.specs.Covers.{covers}

pub record ProcessorList : Type 0 where
  pub signatures : List ℕ
  pub platforms : List ℕ

abbrev pub list_of : List ℕ → List ℕ → ProcessorList
list_of signatures platforms = record { signatures = signatures; platforms = platforms }

-- platform number i is at most 7
unfoldable pub platform_ok : List ℕ → ℕ → Bool
platform_ok platforms i = leb (get_or platforms i 0) 7

unfoldable pub list_ok : ProcessorList → Bool
list_ok list =
    eqb (length list.signatures) (length list.platforms) && leb 1 (length list.signatures) && leb (length list.signatures) 8
    && all_below (length list.platforms) (platform_ok list.platforms)

pub record Listed (list : ProcessorList) (x p : ℕ) : Type 0 where
  pub number : ℕ
  pub within : number < length list.signatures
  pub signature : get_or list.signatures number 0 ≡ x
  pub platform : get_or list.platforms number 0 ≡ p

-- the update u covers listed processor i
unfoldable pub covers_listed : ProcessorList → List ℕ → ℕ → Bool
covers_listed list u i = covers u (get_or list.signatures i 0) (get_or list.platforms i 0)

unfoldable pub covers_one : ProcessorList → List ℕ → Bool
covers_one list u = any_below (length list.signatures) (covers_listed list u)

-- the update u covers listed processor i, and the candidate doesn't
unfoldable pub needed_for : ProcessorList → List ℕ → List ℕ → ℕ → Bool
needed_for list cand u i = covers_listed list u i && not (covers_listed list cand i)

unfoldable pub is_needed : ProcessorList → List ℕ → List ℕ → Bool
is_needed list cand u = any_below (length list.signatures) (needed_for list cand u)

pub record Needed (list : ProcessorList) (cand u : List ℕ) : Type 0 where
  pub signature : ℕ
  pub platform : ℕ
  pub listed : Listed list signature platform
  pub covered : covers u signature platform ≡ true
  pub uncovered : covers cand signature platform ≡ false
