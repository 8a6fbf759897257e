-- Whether two updates share a processor, listed or not (document 01, "The store" and check 6 of the write).
--   both_name, common       two flags name platform p; they name a common one
--   pair_shares, shares_at  two pairs have the same signature and a common platform; pair i of a and pair j of b do
--   has_signature           pair j has signature x
--   both_alone              by the readings of two headers each update has one pair
--   headers_apart           and these don't share
--   shares                  some pair of a and some pair of b share
--   Shares                  there is a processor that both cover; `ShareLaws` joins the two
use Rattle.std.specs.Prelude.{ℕ, ◌<◌, ◌≡◌, Bool, true, not, ◌&&◌, List, eqb}
use Rattle.laws.specs.Below.{any_below, rows}
use Rattle.update_coverage.specs.Covers.{pair_count, signature_at, platforms_at, names, covers}
use Rattle.update_coverage.specs.declared.Pairs.{Pairs}

unfoldable pub both_name : ℕ → ℕ → ℕ → Bool
both_name f g p = names f p && names g p

unfoldable pub common : ℕ → ℕ → Bool
common f g = any_below 8 (both_name f g)

unfoldable pub pair_shares : ℕ → ℕ → ℕ → ℕ → Bool
pair_shares x f y g = eqb x y && common f g

unfoldable pub shares_at : List ℕ → List ℕ → ℕ → ℕ → Bool
shares_at a b i j = pair_shares (signature_at a i) (platforms_at a i) (signature_at b j) (platforms_at b j)

-- pair j of s has signature x
unfoldable pub has_signature : ℕ → List ℕ → ℕ → Bool
has_signature x s j = eqb x (signature_at s j)

unfoldable pub both_alone : Pairs → Pairs → Bool
both_alone p q = eqb p.count 1 && eqb q.count 1

unfoldable pub headers_apart : Pairs → Pairs → Bool
headers_apart p q = both_alone p q && not (pair_shares p.signature p.platforms q.signature q.platforms)

unfoldable pub shares : List ℕ → List ℕ → Bool
shares a b = any_below (pair_count a) (rows (pair_count b) (shares_at a b))

-- there is a signature and a platform from 0 to 7 that both cover
pub record Shares (a b : List ℕ) : Type 0 where
  pub signature : ℕ
  pub platform : ℕ
  pub processor : platform < 8
  pub left : covers a signature platform ≡ true
  pub right : covers b signature platform ≡ true
