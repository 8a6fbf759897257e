-- The law that ties the Bool that computes to the statement in words, and the scan of pairs.
--   shares_law     two updates share exactly if there is a processor that both cover
--   common_and     two bytes of flags have a common platform exactly if their `and` isn't 0
--   meets          the nested scan of pairs, as `search` takes it
--   not_alone .. alone_apart     the tests of two readings
--   one_pair, headers_apart_lem  two updates that have the header's pair alone, by the readings of their headers
use Rattle.std.specs.Prelude.{ℕ, ◌+◌, ◌%◌, ◌<◌, ◌≡◌, Bool, not, List, ◌↔◌, eqb}
use Rattle.std.proofs.Math.Path.{refl, sym, ap}
use Rattle.std.proofs.Common.{◌∙◌, arith}
use Rattle.std.proofs.Math.Bool.{true, false}
use Rattle.std.specs.Int.Bits.{bit_and}
use Rattle.std.proofs.lemmas.Nat.{and_le_l}
use borrow.Author.Tests.{eq-eqb, eqb-true, lt-ltb, not-true}
use Rattle.laws.specs.Bools.{and_parts, and_made}
use Rattle.laws.specs.Below.{any_below, rows, any_more, any_stop, any_at, any_false, any_cong}
use Rattle.laws.specs.Count.{count_below, count_zero}
use Rattle.laws.specs.Loops.{scan, scan_more, nest_stop}
use Rattle.laws.specs.LowByte.{both_bit, common_bit}
use Rattle.update_coverage.specs.Covers.{pair_count, pairs_of, signature_at, platforms_at, names}
use Rattle.update_coverage.specs.declared.Pairs.{Pairs}
use Rattle.update_coverage.proofs.PairLaws.{count_is}
use Rattle.update_coverage.proofs.CoverLaws.{names_parts, covers_at_lem, covers_made}
use Rattle.update_sharing.specs.Shares.{both_name, common, pair_shares, shares_at, has_signature, both_alone, headers_apart, shares, Shares}

common_made : (f g p : ℕ) → names f p ≡ true → names g p ≡ true → common f g ≡ true
unfolding common both_name
common_made f g p h k = any_stop (both_name f g) 8 p (names_parts f p h).0 (and_made h k)

common_at : (f g : ℕ) → common f g ≡ true → (p : ℕ) × (names f p ≡ true) × (names g p ≡ true)
unfolding common both_name
common_at f g h = let p = any_at (both_name f g) 8 h in let a = and_parts (names f p.0) (names g p.0) p.2 in (p.0, a.0, a.1)

module _ (a b : List ℕ) where
  shares_made : (i j : ℕ) → i < pair_count a → j < pair_count b → signature_at a i ≡ signature_at b j → common (platforms_at a i) (platforms_at b j) ≡ true → shares a b ≡ true
  unfolding shares rows shares_at pair_shares
  shares_made i j l m e h =
      any_stop (rows (pair_count b) (shares_at a b)) (pair_count a) i l
      (any_stop (shares_at a b i) (pair_count b) j m
      (rw (eq-eqb (signature_at a i) (signature_at b j) e) h))

  shares_at_lem : shares a b ≡ true → (i : ℕ) × (j : ℕ) × (i < pair_count a) × (j < pair_count b) × (signature_at a i ≡ signature_at b j) × (common (platforms_at a i) (platforms_at b j) ≡ true)
  unfolding shares rows shares_at pair_shares
  shares_at_lem h =
      let i = any_at (rows (pair_count b) (shares_at a b)) (pair_count a) h in
      let j = any_at (shares_at a b i.0) (pair_count b) i.2 in
      let e = and_parts (eqb (signature_at a i.0) (signature_at b j.0)) (common (platforms_at a i.0) (platforms_at b j.0)) j.2 in
      (i.0, j.0, i.1, j.1, eqb-true _ _ e.0, e.1)

  pub shares_law : (shares a b ≡ true) ↔ Shares a b
  shares_law = (
    λ h.
        let w = shares_at_lem h in
        let p = common_at (platforms_at a w.0) (platforms_at b w.1) w.5 in
        record {
          signature = signature_at a w.0;
          platform = p.0;
          processor = (names_parts (platforms_at a w.0) p.0 p.1).0;
          left = covers_made a (signature_at a w.0) p.0 w.0 w.2 refl p.1;
          right = covers_made b (signature_at a w.0) p.0 w.1 w.3 (sym w.4) p.2;
        },
    λ y.
        let i = covers_at_lem a y.signature y.platform y.left in
        let j = covers_at_lem b y.signature y.platform y.right in
        shares_made i.0 j.0 i.1 j.1 (i.2 ∙ sym j.2) (common_made (platforms_at a i.0) (platforms_at b j.0) y.platform i.3 j.3),
  )

-- below 8 a name is a bit
both_same : (f g p : ℕ) → p < 8 → both_name f g p ≡ both_bit f g p
unfolding both_name both_bit names
both_same f g p l = rw (lt-ltb p 8 l)

pub common_and : (f g : ℕ) → f < 256 → common f g ≡ not (eqb (bit_and f g) 0)
unfolding common
common_and f g l =
    let e : bit_and f g % 256 ≡ bit_and f g = omega (arith, and_le_l f g) in
    any_cong (both_name f g) (both_bit f g) 8 (λ p h. both_same f g p h) ∙ rw e at (common_bit f g)

-- a turn of the inner scan, and its way out: x and f are the fields of pair i of a, read before, and r is what a call answered of them and pair j of b
module _ (a b : List ℕ) (i j x f : ℕ) (r : Bool) (e : x ≡ signature_at a i) (g : f ≡ platforms_at a i) (h : r ≡ pair_shares x f (signature_at b j) (platforms_at b j)) where
  share_is : r ≡ shares_at a b i j
  unfolding shares_at
  share_is = rw (← e, ← g) h

  pub share_more : any_below j (shares_at a b i) ≡ false → r ≡ false → any_below (j + 1) (shares_at a b i) ≡ false
  share_more k o = scan_more (shares_at a b i) r j k share_is o

  pub share_stop : (k l m n : ℕ) → l ≡ k → m ≡ n → i < l → j < m → r ≡ true → true ≡ any_below k (rows n (shares_at a b))
  share_stop k l m n o p u v t = nest_stop (shares_at a b) i j m n p r k l o u v share_is t

-- a pair of b with another signature doesn't share with pair i of a
apart : (a b : List ℕ) (i j x : ℕ) → x ≡ signature_at a i → has_signature x b j ≡ false → shares_at a b i j ≡ false
unfolding has_signature shares_at pair_shares
apart a b i j x e q = rw (← e, q)

-- a turn of the outer scan: x is the signature of pair i of a, and no pair of b has it, since c is how many do
pub none_alike : (a b : List ℕ) (i x c : ℕ) → x ≡ signature_at a i → c ≡ count_below (pair_count b) (has_signature x b) → c ≡ 0 → any_below i (rows (pair_count b) (shares_at a b)) ≡ false → any_below (i + 1) (rows (pair_count b) (shares_at a b)) ≡ false
unfolding rows
none_alike a b i x c e h z k = any_more (rows (pair_count b) (shares_at a b)) i k (any_false (shares_at a b i) (pair_count b) (λ j l. apart a b i j x e (count_zero (has_signature x b) (pair_count b) j (sym h ∙ z) l)))

-- two updates with one pair each, by the readings of their headers: n is what a call answered of their numbers
module _ (a b : List ℕ) (p q : Pairs) (e : p ≡ pairs_of a) (f : q ≡ pairs_of b) where
  -- r is what a call answered of the two pairs
  pub one_pair : (n r : Bool) → n ≡ both_alone p q → n ≡ true → r ≡ pair_shares p.signature p.platforms q.signature q.platforms → r ≡ shares a b
  unfolding both_alone pairs_of shares rows shares_at any_below
  one_pair n r k t h =
      let c = and_parts (eqb p.count 1) (eqb q.count 1) (sym k ∙ t) in
      let x : pair_count a ≡ 1 = sym (count_is a p e) ∙ eqb-true p.count 1 c.0 in
      let y : pair_count b ≡ 1 = sym (count_is b q f) ∙ eqb-true q.count 1 c.1 in
      h ∙ ap (λ (z : Pairs). pair_shares z.signature z.platforms q.signature q.platforms) e
      ∙ ap (λ (z : Pairs). pair_shares (signature_at a 0) (platforms_at a 0) z.signature z.platforms) f ∙ rw (x, y)

  -- r is what a call answered of the readings
  pub headers_apart_lem : (r : Bool) → r ≡ headers_apart p q → r ≡ true → false ≡ shares a b
  unfolding headers_apart
  headers_apart_lem r h t =
      let s = pair_shares p.signature p.platforms q.signature q.platforms in
      let y = and_parts (both_alone p q) (not s) (sym h ∙ t) in
      one_pair true false (sym y.0) refl (sym (not-true s y.1))

-- the tests of two readings, a return at each
module _ (p q : Pairs) (n : Bool) (k : n ≡ both_alone p q) where
  pub not_alone : n ≡ false → false ≡ headers_apart p q
  unfolding headers_apart
  not_alone t = rw (← k, t)

  module _ (t : n ≡ true) (r : Bool) (h : r ≡ pair_shares p.signature p.platforms q.signature q.platforms) where
    pub alone_shares : r ≡ true → false ≡ headers_apart p q
    unfolding headers_apart
    alone_shares u = rw (← k, t, ← h, u)

    pub alone_apart : r ≡ false → true ≡ headers_apart p q
    unfolding headers_apart
    alone_apart u = rw (← k, t, ← h, u)

pub ruleset meets = (share_more, share_stop, none_alike, scan, count_is)
