-- The laws of counting loops, in the form in which `search` takes them: r is what a call answered of number i, and m the local that
-- holds the bound n.
--   scan   a loop that leaves at the first number that passes, alone or inside another
--   each   a loop that leaves at the first number that fails
use Rattle.std.specs.Prelude.{ℕ, ◌+◌, ◌<◌, ◌≤◌, ◌≡◌, Bool, true, false}
use Rattle.std.proofs.Math.Path.{sym}
use Rattle.std.proofs.Common.{◌∙◌, arith}
use Rattle.laws.specs.Below.{all_below, any_below, rows, all_none, all_more, all_stop, any_none, any_more, any_stop}

module _ (p : ℕ → Bool) (r : Bool) (i : ℕ) where
  pub scan_more : any_below i p ≡ false → r ≡ p i → r ≡ false → any_below (i + 1) p ≡ false
  scan_more h e f = any_more p i h (sym e ∙ f)

  pub scan_stop : (m n : ℕ) → m ≡ n → i < m → r ≡ p i → r ≡ true → true ≡ any_below n p
  scan_stop m n q l e t = sym (any_stop p n i (rw q at l) (sym e ∙ t))

module _ (p : ℕ → Bool) (i : ℕ) where
  pub scan_done : (m n : ℕ) → m ≡ n → i ≤ m → m ≤ i → any_below i p ≡ false → false ≡ any_below n p
  scan_done m n q l k h = let e : i ≡ n = omega arith in sym (rw e at h)

  -- a flag that was never set
  pub scan_unset : (f : Bool) (m n : ℕ) → f ≡ false → m ≡ n → i ≤ m → m ≤ i → any_below i p ≡ false → f ≡ any_below n p
  scan_unset f m n u q l k h = u ∙ scan_done m n q l k h

-- one scan inside another
module _ (q : ℕ → ℕ → Bool) (i j m n : ℕ) (e : m ≡ n) where
  pub nest_more : any_below i (rows n q) ≡ false → any_below j (q i) ≡ false → j ≤ m → m ≤ j → any_below (i + 1) (rows n q) ≡ false
  unfolding rows
  nest_more h k l o = any_more (rows n q) i h (sym (scan_done (q i) j m n e l o k))

  pub nest_stop : (r : Bool) (k l : ℕ) → l ≡ k → i < l → j < m → r ≡ q i j → r ≡ true → true ≡ any_below k (rows n q)
  unfolding rows
  nest_stop r k l f a b g t = sym (any_stop (rows n q) k i (rw f at a) (any_stop (q i) n j (rw e at b) (sym g ∙ t)))

pub ruleset scan = (any_none, scan_more, scan_stop, scan_done, scan_unset, nest_more, nest_stop)

module _ (p : ℕ → Bool) (r : Bool) (i : ℕ) where
  pub each_more : all_below i p ≡ true → r ≡ p i → r ≡ true → all_below (i + 1) p ≡ true
  each_more h e f = all_more p i h (sym e ∙ f)

  pub each_stop : (m n : ℕ) → m ≡ n → i < m → r ≡ p i → r ≡ false → false ≡ all_below n p
  each_stop m n q l e t = sym (all_stop p n i (rw q at l) (sym e ∙ t))

module _ (p : ℕ → Bool) (i : ℕ) where
  pub each_done : (m n : ℕ) → m ≡ n → i ≤ m → m ≤ i → all_below i p ≡ true → true ≡ all_below n p
  each_done m n q l k h = let e : i ≡ n = omega arith in sym (rw e at h)

pub ruleset each = (all_none, each_more, each_stop, each_done)
