-- Laws of the blocks of a set, in the form in which a proof of the code takes them: r is what a call answered.
--   takes_not, takes_owned   a return at each test of `takes`
--   bits_none .. bits_done   the loop over the blocks
--   bits_room                its sum stays small
use Rattle.std.specs.Prelude.{◌≡◌, ℕ, ◌+◌, ◌*◌, ◌%◌, ◌^◌, ◌<◌, ◌≤◌, Bool, true, false}
use Rattle.std.proofs.Math.Path.{refl}
use Rattle.std.proofs.Common.{lt_of_lt_of_le, add-one, arith, pow_mono}
use Rattle.std.proofs.Math.Pow.{shl_exact}
use Rattle.laws.specs.Arrays.{mark_at}
use Rattle.laws.specs.Bits.{bits_below, bits_small}
use Rattle.test_all_outcomes.specs.declared.layout.Layout.{Layout}
use Rattle.test_all_outcomes.specs.declared.outcomes.Set.{Set}
use Rattle.test_all_outcomes.specs.SmallLayouts.{owns}
use Rattle.test_all_outcomes.specs.SetBlocks.{most_blocks, takes, taken, set_blocks}

module _ (l : Layout) (set : Set) (c i : ℕ) where
  pub takes_not : mark_at set.has i ≡ false → false ≡ takes l set c i
  unfolding takes
  takes_not h = rw h

  pub takes_owned : (r : Bool) → mark_at set.has i ≡ true → r ≡ owns l i c → r ≡ takes l set c i
  unfolding takes
  takes_owned r h e = rw h e

-- bits are those of the blocks below c
module _ (p : ℕ → Bool) where
  pub bits_none : 0 ≡ bits_below 0 p
  unfolding bits_below
  bits_none = refl

  module _ (c bits : ℕ) (e : bits ≡ bits_below c p) (r : Bool) (f : r ≡ p c) where
    pub bits_more : c < 32 → r ≡ true → bits + 1 * 2 ^ c % 2 ^ 32 ≡ bits_below (c + 1) p
    unfolding bits_below
    bits_more l t =
        let q : 1 * 2 ^ c % 2 ^ 32 ≡ 1 * 2 ^ c = shl_exact 1 c 32 (omega arith) (omega arith) in
        rw (add-one c, ← f, t, q) (omega arith)

    pub bits_room : c < 32 → r ≡ true → bits + 1 * 2 ^ c % 2 ^ 32 < 2 ^ 32
    bits_room l t = let m : c + 1 ≤ 32 = omega arith in rw (bits_more l t) (lt_of_lt_of_le (bits_small p (c + 1)) (pow_mono m))

    pub bits_same : r ≡ false → bits ≡ bits_below (c + 1) p
    unfolding bits_below
    bits_same t = rw (add-one c, ← f, t) (omega arith)

pub bits_done : (l : Layout) (set : Set) (c bits : ℕ) → bits ≡ bits_below c (taken l set) → c ≤ most_blocks → most_blocks ≤ c → bits ≡ set_blocks l set
unfolding set_blocks
bits_done l set c bits e a b = let q : c ≡ most_blocks = omega arith in rw q at e

pub ruleset gathering = (bits_none, bits_more, bits_room, bits_same, bits_done)
