-- The blocks of the emptied updates as the bits of a number, gathered update by update.
--   emptied_to                block c is one of an emptied update's among the first n
--   span_number               the blocks of one update, out of 32 ones and two shifts
--   gathering                 the loop that gathers them, as `search` takes it
use Rattle.std.specs.Prelude.{ℕ, ◌+◌, ◌*◌, ◌-◌, ◌%◌, ◌/◌, ◌^◌, ◌≤◌, ◌≡◌, Bool, true, false}
use Rattle.std.proofs.Math.Path.{refl}
use Rattle.std.proofs.Common.{sym, ◌∙◌, mod-lt, pow_pos}
use Rattle.std.proofs.Math.Bool.{or-false}
use Rattle.std.proofs.Math.Numerals.{add-one}
use native.Mathlib.Omega.{arith}
use Rattle.std.specs.Int.Bits.{bit_or}
use Rattle.std.proofs.lemmas.Nat.{or_lt}
use Rattle.laws.specs.Below.{any_below}
use Rattle.laws.specs.Bits.{bits_below, bits_small, bits_bit, bits_only, bits_cong, bit-or, span_bits}
use Rattle.laws.specs.Span.{spans}
use Rattle.write_marks.specs.StoredUpdates.{StoredUpdates}
use Rattle.write_marks.specs.Against.{emptied_by_number, empties_block, emptied_block}

unfoldable pub emptied_to : StoredUpdates → ℕ → ℕ → ℕ → ℕ → Bool
emptied_to h k s n c = any_below n (empties_block h k s c)

pub span_number : (start size : ℕ) → 1 ≤ size → start + size ≤ 32 → 4294967295 / 2 ^ (32 - size) * 2 ^ start % 2 ^ 32 ≡ bits_below 32 (spans start size)
span_number start size some ends = bits_only (spans start size) 32 _ (mod-lt _ (pow_pos 32)) (λ c l. span_bits start size c some ends l)

-- the loop: bits are those so far, r is what a call answered of update i, x its blocks
module _ (h : StoredUpdates) (k s : ℕ) where
  pub gather_none : 0 ≡ bits_below 32 (emptied_to h k s 0)
  unfolding bits_below emptied_to any_below
  gather_none = refl

  module _ (i bits : ℕ) (e : bits ≡ bits_below 32 (emptied_to h k s i)) where
    module _ (r : Bool) (f : r ≡ emptied_by_number h k s i) where
      pub gather_more : r ≡ true → (x : ℕ) → x ≡ bits_below 32 (spans (h.start i) (h.size i)) → bit_or bits x ≡ bits_below 32 (emptied_to h k s (i + 1))
      unfolding emptied_to any_below empties_block
      gather_more t x g =
          bits_only (emptied_to h k s (i + 1)) 32 (bit_or bits x) (or_lt 32 bits x (rw e (bits_small (emptied_to h k s i) 32)) (rw g (bits_small (spans (h.start i) (h.size i)) 32)))
          (λ c l. bit-or bits x c ∙ rw (e, g, bits_bit (emptied_to h k s i) 32 c l, bits_bit (spans (h.start i) (h.size i)) 32 c l, add-one i, ← f, t))

      pub gather_same : r ≡ false → bits ≡ bits_below 32 (emptied_to h k s (i + 1))
      unfolding emptied_to any_below empties_block
      gather_same t = e ∙ bits_cong (emptied_to h k s i) (emptied_to h k s (i + 1)) 32 (λ c l. rw (add-one i, ← f, t) (sym (or-false (any_below i (empties_block h k s c)))))

    pub gather_done : (n : ℕ) → n ≡ h.count → i ≤ n → n ≤ i → bits ≡ bits_below 32 (emptied_block h k s)
    unfolding emptied_to emptied_block
    gather_done n q l m = let w : i ≡ h.count = omega arith in rw w at e

pub ruleset gathering = (gather_none, gather_more, gather_same, gather_done)
