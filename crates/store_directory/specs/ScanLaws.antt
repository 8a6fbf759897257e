-- What the loop over the blocks keeps, and how each kind of block takes it on.
--   slot_read                   what stands at block b, of a part that one call gave and a slot that another read there
--   State                       what the reading of the blocks below b has found
--   state_named                 the same under other names
--   state_start                 at the start
--   state_later .. state_bad    at a later block of an update, an unused block, an update's first block, and one that is bad
use Rattle.std.specs.Prelude.{ℕ, suc, ◌+◌, ◌-◌, ◌<◌, ◌≤◌, ◌≡◌, refl, true, false, List, [], ◌∷◌, ◌++◌, length, set, replicate, leb}
use Rattle.std.proofs.Common.{sym, ◌∙◌, arith, add-one, le-leb}
use Rattle.std.proofs.Math.ListN.{length-append}
use Rattle.std.proofs.Math.Seq.{append_snoc, set-append_seam}
use Rattle.std.proofs.lemmas.Bool.{lt-leb}
use Rattle.laws.specs.Below.{all_below, all_none, all_more}
use Rattle.laws.specs.NumbersBelow.{list_below}
use Rattle.store_blocks.specs.Blocks.{from_block}
use Rattle.store_blocks.specs.Slot.{slot_of}
use Rattle.store_directory.specs.Scan.{slot_at, next_slot, begins, first, sound, starts_to, sizes_to, pad}
use Rattle.store_blocks.specs.declared.slot.Slot.{Slot}
use Rattle.store_blocks.specs.declared.slot.Slot.TheVariants.{Unused, Update, Bad}

replicate_more : (k m : ℕ) → k ≡ suc m → replicate {A = ℕ} k 0 ≡ 0 ∷ replicate m 0
replicate_more k m e = rw e

-- one more at the end
pad_set : (xs : List ℕ) (n a : ℕ) → length xs ≡ n → n < 32 → set (pad xs) n a ≡ pad (xs ++ (a ∷ []))
unfolding pad
pad_set xs n a e l =
    rw (← e, replicate_more (32 - length xs) (32 - length (xs ++ (a ∷ []))) (omega (arith, length-append xs (a ∷ []))))
    (set-append_seam xs 0 (replicate (32 - length (xs ++ (a ∷ []))) 0) a ∙ sym (append_snoc xs a _))

pub slot_read : (s part : List ℕ) (b : ℕ) (r x : Slot) → part ≡ from_block s b → r ≡ slot_of part → r ≡ x → slot_at s b ≡ x
unfolding slot_at
slot_read s part b r x e f g = rw (← e, ← f) g

-- what the reading of the blocks below b has found
pub record State (s : List ℕ) (b count next : ℕ) (starts sizes : List ℕ) : Type 0 where
  pub next_is : next ≡ next_slot s b
  pub count_is : length (starts_to s b) ≡ count
  pub sizes_long : length (sizes_to s b) ≡ count
  pub few : count ≤ b
  pub starts_are : starts ≡ pad (starts_to s b)
  pub sizes_are : sizes ≡ pad (sizes_to s b)
  pub all_sound : all_below b (sound s) ≡ true

-- the same under the names that a turn gave
pub state_named : (s : List ℕ) (b count next c n : ℕ) (starts sizes xs ys : List ℕ) → xs ≡ starts → ys ≡ sizes → c ≡ count → n ≡ next → State s b count next starts sizes → State s b c n xs ys
state_named s b count next c n starts sizes xs ys e f g h st = rw (e, f, g, h) st

module _ (s : List ℕ) where
  pub state_start : State s 0 0 0 (replicate 32 0) (replicate 32 0)
  unfolding next_slot list_below pad
  state_start = record { next_is = refl; count_is = refl; sizes_long = refl; few = omega arith; starts_are = refl; sizes_are = refl; all_sound = all_none (sound s) }

  module _ (b count next : ℕ) (starts sizes : List ℕ) (st : State s b count next starts sizes) where
    later : b < next → leb (next_slot s b) b ≡ false
    later l = rw (← st.next_is) (lt-leb next b l)

    here : next ≤ b → leb (next_slot s b) b ≡ true
    here l = rw (← st.next_is) (le-leb next b l)

    -- block b is a later block of an update
    pub state_later : b < next → State s (b + 1) count next starts sizes
    unfolding next_slot list_below first sound begins
    state_later l =
        record {
          next_is = rw (add-one b, later l) st.next_is;
          count_is = rw (add-one b, later l) st.count_is;
          sizes_long = rw (add-one b, later l) st.sizes_long;
          few = omega arith;
          starts_are = rw (add-one b, later l) st.starts_are;
          sizes_are = rw (add-one b, later l) st.sizes_are;
          all_sound = all_more (sound s) b st.all_sound (rw (later l));
        }

    pub state_unused : next ≤ b → slot_at s b ≡ Unused → State s (b + 1) count (b + 1) starts sizes
    unfolding next_slot list_below first sound begins
    state_unused l e =
        record {
          next_is = rw (add-one b, here l, e) (sym (add-one b));
          count_is = rw (add-one b, here l, e) st.count_is;
          sizes_long = rw (add-one b, here l, e) st.sizes_long;
          few = omega arith;
          starts_are = rw (add-one b, here l, e) st.starts_are;
          sizes_are = rw (add-one b, here l, e) st.sizes_are;
          all_sound = all_more (sound s) b st.all_sound (rw (here l, e));
        }

    pub state_update : b < 32 → next ≤ b → (k : ℕ) → slot_at s b ≡ Update k → State s (b + 1) (count + 1) (b + k) (set starts count b) (set sizes count k)
    unfolding next_slot list_below first sound begins
    state_update l32 l k e =
        record {
          next_is = rw (add-one b, here l, e);
          count_is = rw (add-one b, here l, e) (omega (arith, length-append (starts_to s b) (b ∷ []), st.count_is));
          sizes_long = rw (add-one b, here l, e) (omega (arith, length-append (sizes_to s b) (k ∷ []), st.sizes_long));
          few = omega arith;
          starts_are = rw (add-one b, here l, e, st.starts_are) (pad_set (starts_to s b) count b st.count_is (omega arith));
          sizes_are = rw (add-one b, here l, e, st.sizes_are) (pad_set (sizes_to s b) count k st.sizes_long (omega arith));
          all_sound = all_more (sound s) b st.all_sound (rw (here l, e));
        }

    pub state_bad : next ≤ b → slot_at s b ≡ Bad → sound s b ≡ false
    unfolding sound begins
    state_bad l e = rw (here l, e)
