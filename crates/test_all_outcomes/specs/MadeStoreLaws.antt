-- Laws of the made bytes, in the form in which a proof of the code takes them: r is what a call left or answered.
--   tabled_short, tabled_made                  `tabled_of` where T is too small, and by its calls
--   wrapped_data                               `plain_data` from the difference that wraps
--   sharing_last                               `sharing_cover` behind 2
--   total_one, total_even, total_odd           a return at each test of `total_of`
--   single_none, single_even, single_long      a return at each test of `single_data`
--   both_even, both_odd                        a return at each branch of `both_of`
--   stored_both .. stored_other                a return at each branch of `stored_of`
--   stored_none, stored_short, stored_there    `stored_at`
--   placed_none, placed_more, placed_done      the loop over the updates
use Rattle.std.specs.Prelude.{◌≡◌, ℕ, ◌+◌, ◌-◌, ◌%◌, ◌^◌, ◌<◌, ◌≤◌, Bool, true, false, List, ◌++◌, length, take, drop, ◌==◌, ◌≢◌, nat_lt, slice_index}
use Rattle.std.proofs.Math.Path.{refl}
use Rattle.std.proofs.Math.Bool.{and-false}
use mathlib.Core.List.{append-nil}
use Rattle.std.proofs.Common.{add-one, arith}
use Rattle.std.proofs.Math.ListN.{length-drop}
use Rattle.std.proofs.Math.Seq.{take_all, drop-length}
use borrow.Author.Tests.{eq-eqb, ne_eqb, lt-ltb, le-ltb, le-leb, lt-leb}
use Rattle.laws.specs.Arrays.{mark_at}
use Rattle.test_samples.specs.SampleBytes.{fill, put_dword}
use Rattle.test_samples.specs.Make.{header, balance, entry}
use Rattle.test_all_outcomes.specs.declared.layout.Layout.{Layout}
use Rattle.test_all_outcomes.specs.declared.make.Cover.{Cover}
use Rattle.test_all_outcomes.specs.SmallLayouts.{most_updates}
use Rattle.test_all_outcomes.specs.MadeStores.{cover, tabled_of, plain_data, total_of, sharing_cover, own_cover, single_data, single_of, both_of, marked_of, stored_of, place_of, stored_at, placed}

module _ (s : List ℕ) (one other : Cover) (t byte : ℕ) where
  pub tabled_short : t < 80 → s ≡ tabled_of s one other t byte
  unfolding tabled_of
  tabled_short l = rw (lt-leb 80 t l)

  pub tabled_made : 80 ≤ t → (a b c d e r : List ℕ) → a ≡ fill s 0 t byte
      → b ≡ header a 5 one.signature one.flags (t - 80) t → c ≡ balance b 16 0 (t - 32) → d ≡ put_dword c (t - 32) 1
      → e ≡ entry d (t - 32) 0 other.signature other.flags → r ≡ balance e (t - 32 + 4) (t - 32) t → r ≡ tabled_of s one other t byte
  unfolding tabled_of
  tabled_made l a b c d e r f g h i j k = rw (le-leb 80 t l, ← f, ← g, ← h, ← i, ← j) k

pub wrapped_data : (r t : ℕ) → r < 2 ^ 32 → (r + 48) % 2 ^ 32 ≡ t → r ≡ plain_data t
unfolding plain_data
wrapped_data r t l e = omega arith

pub sharing_last : (i : ℕ) → (i ≢ 0) → (i ≢ 1) → (i ≢ 2) → cover 0x100 8 ≡ sharing_cover i
unfolding sharing_cover
sharing_last i a b c = rw (le-ltb i 3 (omega arith))

module _ (start size : ℕ) where
  pub total_one : size ≡ 1 → 2048 ≡ total_of start size
  unfolding total_of
  total_one e = rw (eq-eqb size 1 e)

  module _ (h : size ≡ 1 → ⊥) where
    pub total_even : start % 2 ≡ 0 → 4096 ≡ total_of start size
    unfolding total_of
    total_even e = rw (ne_eqb size 1 h, eq-eqb (start % 2) 0 e)

    pub total_odd : (start % 2 ≢ 0) → 3072 ≡ total_of start size
    unfolding total_of
    total_odd e = rw (ne_eqb size 1 h, ne_eqb (start % 2) 0 e)

module _ (start t : ℕ) where
  pub single_none : t ≡ 2048 → start % 2 ≡ 1 → 0 ≡ single_data start t
  unfolding single_data
  single_none e f = rw (eq-eqb t 2048 e, eq-eqb (start % 2) 1 f)

  module _ (r : ℕ) (e : r ≡ plain_data t) where
    pub single_even : (start % 2 ≢ 1) → r ≡ single_data start t
    unfolding single_data
    single_even h = rw (ne_eqb (start % 2) 1 h, and-false (t == 2048)) e

    pub single_long : (t ≢ 2048) → r ≡ single_data start t
    unfolding single_data
    single_long h = rw (ne_eqb t 2048 h) e

-- a and b are the covers that calls answered
module _ (s r : List ℕ) (i start t byte : ℕ) (a b : Cover) (e : a ≡ sharing_cover i) (f : b ≡ own_cover 0x200 i) where
  pub both_even : start % 2 ≡ 0 → r ≡ tabled_of s a b t byte → r ≡ both_of s i start t byte
  unfolding both_of
  both_even h k = rw (eq-eqb (start % 2) 0 h, ← e, ← f) k

  pub both_odd : (start % 2 ≢ 0) → r ≡ tabled_of s b a t byte → r ≡ both_of s i start t byte
  unfolding both_of
  both_odd h k = rw (ne_eqb (start % 2) 0 h, ← e, ← f) k

-- c is the cover that a call answered
module _ (s r : List ℕ) (i start size t : ℕ) (shares needed : Bool) (e : t ≡ total_of start size) where
  pub stored_both : shares ≡ true → needed ≡ true → r ≡ both_of s i start t (i % 4 + 1) → r ≡ stored_of s i start size shares needed
  unfolding stored_of marked_of
  stored_both a b h = rw (a, b, ← e) h

  module _ (c : Cover) (h : r ≡ single_of s c start t (i % 4 + 1)) where
    pub stored_sharing : shares ≡ true → needed ≡ false → c ≡ sharing_cover i → r ≡ stored_of s i start size shares needed
    unfolding stored_of marked_of
    stored_sharing a b f = rw (a, b, ← e, ← f) h

    pub stored_needed : shares ≡ false → needed ≡ true → c ≡ own_cover 0x200 i → r ≡ stored_of s i start size shares needed
    unfolding stored_of marked_of
    stored_needed a b f = rw (a, b, ← e, ← f) h

    pub stored_other : shares ≡ false → needed ≡ false → c ≡ own_cover 0x300 i → r ≡ stored_of s i start size shares needed
    unfolding stored_of marked_of
    stored_other a b f = rw (a, b, ← e, ← f) h

module _ (s : List ℕ) (l : Layout) (i : ℕ) where
  pub stored_none : most_updates ≤ i → s ≡ stored_at s l i
  unfolding stored_at
  stored_none h = rw (le-ltb i most_updates h)

  -- at is the place that a call answered
  module _ (at : ℕ) (q : at ≡ place_of l i) where
    pub stored_short : length s < at → s ≡ stored_at s l i
    unfolding stored_at
    stored_short h = rw (lt-leb (place_of l i) (length s) (rw q at h), and-false (nat_lt i most_updates))

    -- r is what the call left of the part from there on
    pub stored_there : i < most_updates → at ≤ length s → (r : List ℕ)
        → r ≡ stored_of (take (length s - at) (drop at s)) i (slice_index l.starts i) (slice_index l.sizes i) (mark_at l.shares i)
        (mark_at l.needed i)
        → take at s ++ (r ++ drop (length s - at) (drop at s)) ≡ stored_at s l i
    unfolding stored_at
    stored_there h k r e =
        rw (
          lt-ltb i most_updates h,
          ← q,
          le-leb at (length s) k,
          e,
          ← length-drop at s,
          take_all (length (drop at s)) (drop at s) (omega arith),
          drop-length (drop at s),
          append-nil (stored_of (drop at s) i (slice_index l.starts i) (slice_index l.sizes i) (mark_at l.shares i) (mark_at l.needed i)),
        )

-- the loop: b is the buffer with the updates below i
module _ (s : List ℕ) (l : Layout) where
  pub placed_none : s ≡ placed s l 0
  unfolding placed
  placed_none = refl

  pub placed_more : (b r : List ℕ) (i : ℕ) → b ≡ placed s l i → r ≡ stored_at b l i → r ≡ placed s l (i + 1)
  unfolding placed
  placed_more b r i e h = rw (add-one i, ← e) h

  -- s is what a call left
  pub placed_done : (d b : List ℕ) (i n : ℕ) → s ≡ d → b ≡ placed s l i → n ≡ l.count → i ≤ n → n ≤ i → b ≡ placed d l l.count
  placed_done d b i n f e q h k = let w : i ≡ l.count = omega arith in rw (← f) (rw w at e)

pub ruleset placing = (placed_none, placed_more, placed_done)
