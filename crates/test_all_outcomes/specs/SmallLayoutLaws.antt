-- Laws of small layouts, in the form in which a proof of the code takes them.
--   room_taken, room_full, room_behind, room_there    `with_update` where a test fails, and where there is room
--   kind_none, kind_some                              `with_kind` at 0, and at another kind
--   coded_none, coded_more, coded_done                the loop over the blocks of a code
--   coded_stop                                        an update of it has no room
--   rest_none, rest_more                              what is left of the code in it
--   codes_none                                        `codes` at 0 and behind 6
--   owned_none, owned_behind, owned_within            `owns` at each test
use Rattle.std.specs.Prelude.{◌≡◌, ℕ, zero, suc, ◌+◌, ◌-◌, ◌/◌, ◌%◌, ◌^◌, ◌<◌, ◌≤◌, Bool, true, false, cond, ◌&&◌, ◌==◌, ◌≢◌, nat_le, nat_lt, slice_index, Option, Some, None, refl}
use Rattle.std.proofs.Common.{sym, div-one, pow-suc, add-one, add-zero, arith}
use Rattle.std.proofs.Math.Bool.{and-false}
use Rattle.std.proofs.Math.Nat.{div-div-eq-div-mul}
use borrow.Author.Tests.{eq-eqb, ne_eqb, lt-ltb, le-ltb, le-leb, lt-leb, leb-true}
use Rattle.test_all_outcomes.specs.declared.layout.Layout.{Layout}
use Rattle.test_all_outcomes.specs.SmallLayouts.{most_updates, unused, has_room, added, with_update, kind_size, with_kind, codes, coded_to, owns}

module _ (l : Layout) (block size : ℕ) (shares needed : Bool) where
  pub room_taken : block < l.behind → None ≡ with_update l block size shares needed
  unfolding with_update has_room
  room_taken h = rw (lt-leb l.behind block h)

  pub room_full : most_updates ≤ l.count → None ≡ with_update l block size shares needed
  unfolding with_update has_room
  room_full h = rw (le-ltb l.count most_updates h, and-false (nat_le l.behind block))

  pub room_behind : (end : ℕ) → end ≡ block + size → l.blocks < end → None ≡ with_update l block size shares needed
  unfolding with_update has_room
  room_behind end q h =
      rw (lt-leb (block + size) l.blocks (rw q at h), and-false (nat_le l.behind block && nat_lt l.count most_updates))

  -- r is what the code returns
  pub room_there : l.behind ≤ block → l.count < most_updates → block + size ≤ l.blocks → (r : Layout) → r ≡ added l block size shares needed
      → Some r ≡ with_update l block size shares needed
  unfolding with_update has_room
  room_there h k m r e = rw (le-leb l.behind block h, lt-ltb l.count most_updates k, le-leb (block + size) l.blocks m, e)

module _ (l : Layout) (r : Option Layout) (block kind : ℕ) where
  pub kind_none : kind ≡ 0 → Some l ≡ with_kind l block kind
  unfolding with_kind
  kind_none e = rw (eq-eqb kind 0 e)

  pub kind_some : (kind ≢ 0) → (size : ℕ) → size ≡ kind_size kind
      → r ≡ with_update l block size (kind % 2 == 1) (kind / 2 % 2 == 1) → r ≡ with_kind l block kind
  unfolding with_kind
  kind_some h size e f = rw (ne_eqb kind 0 h, ← e) f

-- the loop: l is the layout so far, and rest the digits that are left
module _ (blocks code : ℕ) where
  pub coded_none : (l : Layout) → l ≡ unused blocks → coded_to blocks code 0 ≡ Some l
  unfolding coded_to
  coded_none l e = rw e

  pub coded_more : (l m : Layout) (b rest : ℕ) → coded_to blocks code b ≡ Some l → rest ≡ code / 9 ^ b → Some m ≡ with_kind l b (rest % 9)
      → coded_to blocks code (b + 1) ≡ Some m
  unfolding coded_to
  coded_more l m b rest e f h = rw (add-one b, e, ← f) (sym h)

  pub coded_done : (l : Layout) (b : ℕ) → coded_to blocks code b ≡ Some l → b ≤ blocks → blocks ≤ b → Some l ≡ coded_to blocks code blocks
  coded_done l b e h k = let q : b ≡ blocks = omega arith in sym (rw q at e)

  stays : (b k : ℕ) → coded_to blocks code b ≡ None → coded_to blocks code (b + k) ≡ None
  unfolding coded_to
  stays b zero e = rw (add-zero b) e
  stays b (suc k) e = let q : b + suc k ≡ suc (b + k) = omega arith in rw (q, stays b k e)

  stops : (l : Layout) (b rest : ℕ) → coded_to blocks code b ≡ Some l → rest ≡ code / 9 ^ b → None ≡ with_kind l b (rest % 9)
      → coded_to blocks code (b + 1) ≡ None
  unfolding coded_to
  stops l b rest e f h = rw (add-one b, e, ← f) (sym h)

  pub coded_stop : (l : Layout) (b rest : ℕ) → coded_to blocks code b ≡ Some l → rest ≡ code / 9 ^ b → None ≡ with_kind l b (rest % 9)
      → b < blocks → None ≡ coded_to blocks code blocks
  coded_stop l b rest e f h k =
      let q : b + 1 + (blocks - (b + 1)) ≡ blocks = omega arith in
      sym (rw q at (stays (b + 1) (blocks - (b + 1)) (stops l b rest e f h)))

pub rest_none : (code : ℕ) → code ≡ code / 9 ^ 0
rest_none code = sym (div-one code)

pub rest_more : (code b rest : ℕ) → rest ≡ code / 9 ^ b → rest / 9 ≡ code / 9 ^ (b + 1)
rest_more code b rest e = rw (e, add-one b, pow-suc 9 b) (div-div-eq-div-mul code (9 ^ b) 9)

past : (a b : ℕ) → a ≤ b → (b ≢ a) → a + 1 ≤ b
past a b h k = omega arith

outside : (b : ℕ) → 7 ≤ b → b ≤ 6 → ⊥
outside b h k = omega arith

-- the two tests of `codes`, of which one fails
codes_out : (blocks : ℕ) (a b : Bool) → nat_le 1 blocks ≡ a → nat_le blocks 6 ≡ b → (1 ≤ blocks → 7 ≤ blocks) → 0 ≡ cond (a && b) (9 ^ blocks) 0
codes_out blocks true true e f h = absurd (outside blocks (h (leb-true 1 blocks e)) (leb-true blocks 6 f))
codes_out blocks true false e f h = refl
codes_out blocks false b e f h = refl

pub codes_none : (blocks : ℕ) → (blocks ≢ 1) → (blocks ≢ 2) → (blocks ≢ 3) → (blocks ≢ 4)
    → (blocks ≢ 5) → (blocks ≢ 6) → 0 ≡ codes blocks
unfolding codes
codes_none b m n o p q r =
    codes_out b (nat_le 1 b) (nat_le b 6) refl refl
    (λ h. past 6 b (past 5 b (past 4 b (past 3 b (past 2 b (past 1 b h m) n) o) p) q) r)

module _ (l : Layout) (i c : ℕ) where
  pub owned_none : most_updates ≤ i → false ≡ owns l i c
  unfolding owns
  owned_none h = rw (le-ltb i most_updates h)

  pub owned_behind : c < slice_index l.starts i → false ≡ owns l i c
  unfolding owns
  owned_behind h = rw (lt-leb (slice_index l.starts i) c h, and-false (nat_lt i most_updates))

  pub owned_within : i < most_updates → slice_index l.starts i ≤ c → (end : ℕ) → end ≡ slice_index l.starts i + slice_index l.sizes i
      → nat_lt c end ≡ owns l i c
  unfolding owns
  owned_within h k end e = rw (lt-ltb i most_updates h, le-leb (slice_index l.starts i) c k, e)

pub ruleset coding = (coded_none, coded_more, coded_done, coded_stop, rest_none, rest_more)
