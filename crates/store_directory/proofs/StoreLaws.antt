-- From the reading of the blocks to the verdict on the store.
--   pad_at           an array's first elements are the list's
--   scanned_some, scanned_none    the reading lists what the blocks hold, or it finds a bad one
--   scanned_few      it lists at most n updates
--   store_length .. store_good    the four ways to the directory
--   store_parts      the three tests of a store
--   stored_ok, stored_some, stored_none    a store has a directory exactly if it is valid
--   stored_directory .. reading    the same of what a call answered, as `search` takes it
--   directory_entries    of a valid store it is what its blocks list
--   directory_few    it lists at most 32 updates
use Rattle.std.specs.Prelude.{ℕ, ◌-◌, ◌/◌, ◌<◌, ◌≤◌, ◌≡◌, Bool, cond, ◌&&◌, List, length, get_or, replicate, Option, Some, None, is_some}
use Rattle.std.proofs.Math.Path.{refl, sym, ap}
use Rattle.std.proofs.Common.{◌∙◌}
use Rattle.std.proofs.Math.Bool.{true, false}
use native.Mathlib.Omega.{arith}
use Rattle.std.proofs.Math.ListN.{get_or-append}
use Rattle.std.proofs.lemmas.Option.{none-some, cond_some}
use Rattle.laws.specs.Bools.{and_parts}
use Rattle.laws.specs.Below.{all_below, any_cong}
use Rattle.store_blocks.specs.Blocks.{block_count, length_ok}
use Rattle.store_blocks.specs.LengthLaws.{length_parts}
use Rattle.store_directory.specs.Scan.{sound, starts_to, pad, no_updates, directory_to, scanned, clash_at, clash_row, clash, apart, store_ok, directory, stored}
use Rattle.store_directory.specs.BlockLaws.{few_starts}
use Rattle.store_directory.specs.declared.Directory.{Directory}

pub pad_at : (xs : List ℕ) (i : ℕ) → i < length xs → get_or (pad xs) i 0 ≡ get_or xs i 0
unfolding pad
pad_at xs i l = get_or-append xs (replicate (32 - length xs) 0) 0 i l

-- the test looks at no others
clash_pad : (s xs : List ℕ) → clash s (pad xs) (length xs) ≡ clash s xs (length xs)
unfolding clash clash_row clash_at
clash_pad s xs =
    any_cong (clash_row s (pad xs)) (clash_row s xs) (length xs) (λ i li.
    any_cong (clash_at s (pad xs) i) (clash_at s xs i) i (λ j lj.
    rw (pad_at xs i li, pad_at xs j (omega arith))))

some_none : {A : Type 0} (t : Bool) (x : A) → cond t (Some x) None ≡ None → t ≡ false
some_none true x e = absurd (none-some x (sym e))
some_none false x e = refl

-- r is what the reading of n blocks answered
module _ (s : List ℕ) (n : ℕ) (r : Option Directory) (e : r ≡ scanned s n) where
  pub scanned_some : (d : Directory) → r ≡ Some d → (all_below n (sound s) ≡ true) × (d ≡ directory_to s n)
  unfolding scanned
  scanned_some d h = let w = cond_some (all_below n (sound s)) (directory_to s n) d (sym e ∙ h) in (w.0, sym w.1)

  pub scanned_none : r ≡ None → all_below n (sound s) ≡ false
  unfolding scanned
  scanned_none h = some_none (all_below n (sound s)) (directory_to s n) (sym e ∙ h)

  pub scanned_few : (d : Directory) → r ≡ Some d → d.count ≤ n
  unfolding directory_to
  scanned_few d h = rw (scanned_some d h).1 (few_starts s n)

-- the ways of a store: q is what the rule of its length answered, r the reading, and t the test of its updates
module _ (s : List ℕ) (q : Bool) (l : q ≡ length_ok (length s)) where
  pub store_length : q ≡ false → None ≡ stored s
  unfolding stored store_ok
  store_length h = rw (← l, h)

  module _ (good : q ≡ true) (r : Option Directory) (e : r ≡ scanned s (length s / 2048)) where
    pub store_bad : r ≡ None → None ≡ stored s
    unfolding stored store_ok block_count
    store_bad h = rw (← l, good, scanned_none s (length s / 2048) r e h)

    module _ (d : Directory) (h : r ≡ Some d) (t : Bool) (c : t ≡ clash s d.starts d.count) where
      listed : (all_below (length s / 2048) (sound s) ≡ true) × (d ≡ directory_to s (length s / 2048))
      listed = scanned_some s (length s / 2048) r e d h

      tested : t ≡ clash s (starts_to s (length s / 2048)) (length (starts_to s (length s / 2048)))
      unfolding directory_to
      tested = c ∙ ap (λ (x : Directory). clash s x.starts x.count) listed.1 ∙ clash_pad s (starts_to s (length s / 2048))

      pub store_clash : t ≡ true → None ≡ stored s
      unfolding stored store_ok apart block_count
      store_clash k = rw (← l, good, listed.0, ← tested, k)

      pub store_good : t ≡ false → Some d ≡ stored s
      unfolding stored directory store_ok apart block_count
      store_good k = rw (← l, good, listed.0, ← tested, k) (ap (λ (x : Directory). Some x) listed.1)

-- the three tests of a store
pub store_parts : (s : List ℕ) → store_ok s ≡ true → (length_ok (length s) ≡ true) × (all_below (block_count s) (sound s) ≡ true) × (apart s (starts_to s (block_count s)) ≡ true)
unfolding store_ok
store_parts s h =
    let x = and_parts (length_ok (length s) && all_below (block_count s) (sound s)) (apart s (starts_to s (block_count s))) h in
    let y = and_parts (length_ok (length s)) (all_below (block_count s) (sound s)) x.0 in
    (y.0, y.1, x.1)

-- a store has a directory exactly if it is valid
module _ (s : List ℕ) where
  pub stored_ok : is_some (stored s) ≡ store_ok s
  unfolding stored
  stored_ok = go (store_ok s)
    where
      go : (t : Bool) → is_some (cond t (Some (directory s)) None) ≡ t
      go true = refl
      go false = refl

  pub stored_some : (d : Directory) → stored s ≡ Some d → (d ≡ directory s) × (store_ok s ≡ true)
  unfolding stored
  stored_some d h = let w = cond_some (store_ok s) (directory s) d h in (sym w.1, w.0)

  pub stored_none : stored s ≡ None → store_ok s ≡ false
  unfolding stored
  stored_none h = some_none (store_ok s) (directory s) h

-- r is what `read_store` answered
module _ (s : List ℕ) (r : Option Directory) (e : r ≡ stored s) where
  pub stored_directory : (d : Directory) → r ≡ Some d → d ≡ directory s
  stored_directory d h = (stored_some s d (sym e ∙ h)).0

  pub stored_good : (d : Directory) → r ≡ Some d → store_ok s ≡ true
  stored_good d h = (stored_some s d (sym e ∙ h)).1

  pub stored_bad : r ≡ None → store_ok s ≡ false
  stored_bad h = stored_none s (sym e ∙ h)

pub ruleset reading = (stored_directory, stored_good, stored_bad)

-- the directory
module _ (s : List ℕ) (d : Directory) (e : d ≡ directory s) where
  pub directory_entries : store_ok s ≡ true → d ≡ directory_to s (block_count s)
  unfolding directory
  directory_entries h = e ∙ rw h

  pub directory_few : d.count ≤ 32
  unfolding directory directory_to no_updates
  directory_few = rw e (go (store_ok s) refl)
    where
      go : (t : Bool) → store_ok s ≡ t → (cond t (directory_to s (block_count s)) no_updates).count ≤ 32
      go true q = omega (arith, few_starts s (block_count s), (length_parts s (store_parts s q).0).2)
      go false q = omega arith
