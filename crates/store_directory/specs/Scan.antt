-- The reading of a store from block 0 (document 01, "The store"). One recursion, `next_slot`, says where reading goes on; the rest is said of
-- each block by itself.
--   slot_size .. single       of what stands at a block: how many blocks it has, whether it is an update, bad, a block by itself
--   slot_at, size_at          what stands at block b, and how many blocks it has
--   next_slot, begins         where the reading goes on after the blocks before b; whether it reads a slot at b
--   first                     block b is the first of a stored update
--   sound                     what is read at b may stand there
--   starts_to, sizes_to       the first blocks and the sizes of the updates among the blocks below b, in order
--   pad                       a list as an array of 32
--   no_updates, directory_to  no updates, as a bad store lists none; those of the first n blocks
--   scanned                   what the reading lists, or none where it finds a bad slot; before the test for a common processor
--   clash_at .. clash         two of the updates cover a common processor: numbers i and j, i and one before it, some two
--   apart                     no two do
--   store_ok, directory       the verdict on a store, and its directory
--   stored                    the directory of a valid store, and none of a bad one
use Rattle.std.specs.Prelude.{ℕ, zero, suc, ◌+◌, ◌-◌, Bool, true, false, cond, not, ◌&&◌, List, ◌++◌, length, get_or, replicate, leb, Option, Some, None}
use Rattle.laws.specs.Below.{all_below, any_below}
use Rattle.laws.specs.NumbersBelow.{itself, list_below}
use Rattle.update_sharing.specs.Shares.{shares}
use Rattle.store_blocks.specs.Blocks.{from_block, block_count, length_ok}
use Rattle.store_blocks.specs.Slot.{slot_of}
use Rattle.store_blocks.specs.declared.slot.Slot.{Slot}
use Rattle.store_blocks.specs.declared.slot.Slot.TheVariants.{Unused, Update, Bad}
use Rattle.store_directory.specs.declared.Directory.{Directory}

-- how many blocks it has; a bad one makes the store bad, whatever size it gets
abbrev pub slot_size : Slot → ℕ
slot_size Unused = 1
slot_size (Update k) = k
slot_size Bad = 1

abbrev pub is_update : Slot → Bool
is_update Unused = false
is_update (Update k) = true
is_update Bad = false

abbrev pub is_bad : Slot → Bool
is_bad Unused = false
is_bad (Update k) = false
is_bad Bad = true

-- one block by itself that may stand in a store: an unused one
abbrev pub single : Slot → Bool
single Unused = true
single (Update k) = false
single Bad = false

unfoldable pub slot_at : List ℕ → ℕ → Slot
slot_at s b = slot_of (from_block s b)

abbrev pub size_at : List ℕ → ℕ → ℕ
size_at s b = slot_size (slot_at s b)

-- the first block at or behind b, after the reading of the blocks before b, at which a slot begins
unfoldable pub next_slot : List ℕ → ℕ → ℕ
next_slot s zero = 0
next_slot s (suc b) = cond (leb (next_slot s b) b) (b + size_at s b) (next_slot s b)

unfoldable pub begins : List ℕ → ℕ → Bool
begins s b = leb (next_slot s b) b

unfoldable pub first : List ℕ → ℕ → Bool
first s b = begins s b && is_update (slot_at s b)

unfoldable pub sound : List ℕ → ℕ → Bool
sound s b = not (begins s b && is_bad (slot_at s b))

abbrev pub starts_to : List ℕ → ℕ → List ℕ
starts_to s b = list_below (first s) itself b

abbrev pub sizes_to : List ℕ → ℕ → List ℕ
sizes_to s b = list_below (first s) (size_at s) b

-- a list of up to 32 numbers as an array of 32
unfoldable pub pad : List ℕ → List ℕ
pad xs = xs ++ replicate (32 - length xs) 0

unfoldable pub no_updates : Directory
no_updates = record { count = 0; starts = replicate 32 0; sizes = replicate 32 0 }

-- what n blocks hold
unfoldable pub directory_to : List ℕ → ℕ → Directory
directory_to s n = record { count = length (starts_to s n); starts = pad (starts_to s n); sizes = pad (sizes_to s n) }

unfoldable pub scanned : List ℕ → ℕ → Option Directory
scanned s n = cond (all_below n (sound s)) (Some (directory_to s n)) None

-- the updates that begin at blocks number i and j of xs cover a common processor
unfoldable pub clash_at : List ℕ → List ℕ → ℕ → ℕ → Bool
clash_at s xs i j = shares (from_block s (get_or xs i 0)) (from_block s (get_or xs j 0))

-- number i and one before it
unfoldable pub clash_row : List ℕ → List ℕ → ℕ → Bool
clash_row s xs i = any_below i (clash_at s xs i)

unfoldable pub clash : List ℕ → List ℕ → ℕ → Bool
clash s xs n = any_below n (clash_row s xs)

-- no two stored updates cover a common processor
unfoldable pub apart : List ℕ → List ℕ → Bool
apart s xs = not (clash s xs (length xs))

unfoldable pub store_ok : List ℕ → Bool
store_ok s = length_ok (length s) && all_below (block_count s) (sound s) && apart s (starts_to s (block_count s))

unfoldable pub directory : List ℕ → Directory
directory s = cond (store_ok s) (directory_to s (block_count s)) no_updates

-- the directory of a valid store
unfoldable pub stored : List ℕ → Option Directory
stored s = cond (store_ok s) (Some (directory s)) None
