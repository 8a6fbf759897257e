-- What check 3 settles of the lent bytes.
--   Inside, inside    the whole and the table lie inside them, and the sizes are right
--   inside_of         the same from what a call answered, as `search` takes it
--   entry_count_is    the number of entries, from numbers read before
use Rattle.std.specs.Prelude.{ℕ, ◌≤◌, ◌≡◌, Bool, true, List, length, leb}
use Rattle.std.proofs.Common.{sym, ◌∙◌}
use borrow.Author.Tests.{leb-true}
use Rattle.laws.specs.Bools.{and_parts}
use Rattle.update_sizes.specs.Sizes.{sizes_ok, entries_of}
use Rattle.update_sizes.specs.SizeLaws.{Sized}
use Rattle.update_sizes.proofs.SizeLaws.{sizes_sized}
use Rattle.update_header.specs.Fields.{data_size, total_size, table_count, entry_count}
use Rattle.update_header.specs.Checks.{sizes_fit}

pub record Inside (s : List ℕ) : Type 0 where
  pub lent : total_size s ≤ length s
  pub sized : Sized (data_size s) (total_size s) (entry_count s)

module _ (s : List ℕ) where
  pub inside : sizes_fit s ≡ true → Inside s
  unfolding sizes_fit entry_count
  inside k =
      let c = and_parts (sizes_ok (data_size s) (total_size s) (table_count s)) (leb (total_size s) (length s)) k in
      record { lent = leb-true (total_size s) (length s) c.1; sized = sizes_sized _ _ _ c.0 }

  -- q is what a call answered
  pub inside_of : (q : Bool) → q ≡ sizes_fit s → q ≡ true → Inside s
  inside_of q e h = inside (sym e ∙ h)

  pub entry_count_is : (m d t n : ℕ) → d ≡ data_size s → t ≡ total_size s → n ≡ table_count s → m ≡ entries_of d t n → m ≡ entry_count s
  unfolding entry_count
  entry_count_is m d t n e f g h = rw (← e, ← f, ← g) h
