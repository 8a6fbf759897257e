-- The lines of lent columns, as the code writes them.
--   Columns      four columns of 32 places
--   kind_from    the kind of block b of an update
--   line         a line of four numbers
--   LinePut      line b has become y; the others stay
--   LinesPut     the lines from `start` to below `end` have become those of an update; the others stay
use Rattle.std.specs.Prelude.{ℕ, ◌<◌, ◌≤◌, ◌≡◌, cond, List, [], length, get_or, eqb}
use Rattle.store_index.specs.declared.Line.{Line}
use Rattle.store_index.specs.Index.{first, later, line_of, update_line}
use Rattle.store_index.specs.IndexColumns.{index_in}

pub record Columns (cs : List (List ℕ)) : Type 0 where
  pub four : length cs ≡ 4
  pub kinds_long : length (get_or cs 0 []) ≡ 32
  pub starts_long : length (get_or cs 1 []) ≡ 32
  pub revisions_long : length (get_or cs 2 []) ≡ 32
  pub sizes_long : length (get_or cs 3 []) ≡ 32

unfoldable pub kind_from : ℕ → ℕ → ℕ
kind_from start b = cond (eqb start b) first later

abbrev pub line : ℕ → ℕ → ℕ → ℕ → Line
line kind start revision size = record { kind = kind; start = start; revision = revision; size = size }

pub record LinePut (b : ℕ) (y : Line) (old new : List (List ℕ)) : Type 0 where
  pub long : Columns new
  pub here : line_of (index_in new) b ≡ y
  pub others : (c : ℕ) → (c ≡ b → ⊥) → line_of (index_in new) c ≡ line_of (index_in old) c

pub record LinesPut (start revision size end : ℕ) (old new : List (List ℕ)) : Type 0 where
  pub long : Columns new
  pub inside : (c : ℕ) → start ≤ c → c < end → line_of (index_in new) c ≡ update_line start revision size c
  pub before : (c : ℕ) → c < start → line_of (index_in new) c ≡ line_of (index_in old) c
  pub behind : (c : ℕ) → end ≤ c → line_of (index_in new) c ≡ line_of (index_in old) c
