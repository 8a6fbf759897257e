-- Two indexes are the same if each of their 128 numbers is.
--   same_line    the four numbers of line b are the same
--   same_index   those of all 32 lines are
use Rattle.std.specs.Prelude.{ℕ, Bool, ◌&&◌, eqb, get_or}
use Rattle.laws.specs.Below.{all_below}
use Rattle.store_index.specs.declared.Index.{Index}

unfoldable pub same_line : Index → Index → ℕ → Bool
same_line x y b =
    (eqb (get_or x.kinds b 0) (get_or y.kinds b 0) && eqb (get_or x.starts b 0) (get_or y.starts b 0))
    && (eqb (get_or x.revisions b 0) (get_or y.revisions b 0) && eqb (get_or x.sizes b 0) (get_or y.sizes b 0))

unfoldable pub same_index : Index → Index → Bool
same_index x y = all_below 32 (same_line x y)
