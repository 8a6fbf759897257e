-- An index as it is lent: its four columns of 32 numbers, one behind the other. In C they are 128 words.
--   columns_of    the columns of an index
--   index_in      the index that columns hold
--   word_at       word i of the 128 in C
use Rattle.std.specs.Prelude.{ℕ, ◌/◌, ◌%◌, List, [], ◌∷◌, get_or}
use Rattle.store_index.specs.declared.Index.{Index}

abbrev pub columns_of : Index → List (List ℕ)
columns_of x = x.kinds ∷ x.starts ∷ x.revisions ∷ x.sizes ∷ []

abbrev pub index_in : List (List ℕ) → Index
index_in cs = record { kinds = get_or cs 0 []; starts = get_or cs 1 []; revisions = get_or cs 2 []; sizes = get_or cs 3 [] }

unfoldable pub word_at : List (List ℕ) → ℕ → ℕ
word_at cs i = get_or (get_or cs (i / 32) []) (i % 32) 0
