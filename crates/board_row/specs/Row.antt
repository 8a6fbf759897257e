-- A row of 16 answer words of the board's C interface.
--   flag_word      1 for true, 0 for false
--   padded         the words, and 0 behind them up to 16
--   row_of         the words of all cases but presence
use Rattle.std.specs.Prelude.{ℕ, ◌-◌, Bool, cond, not, List, [], ◌∷◌, ◌++◌, length, replicate, eqb}

abbrev pub flag_word : Bool → ℕ
flag_word b = cond b 1 0

abbrev pub padded : List ℕ → List ℕ
padded l = l ++ replicate (16 - length l) 0

-- the common words, four numbers of the case, and 0 behind them; `on` is the word of the loading state
unfoldable pub row_of : ℕ → ℕ → ℕ → ℕ → ℕ → ℕ → ℕ → ℕ → List ℕ
row_of ah al on case n0 n1 n2 n3 =
    ah ∷ al ∷ flag_word (not (eqb ah 0)) ∷ on ∷ case ∷ n0 ∷ n1 ∷ n2 ∷ n3 ∷ 0 ∷ 0 ∷ 0 ∷ 0 ∷ 0 ∷ 0 ∷ 0 ∷ []
