-- Numbers as text, in ASCII: "numbers are decimal, without padding", and a revision "in eight upper-case hex digits" (document 01, "The
-- catalogue").
--   code0, code_a   the codes of 0 and of A
--   digit        the code of a decimal digit
--   TwoDigits    a number that has no more than two
--   digits_in    the decimal digits of n, the last f of them where it has more
--   decimal      the decimal digits of n, without padding
--   hex_digit    the code of a hex digit: 0 to 9, then A to F
--   hex_to       the first k of the eight hex digits of n
--   hex8         all eight
use Rattle.std.specs.Prelude.{ℕ, zero, suc, ◌+◌, ◌*◌, ◌-◌, ◌/◌, ◌%◌, ◌^◌, ◌<◌, cond, List, [], ◌∷◌, ◌++◌, ltb}

abbrev pub code0 : ℕ
code0 = 48

abbrev pub code_a : ℕ
code_a = 65

abbrev pub digit : ℕ → ℕ
digit d = code0 + d

abbrev pub TwoDigits : ℕ → Type 0
TwoDigits n = n < 100

unfoldable pub digits_in : ℕ → ℕ → List ℕ
digits_in zero n = []
digits_in (suc f) n = cond (ltb n 10) (digit n ∷ []) (digits_in f (n / 10) ++ (digit (n % 10) ∷ []))

-- no number has more than n + 1 digits
unfoldable pub decimal : ℕ → List ℕ
decimal n = digits_in (suc n) n

unfoldable pub hex_digit : ℕ → ℕ
hex_digit d = cond (ltb d 10) (digit d) (code_a + (d - 10))

-- digit i from the left is the four bits from bit 4 (7 - i) on
unfoldable pub hex_to : ℕ → ℕ → List ℕ
hex_to n zero = []
hex_to n (suc i) = hex_to n i ++ (hex_digit (n / 2 ^ (4 * (7 - i)) % 16) ∷ [])

unfoldable pub hex8 : ℕ → List ℕ
hex8 n = hex_to n 8
