-- Laws of digits.
--   decimal_one, decimal_more     a number below 10 is one digit; any other is what stands before its last digit, and that digit
--   decimal_two                   a number from 10 to 99
--   decimal_few                   a number below 100 has at most two digits
--   hex_none, hex_more, hex_all   no hex digit yet, one more, which a call gave, and all
--   hex_long                      eight of them
use Rattle.std.specs.Prelude.{ℕ, zero, suc, ◌+◌, ◌*◌, ◌-◌, ◌/◌, ◌%◌, ◌^◌, ◌<◌, ◌≤◌, ◌≡◌, refl, Bool, true, false, [], ◌∷◌, ◌++◌, length, ltb}
use Rattle.std.proofs.Common.{⊎_elim, arith, add-one, lt-ltb, le-ltb, ltb-false}
use Rattle.laws.specs.Orders.{le_or_lt}
use Rattle.report_text.specs.Digits.{TwoDigits, digit, digits_in, decimal, hex_digit, hex_to, hex8}

-- how many may be there at most makes no difference where it is more than n
enough : (f g n : ℕ) → n < f → n < g → digits_in f n ≡ digits_in g n
unfolding digits_in
enough zero g n l m = absurd (omega arith)
enough (suc f) zero n l m = absurd (omega arith)
enough (suc f) (suc g) n l m = go (ltb n 10) refl (λ h. enough f g (n / 10) (omega arith) (omega arith))
  where
    go : (t : Bool) → ltb n 10 ≡ t → (10 ≤ n → digits_in f (n / 10) ≡ digits_in g (n / 10)) → digits_in (suc f) n ≡ digits_in (suc g) n
    go true e h = rw e
    go false e h = rw (e, h (ltb-false n 10 e))

pub decimal_one : (n : ℕ) → n < 10 → decimal n ≡ digit n ∷ []
unfolding decimal digits_in
decimal_one n l = rw (lt-ltb n 10 l)

pub decimal_more : (n : ℕ) → 10 ≤ n → decimal n ≡ decimal (n / 10) ++ (digit (n % 10) ∷ [])
unfolding decimal digits_in
decimal_more n l = rw (le-ltb n 10 l, enough n (suc (n / 10)) (n / 10) (omega arith) (omega arith))

pub decimal_two : (n : ℕ) → 10 ≤ n → TwoDigits n → decimal n ≡ (digit (n / 10) ∷ []) ++ (digit (n % 10) ∷ [])
decimal_two n l m = rw (decimal_more n l, decimal_one (n / 10) (omega arith))

pub decimal_few : (n : ℕ) → TwoDigits n → length (decimal n) ≤ 2
decimal_few n l =
    ⊎_elim (λ (h : 10 ≤ n). rw (decimal_two n h l) (omega arith))
    (λ (h : n < 10). rw (decimal_one n h) (omega arith))
    (le_or_lt 10 n)

pub hex_none : (n : ℕ) → hex_to n 0 ≡ []
unfolding hex_to
hex_none n = refl

pub hex_more : (n i d : ℕ) → d ≡ hex_digit (n / 2 ^ (4 * (7 - i)) % 16) → hex_to n (i + 1) ≡ hex_to n i ++ (d ∷ [])
unfolding hex_to
hex_more n i d e = rw (add-one i, e)

pub hex_all : (n i : ℕ) → i ≡ 8 → hex_to n i ≡ hex8 n
unfolding hex8
hex_all n i e = rw e

pub hex_long : (n : ℕ) → length (hex8 n) ≡ 8
unfolding hex8 hex_to
hex_long n = refl
