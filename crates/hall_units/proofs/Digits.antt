-- Lemmas on decimal digits.
use Rattle.std.proofs.Common.{◌≡◌, ℕ, ◌+◌, ◌*◌, ◌<◌, ◌≤◌, ◌^◌, suc, true, List, [], ◌∷◌, arith, add-one, lit<}
use Rattle.std.specs.List.{list_all}
use Rattle.std.specs.Char.{is_ascii_digit, digit_value}
use Rattle.std.specs.Str.Parse.{AllDigits}
use Rattle.std.proofs.lemmas.Bool.Decides.{nat_tests}
use Rattle.std.proofs.Math.Nat.{pow-suc, pow-le-pow_right}

digit_below_ten : (c : ℕ) → is_ascii_digit c ≡ true → digit_value c < 10
digit_below_ten c h = grind (arith, nat_tests)

-- a text that passes the test has digits alone
pub digits_from_test : (text : List ℕ) → list_all is_ascii_digit text ≡ true → AllDigits 10 text
digits_from_test [] h = tt
digits_from_test (c ∷ text) h =
    let both : (is_ascii_digit c ≡ true) × (list_all is_ascii_digit text ≡ true) =
    grind (arith, nat_tests) in
    (digit_below_ten c both.0, digits_from_test text both.1)

-- one more digit keeps the bound of the next power of ten
pub next_digit_below : (i value digit : ℕ) → value < 10 ^ i → digit < 10
    → value * 10 + digit < 10 ^ (i + 1)
next_digit_below i value digit below small =
    let step : 10 ^ suc i ≡ 10 ^ i * 10 = pow-suc 10 i in
    rw (add-one, step) (omega arith)

-- below 38 digits there is room for one more in 128 bits
pub digit_fits : (i value digit : ℕ) → i < 38 → value < 10 ^ i → digit < 10
    → value * 10 + digit < 2 ^ 128
digit_fits i value digit short below small =
    let not_zero : 0 < 10 = omega arith in
    let at_most : i ≤ 37 = omega arith in
    let shorter : 10 ^ i ≤ 10 ^ 37 = pow-le-pow_right not_zero at_most in
    let small_enough : 10 ^ 37 * 10 < 2 ^ 128 = lit< tt in
    omega arith
