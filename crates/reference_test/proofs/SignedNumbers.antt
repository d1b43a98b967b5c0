-- Signed numbers as the code computes them: each result goes to bits and is read again, which
-- changes nothing where it fits.
use Rattle.std.proofs.Common.{◌≡◌, ℕ, ◌+◌, ◌*◌, ◌^◌, ◌≤◌, ◌<◌, ℤ, pos, ◌+ℤ◌, ◌-ℤ◌, ◌*ℤ◌, ap, ◌∙◌, arith, unsigned_abs, FitsSigned, int_le, refl}
use Rattle.std.proofs.lemmas.Int.{ints, to_z-of_z, unsigned_abs-mul, fits_signed_from_abs}
use Rattle.std.proofs.Math.Nat.{mul-le-mul}
use mir.Syntax.{Width}
use mir.Val.{to_z, of_z, hbits}

-- a signed number that goes to bits and is read again
abbrev pub again : Width → ℤ → ℤ
again w z = to_z w (of_z w z)

-- the code has z, which is at most bound away from 0
pub record Computes (seen z : ℤ) (bound : ℕ) : Type 0 where
  pub same : seen ≡ z
  pub near : unsigned_abs z ≤ bound

-- a number that is read
pub computes_read : (w : Width) (seen z : ℤ) (bound : ℕ) → bound < 2 ^ hbits w → seen ≡ z
    → unsigned_abs z ≤ bound → Computes (again w seen) z bound
computes_read w seen z bound fits same near =
    record {
      same = ap (λ t. to_z w (of_z w t)) same ∙ to_z-of_z w z (fits_signed_from_abs w z (omega arith));
      near = near;
    }

-- a number that was computed, and is read again
pub computes_again : (w : Width) (result : ℤ) {seen z : ℤ} {bound : ℕ} → bound < 2 ^ hbits w
    → result ≡ seen → Computes seen z bound → Computes (again w result) z bound
computes_again w result {seen} {z} {bound} fits is x =
    computes_read w result z bound fits (is ∙ x.same) x.near

pub computes_product : (w : Width) {a' a b' b : ℤ} {m n : ℕ} → m * n < 2 ^ hbits w → Computes a' a m
    → Computes b' b n → Computes (again w (a' *ℤ b')) (a *ℤ b) (m * n)
computes_product w {a'} {a} {b'} {b} {m} {n} fits x y =
    computes_read w (a' *ℤ b') (a *ℤ b) (m * n) fits (ap (λ t. t *ℤ b') x.same ∙ ap (λ t. a *ℤ t) y.same)
    (rw (unsigned_abs-mul a b) (mul-le-mul x.near y.near))

pub computes_difference : (w : Width) {a' a b' b : ℤ} {m n : ℕ} → m + n < 2 ^ hbits w
    → Computes a' a m → Computes b' b n → Computes (again w (a' -ℤ b')) (a -ℤ b) (m + n)
computes_difference w {a'} {a} {b'} {b} {m} {n} fits x y =
    computes_read w (a' -ℤ b') (a -ℤ b) (m + n) fits (ap (λ t. t -ℤ b') x.same ∙ ap (λ t. a -ℤ t) y.same)
    (omega (arith, ints, x.near, y.near))

pub computes_sum : (w : Width) {a' a b' b : ℤ} {m n : ℕ} → m + n < 2 ^ hbits w → Computes a' a m
    → Computes b' b n → Computes (again w (a' +ℤ b')) (a +ℤ b) (m + n)
computes_sum w {a'} {a} {b'} {b} {m} {n} fits x y =
    computes_read w (a' +ℤ b') (a +ℤ b) (m + n) fits (ap (λ t. t +ℤ b') x.same ∙ ap (λ t. a +ℤ t) y.same)
    (omega (arith, ints, x.near, y.near))

-- a product fits
pub fits-product : (w : Width) {a' a b' b : ℤ} {m n : ℕ} → m * n < 2 ^ hbits w → Computes a' a m
    → Computes b' b n → FitsSigned w (a' *ℤ b')
fits-product w {a'} {a} {b'} {b} {m} {n} fits x y =
    let same : a' *ℤ b' ≡ a *ℤ b = ap (λ t. t *ℤ b') x.same ∙ ap (λ t. a *ℤ t) y.same in
    let le : unsigned_abs a * unsigned_abs b ≤ m * n = mul-le-mul x.near y.near in
    let abs = unsigned_abs-mul a b in
    rw same (fits_signed_from_abs w (a *ℤ b) (omega arith))

-- a difference fits
pub fits-difference : (w : Width) {a' a b' b : ℤ} {m n : ℕ} → m + n < 2 ^ hbits w → Computes a' a m
    → Computes b' b n → FitsSigned w (a' -ℤ b')
fits-difference w {a'} {a} {b'} {b} {m} {n} fits x y =
    let same : a' -ℤ b' ≡ a -ℤ b = ap (λ t. t -ℤ b') x.same ∙ ap (λ t. a -ℤ t) y.same in
    let near : unsigned_abs (a -ℤ b) ≤ m + n = omega (arith, ints, x.near, y.near) in
    rw same (fits_signed_from_abs w (a -ℤ b) (omega (arith, near, fits)))

-- a number that stands in the code
pub computes_literal : (n : ℕ) → Computes (pos n) (pos n) n
computes_literal n = record { same = refl; near = omega (arith, ints) }

-- the test of two numbers is that of the numbers that they are
pub same_at_most : {a' a b' b : ℤ} → a' ≡ a → b' ≡ b → int_le a' b' ≡ int_le a b
same_at_most {a'} {a} {b'} {b} p q = ap (λ (z : ℤ). int_le z b') p ∙ ap (λ (z : ℤ). int_le a z) q
