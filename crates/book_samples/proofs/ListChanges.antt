-- What a changed list is.
use Rattle.std.proofs.Common.{◌≡◌, ℕ, zero, suc, ◌<◌, ◌≤◌, List, [], ◌∷◌, length, get_or, set, refl, ap, arith}
use Rattle.book_samples.specs.Changed.{change_at}

-- a list without the place stays
pub change-past : {A : Type 0} (change : A → A) (place : ℕ) (xs : List A) → length xs ≤ place
    → xs ≡ change_at change place xs
change-past change place [] h = refl
change-past change zero (x ∷ xs) h = absurd (omega arith)
change-past change (suc place) (x ∷ xs) h = ap (λ ys. x ∷ ys) (change-past change place xs (omega arith))

-- what is written at a place
pub change-written : {A : Type 0} (change : A → A) (place : ℕ) (xs : List A) (d : A)
    → place < length xs → set xs place (change (get_or xs place d)) ≡ change_at change place xs
change-written change place [] d h = absurd (omega arith)
change-written change zero (x ∷ xs) d h = refl
change-written change (suc place) (x ∷ xs) d h =
    ap (λ ys. x ∷ ys) (change-written change place xs d (omega arith))
