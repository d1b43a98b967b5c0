-- How far two lists go together.
use Rattle.std.proofs.Common.{◌≡◌, ◌+◌, ◌<◌, ◌≤◌, arith, zero, suc, ℕ, Bool, true, false, List, [], ◌∷◌, length, drop, get_or, refl, ap, ◌∙◌}
use Rattle.std.specs.List.{common_prefix_len}
use Rattle.std.proofs.lemmas.List.{drop_more}

-- one place more
pub prefix_more : {A B : Type 0} (f : A → B → Bool) (xs : List A) (ys : List B) (i : ℕ) (d : A)
    (e : B)
    → i < length xs → i < length ys → f (get_or xs i d) (get_or ys i e) ≡ true
    → common_prefix_len f (drop i xs) (drop i ys)
    ≡ 1 + common_prefix_len f (drop (i + 1) xs) (drop (i + 1) ys)
prefix_more f xs ys i d e within other same =
    rw (drop_more xs i d within, drop_more ys i e other, same) refl

-- none behind a place at which they differ
pub prefix_differs : {A B : Type 0} (f : A → B → Bool) (xs : List A) (ys : List B) (i : ℕ) (d : A)
    (e : B) → i < length xs → i < length ys → f (get_or xs i d) (get_or ys i e) ≡ false
    → common_prefix_len f (drop i xs) (drop i ys) ≡ 0
prefix_differs f xs ys i d e within other differ =
    rw (drop_more xs i d within, drop_more ys i e other, differ) refl

-- none where the second is over
pub prefix_over : {A B : Type 0} (f : A → B → Bool) (xs : List A) → common_prefix_len f xs [] ≡ 0
prefix_over f [] = refl
prefix_over f (x ∷ xs) = refl

pub drop_over : {A : Type 0} (n : ℕ) (xs : List A) → length xs ≤ n → drop n xs ≡ []
drop_over zero [] short = refl
drop_over zero (x ∷ xs) short = absurd (omega (arith, short))
drop_over (suc n) [] short = refl
drop_over (suc n) (x ∷ xs) short = drop_over n xs (omega (arith, short))

-- where the second is over, what goes together is counted
pub counted_over : {A B : Type 0} (f : A → B → Bool) (xs : List A) (ys : List B) (i whole : ℕ)
    → whole ≡ i + common_prefix_len f (drop i xs) (drop i ys) → i ≡ length ys → i ≡ whole
counted_over f xs ys i whole is over =
    let none : common_prefix_len f (drop i xs) (drop i ys) ≡ 0 =
    ap (common_prefix_len f (drop i xs)) (drop_over i ys (omega (arith, over)))
    ∙ prefix_over f (drop i xs) in
    omega (arith, is, none)
