-- The squared deviations of a list of values, by its number, its sum and its sum of squares.
use Rattle.std.proofs.Common.{◌≡◌, ℕ, ◌+◌, ℤ, pos, ◌+ℤ◌, ◌-ℤ◌, ◌*ℤ◌, List, [], ◌∷◌, ◌++◌, length, map, refl, ap, sym, ◌∙◌, arith, length-append}
use Rattle.std.proofs.Math.IntN.{*ℤ_comm, *ℤ-zero, zero-*ℤ}
use Rattle.std.proofs.lemmas.Int.{ints}
use Rattle.reference_test.specs.Means.{total, square, sums_of, squared_deviations}
use Rattle.reference_test.proofs.Integers.{*ℤ-+ℤ, *ℤ--ℤ, *ℤ_assoc, suc-*ℤ, square_of_difference}

-- ---- one value more

total-push : (xs : List ℤ) (x : ℤ) → total (xs ++ x ∷ []) ≡ total xs +ℤ x
total-push [] x = omega (arith, ints)
total-push (y ∷ ys) x = let ih = total-push ys x in omega (arith, ints, ih)

map-push : (xs : List ℤ) (x : ℤ) → map square (xs ++ x ∷ []) ≡ map square xs ++ square x ∷ []
map-push [] x = refl
map-push (y ∷ ys) x = ap (λ t. square y ∷ t) (map-push ys x)

-- the sums of a list with a value more
pub sums_of-push : (values : List ℤ) (x : ℤ) (number : ℕ) (sum squares : ℤ)
    → number ≡ length values + 1 → sum ≡ total values +ℤ x
    → squares ≡ total (map square values) +ℤ x *ℤ x
    → record { number = number; sum_of_values = sum; sum_of_squares = squares }
    ≡ sums_of (values ++ x ∷ [])
sums_of-push values x number sum squares is_number is_sum is_squares =
    let e : number ≡ length (values ++ x ∷ []) = omega (arith, length-append values (x ∷ [])) in
    let f : sum ≡ total (values ++ x ∷ []) = is_sum ∙ sym (total-push values x) in
    let g : squares ≡ total (map square (values ++ x ∷ [])) = is_squares
    ∙ sym (ap total (map-push values x) ∙ total-push (map square values) (square x)) in
    rw (e, f, g) refl

-- ---- the identity

-- the square of n times a value
square_of_multiple : (n x : ℤ) → square (n *ℤ x) ≡ square n *ℤ square x
square_of_multiple n x =
    *ℤ_assoc n x (n *ℤ x) ∙ ap (λ t. n *ℤ t)
    (sym (*ℤ_assoc x n x) ∙ ap (λ t. t *ℤ x) (*ℤ_comm x n) ∙ *ℤ_assoc n x x)
    ∙ sym (*ℤ_assoc n n (x *ℤ x))

double_product : (n x s : ℤ) → pos 2 *ℤ (n *ℤ x *ℤ s) ≡ pos 2 *ℤ (n *ℤ s) *ℤ x
double_product n x s =
    ap (λ t. pos 2 *ℤ t) (*ℤ_assoc n x s ∙ ap (λ t. n *ℤ t) (*ℤ_comm x s) ∙ sym (*ℤ_assoc n s x))
    ∙ sym (*ℤ_assoc (pos 2) (n *ℤ s) x)

-- the square of how far n times a value is from s
square_of_deviation : (n s x : ℤ)
    → square (n *ℤ x -ℤ s) +ℤ pos 2 *ℤ (n *ℤ s) *ℤ x ≡ square n *ℤ square x +ℤ square s
square_of_deviation n s x =
    ap (λ t. square (n *ℤ x -ℤ s) +ℤ t) (sym (double_product n x s))
    ∙ square_of_difference (n *ℤ x) s ∙ ap (λ t. t +ℤ square s) (square_of_multiple n x)

-- two equations added up
equations-add : (a b c d a' b' c' d' : ℤ) → a +ℤ b ≡ c +ℤ d → a' +ℤ b' ≡ c' +ℤ d'
    → (a +ℤ a') +ℤ (b +ℤ b') ≡ (c +ℤ c') +ℤ (d +ℤ d')
equations-add a b c d a' b' c' d' h h' = omega (arith, ints)

-- the squares of how far n times each value is from s, added up
squares_of_deviations : (n s : ℤ) (xs : List ℤ)
    → total (map (λ x. square (n *ℤ x -ℤ s)) xs) +ℤ pos 2 *ℤ (n *ℤ s) *ℤ total xs ≡ square n
    *ℤ total (map square xs) +ℤ pos (length xs) *ℤ square s
squares_of_deviations n s [] =
    rw (*ℤ-zero (pos 2 *ℤ (n *ℤ s)), *ℤ-zero (square n), zero-*ℤ (square s)) refl
squares_of_deviations n s (x ∷ xs) =
    let sum = equations-add (square (n *ℤ x -ℤ s)) (pos 2 *ℤ (n *ℤ s) *ℤ x) (square n *ℤ square x)
    (square s)
    (total (map (λ x. square (n *ℤ x -ℤ s)) xs)) (pos 2 *ℤ (n *ℤ s) *ℤ total xs)
    (square n *ℤ total (map square xs)) (pos (length xs) *ℤ square s)
    (square_of_deviation n s x) (squares_of_deviations n s xs) in
    rw (
      *ℤ-+ℤ (pos 2 *ℤ (n *ℤ s)) x (total xs),
      *ℤ-+ℤ (square n) (square x) (total (map square xs)),
      suc-*ℤ (length xs) (square s),
    ) sum

-- what is known of three numbers, solved for the first
solved : (d p r : ℤ) → d +ℤ pos 2 *ℤ r ≡ p +ℤ r → d ≡ p -ℤ r
solved d p r h = omega (arith, ints)

-- n times the squared deviations of n values, by their number, their sum and their sum of squares
pub squared_deviations-by_sums : (values : List ℤ)
    → squared_deviations values ≡ pos (length values)
    *ℤ (pos (length values) *ℤ total (map square values) -ℤ square (total values))
squared_deviations-by_sums values =
    let n = pos (length values) in
    let s = total values in
    let q = total (map square values) in
    let twice : pos 2 *ℤ (n *ℤ s) *ℤ s ≡ pos 2 *ℤ (n *ℤ square s) = *ℤ_assoc (pos 2) (n *ℤ s) s
    ∙ ap (λ t. pos 2 *ℤ t) (*ℤ_assoc n s s) in
    let known : squared_deviations values +ℤ pos 2 *ℤ (n *ℤ square s) ≡ n *ℤ (n *ℤ q) +ℤ n *ℤ square s =
    ap (λ t. squared_deviations values +ℤ t) (sym twice) ∙ squares_of_deviations n s values
    ∙ ap (λ t. t +ℤ n *ℤ square s) (*ℤ_assoc n n q) in
    solved (squared_deviations values) (n *ℤ (n *ℤ q)) (n *ℤ square s) known
    ∙ sym (*ℤ--ℤ n (n *ℤ q) (square s))
