-- Lists made of others.
use Rattle.std.proofs.Common.{◌≡◌, ℕ, suc, ◌+◌, min, List, [], ◌∷◌, ◌++◌, length, map, get_or, flat_map, All, AllPairs, sum_by, refl, sym, ◌∙◌, ap, arith, length-append}
use Rattle.std.proofs.lemmas.List.Elements.{All-append, All-cons, All-head, All-nil, All-tail}
use Rattle.std.proofs.lemmas.List.Kept.{AllPairs-cons}
use Rattle.std.proofs.lemmas.List.Sums.{sum_by-cons}

module _ {X : Type 0} (K : X → Type 0) where
  pub all_left : (xs ys : List X) → All K (xs ++ ys) → All K xs
  all_left [] ys all = All-nil K
  all_left (x ∷ xs) ys all = All-cons K x xs (All-head K x (xs ++ ys) all)
      (all_left xs ys (All-tail K x (xs ++ ys) all))

  pub all_right : (xs ys : List X) → All K (xs ++ ys) → All K ys
  all_right [] ys all = all
  all_right (x ∷ xs) ys all = all_right xs ys (All-tail K x (xs ++ ys) all)

module _ {X Y : Type 0} (K : Y → Type 0) (f : X → Y) where
  pub all_of_map : (xs : List X) → All K (map f xs) → All (λ x. K (f x)) xs
  all_of_map [] all = All-nil (λ x. K (f x))
  all_of_map (x ∷ xs) all = All-cons (λ y. K (f y)) x xs (All-head K (f x) (map f xs) all)
      (all_of_map xs (All-tail K (f x) (map f xs) all))

module _ {X Y : Type 0} (K : Y → Type 0) (f : X → List Y) where
  pub all_flat : (xs : List X) → All (λ x. All K (f x)) xs → All K (flat_map f xs)
  all_flat [] all = All-nil K
  all_flat (x ∷ xs) all = All-append K (f x) (flat_map f xs)
      (All-head (λ y. All K (f y)) x xs all)
      (all_flat xs (All-tail (λ y. All K (f y)) x xs all))

-- ---- pairs

module _ {X : Type 0} (R : X → X → Type 0) where
  pub pairs_head : (x : X) (xs : List X) → AllPairs R (x ∷ xs) → All (R x) xs
  pairs_head x xs pairs = λ k d inside. pairs 0 (suc k) d (omega arith) (omega (arith, inside))

  pub pairs_tail : (x : X) (xs : List X) → AllPairs R (x ∷ xs) → AllPairs R xs
  pairs_tail x xs pairs =
      λ i j d less inside. pairs (suc i) (suc j) d (omega (arith, less)) (omega (arith, inside))

  pub pairs_right : (xs ys : List X) → AllPairs R (xs ++ ys) → AllPairs R ys
  pairs_right [] ys pairs = pairs
  pairs_right (x ∷ xs) ys pairs = pairs_right xs ys (pairs_tail x (xs ++ ys) pairs)

  pub pairs_append : (xs ys : List X) → AllPairs R xs → AllPairs R ys → All (λ x. All (R x) ys) xs
      → AllPairs R (xs ++ ys)
  pairs_append [] ys one two across = two
  pairs_append (x ∷ xs) ys one two across = AllPairs-cons R x (xs ++ ys)
      (All-append (R x) xs ys (pairs_head x xs one) (All-head (λ y. All (R y) ys) x xs across))
      (pairs_append xs ys (pairs_tail x xs one) two (All-tail (λ y. All (R y) ys) x xs across))

  pub pairs_none : AllPairs R []
  pairs_none = λ i j d less inside. absurd (omega (arith, inside))

  pub pairs_weaker : (S : X → X → Type 0) → ((x y : X) → R x y → S x y) → (xs : List X)
      → AllPairs R xs → AllPairs S xs
  pairs_weaker S weaker xs pairs =
      λ i j d less inside. weaker (get_or xs i d) (get_or xs j d) (pairs i j d less inside)

module _ {X Y : Type 0} (R : Y → Y → Type 0) (f : X → Y) where
  pub pairs_of_map : (xs : List X) → AllPairs R (map f xs) → AllPairs (λ x y. R (f x) (f y)) xs
  pairs_of_map [] pairs = pairs_none (λ x y. R (f x) (f y))
  pairs_of_map (x ∷ xs) pairs = AllPairs-cons (λ y z. R (f y) (f z)) x xs
      (all_of_map (R (f x)) f xs (pairs_head R (f x) (map f xs) pairs))
      (pairs_of_map xs (pairs_tail R (f x) (map f xs) pairs))

-- of lists that go together pair by pair, all elements do
module _ {X Y : Type 0} (R : Y → Y → Type 0) (S : X → X → Type 0) (K : X → Type 0)
    (f : X → List Y)
    (meet : (x y : X) → K x → K y → S x y → All (λ a. All (R a) (f y)) (f x)) where
  meets_all : (x : X) (xs : List X) → K x → All K xs → All (S x) xs
      → All (λ a. All (R a) (flat_map f xs)) (f x)
  meets_all x xs one all apart = λ k d inside. all_flat (R (get_or (f x) k d)) f xs
      (λ j e within. meet x (get_or xs j e) one (all j e within) (apart j e within) k d inside)

  pub pairs_flat : (xs : List X) → All K xs → All (λ x. AllPairs R (f x)) xs → AllPairs S xs
      → AllPairs R (flat_map f xs)
  pairs_flat [] all each apart = pairs_none R
  pairs_flat (x ∷ xs) all each apart = pairs_append R (f x) (flat_map f xs)
      (All-head (λ y. AllPairs R (f y)) x xs each)
      (pairs_flat xs (All-tail K x xs all) (All-tail (λ y. AllPairs R (f y)) x xs each)
      (pairs_tail S x xs apart))
      (meets_all x xs (All-head K x xs all) (All-tail K x xs all) (pairs_head S x xs apart))

-- ---- sums and maps

pub map_twice : {X Y Z : Type 0} (f : Y → Z) (g : X → Y) (xs : List X)
    → map f (map g xs) ≡ map (λ x. f (g x)) xs
map_twice f g [] = refl
map_twice f g (x ∷ xs) = ap (λ ys. f (g x) ∷ ys) (map_twice f g xs)

pub sum_map : {X Y : Type 0} (f : Y → ℕ) (g : X → Y) (xs : List X)
    → sum_by f (map g xs) ≡ sum_by (λ x. f (g x)) xs
sum_map f g [] = refl
sum_map f g (x ∷ xs) = sum_by-cons f (g x) (map g xs)
    ∙ (ap (λ n. f (g x) + n) (sum_map f g xs) ∙ sym (sum_by-cons (λ y. f (g y)) x xs))

pub sum_same : {X : Type 0} (f g : X → ℕ) (xs : List X) → All (λ x. f x ≡ g x) xs
    → sum_by f xs ≡ sum_by g xs
sum_same f g [] same = refl
sum_same f g (x ∷ xs) same = let one = All-head (λ y. f y ≡ g y) x xs same in
    let more = sum_same f g xs (All-tail (λ y. f y ≡ g y) x xs same) in
    omega (arith, one, more, sum_by-cons f x xs, sum_by-cons g x xs)

-- sums of counts that are the same up to an end are so too
pub sum_up_to : {X : Type 0} (f g : X → ℕ) (most : ℕ) (xs : List X)
    → All (λ x. min (f x) most ≡ min (g x) most) xs
    → min (sum_by f xs) most ≡ min (sum_by g xs) most
sum_up_to f g most [] same = refl
sum_up_to f g most (x ∷ xs) same =
    let one = All-head (λ y. min (f y) most ≡ min (g y) most) x xs same in
    let more = sum_up_to f g most xs (All-tail (λ y. min (f y) most ≡ min (g y) most) x xs same) in
    omega (arith, one, more, sum_by-cons f x xs, sum_by-cons g x xs)

pub length_flat : {X Y : Type 0} (f : X → List Y) (xs : List X)
    → length (flat_map f xs) ≡ sum_by (λ x. length (f x)) xs
length_flat f [] = refl
length_flat f (x ∷ xs) = length-append (f x) (flat_map f xs)
    ∙ (ap (λ n. length (f x) + n) (length_flat f xs) ∙ sym (sum_by-cons (λ y. length (f y)) x xs))
