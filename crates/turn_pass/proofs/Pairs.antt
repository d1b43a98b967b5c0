-- What holds of each two elements of a list, in their order.
use Rattle.std.proofs.Common.{zero, suc, List, [], ◌∷◌, map, All, AllPairs, arith}
use Rattle.std.proofs.lemmas.List.Elements.{All-nil, All-cons, All-head, All-tail, All-map}

-- a relation that holds of x and each later one, and of each two later ones
pub pairs_cons : {A : Type 0} (R : A → A → Type 0) (x : A) (xs : List A) → All (R x) xs
    → AllPairs R xs → AllPairs R (x ∷ xs)
pairs_cons R x xs first rest zero zero d lt in' = absurd (omega arith)
pairs_cons R x xs first rest zero (suc j) d lt in' = first j d (omega arith)
pairs_cons R x xs first rest (suc i) zero d lt in' = absurd (omega arith)
pairs_cons R x xs first rest (suc i) (suc j) d lt in' = rest i j d (omega arith) (omega arith)

module _ {A : Type 0} where
  pub pairs_head : (R : A → A → Type 0) (x : A) (xs : List A) → AllPairs R (x ∷ xs) → All (R x) xs
  pairs_head R x xs pairs k d lt = pairs zero (suc k) d (omega arith) (omega arith)

  pub pairs_tail : (R : A → A → Type 0) (x : A) (xs : List A) → AllPairs R (x ∷ xs) → AllPairs R xs
  pairs_tail R x xs pairs i j d lt in' = pairs (suc i) (suc j) d (omega arith) (omega arith)

  pub pairs_none : (R : A → A → Type 0) → AllPairs R []
  pairs_none R i j d lt in' = absurd (omega arith)

module _ {A : Type 0} where
  -- what holds of each image holds of each element by way of its image
  pub All-unmap : {B : Type 0} (P : B → Type 0) (f : A → B) (xs : List A) → All P (map f xs)
      → All (λ x. P (f x)) xs
  All-unmap P f [] each = All-nil (λ x. P (f x))
  All-unmap P f (x ∷ xs) each = All-cons (λ x. P (f x)) x xs (All-head P (f x) (map f xs) each)
      (All-unmap P f xs (All-tail P (f x) (map f xs) each))

  pub pairs_unmap : {B : Type 0} (R : B → B → Type 0) (f : A → B) (xs : List A)
      → AllPairs R (map f xs) → AllPairs (λ x y. R (f x) (f y)) xs
  pairs_unmap R f [] pairs = pairs_none (λ x y. R (f x) (f y))
  pairs_unmap R f (x ∷ xs) pairs =
      pairs_cons (λ x y. R (f x) (f y)) x xs
      (All-unmap (R (f x)) f xs (pairs_head R (f x) (map f xs) pairs))
      (pairs_unmap R f xs (pairs_tail R (f x) (map f xs) pairs))

  pub pairs_map : {B : Type 0} (R : B → B → Type 0) (f : A → B) (xs : List A)
      → AllPairs (λ x y. R (f x) (f y)) xs → AllPairs R (map f xs)
  pairs_map R f [] pairs = pairs_none R
  pairs_map R f (x ∷ xs) pairs =
      pairs_cons R (f x) (map f xs)
      (All-map (R (f x)) f xs (pairs_head (λ x y. R (f x) (f y)) x xs pairs))
      (pairs_map R f xs (pairs_tail (λ x y. R (f x) (f y)) x xs pairs))
