-- Filters, finds and maps of lists, one after another.
use Rattle.std.proofs.Common.{◌≡◌, ℕ, ◌+◌, Bool, true, false, ◌&&◌, cond, List, [], ◌∷◌, ◌++◌, map, Option, Some, None, option_map, is_some, refl, ◌∙◌, ap}
use Rattle.std.specs.List.{AllByRecursion, filter, find, count_by}
use Rattle.batch_sums.proofs.PackSums.{sum_by-map}
use Rattle.book_words.specs.declared.name.Name.{Name}
use Rattle.book_words.specs.Names.{same_name}
use Rattle.book_words.specs.Order.{place_of}
use Rattle.book_words.proofs.NameLemmas.{same_name_itself}

pub filter-map : {X Y : Type 0} (p : Y → Bool) (f : X → Y) (xs : List X)
    → filter p (map f xs) ≡ map f (filter (λ x. p (f x)) xs)
filter-map p f [] = refl
filter-map p f (x ∷ xs) =
    elim (p (f x)) as (λ b. cond b (f x ∷ filter p (map f xs)) (filter p (map f xs))
    ≡ map f (cond b (x ∷ filter (λ y. p (f y)) xs) (filter (λ y. p (f y)) xs))) [
      | true ↦ ap (λ ys. f x ∷ ys) (filter-map p f xs)
      | false ↦ filter-map p f xs
    ]

pub find-map : {X Y : Type 0} (p : Y → Bool) (f : X → Y) (xs : List X)
    → find p (map f xs) ≡ option_map f (find (λ x. p (f x)) xs)
find-map p f [] = refl
find-map p f (x ∷ xs) =
    elim (p (f x)) as (λ b. cond b (Some (f x)) (find p (map f xs))
    ≡ option_map f (cond b (Some x) (find (λ y. p (f y)) xs))) [
      | true ↦ refl
      | false ↦ find-map p f xs
    ]

pub filter-filter : {X : Type 0} (p q : X → Bool) (xs : List X)
    → filter p (filter q xs) ≡ filter (λ x. q x && p x) xs
filter-filter p q [] = refl
filter-filter p q (x ∷ xs) =
    elim (q x) as (λ b. filter p (cond b (x ∷ filter q xs) (filter q xs))
    ≡ cond (b && p x) (x ∷ filter (λ y. q y && p y) xs) (filter (λ y. q y && p y) xs)) [
      | true ↦ ap (λ ys. cond (p x) (x ∷ ys) ys) (filter-filter p q xs)
      | false ↦ filter-filter p q xs
    ]

-- tests that agree on each of some items
pub filter-within : {X : Type 0} (p q : X → Bool) (xs : List X) → AllByRecursion (λ x. p x ≡ q x) xs
    → filter p xs ≡ filter q xs
filter-within p q [] all = refl
filter-within p q (x ∷ xs) all =
    ap (λ b. cond b (x ∷ filter p xs) (filter p xs)) all.0
    ∙ ap (λ ys. cond (q x) (x ∷ ys) ys) (filter-within p q xs all.1)

pub map-within : {X Y : Type 0} (f g : X → Y) (xs : List X) → AllByRecursion (λ x. f x ≡ g x) xs
    → map f xs ≡ map g xs
map-within f g [] all = refl
map-within f g (x ∷ xs) all = ap (λ y. y ∷ map f xs) all.0
    ∙ ap (λ ys. g x ∷ ys) (map-within f g xs all.1)

pub map-map : {X Y Z : Type 0} (g : Y → Z) (f : X → Y) (xs : List X)
    → map g (map f xs) ≡ map (λ x. g (f x)) xs
map-map g f [] = refl
map-map g f (x ∷ xs) = ap (λ ys. g (f x) ∷ ys) (map-map g f xs)

pub all_then : {X : Type 0} {P Q : X → Type 0} (h : (x : X) → P x → Q x) (xs : List X)
    → AllByRecursion P xs → AllByRecursion Q xs
all_then h [] all = tt
all_then h (x ∷ xs) all = (h x all.0, all_then h xs all.1)

pub all_of : {X : Type 0} {P : X → Type 0} (h : (x : X) → P x) (xs : List X) → AllByRecursion P xs
all_of h [] = tt
all_of h (x ∷ xs) = (h x, all_of h xs)

pub count-map : {X Y : Type 0} (p : Y → Bool) (f : X → Y) (xs : List X)
    → count_by p (map f xs) ≡ count_by (λ x. p (f x)) xs
count-map p f xs = sum_by-map (λ y. cond (p y) 1 0) f xs

pub all-append : {X : Type 0} (P : X → Type 0) (xs ys : List X) → AllByRecursion P xs
    → AllByRecursion P ys → AllByRecursion P (xs ++ ys)
all-append P [] ys all more = more
all-append P (x ∷ xs) ys all more = (all.0, all-append P xs ys all.1 more)

pub all-map : {X Y : Type 0} (P : Y → Type 0) (f : X → Y) (xs : List X)
    → AllByRecursion (λ x. P (f x)) xs → AllByRecursion P (map f xs)
all-map P f [] all = tt
all-map P f (x ∷ xs) all = (all.0, all-map P f xs all.1)

-- each of some names has a place among them
pub each_has_place : (names : List Name)
    → AllByRecursion (λ name. is_some (place_of names name) ≡ true) names
each_has_place [] = tt
each_has_place (first ∷ names) = (
  ap (λ b. is_some (cond b (Some 0) (option_map (λ n. n + 1) (place_of names first))))
      (same_name_itself first),
  all_then (λ name has. later name (place_of names name) has) names (each_has_place names),
)
  where
    later : (name : Name) (o : Option ℕ) → is_some o ≡ true
        → is_some (cond (same_name first name) (Some 0) (option_map (λ n. n + 1) o)) ≡ true
    later name None h = absurd (cc)
    later name (Some n) h = elim (same_name first name) as
        (λ b. is_some (cond b (Some 0) (Some (n + 1))) ≡ true) [ true ↦ refl | false ↦ refl ]
