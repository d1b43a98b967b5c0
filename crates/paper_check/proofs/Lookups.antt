-- Lemmas on keys that are looked up.
use Rattle.std.proofs.Common.{◌≡◌, ◌≢◌, ◌==◌, ◌||◌, cond, nat_lt, option_map, position, ℕ, zero, suc, ◌+◌, ◌<◌, Bool, true, false, List, [], ◌∷◌, length, map, find, slice_index, get_or, Option, Some, None, Result, Ok, Err, MatchOption, refl, sym, ap, subst, inl, inr, ◌∙◌, arith}
use Rattle.std.specs.List.{list_any, list_all, position_from, position_or_len}
use Rattle.std.specs.List.Sorted.{IsNonDecreasing, IsStrictlyIncreasing, IsBinarySearchResult}
use Rattle.std.specs.Result.{result_ok}
use Rattle.std.specs.Ordering.{nat_cmp}
use Rattle.std.proofs.lemmas.Bool.{cases_Bool, eq-eqb, ne_eqb, cases_lt, lt-ltb, le-ltb, ltb-true, ltb-false, and_parts}
use Rattle.std.proofs.lemmas.List.Sorted.{searched}
use Rattle.std.proofs.lemmas.List.Kept.{AllPairs-from_increasing}
use Rattle.paper_check.specs.Keys.{has_key}

-- a key at a place is there
pub key_at : (keys : List ℕ) (place key : ℕ) → place < length keys → slice_index keys place ≡ key
    → has_key keys key ≡ true
key_at [] place key within is = absurd (omega (arith, within))
key_at (x ∷ keys) zero key within is = rw (eq-eqb x key is) refl
key_at (x ∷ keys) (suc place) key within is = elim (cases_Bool (x == key)) [
  | inl here ↦ rw here refl
  | inr other ↦ rw other (key_at keys place key (omega (arith, within)) is)
]

-- a key at no place isn't
pub key_nowhere : (keys : List ℕ) (key : ℕ)
    → ((place : ℕ) → place < length keys → slice_index keys place ≢ key) → has_key keys key ≡ false
key_nowhere [] key none = refl
key_nowhere (x ∷ keys) key none =
    rw (ne_eqb x key (none 0 (omega arith)))
    (key_nowhere keys key (λ place within. none (suc place) (omega (arith, within))))

-- what a search answers
pub search_answers : (keys : List ℕ) (key : ℕ) (r : Result ℕ ℕ) → IsNonDecreasing keys
    → IsBinarySearchResult (λ y. nat_cmp y key) keys r →
    MatchOption (result_ok r) (has_key keys key ≡ false)
    (λ place. (place < length keys) × (slice_index keys place ≡ key))
search_answers keys key (Ok place) rises found =
    searched keys key (Ok place) found (λ i j le lt. rises i j 0 le lt)
search_answers keys key (Err place) rises none =
    let told = searched keys key (Err place) none (λ i j le lt. rises i j 0 le lt) in
    key_nowhere keys key (λ at within is. elim (cases_lt at place) [
      | inl before ↦ absurd (omega (arith, told.1 at before, is))
      | inr behind ↦ absurd (omega (arith, told.2 at behind within, is))
    ])

shift : (a b : ℕ) → nat_lt (1 + a) (suc b) ≡ nat_lt a b
shift a b = elim (cases_Bool (nat_lt a b)) [
  | inl less ↦ lt-ltb (1 + a) (suc b) (omega (arith, ltb-true a b less)) ∙ sym less
  | inr more ↦ le-ltb (1 + a) (suc b) (omega (arith, ltb-false a b more)) ∙ sym more
]

from_place : {A : Type 0} (p : A → Bool) (n : ℕ) (xs : List A) → position_from p n xs
    ≡ cond (nat_lt (position_or_len p xs) (length xs)) (Some (n + position_or_len p xs)) None
from_place p n [] = refl
from_place p n (x ∷ xs) = elim (cases_Bool (p x)) [
  | inl here ↦
      let e : n ≡ n + 0 = omega arith in
      rw (here, lt-ltb 0 (length (x ∷ xs)) (omega arith)) (ap (λ (m : ℕ). Some m) e)
  | inr other ↦
      let k : ℕ = position_or_len p xs in
      let e : n + 1 + k ≡ n + (1 + k) = omega arith in
      rw other (from_place p (n + 1) xs
      ∙ ap (λ (t : Bool). cond t (Some (n + 1 + k)) None) (sym (shift k (length xs)))
      ∙ ap (λ (m : ℕ). cond (nat_lt (1 + k) (length (x ∷ xs))) (Some m) None) e)
]

map_cond : (t : Bool) (f : ℕ → ℕ) (k : ℕ)
    → cond t (Some (f k)) None ≡ option_map f (cond t (Some k) None)
map_cond true f k = refl
map_cond false f k = refl

-- a place that is counted from a number on
pub position-from : {A : Type 0} (p : A → Bool) (n : ℕ) (xs : List A)
    → position_from p n xs ≡ option_map (λ k. n + k) (position p xs)
position-from p n xs =
    from_place p n xs
    ∙ map_cond (nat_lt (position_or_len p xs) (length xs)) (λ k. n + k) (position_or_len p xs)

-- places in what is made of a list
pub position_from-map : {A : Type 0} (q : ℕ → Bool) (f : A → ℕ) (n : ℕ) (xs : List A)
    → position_from q n (map f xs) ≡ position_from (λ x. q (f x)) n xs
position_from-map q f n [] = refl
position_from-map q f n (x ∷ xs) = elim (cases_Bool (q (f x))) [
  | inl here ↦ rw (here) refl
  | inr other ↦ rw (other) (position_from-map q f (n + 1) xs)
]

-- two tests that agree on a list
pub position_from-same : {A : Type 0} (r p q : A → Bool) (n : ℕ) (xs : List A)
    → ((x : A) → r x ≡ true → p x ≡ q x) → list_all r xs ≡ true
    → position_from p n xs ≡ position_from q n xs
position_from-same r p q n [] same all = refl
position_from-same r p q n (x ∷ xs) same all =
    let parts = and_parts (r x) (list_all r xs) all in
    ap (λ (t : Bool). cond t (Some n) (position_from p (n + 1) xs)) (same x parts.0)
    ∙ ap (λ (o : Option ℕ). cond (q x) (Some n) o)
    (position_from-same r p q (n + 1) xs same parts.1)

pub list_any-same : {A : Type 0} (r p q : A → Bool) (xs : List A)
    → ((x : A) → r x ≡ true → p x ≡ q x) → list_all r xs ≡ true → list_any p xs ≡ list_any q xs
list_any-same r p q [] same all = refl
list_any-same r p q (x ∷ xs) same all =
    let parts = and_parts (r x) (list_all r xs) all in
    ap (λ (t : Bool). t || list_any p xs) (same x parts.0)
    ∙ ap (λ (t : Bool). q x || t) (list_any-same r p q xs same parts.1)

pub list_any-map : {A : Type 0} (p : ℕ → Bool) (f : A → ℕ) (xs : List A)
    → list_any p (map f xs) ≡ list_any (λ x. p (f x)) xs
list_any-map p f [] = refl
list_any-map p f (x ∷ xs) = ap (λ (t : Bool). p (f x) || t) (list_any-map p f xs)

-- numbers that rise don't fall
pub rises_on : (xs : List ℕ) → IsStrictlyIncreasing xs → IsNonDecreasing xs
rises_on xs rises i j d le within = elim (cases_lt i j) [
  | inl less ↦ omega (arith, AllPairs-from_increasing xs rises i j d less within)
  | inr same ↦ let e : i ≡ j = omega (arith, same, le) in omega (arith, ap (λ k. get_or xs k d) e)
]

-- a key that isn't there finds nothing
pub find_none : {A : Type 0} (f : A → ℕ) (xs : List A) (key : ℕ) → has_key (map f xs) key ≡ false
    → find (λ x. f x == key) xs ≡ None
find_none f [] key none = refl
find_none f (x ∷ xs) key none = elim (cases_Bool (f x == key)) [
  | inl here ↦ let never : true ≡ false = rw here at none in cc
  | inr other ↦ rw other (find_none f xs key (rw other at none))
]

head_below : (n : ℕ) (ns : List ℕ) (place : ℕ) → IsStrictlyIncreasing (n ∷ ns) → place < length ns
    → n < slice_index ns place
head_below n ns place rises within =
    AllPairs-from_increasing (n ∷ ns) rises 0 (suc place) 0 (omega arith) (omega (arith, within))

behind_head : (n : ℕ) (ns : List ℕ) → IsStrictlyIncreasing (n ∷ ns) → IsStrictlyIncreasing ns
behind_head n ns rises i less =
    let e : suc i + 1 ≡ suc (i + 1) = omega arith in
    subst (λ k. slice_index ns i < slice_index (n ∷ ns) k) e (rises (suc i) (omega (arith, less)))

-- a key that is there finds what stands at its place
pub find_at : {A : Type 0} (f : A → ℕ) (xs : List A) (key place : ℕ) (d : A)
    → IsStrictlyIncreasing (map f xs) → place < length (map f xs)
    → slice_index (map f xs) place ≡ key
    → find (λ x. f x == key) xs ≡ Some (get_or xs place d)
find_at f [] key place d rises within is = absurd (omega (arith, within))
find_at f (x ∷ xs) key zero d rises within is = rw (eq-eqb (f x) key is) refl
find_at f (x ∷ xs) key (suc place) d rises within is =
    let less = head_below (f x) (map f xs) place rises (omega (arith, within)) in
    rw (ne_eqb (f x) key (λ same. omega (arith, less, is, same)))
    (find_at f xs key place d (behind_head (f x) (map f xs) rises) (omega (arith, within)) is)

-- two tests that agree on a list find the same
pub find-same : {A : Type 0} (r p q : A → Bool) (xs : List A)
    → ((x : A) → r x ≡ true → p x ≡ q x) → list_all r xs ≡ true → find p xs ≡ find q xs
find-same r p q [] same all = refl
find-same r p q (x ∷ xs) same all =
    let parts = and_parts (r x) (list_all r xs) all in
    ap (λ (t : Bool). cond t (Some x) (find p xs)) (same x parts.0)
    ∙ ap (λ (o : Option _). cond (q x) (Some x) o) (find-same r p q xs same parts.1)

-- what stands at a place of a list passes what all pass
pub passes_at : {A : Type 0} (r : A → Bool) (xs : List A) (place : ℕ) (d : A) → list_all r xs ≡ true
    → place < length xs → r (get_or xs place d) ≡ true
passes_at r [] place d all within = absurd (omega (arith, within))
passes_at r (x ∷ xs) zero d all within = (and_parts (r x) (list_all r xs) all).0
passes_at r (x ∷ xs) (suc place) d all within =
    passes_at r xs place d ((and_parts (r x) (list_all r xs) all).1) (omega (arith, within))

pub map_length : {A : Type 0} (f : A → ℕ) (xs : List A) → length (map f xs) ≡ length xs
map_length f [] = refl
map_length f (x ∷ xs) = omega (arith, map_length f xs)
