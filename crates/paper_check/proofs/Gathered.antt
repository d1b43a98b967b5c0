-- A list that gathers what a function gives of each element of another.
use Rattle.std.proofs.Common.{◌≡◌, ◌+◌, ◌<◌, ◌≤◌, ◌++◌, ℕ, List, [], Option, Some, None, length, drop, get_or, refl, sym, ap, ◌∙◌, append_assoc, append-nil}
use Rattle.std.specs.List.{cons_option, filter_map}
use Rattle.std.proofs.lemmas.List.{drop_more, drop_all}

cons_front : {Y : Type 0} (o : Option Y) (rest : List Y)
    → cons_option o [] ++ rest ≡ cons_option o rest
cons_front None rest = refl
cons_front (Some y) rest = refl

-- what one more element gives goes on with what those that are left give
pub gathered_more : {X Y : Type 0} (f : X → Option Y) (xs : List X) (i : ℕ) (d : X)
    (front next whole : List Y) (o : Option Y)
    → i < length xs → o ≡ f (get_or xs i d) → next ≡ front ++ cons_option o []
    → front ++ filter_map f (drop i xs) ≡ whole → next ++ filter_map f (drop (i + 1) xs) ≡ whole
gathered_more f xs i d front next whole o inside gives added so_far =
    let rest = filter_map f (drop (i + 1) xs) in
    ap (λ (ys : List _). ys ++ rest) added
    ∙ append_assoc front (cons_option o []) rest
    ∙ ap (λ (ys : List _). front ++ ys) (cons_front o rest
    ∙ ap (λ (p : Option _). cons_option p rest) gives
    ∙ sym (ap (filter_map f) (drop_more xs i d inside)))
    ∙ so_far

-- behind the last element all is gathered
pub gathered_all : {X Y : Type 0} (f : X → Option Y) (xs : List X) (i : ℕ) (front whole : List Y)
    → length xs ≤ i → front ++ filter_map f (drop i xs) ≡ whole → front ≡ whole
gathered_all f xs i front whole over so_far =
    sym (append-nil front)
    ∙ ap (λ (left : List _). front ++ filter_map f left) (sym (drop_all i xs over))
    ∙ so_far
