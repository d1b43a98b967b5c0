-- Names that are each kept with something.
use Rattle.std.proofs.Common.{◌≡◌, ℕ, List, [], ◌∷◌, map, slice_get, Option, Some, None, option_map, refl, ◌∙◌, ap}
use Rattle.std.specs.Option.{option_and_then}
use Rattle.std.proofs.lemmas.Option.{slice_get-map}
use Rattle.book_words.specs.declared.name.Name.{Name}
use Rattle.book_words.specs.Order.{place_of}
use Rattle.book_words.proofs.PlaceLemmas.{place_of-name}
use Rattle.book_index.specs.Known.{names_of}

abbrev pub kept_with : {A : Type 0} → (Name → A) → List Name → List (Name × A)
kept_with f names = map (λ name. (name, f name)) names

pub names_kept : {A : Type 0} (f : Name → A) (names : List Name) → names_of (kept_with f names) ≡ names
names_kept f [] = refl
names_kept f (name ∷ names) = ap (λ rest. name ∷ rest) (names_kept f names)

-- what stands at the place of a name
abbrev pub kept_at : {A : Type 0} → Name → List (Name × A) → Option A
kept_at name things =
    option_map (λ thing. thing.1) (option_and_then (slice_get things) (place_of (names_of things) name))

-- is what is kept with it
pub found : {A : Type 0} (f : Name → A) (name : Name) (names : List Name)
    → kept_at name (kept_with f names) ≡ option_map (λ _. f name) (place_of names name)
found {A} f name names =
    ap (λ ns. option_map (λ (thing : Name × A). thing.1)
    (option_and_then (slice_get (kept_with f names)) (place_of ns name))) (names_kept f names)
    ∙ either (place_of names name) refl
  where
    either : (o : Option ℕ) → place_of names name ≡ o
        → option_map (λ (thing : Name × A). thing.1) (option_and_then (slice_get (kept_with f names)) o)
        ≡ option_map (λ _. f name) o
    either None is = refl
    either (Some place) is =
        ap (option_map (λ (thing : Name × A). thing.1))
        (slice_get-map (λ (other : Name). (other, f other)) names place
        ∙ ap (option_map (λ (other : Name). (other, f other))) (place_of-name names name place is))
