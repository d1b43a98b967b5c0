-- Words that stand in the places of names, one after another.
use Rattle.std.proofs.Common.{◌≡◌, ℕ, zero, suc, ◌+◌, ◌<◌, List, [], ◌∷◌, Option, None, Bor, length, drop, is_some, refl, ap, ◌∙◌, arith}
use Rattle.command_line.specs.Taken.{texts_of}
use Rattle.command_line.specs.Words.{Item, placed_items, with_item}
use Rattle.command_line.proofs.GivenValues.{with_item_some}

abbrev Names : Type 0
Names = List (Bor (List ℕ))

-- the names from a place on begin with one
next_name : (names : Names) (place : ℕ) → place < length names
    → (name : Bor (List ℕ)) × (drop place names ≡ name ∷ drop (place + 1) names)
next_name [] place low = absurd (omega (arith, low))
next_name (name ∷ names) zero low = (name, refl)
next_name (name ∷ names) (suc place) low =
    let one_on : suc place + 1 ≡ suc (place + 1) = omega arith in
    rw one_on (next_name names place (omega (arith, low)))

-- without a value in the next place there are no items
pub none_placed : (names : Names) (place : ℕ) (words : List (List ℕ)) → place < length names
    → ((name : List ℕ) → (names : List (List ℕ)) → placed_items (name ∷ names) words ≡ None)
    → placed_items (texts_of (drop place names)) words ≡ None
none_placed names place words low none =
    let next = next_name names place low in
    ap (λ (left : Names). placed_items (texts_of left) words) next.1
    ∙ none next.0.now (texts_of (drop (place + 1) names))

-- with one there are items where the words behind it are
pub next_placed : (names : Names) (place : ℕ) (words rest : List (List ℕ)) (value : List ℕ)
    → place < length names
    → ((name : List ℕ) → (names : List (List ℕ)) → placed_items (name ∷ names) words
    ≡ with_item name value (placed_items names rest))
    → is_some (placed_items (texts_of (drop place names)) words)
    ≡ is_some (placed_items (texts_of (drop (place + 1) names)) rest)
next_placed names place words rest value low found =
    let next = next_name names place low in
    let left = texts_of (drop (place + 1) names) in
    ap (λ (all : Names). is_some (placed_items (texts_of all) words)) next.1
    ∙ ap (λ (items : Option (List Item)). is_some items) (found next.0.now left)
    ∙ with_item_some next.0.now value (placed_items left rest)
