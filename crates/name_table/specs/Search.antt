-- The order in which names are looked for.
use Rattle.std.specs.Prelude.{◌≡◌, ℕ, ◌<◌, Bool, false, ◌==◌, List, [], ◌∷◌, length, count_by, slice_get, Some}
use Rattle.std.specs.List.{All}
use Rattle.std.specs.Option.{option_map_or}
use Rattle.std.specs.Ordering.{is_lt, nat_cmp}
use Rattle.std.specs.Cmp.Lexicographic.{slice_cmp}
use Rattle.book_words.specs.declared.name.Name.{Name}
use Rattle.book_words.specs.Names.{bytes_of}
use Rattle.book_words.specs.Order.{place_of}

-- a name stands before another where its bytes do: the first that differ decide, and else the
-- lengths
abbrev pub is_before : Name → Name → Bool
is_before one other = is_lt (slice_cmp nat_cmp (bytes_of one) (bytes_of other))

-- whether the name of a number is one that stands before another
abbrev pub precedes : List Name → Name → ℕ → Bool
precedes names name number =
    option_map_or (λ other. is_before other name) (slice_get names number) false

-- behind an item that fails a test all fail it
abbrev pub Falls : {A : Type 0} → (A → Bool) → List A → Type 0
Falls test [] = Unit {0}
Falls test (x ∷ xs) = (test x ≡ false → count_by test xs ≡ 0) × Falls test xs

-- the order has the number of each name, and those of the names before any name stand first
pub record IsOrder (names : List Name) (order : List ℕ) : Type 0 where
  pub falls : (name : Name) → Falls (precedes names name) order
  pub within : All (λ number. number < length names) order
  pub each : (number : ℕ) → number < length names
      → 0 < count_by (λ other. other == number) order
  pub long : length order ≡ length names

-- no name stands twice among some: each has its place as its number
abbrev pub AreApart : List Name → Type 0
AreApart names = (place : ℕ) (name : Name) → slice_get names place ≡ Some name
    → place_of names name ≡ Some place
