-- What `clap` keeps of the options that were given.
use Rattle.std.proofs.Common.{◌≡◌, ◌∙◌, ◌++◌, ◌||◌, ap, refl, Bool, true, false, List, [], ◌∷◌, Some, None, map}
use Rattle.std.specs.List.{list_any}
use Rattle.std.specs.Str.{bytes_eq}
use Rattle.std.proofs.lemmas.List.{append-nil}
use Rattle.clap.specs.Walk.{Row, Text, at_row, first_of, has_row, more_values, used}
use Rattle.clap.specs.declared.parser.matches.ValueSource.TheVariants.{CommandLine}
use Rattle.clap.specs.declared.builder.value_parser.Reading.TheVariants.{AsWritten}
use Rattle.command_line.specs.Words.{Item, gives, value_of}
use Rattle.command_line.proofs.OneWord.{built_rule}

-- what is kept of an option and its value
abbrev pub row_for : Text → Text → Row
row_for name value = record {
  id = name;
  values = value ∷ [];
  count = None;
  source = Some CommandLine;
  reading = AsWritten;
}

-- what is kept of items
abbrev pub rows_for : List Item → List Row
rows_for items = map (λ item. row_for item.name item.value) items

at_none : (name : Text) (change : Row → List Row) (missing rows : List Row) → has_row name rows ≡ false
    → at_row name change missing rows ≡ rows ++ missing
at_none name change missing [] fresh = refl
at_none name change missing (row ∷ rows) fresh = go (bytes_eq row.id name) refl fresh
    (at_none name change missing rows)
  where
    go : (t : Bool) → bytes_eq row.id name ≡ t → (t || has_row name rows) ≡ false
        → (has_row name rows ≡ false → at_row name change missing rows ≡ rows ++ missing)
        → at_row name change missing (row ∷ rows) ≡ (row ∷ rows) ++ missing
    go true is h rest = cc
    go false is h rest = rw is (ap (λ more. row ∷ more) (rest h))

-- an option that wasn't used before gets a row behind the others
pub used_fresh : (name value : Text) (rows : List Row) → has_row name rows ≡ false
    → used (built_rule name) (value ∷ []) rows ≡ rows ++ row_for name value ∷ []
used_fresh name value rows fresh =
    let gone : at_row name (λ _. []) [] rows ≡ rows = at_none name (λ _. []) [] rows fresh
    ∙ append-nil rows in
    rw gone (at_none name (more_values CommandLine (value ∷ [])) (row_for name value ∷ []) rows fresh)

-- an option has a row where an item gave it a value
pub has_given : (name : Text) (items : List Item) → has_row name (rows_for items) ≡ list_any
    (gives name) items
has_given name [] = refl
has_given name (item ∷ items) = ap (λ t. bytes_eq item.name name || t) (has_given name items)

-- its first value is the one that the items give
pub first_given : (name : Text) (items : List Item) → first_of name
    (rows_for items) ≡ value_of items name
first_given name [] = refl
first_given name (item ∷ items) = go (bytes_eq item.name name) refl (first_given name items)
  where
    go : (t : Bool) → bytes_eq item.name name ≡ t → first_of name (rows_for items) ≡ value_of items name
        → first_of name (rows_for (item ∷ items)) ≡ value_of (item ∷ items) name
    go true is rest = rw is refl
    go false is rest = rw is rest
