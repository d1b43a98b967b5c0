-- The words of a line, and what single words of it spell.
use Rattle.std.specs.Prelude.{ℕ, ◌^◌, ◌-◌, Bool, true, false, ◌||◌, ◌&&◌, ℤ, pos, negsuc, List, [], ◌∷◌, length, filter, ◌==◌, nat_lt, nat_le, if◌then◌else◌, Option, Some, None, option_map, codes}
use Rattle.std.specs.List.{slice_split}
use Rattle.std.specs.Option.{option_and_then}
use Rattle.std.specs.Str.{bytes_eq}
use Rattle.hall_units.specs.Number.{bounded_number}
use Rattle.hall_units.specs.Grams.{milligrams_of}
use Rattle.annex_tables.specs.declared.types.Mode.{Mode}
use Rattle.annex_tables.specs.declared.types.Mode.TheVariants.{Keep, Destroy}
use Rattle.book_words.specs.declared.act.Prior.{Prior}
use Rattle.book_words.specs.declared.act.Prior.TheVariants.{Nothing, Opened, Stayed, Unknown}
use Rattle.book_words.specs.declared.act.Unit as units
use Rattle.book_words.specs.declared.act.Unit.TheVariants.{Mass, Volume}

-- a space or a tab
abbrev pub is_blank : ℕ → Bool
is_blank byte = byte == 32 || byte == 9

-- the words of a line: what stands between its blanks
abbrev pub words_of : List ℕ → List (List ℕ)
words_of line = filter (λ word. nat_lt 0 (length word)) (slice_split is_blank line)

-- there is just one word
abbrev pub is_one_word : List (List ℕ) → Bool
is_one_word (word ∷ []) = true
is_one_word _ = false

-- there is no word or just one
abbrev pub is_at_most_one : List (List ℕ) → Bool
is_at_most_one [] = true
is_at_most_one (word ∷ []) = true
is_at_most_one _ = false

-- whether a word begins a comment: with `#`
abbrev pub is_comment : List ℕ → Bool
is_comment [] = false
is_comment (byte ∷ word) = byte == 35

-- what stands behind the `@` of a word, where it begins with one
abbrev pub desk_digits : List ℕ → Option (List ℕ)
desk_digits [] = None
desk_digits (byte ∷ digits) = if byte == 64 then Some digits else None

-- the number of a desk in a word: 1 to 20 digits, and no more than 16 bits hold
abbrev pub desk_in : List ℕ → Option ℕ
desk_in word = bounded_number 20 (2 ^ 16 - 1) word

-- the number of a request in a word: 1 to 20 digits, and no more than 32 bits hold
abbrev pub request_in : List ℕ → Option ℕ
request_in word = bounded_number 20 (2 ^ 32 - 1) word

-- the number of a lane in a word: 1 to 20 digits, and no more than 8 bits hold
abbrev pub lane_in : List ℕ → Option ℕ
lane_in word = bounded_number 20 (2 ^ 8 - 1) word

-- one of so many lanes, the first of which is 1
abbrev pub one_of_lanes : ℕ → ℕ → Option ℕ
one_of_lanes lanes lane = if nat_le 1 lane && nat_le lane lanes then Some lane else None

-- the number of one of so many lanes, in a word
abbrev pub working_lane_in : ℕ → List ℕ → Option ℕ
working_lane_in lanes word = option_and_then (one_of_lanes lanes) (lane_in word)

-- the number of a pack in a word: 1 to 20 digits, and no more than 32 bits hold
abbrev pub pack_in : List ℕ → Option ℕ
pack_in word = bounded_number 20 (2 ^ 32 - 1) word

-- the word of a draw: 1 to 20 digits, and no more than 64 bits hold
abbrev pub draw_word_in : List ℕ → Option ℕ
draw_word_in word = bounded_number 20 (2 ^ 64 - 1) word

-- a whole number that isn't negative and that 32 bits hold
abbrev pub in_32_bits : ℤ → Option ℕ
in_32_bits (pos number) = if nat_le number (2 ^ 32 - 1) then Some number else None
in_32_bits (negsuc number) = None

-- the density in a word: grams a litre there, here mg a litre, and no more than 32 bits hold
abbrev pub density_in : List ℕ → Option ℕ
density_in word = option_and_then in_32_bits (milligrams_of word)

-- what becomes of the packs of a sample: `keep` or `destroy`
abbrev pub mode_in : List ℕ → Option Mode
mode_in word =
    if bytes_eq word (codes "keep") then Some Keep
    else (if bytes_eq word (codes "destroy") then Some Destroy
    else None)

-- what a gate did: `none`, `opened`, `stayed` or `unknown`
abbrev pub prior_in : List ℕ → Option Prior
prior_in word =
    if bytes_eq word (codes "none") then Some Nothing
    else (if bytes_eq word (codes "opened") then Some Opened
    else (if bytes_eq word (codes "stayed") then Some Stayed
    else (if bytes_eq word (codes "unknown") then Some Unknown
    else None)))

-- how a quantity is told: `ml` for a volume
abbrev pub unit_in : List ℕ → Option units.Unit
unit_in word = if bytes_eq word (codes "ml") then Some Volume else None

-- what a last word says that may be left out: without it this, and nothing where more words follow
abbrev pub said_or : {A : Type 0} → A → (List ℕ → Option A) → List (List ℕ) → Option A
said_or absent read [] = Some absent
said_or absent read (word ∷ []) = read word
said_or absent read _ = None

-- how a nominal quantity is told, by mass without a word
abbrev pub unit_said : List (List ℕ) → Option units.Unit
unit_said words = said_or Mass unit_in words

-- a density, 0 without a word
abbrev pub density_said : List (List ℕ) → Option ℕ
density_said words = said_or 0 density_in words

-- the mass of an empty pack in mg, 0 without a word
abbrev pub empty_said : List (List ℕ) → Option ℤ
empty_said words = said_or (pos 0) milligrams_of words

-- what a gate did; without a word nothing is said of it
abbrev pub prior_said : List (List ℕ) → Option (Option Prior)
prior_said words = said_or None (λ word. option_map Some (prior_in word)) words
