-- What is found at the target of a request. The target is a text of UTF-8 by the grammar of a head.
use Rattle.std.specs.Prelude.{ℕ, ◌^◌, ◌-◌, ◌==◌, ◌&&◌, List, [], ◌∷◌, if◌then◌else◌, Option, Some, None, option_map, codes}
use Rattle.std.specs.List.{before_first, slice_split}
use Rattle.std.specs.Option.{option_and_then}
use Rattle.std.specs.Str.{bytes_eq}
use Rattle.hall_units.specs.Number.{bounded_number}
use Rattle.book_words.specs.declared.act.Question.TheVariants.{Sheet, Pack, Lane, Sample, Summary, Rows, Shipment, Packs}
use Rattle.book_words.specs.Names.{name_of}
use Rattle.office_wire.specs.declared.types.Route.{Route}
use Rattle.office_wire.specs.declared.types.Route.TheVariants.{Acts, Question}

-- the path of a target: what stands before the first `?`
abbrev pub path_of : List ℕ → List ℕ
path_of target = before_first (λ byte. byte == 63) target

-- the segments of a path: what stands between its `/`
abbrev pub segments : List ℕ → List (List ℕ)
segments path = slice_split (λ byte. byte == 47) path

-- the segments of what stands behind a `/`, where there is one
abbrev pub segments_behind : Option (List ℕ) → List (List ℕ)
segments_behind None = []
segments_behind (Some rest) = segments rest

-- `/acts` and `/summary`
abbrev pub word_route : List ℕ → Option Route
word_route word =
    if bytes_eq word (codes "acts") then Some Acts
    else (if bytes_eq word (codes "summary") then Some (Question Summary)
    else None)

-- `/batches/{name}`
abbrev pub sheet_route : List ℕ → Option Route
sheet_route name = option_map (λ batch. Question (Sheet batch)) (name_of name)

-- `/batches/{name}/sample`
abbrev pub sample_route : List ℕ → Option Route
sample_route name = option_map (λ batch. Question (Sample batch)) (name_of name)

-- `/packs/{number}`: 1 to 20 digits, and no more than 32 bits hold
abbrev pub pack_route : List ℕ → Option Route
pack_route number =
    option_map (λ pack. Question (Pack pack)) (bounded_number 20 (2 ^ 32 - 1) number)

-- `/lanes/{number}`: 1 to 20 digits, and no more than 8 bits hold
abbrev pub lane_route : List ℕ → Option Route
lane_route number =
    option_map (λ lane. Question (Lane lane)) (bounded_number 20 (2 ^ 8 - 1) number)

-- a number of rows, or of a pack: 1 to 20 digits, and no more than 32 bits hold
abbrev pub row_count : List ℕ → Option ℕ
row_count number = bounded_number 20 (2 ^ 32 - 1) number

-- `/acts/{number}`
abbrev pub rows_route : List ℕ → Option Route
rows_route number = option_map (λ after. Question (Rows after)) (row_count number)

-- `/rows/{number}`
abbrev pub shipment_route : List ℕ → Option Route
shipment_route number = option_map (λ after. Question (Shipment after)) (row_count number)

-- `/batches/{name}/packs/{number}`: 1 to 20 digits, and no more than 32 bits hold
abbrev pub packs_route : List ℕ → List ℕ → Option Route
packs_route name number =
    option_and_then (λ batch. option_map (λ after. Question (Packs batch after)) (row_count number))
    (name_of name)

-- a word, and what is looked for
abbrev pub part_route : List ℕ → List ℕ → Option Route
part_route word part =
    if bytes_eq word (codes "batches") then sheet_route part
    else (if bytes_eq word (codes "packs") then pack_route part
    else (if bytes_eq word (codes "lanes") then lane_route part
    else (if bytes_eq word (codes "acts") then rows_route part
    else (if bytes_eq word (codes "rows") then shipment_route part
    else None))))

-- a word, what is looked for, and what of it
abbrev pub detail_route : List ℕ → List ℕ → List ℕ → Option Route
detail_route word part detail =
    if (bytes_eq word (codes "batches") && bytes_eq detail (codes "sample"))
    then sample_route part
    else None

-- a word, what is looked for, what of it, and a number
abbrev pub page_route : List ℕ → List ℕ → List ℕ → List ℕ → Option Route
page_route word part detail number =
    if (bytes_eq word (codes "batches") && bytes_eq detail (codes "packs"))
    then packs_route part number
    else None

-- what is found at the segments of a path; before its first `/` there is nothing
abbrev pub segments_route : List (List ℕ) → Option Route
segments_route ([] ∷ word ∷ []) = word_route word
segments_route ([] ∷ word ∷ part ∷ []) = part_route word part
segments_route ([] ∷ word ∷ part ∷ detail ∷ []) = detail_route word part detail
segments_route ([] ∷ word ∷ part ∷ detail ∷ number ∷ []) = page_route word part detail number
segments_route _ = None

-- what is found at a target
abbrev pub route_of : List ℕ → Option Route
route_of target = segments_route (segments (path_of target))
