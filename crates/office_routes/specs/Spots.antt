-- What is found at a path, by its segments, and the texts of its two parameters: empty where it has
-- none, or one alone.
use Rattle.std.specs.Prelude.{ℕ, ◌==◌, ◌&&◌, List, [], ◌∷◌, if◌then◌else◌, Option, Some, None, codes}
use Rattle.std.specs.List.{slice_split}
use Rattle.std.specs.Str.{bytes_eq}
use Rattle.office_routes.specs.declared.spot.Spot.{Spot}
use Rattle.office_routes.specs.declared.spot.Spot.TheVariants.{Acts, Rows, Shipment, Summary, Sheet, Sample, Pack, Lane, Packs}

-- the segments of a path: what stands between its `/`
abbrev pub segments : List ℕ → List (List ℕ)
segments path = slice_split (λ byte. byte == 47) path

-- what is found: a spot, and the texts of its parameters
abbrev pub Found : Type 0
Found = Spot × List ℕ × List ℕ

-- a spot with a parameter, which isn't empty
abbrev pub with_text : Spot → List ℕ → Option Found
with_text spot [] = None
with_text spot (byte ∷ text) = Some (spot, byte ∷ text, [])

-- a spot with two parameters, neither of which is empty
abbrev pub with_texts : Spot → List ℕ → List ℕ → Option Found
with_texts spot [] more = None
with_texts spot (byte ∷ text) [] = None
with_texts spot (byte ∷ text) (next ∷ more) = Some (spot, byte ∷ text, next ∷ more)

-- `/acts` and `/summary`
abbrev pub found_word : List ℕ → Option Found
found_word word =
    if bytes_eq word (codes "acts") then Some (Acts, [], [])
    else (if bytes_eq word (codes "summary") then Some (Summary, [], [])
    else None)

-- `/batches/{name}`, `/packs/{number}`, `/lanes/{number}`, `/acts/{number}` and `/rows/{number}`
abbrev pub found_part : List ℕ → List ℕ → Option Found
found_part word part =
    if bytes_eq word (codes "batches") then with_text Sheet part
    else (if bytes_eq word (codes "packs") then with_text Pack part
    else (if bytes_eq word (codes "lanes") then with_text Lane part
    else (if bytes_eq word (codes "acts") then with_text Rows part
    else (if bytes_eq word (codes "rows") then with_text Shipment part
    else None))))

-- `/batches/{name}/sample`
abbrev pub found_detail : List ℕ → List ℕ → List ℕ → Option Found
found_detail word part detail =
    if (bytes_eq word (codes "batches") && bytes_eq detail (codes "sample"))
    then with_text Sample part
    else None

-- `/batches/{name}/packs/{number}`
abbrev pub found_page : List ℕ → List ℕ → List ℕ → List ℕ → Option Found
found_page word part detail number =
    if (bytes_eq word (codes "batches") && bytes_eq detail (codes "packs"))
    then with_texts Packs part number
    else None

-- what is found at the segments of a path; before its first `/` there is nothing
abbrev pub found_at : List (List ℕ) → Option Found
found_at ([] ∷ word ∷ []) = found_word word
found_at ([] ∷ word ∷ part ∷ []) = found_part word part
found_at ([] ∷ word ∷ part ∷ detail ∷ []) = found_detail word part detail
found_at ([] ∷ word ∷ part ∷ detail ∷ number ∷ []) = found_page word part detail number
found_at _ = None

-- what is found at a path
abbrev pub find : List ℕ → Option Found
find path = found_at (segments path)
