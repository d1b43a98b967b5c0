-- The lines of a scale, and those that acknowledge them.
use Rattle.std.specs.Prelude.{ℕ, ℤ, ◌-◌, ◌^◌, ◌==◌, nat_lt, nat_le, Bool, ◌&&◌, List, [], ◌∷◌, ◌++◌, if◌then◌else◌, Option, Some, None, option_map, codes, decimal}
use Rattle.std.specs.Str.{bytes_eq}
use Rattle.hall_units.specs.Number.{bounded_number}
use Rattle.hall_units.specs.Grams.{leading_digits, behind_digits, milligrams_of}
use Rattle.lane_worker.specs.CellLines.{batch_said}
use Rattle.remote_cell.specs.declared.items.Item.{Item}
use Rattle.remote_cell.specs.declared.items.Item.TheVariants.{Gross, Batch, End}
use Rattle.remote_cell.specs.Exchanges.{Line}

-- a number that a line may have: 1 to 2^32 - 1
abbrev pub in_range : Option ℕ → Option ℕ
in_range None = None
in_range (Some number) =
    if nat_lt 0 number && nat_le number (2 ^ 32 - 1) then Some number else None

-- the batch that a text names, where batches are taken
abbrev pub batch_item : Bool → List ℕ → Option Item
batch_item batches text = if batches then option_map Batch (batch_said text) else None

-- a weight in grams, and else what is said besides
abbrev pub gross_or : Option Item → Option ℤ → Option Item
gross_or other (Some gross) = Some (Gross gross)
gross_or other None = other

-- what a text says: `end`, a weight in grams, or a batch where these are taken
abbrev pub item_said : Bool → List ℕ → Option Item
item_said batches text =
    if bytes_eq text (codes "end") then Some End
    else gross_or (batch_item batches text) (milligrams_of text)

-- what stands behind the number: one space, and then what is said
abbrev pub item_behind : Bool → List ℕ → Option Item
item_behind batches [] = None
item_behind batches (byte ∷ text) = if byte == 32 then item_said batches text else None

-- a line has both a number and an item
abbrev pub both_said : Option ℕ → Option Item → Option Line
both_said (Some number) (Some item) = Some (number, item)
both_said number item = None

-- what a line says, its LF left out, where batches are taken or aren't; none where it is of no form
unfoldable pub line_said : Bool → List ℕ → Option Line
line_said batches text =
    both_said (in_range (bounded_number 20 (2 ^ 64 - 1) (leading_digits text)))
    (item_behind batches (behind_digits text))

-- the line that acknowledges all items up to a number
unfoldable pub acknowledgement : ℕ → List ℕ
acknowledgement taken = codes "ack " ++ decimal taken ++ 10 ∷ []
