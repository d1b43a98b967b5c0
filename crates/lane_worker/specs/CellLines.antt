-- What the lines of a cell say, and what a cell over bytes has left.
use Rattle.std.specs.Prelude.{ℕ, ℤ, ◌+◌, ◌-◌, ◌^◌, ◌==◌, nat_le, nat_lt, min, Bool, true, false, ◌||◌, List, [], ◌∷◌, length, if◌then◌else◌, codes, take, drop, not, Option, Some, None, option_map}
use Rattle.std.specs.List.{list_all, list_any, slice_split}
use Rattle.std.specs.Str.{bytes_eq}
use Rattle.std.specs.Io.KnownBytes.{prepend_known}
use Rattle.std.specs.Str.Lines.{strip_carriage_return}
use Rattle.hall_units.specs.Grams.{milligrams_of}
use Rattle.book_words.specs.declared.name.Name.{Name}
use Rattle.book_words.specs.Names.{name_of}
use Rattle.lane_worker.specs.declared.cell_lines.TheConstants.{MAX_CELL_LINE}
use Rattle.lane_worker.specs.declared.types.CellNext.{CellNext}
use Rattle.lane_worker.specs.declared.types.CellNext.TheVariants.{Gross, Batch, Bad}

-- ---- one line

-- a byte of a batch's name: neither space, tab nor CR
abbrev pub is_batch_byte : ℕ → Bool
is_batch_byte byte = not (byte == 32 || byte == 9 || byte == 13)

-- the name that some bytes are
abbrev pub batch_name : List ℕ → Option Name
batch_name bytes = if list_all is_batch_byte bytes then name_of bytes else None

-- the batch that a text names: `batch`, one space, and the name
abbrev pub batch_said : List ℕ → Option Name
batch_said text =
    if bytes_eq (take 6 text) (codes "batch ") then batch_name (drop 6 text) else None

-- a text that names a batch says it, and any other is bad at its line
abbrev pub batch_or_bad : ℕ → Option Name → CellNext
batch_or_bad line (Some batch) = Batch batch line
batch_or_bad line None = Bad line

-- a text of grams is a weight, and behind it comes what other texts say
abbrev pub gross_or : CellNext → Option ℤ → CellNext
gross_or other (Some gross) = Gross gross
gross_or other None = other

-- what a text says in a line
abbrev pub text_says : List ℕ → ℕ → CellNext
text_says text line = gross_or (batch_or_bad line (batch_said text)) (milligrams_of text)

-- what a line says whose text is this; a line of more than 64 bytes is bad
abbrev pub line_says : List ℕ → List ℕ → ℕ → CellNext
line_says line text number =
    if nat_le (length line) MAX_CELL_LINE then text_says text number else Bad number

-- what a line that ends in LF says: one CR before the LF is passed over, though it counts
abbrev pub ended_says : List ℕ → ℕ → CellNext
ended_says line number = line_says line (strip_carriage_return line) number

-- what a last line without its LF says: a CR is a byte like another there
abbrev pub last_says : List ℕ → ℕ → CellNext
last_says line number = line_says line line number

-- the number of the line behind so many: it stands still at the greatest number of 32 bits
abbrev pub next_line : ℕ → ℕ
next_line lines = min (lines + 1) (2 ^ 32 - 1)

-- ---- all lines

-- what stands behind the last LF is a last line, where it isn't empty
abbrev pub last_gives : ℕ → List ℕ → List CellNext
last_gives lines [] = []
last_gives lines line = last_says line (next_line lines) ∷ []

-- what the parts of a text between its LFs give, behind so many lines
abbrev pub parts_give : ℕ → List (List ℕ) → List CellNext
parts_give lines [] = []
parts_give lines (last ∷ []) = last_gives lines last
parts_give lines (line ∷ part ∷ parts) =
    ended_says line (next_line lines) ∷ parts_give (next_line lines) (part ∷ parts)

-- what bytes give, behind so many lines: an item a line
abbrev pub bytes_give : ℕ → List ℕ → List CellNext
bytes_give lines bytes = parts_give lines (slice_split (λ byte. byte == 10) bytes)

-- ---- a cell

-- the bytes that were read and of which no item was made yet, how many lines became items, and
-- whether the last of them was too long, so that the rest of it is still to be passed over
pub record Held : Type 0 where
  pub bytes : List ℕ
  pub lines : ℕ
  pub passing : Bool

-- nothing was read yet
abbrev pub none_held : Held
none_held = record { bytes = []; lines = 0; passing = false }

-- the first item of held bytes is known, whatever follows: a line is whole, or too long
abbrev pub is_known : List ℕ → Bool
is_known bytes = nat_lt MAX_CELL_LINE (length bytes) || list_any (λ byte. byte == 10) bytes

-- what stands behind the first LF
abbrev pub behind_end : List ℕ → List ℕ
behind_end [] = []
behind_end (byte ∷ bytes) = if byte == 10 then bytes else behind_end bytes

-- what bytes give behind so many lines, where the rest of a line may be to be passed over
abbrev pub rest_gives : Bool → ℕ → List ℕ → List CellNext
rest_gives true lines bytes = bytes_give lines (behind_end bytes)
rest_gives false lines bytes = bytes_give lines bytes

-- what is left where these bytes are held and a source has these left, if it tells them
abbrev pub held_left : Held → Option (List ℕ) → Option (List CellNext)
held_left held left =
    option_map (rest_gives held.passing held.lines) (prepend_known held.bytes left)

-- a cell over a source: the source, what is held of its bytes, whether its end was given, the faults
-- counted
pub record LineState (S : Type 0) : Type 0 where
  pub reader : S
  pub held : Held
  pub ended : Bool
  pub faults : ℕ

-- what it has left, where its source tells its bytes
abbrev pub cell_left : {S : Type 0} → (S → Option (List ℕ)) → LineState S
    → Option (List CellNext)
cell_left left cell = held_left cell.held (left cell.reader)
