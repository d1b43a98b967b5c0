-- Where a reader of an old journal stands, and what it tells.
use Rattle.std.specs.Prelude.{◌≡◌, ℕ, zero, suc, ◌+◌, ◌-◌, ◌<◌, Bool, true, false, ◌&&◌, ◌||◌, ◌==◌, nat_lt, if◌then◌else◌, List, [], ◌∷◌, ◌++◌, length, drop, replicate, slice_index}
use Rattle.device_facts.specs.Prefix.{IsPrefixOf}
use Rattle.book_words.specs.declared.act.Entry.{Entry}
use Rattle.book_snapshot.specs.declared.layout.TheConstants.{MARK, OLD_ROW_BYTES}
use Rattle.row_format.specs.Spelling.{old_layout}
use Rattle.row_format.specs.Rows.{Spells}
use Rattle.old_journal.specs.declared.types.Stage.{Stage}
use Rattle.old_journal.specs.declared.types.Stage.TheVariants as stages
use Rattle.old_journal.specs.declared.types.OldPiece.{OldPiece}
use Rattle.old_journal.specs.declared.types.OldPiece.TheVariants.{Part, Header, Foreign, Row, Bad, Over}
use Rattle.old_journal.specs.OldJournal.{HasOldHeader, IsNotForeign, begins_open, old_rows, old_title}

-- what the next slot is, how many rows there were, and the bytes of the slot that has begun
pub record OldView : Type 0 where
  pub stage : Stage
  pub rows : ℕ
  pub begun : List ℕ

-- the header with the mark 0
abbrev pub old_header : List ℕ
old_header = old_title ++ replicate (OLD_ROW_BYTES - length old_title) 0

-- so many first bytes are the header's, where the mark is passed over
unfoldable pub header_agrees : ℕ → List ℕ → Bool
header_agrees zero bytes = true
header_agrees (suc place) bytes =
    (place == MARK || slice_index bytes place == slice_index old_title place)
    && header_agrees place bytes

-- the first 64 bytes are the header
abbrev pub is_old_header : List ℕ → Bool
is_old_header bytes = header_agrees OLD_ROW_BYTES bytes

-- what stands behind the open slots, of which there are at most so many
unfoldable pub behind_slots : ℕ → List ℕ → List ℕ
behind_slots zero bytes = bytes
behind_slots (suc most) bytes =
    if begins_open bytes then behind_slots most (drop OLD_ROW_BYTES bytes) else bytes

-- what stands behind the rows of a journal
abbrev pub behind_rows : List ℕ → List ℕ
behind_rows bytes = behind_slots (length bytes) (drop OLD_ROW_BYTES bytes)

-- behind so many rows: a slot has begun, or one is whole, and closed
abbrev pub behind_view : ℕ → List ℕ → OldView
behind_view rows behind =
    if nat_lt (length behind) OLD_ROW_BYTES
    then record { stage = stages.Rows; rows = rows; begun = behind }
    else record { stage = stages.Over; rows = rows; begun = [] }

-- behind a whole header
abbrev pub header_view : List ℕ → OldView
header_view taken =
    if is_old_header taken then behind_view (length (old_rows taken)) (behind_rows taken)
    else record { stage = stages.Foreign; rows = 0; begun = [] }

-- where a reader stands after these bytes
unfoldable pub old_after : List ℕ → OldView
old_after taken =
    if nat_lt (length taken) OLD_ROW_BYTES
    then record { stage = stages.Header; rows = 0; begun = taken }
    else header_view taken

-- how many rows there were after this piece
abbrev pub counted : ℕ → OldPiece → ℕ
counted rows (Row number entry) = rows + 1
counted rows (Bad number) = rows + 1
counted rows _ = rows

-- a row with this number has come, the next one of the journal
pub record HasNextRow (taken now : List ℕ) (number : ℕ) (row : List ℕ) : Type 0 where
  pub header : HasOldHeader now
  pub next : number ≡ length (old_rows taken) + 1
  pub rows : old_rows now ≡ old_rows taken ++ row ∷ []

-- a row with this number spells this entry, and no other
pub record SpellsOnly (row : List ℕ) (number : ℕ) (entry : Entry) : Type 0 where
  pub spells : Spells old_layout row number entry
  pub only : (other : Entry) → Spells old_layout row number other → other ≡ entry

-- a row with this number spells no entry
abbrev pub SpellsNone : List ℕ → ℕ → Type 0
SpellsNone row number = (entry : Entry) → ¬ Spells old_layout row number entry

-- what a piece says of the bytes before it and now: a slot has begun, the header is whole, or
-- another's whatever follows, a row has come, or none has
abbrev pub Says : List ℕ → List ℕ → OldPiece → Type 0
Says taken now Part = IsNotForeign now × (old_rows now ≡ old_rows taken)
Says taken now Header = HasOldHeader now × (old_rows now ≡ [])
Says taken now Foreign = (more : List ℕ) → ¬ HasOldHeader (now ++ more)
Says taken now (Row number entry) =
    (row : List ℕ) × HasNextRow taken now number row × SpellsOnly row number entry
Says taken now (Bad number) =
    (row : List ℕ) × HasNextRow taken now number row × SpellsNone row number
Says taken now Over = HasOldHeader now × (old_rows now ≡ old_rows taken)

-- what a slot says that may be a row with this number
abbrev pub SlotSays : List ℕ → ℕ → OldPiece → Type 0
SlotSays slot number (Row told entry) =
    (told ≡ number) × (begins_open slot ≡ true) × SpellsOnly slot number entry
SlotSays slot number (Bad told) =
    (told ≡ number) × (begins_open slot ≡ true) × SpellsNone slot number
SlotSays slot number Over = begins_open slot ≡ false
SlotSays slot number _ = ⊥

-- what a slot says that may be the header
abbrev pub HeaderSays : List ℕ → OldPiece → Type 0
HeaderSays slot Header = is_old_header slot ≡ true
HeaderSays slot Foreign = is_old_header slot ≡ false
HeaderSays slot _ = ⊥

-- what a whole slot says
abbrev pub SaysAtStage : Stage → ℕ → List ℕ → OldPiece → Type 0
SaysAtStage stages.Header rows slot piece = HeaderSays slot piece
SaysAtStage stages.Rows rows slot piece = SlotSays slot (rows + 1) piece
SaysAtStage _ rows slot piece = ⊥

-- the stage behind a piece
abbrev pub stage_behind : Stage → OldPiece → Stage
stage_behind stage Part = stage
stage_behind stage Header = stages.Rows
stage_behind stage Foreign = stages.Foreign
stage_behind stage (Row number entry) = stages.Rows
stage_behind stage (Bad number) = stages.Rows
stage_behind stage Over = stages.Over

-- a slot goes on with these bytes, and isn't whole
pub record GoesOn (old new : OldView) (part : List ℕ) (piece : OldPiece) : Type 0 where
  pub cut : length (old.begun ++ part) < OLD_ROW_BYTES
  pub says : piece ≡ Part
  pub view : new ≡ record old { begun = old.begun ++ part }

-- a slot is whole with these bytes
pub record IsWhole (old new : OldView) (part : List ℕ) (piece : OldPiece) : Type 0 where
  pub whole : length (old.begun ++ part) ≡ OLD_ROW_BYTES
  pub says : SaysAtStage old.stage old.rows (old.begun ++ part) piece
  pub view : new ≡ record {
    stage = stage_behind old.stage piece;
    rows = counted old.rows piece;
    begun = [];
  }

-- whatever follows, the header stays
abbrev pub HeaderStays : Type 0
HeaderStays = (bytes more : List ℕ) → HasOldHeader bytes → HasOldHeader (bytes ++ more)

-- whatever follows, the rows stay the first
abbrev pub RowsStay : Type 0
RowsStay = (bytes more : List ℕ) → IsPrefixOf (old_rows bytes) (old_rows (bytes ++ more))
