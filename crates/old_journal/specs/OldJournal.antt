-- A journal of version 1: a header, and slots of 64 bytes whose first byte is a gate.
use Rattle.std.specs.Prelude.{◌≡◌, ◌≢◌, ℕ, zero, suc, ◌+◌, ◌<◌, ◌≤◌, Bool, ◌&&◌, ◌==◌, nat_le, if◌then◌else◌, List, [], ◌∷◌, codes, length, take, drop, slice_index}
use Rattle.std.specs.List.{AllByRecursion}
use Rattle.book_words.specs.declared.act.Entry.{Entry}
use Rattle.book_snapshot.specs.declared.layout.TheConstants.{MARK, OLD_ROW_BYTES, OPEN}
use Rattle.row_format.specs.Spelling.{old_layout, row_bytes}
use Rattle.row_format.specs.Rows.{CanBeSpelled}

-- the name that it begins with
abbrev pub old_title : List ℕ
old_title = codes "AQHBOOK1"

-- its header: the name and then zeros, where the mark is passed over
pub record HasOldHeader (bytes : List ℕ) : Type 0 where
  pub long : OLD_ROW_BYTES ≤ length bytes
  pub same : (k : ℕ) → k < OLD_ROW_BYTES → k ≢ MARK
      → slice_index bytes k ≡ slice_index old_title k

-- the bytes begin with the header, or are fewer than it has
abbrev pub IsNotForeign : List ℕ → Type 0
IsNotForeign bytes = OLD_ROW_BYTES ≤ length bytes → HasOldHeader bytes

-- the bytes begin with a whole slot whose gate is open
abbrev pub begins_open : List ℕ → Bool
begins_open bytes = nat_le OLD_ROW_BYTES (length bytes) && (slice_index bytes 0 == OPEN)

-- the rows of the slots up to the first that is cut or closed, and at most so many
unfoldable pub open_slots : ℕ → List ℕ → List (List ℕ)
open_slots zero bytes = []
open_slots (suc most) bytes =
    if begins_open bytes
    then take OLD_ROW_BYTES bytes ∷ open_slots most (drop OLD_ROW_BYTES bytes) else []

-- the rows of the journal; what stands behind a closed gate is passed over
abbrev pub old_rows : List ℕ → List (List ℕ)
old_rows bytes = open_slots (length bytes) (drop OLD_ROW_BYTES bytes)

-- the rows that spell entries whose numbers go on from this one
abbrev pub old_spelled : ℕ → List Entry → List (List ℕ)
old_spelled number [] = []
old_spelled number (entry ∷ entries) =
    row_bytes old_layout number entry ∷ old_spelled (number + 1) entries

-- rows are those of these entries
pub record AreOldRows (entries : List Entry) (rows : List (List ℕ)) : Type 0 where
  pub are : rows ≡ old_spelled 1 entries
  pub can : AllByRecursion (CanBeSpelled old_layout) entries
