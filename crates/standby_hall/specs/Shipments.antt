-- The bytes of a shipment: a head that says which rows of a book it has, and these rows.
use Rattle.std.specs.Prelude.{ℕ, ◌+◌, ◌≤◌, min, List, [], ◌∷◌, ◌++◌, codes, length, drop}
use Rattle.hall_limits.specs.declared.TheConstants.{MAX_ROWS}
use Rattle.book_words.specs.declared.act.Entry.{Entry}
use Rattle.row_format.specs.Spelling.{four, new_layout, row_bytes}
use Rattle.standby_hall.specs.declared.types.ShipHead.{ShipHead}

-- the name that it begins with
abbrev pub ship_title : List ℕ
ship_title = codes "AQHSHIP2"

-- a head in bytes: the name, the number of all rows, and that of the rows passed over
abbrev pub head_bytes : ShipHead → List ℕ
head_bytes head = ship_title ++ four head.all ++ four head.passed

-- a head that a shipment may have
pub record IsHead (head : ShipHead) : Type 0 where
  pub inside : head.passed ≤ head.all
  pub few : head.all ≤ MAX_ROWS

-- the rows of entries whose numbers go on from this one, one behind the other
abbrev pub rows_from : ℕ → List Entry → List ℕ
rows_from number [] = []
rows_from number (entry ∷ entries) =
    row_bytes new_layout number entry ++ rows_from (number + 1) entries

-- a head, and the rows of these entries behind those that were passed over
abbrev pub shipped : ShipHead → List Entry → List ℕ
shipped head entries = head_bytes head ++ rows_from (head.passed + 1) entries

-- the head of the shipment of a book after so many rows, or after all that there are
abbrev pub head_of : ℕ → List Entry → ShipHead
head_of after rows = record { all = length rows; passed = min after (length rows) }

-- the shipment of a book after so many rows
abbrev pub shipment : ℕ → List Entry → List ℕ
shipment after rows =
    let head = head_of after rows in
    shipped head (drop head.passed rows)
