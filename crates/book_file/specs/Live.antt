-- What is taken of the file of a book that a running hall has open.
use Rattle.std.specs.Prelude.{◌≡◌, ℕ, ◌+◌, ◌-◌, ◌<◌, ◌≤◌, nat_lt, if◌then◌else◌, List, ◌∷◌, ◌++◌, length, take, drop, slice_set}
use Rattle.book_snapshot.specs.declared.layout.TheConstants.{MARK}
use Rattle.book_journal.specs.declared.layout.TheConstants.{MAX_SLOTS}
use Rattle.book_journal.specs.Rows.{rows_of, gate_behind}

-- how many slots are open up to the first that is cut or closed
abbrev pub open_count : List ℕ → ℕ
open_count file = length (rows_of MAX_SLOTS file)

-- A reader takes all of them but the last, which may be a row that hangs and will be replaced.
abbrev pub live_count : List ℕ → ℕ
live_count file = open_count file - 1

-- the same bytes with no snapshot that counts
abbrev pub unmarked : List ℕ → List ℕ
unmarked bytes = slice_set bytes MARK 0

-- what a reader takes: the header and these rows
abbrev pub live_file : List ℕ → List ℕ
live_file file = unmarked (take (gate_behind (live_count file)) file)

-- The file of a hall that runs, of which these rows are acknowledged: they stand in its first slots,
-- and at most one slot more is open, that of the row which is being added. For the gate behind a
-- row is closed before the row's own is opened, and no row is begun before the one in front of it
-- is acknowledged.
pub record IsRunning (rows : List (List ℕ)) (file : List ℕ) : Type 0 where
  pub stand : rows_of (length rows) file ≡ rows
  pub behind : open_count file ≤ length rows + 1

-- The rows are counted in one reading and taken in a later one, when more may be acknowledged. Those
-- that are taken are the first acknowledged ones.
abbrev pub LiveRowsStay : Type 0
LiveRowsStay = (rows more : List (List ℕ)) (counted taken : List ℕ)
    → IsRunning rows counted → IsRunning (rows ++ more) taken
    → rows_of (live_count counted) taken ≡ take (live_count counted) rows
