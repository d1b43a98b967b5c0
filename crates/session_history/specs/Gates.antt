-- What the gate of a lane did, held against the rows that a session leaves.
use Rattle.std.specs.Prelude.{◌≡◌, ℕ, Bool, true, false, ◌&&◌, List, [], ◌∷◌, ◌++◌, length, if◌then◌else◌, All, Option, Some, None}
use Rattle.std.specs.List.{cons_option}
use Rattle.std.specs.Option.{option_to_list}
use Rattle.book_words.specs.declared.act.Act.{Act}
use Rattle.book_words.specs.declared.act.Act.TheVariants.{StopLane, Weigh}
use Rattle.book_words.specs.declared.act.Entry.{Entry}
use Rattle.book_words.specs.declared.act.Prior.TheVariants.{Opened}
use Rattle.book_words.specs.Desks.{Row}
use Rattle.book_words.specs.Population.{is_pass}
use Rattle.lane_worker.specs.Asks.{passed_packs}
use Rattle.lane_worker.specs.Endings.{gate_failed}
use Rattle.lane_worker.specs.Works.{AreOpened}
use Rattle.lane_changes.specs.Stints.{LaneDeed}
use Rattle.session_history.specs.Deeds.{Deed, Worked, Changed, Served, works_in}
use Rattle.session_history.specs.Rows.{StandsIn, is_whole}

-- the weighing of a pack that passed stands in a list, as a row of this lane
pub record HasPassed (rows : List Entry) (lane pack : ℕ) : Type 0 where
  pub entry : Entry
  pub stands : StandsIn rows (record { number = pack; entry = entry })
  pub by : entry.by ≡ lane
  pub passed : is_pass entry.signal ≡ true

-- whether an act says that the gate opened for the pack before it
abbrev pub says_opened : Act → Bool
says_opened (Weigh lane gross Opened) = true
says_opened (StopLane lane Opened) = true
says_opened _ = false

-- whether the first of some rows says so
abbrev pub opened_behind : List Row → Bool
opened_behind [] = false
opened_behind (row ∷ rows) = says_opened row.entry.act

-- the packs of a worker's rows that passed and of which the row behind says that the gate opened
abbrev pub released : List Row → List ℕ
released [] = []
released (row ∷ rows) =
    cons_option
    (if (is_pass row.entry.signal && opened_behind rows) then Some row.number else None)
    (released rows)

-- A gate opened for the packs that the rows tell as released. One more may come last, where the ask
-- behind its opening had no answer, and so no row tells it.
abbrev pub OpensForReleased : Bool → List ℕ → List ℕ → Type 0
OpensForReleased true told opened = opened ≡ told
OpensForReleased false told opened = (last : Option ℕ) × (opened ≡ told ++ option_to_list last)

-- A lane's gate opened for the packs of its worker's rows that passed, in order: for all of them,
-- or for all but the last, where it failed. Each has its row. The rows behind tell for which it
-- opened, and the end for how many.
pub record OpensBehindRows (rows : List Entry) (lane : ℕ) (did : LaneDeed) : Type 0 where
  pub all : AreOpened (gate_failed did.work.ending) (passed_packs did.work.rows) did.work.opened
  pub kept : All (HasPassed rows lane) did.work.opened
  pub told : OpensForReleased (is_whole did.end.stop) (released did.work.rows) did.work.opened
  pub count : did.end.opened ≡ length did.work.opened

-- so it is of a lane, and of each work of one that changes its batch; a door has no gate
abbrev pub OpensRight : List Entry → ℕ → Deed → Type 0
OpensRight rows lane (Worked did) = OpensBehindRows rows lane did
OpensRight rows lane (Changed did) = All (OpensBehindRows rows lane) (works_in did.stints)
OpensRight rows by (Served did) = Unit {0}
