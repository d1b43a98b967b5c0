-- What the worker of a lane asks for, in order, and what it says of the gate. Its asks depend on the
-- rows that it adds: a weighing and a stop say what the gate did at the row before.
use Rattle.std.specs.Prelude.{ℕ, ℤ, Bool, true, false, ◌==◌, if◌then◌else◌, List, [], ◌∷◌, Option, Some, None, option_map}
use Rattle.std.specs.List.{list_any, filter_map}
use Rattle.book_words.specs.declared.name.Name.{Name}
use Rattle.book_words.specs.declared.act.Prior.{Prior}
use Rattle.book_words.specs.declared.act.Prior.TheVariants.{Nothing, Opened, Stayed, Unknown}
use Rattle.book_words.specs.declared.act.Act.{Act}
use Rattle.book_words.specs.declared.act.Act.TheVariants.{StartLane, Weigh, StopLane}
use Rattle.book_words.specs.declared.act.Question.TheVariants.{Lane}
use Rattle.book_words.specs.declared.act.Want.TheVariants as want
use Rattle.book_words.specs.declared.act.Ask.{Ask}
use Rattle.book_words.specs.declared.views.LaneView.{LaneView}
use Rattle.book_words.specs.Desks.{Row}
use Rattle.book_words.specs.Population.{is_pass}

-- a lane's act is asked for without a desk
abbrev pub act_ask : Act → Ask
act_ask act = record { desk = 0; request = 0; want = want.Act act }

-- the question what a lane does
abbrev pub lane_ask : ℕ → Ask
lane_ask lane = record { desk = 0; request = 0; want = want.Question (Lane lane) }

-- what is said of the gate where a lane is found with a reading that is unsettled: nobody knows what
-- it did
abbrev pub prior_found : Option ℕ → Prior
prior_found (Some pack) = Unknown
prior_found None = Nothing

-- what a stop of the lane says, where the lane is found with a batch
abbrev pub stop_found : LaneView → Option Prior
stop_found found = option_map (λ batch. prior_found found.unsettled) found.batch

-- whether a number is among some
abbrev pub is_among : ℕ → List ℕ → Bool
is_among number numbers = list_any (λ n. n == number) numbers

-- what is said of the gate behind a row: whether it opened, where a pack passed there
abbrev pub gate_did : Bool → Bool → Prior
gate_did true true = Opened
gate_did true false = Stayed
gate_did false opened = Nothing

-- so what the act behind a row of the worker says, where the gate opened for these packs
abbrev pub prior_behind : List ℕ → Row → Prior
prior_behind opened row = gate_did (is_pass row.entry.signal) (is_among row.number opened)

-- the asks behind a row, once it is there
abbrev pub behind : (Row → List Row → List Ask) → List Row → List Ask
behind asks [] = []
behind asks (row ∷ rows) = asks row rows

-- behind a row of the worker: a weighing for each gross, and then a stop of the lane
abbrev pub weighing_asks : ℕ → List ℕ → List ℤ → Row → List Row → List Ask
weighing_asks lane opened [] last rows =
    act_ask (StopLane lane (prior_behind opened last)) ∷ []
weighing_asks lane opened (gross ∷ grosses) last rows =
    act_ask (Weigh lane gross (prior_behind opened last))
    ∷ behind (weighing_asks lane opened grosses) rows

-- a start of the lane for a batch, and then the weighings
abbrev pub starting_asks : ℕ → Name → List ℕ → List ℤ → List Row → List Ask
starting_asks lane batch opened grosses rows =
    act_ask (StartLane lane batch) ∷ behind (weighing_asks lane opened grosses) rows

-- before it a stop, where the lane is found with a batch
abbrev pub stopping_asks : ℕ → Name → Option Prior → List ℕ → List ℤ → List Row → List Ask
stopping_asks lane batch None opened grosses rows = starting_asks lane batch opened grosses rows
stopping_asks lane batch (Some prior) opened grosses rows =
    act_ask (StopLane lane prior)
    ∷ behind (λ stop others. starting_asks lane batch opened grosses others) rows

-- all asks of the worker of a lane for a batch, which finds the lane so, and for these grosses: as
-- many as its rows tell, and one more
abbrev pub work_asks : ℕ → Name → LaneView → List ℕ → List ℤ → List Row → List Ask
work_asks lane batch found opened grosses rows =
    lane_ask lane ∷ stopping_asks lane batch (stop_found found) opened grosses rows

-- the number of a row where a pack passed
abbrev pub passed_pack : Row → Option ℕ
passed_pack row = if is_pass row.entry.signal then Some row.number else None

-- the packs that passed, in order
abbrev pub passed_packs : List Row → List ℕ
passed_packs rows = filter_map passed_pack rows
