-- The rows that a caller adds, with one ask more.
use Rattle.std.proofs.Common.{◌≡◌, ℕ, zero, suc, ◌+◌, ◌-◌, ◌<◌, ◌≤◌, min, List, [], ◌∷◌, ◌++◌, length, slice_get, Option, Some, None, Result, Ok, Err, OnOk, refl, sym, ◌∙◌, ap, subst, arith, append_assoc, append-nil, length-append}
use Rattle.std.proofs.lemmas.Option.{none-some, slice_get_within}
use Rattle.std.specs.List.{cons_option}
use Rattle.std.specs.Option.{option_map}
use Rattle.device_facts.specs.Prefix.{IsPrefixOf}
use Rattle.book_words.specs.declared.act.Act.{Act}
use Rattle.book_words.specs.declared.act.Ask.{Ask}
use Rattle.book_words.specs.declared.act.Entry.{Entry}
use Rattle.book_words.specs.declared.caller.AskError.{AskError}
use Rattle.book_words.specs.declared.caller.AskError.TheVariants as error
use Rattle.book_words.specs.declared.reply.Answered.{Answered}
use Rattle.book_words.specs.declared.reply.Refused.{Refused}
use Rattle.book_words.specs.Answers.{added, entry_for, reply_behind, ask_of}
use Rattle.book_words.specs.Callers.{Known, FAULTS_END, IsAsked, HasAnswer, faults_told}
use Rattle.book_words.specs.Desks.{Row}
use Rattle.book_words.specs.Signals.{recorded_signal}
use Rattle.book_words.specs.Views.{lane_view}
use Rattle.lane_worker.specs.Asks.{act_ask, lane_ask, stop_found}
use Rattle.lane_worker.specs.Replies.{stop_told}
use Rattle.lane_worker.specs.Endings.{ask_stop, faults_at}
use Rattle.lane_worker.specs.Works.{StandBehind, HasAdded}
use Rattle.lane_worker.specs.Steps.{IsCalm}
use Rattle.lane_worker.proofs.RightReplies.{act_taken, act_refused, lane_told}

-- ---- lists that go on

pub prefix_on : (a b c : List Entry) → IsPrefixOf a b → IsPrefixOf b c → IsPrefixOf a c
prefix_on a b c first second = (
  first.0 ++ second.0,
  second.1 ∙ ap (λ (es : List Entry). es ++ second.0) first.1 ∙ append_assoc a first.0 second.0,
)

pub prefix_itself : (a : List Entry) → IsPrefixOf a a
prefix_itself a = ([], sym (append-nil a))

prefix_short : (a b : List Entry) → IsPrefixOf a b → length a ≤ length b
prefix_short a b begins = omega (arith, ap length begins.1, length-append a begins.0)

at_longer : (entries more : List Entry) (place : ℕ) (entry : Entry) → slice_get entries place ≡ Some entry → slice_get (entries ++ more) place ≡ Some entry
at_longer [] more place entry h = absurd (none-some entry h)
at_longer (e ∷ es) more zero entry h = h
at_longer (e ∷ es) more (suc place) entry h = at_longer es more place entry h

at_middle : (before after : List Entry) (entry : Entry) → slice_get (before ++ entry ∷ after) (length before) ≡ Some entry
at_middle [] after entry = refl
at_middle (e ∷ es) after entry = at_middle es after entry

-- rows stand in every list that goes on
stand_longer : (entries more : List Entry) (by number : ℕ) (rows : List Row) → StandBehind entries by number rows → StandBehind (entries ++ more) by number rows
stand_longer entries more by number [] h = tt
stand_longer entries more by number (row ∷ rows) h = (
  h.0,
  at_longer entries more (row.number - 1) row.entry h.1,
  h.2,
  stand_longer entries more by row.number rows h.3,
)

stand_on : (entries others : List Entry) (by number : ℕ) (rows : List Row) → IsPrefixOf entries others → StandBehind entries by number rows → StandBehind others by number rows
stand_on entries others by number rows begins h =
    subst (λ (es : List Entry). StandBehind es by number rows) (sym begins.1) (stand_longer entries begins.0 by number rows h)

-- a row more stands behind them
stand_more : (entries others : List Entry) (by number : ℕ) (rows : List Row) (row : Row) → IsPrefixOf entries others → StandBehind entries by number rows
    → number ≤ length entries → length entries < row.number → slice_get others (row.number - 1) ≡ Some row.entry → row.entry.by ≡ by → StandBehind others by number (rows ++ row ∷ [])
stand_more entries others by number [] row begins h few new at own = (omega (arith, few, new), at, own, tt)
stand_more entries others by number (r ∷ rs) row begins h few new at own =
    let inside = slice_get_within entries (r.number - 1) r.entry h.1 in (
      h.0,
      subst (λ (es : List Entry). slice_get es (r.number - 1) ≡ Some r.entry) (sym begins.1) (at_longer entries begins.0 (r.number - 1) r.entry h.1),
      h.2,
      stand_more entries others by r.number rs row begins h.3 (omega (arith, h.0, inside)) new at own,
    )

-- ---- an act that is taken down

-- an act of a caller is taken down: its row is the caller's, behind what it had seen
pub record IsTaken (mid now : Known) (act : Act) (answered : Answered) : Type 0 where
  pub before : List Entry
  pub row : Row
  pub begins : IsPrefixOf mid.seen now.seen
  pub mine : now.mine ≡ mid.mine ++ row ∷ []
  pub newer : length mid.seen < row.number
  pub least : row.number ≤ length now.seen
  pub stands : slice_get now.seen (row.number - 1) ≡ Some row.entry
  pub own : row.entry.by ≡ mid.by
  pub asks : ask_of row.entry ≡ act_ask act
  pub act_is : row.entry.act ≡ act
  pub number : row.number ≡ length before + 1
  pub signal : row.entry.signal ≡ recorded_signal before act
  pub told : answered.reply ≡ reply_behind before act

abbrev row_of : Known → List Entry → Act → Row
row_of known before act = record { number = length before + 1; entry = entry_for before known.by (act_ask act) act }

taken_in : (mid now : Known) (act : Act) (answered : Answered) → HasAnswer mid now (act_ask act) (Ok answered) → IsTaken mid now act answered
taken_in mid now act answered has =
    let before = has.right.before in
    let after = has.right.after in
    let row = row_of mid before act in
    let taken = act_taken mid.limit mid.by before act answered has.right.answered in
    let parts : now.seen ≡ before ++ row.entry ∷ after =
    has.right.parts ∙ ap (λ (o : Option Entry). before ++ cons_option o after) taken.0 in
    let mine : now.mine ≡ mid.mine ++ row ∷ [] =
    has.mine ∙ ap (λ (o : Option Entry). mid.mine ++ cons_option (option_map (λ (entry : Entry). record { number = length before + 1; entry = entry }) o) []) taken.0 in
    let one : (length before + 1) - 1 ≡ length before = omega arith in
    let seen : length mid.seen ≤ length before = prefix_short mid.seen before (has.unseen, has.grows) in
    record {
      before = before;
      row = row;
      begins = (
        has.unseen ++ row.entry ∷ after,
        parts ∙ ap (λ (es : List Entry). es ++ row.entry ∷ after) has.grows ∙ append_assoc mid.seen has.unseen (row.entry ∷ after),
      );
      mine = mine;
      newer = omega (arith, seen);
      least = omega (arith, ap length parts, length-append before (row.entry ∷ after));
      stands = ap (λ (es : List Entry). slice_get es (row.number - 1)) parts ∙ ap (slice_get (before ++ row.entry ∷ after)) one ∙ at_middle before after row.entry;
      own = refl;
      asks = refl;
      act_is = refl;
      number = refl;
      signal = refl;
      told = sym (ap (λ (a : Answered). a.reply) taken.1);
    }

pub act_is_taken : (mid now : Known) (act : Act) (answered : Answered) → IsAsked mid now (act_ask act) (Ok answered) → IsTaken mid now act answered
act_is_taken mid now act answered asked = taken_in mid now act answered asked.says

-- ---- an ask that isn't answered

-- a caller has nothing new but what it has seen
pub record IsLost (mid now : Known) : Type 0 where
  pub begins : IsPrefixOf mid.seen now.seen
  pub mine : now.mine ≡ mid.mine

lost_in : (mid now : Known) (ask : Ask) (refused : Refused) → (has : HasAnswer mid now ask (Err refused)) → added mid.limit has.right.before mid.by ask ≡ None → IsLost mid now
lost_in mid now ask refused has none =
    let right = has.right in
    record {
      begins = (
        has.unseen ++ right.after,
        right.parts ∙ ap (λ (o : Option Entry). right.before ++ cons_option o right.after) none
            ∙ ap (λ (es : List Entry). es ++ right.after) has.grows ∙ append_assoc mid.seen has.unseen right.after,
      );
      mine = has.mine ∙ ap (λ (o : Option Entry). mid.mine ++ cons_option (option_map (λ (entry : Entry). record { number = length right.before + 1; entry = entry }) o) []) none ∙ append-nil mid.mine;
    }

pub act_is_lost : (mid now : Known) (act : Act) (why : AskError) → IsAsked mid now (act_ask act) (Err why) → IsLost mid now
act_is_lost mid now act (error.Refused refused) asked =
    let has : HasAnswer mid now (act_ask act) (Err refused) = asked.says in
    lost_in mid now (act_ask act) refused has (act_refused mid.limit mid.by has.right.before act refused has.right.answered)
act_is_lost mid now act error.DiskFault asked = record { begins = (asked.says.0.unseen, asked.says.0.grows); mine = asked.says.0.mine }
act_is_lost mid now act error.NoMemory asked = record { begins = (asked.says.0.unseen, asked.says.0.grows); mine = asked.says.0.mine }

pub question_is_lost : (mid now : Known) (lane : ℕ) (why : AskError) → IsAsked mid now (lane_ask lane) (Err why) → IsLost mid now
question_is_lost mid now lane (error.Refused refused) asked = lost_in mid now (lane_ask lane) refused asked.says refl
question_is_lost mid now lane error.DiskFault asked = record { begins = (asked.says.0.unseen, asked.says.0.grows); mine = asked.says.0.mine }
question_is_lost mid now lane error.NoMemory asked = record { begins = (asked.says.0.unseen, asked.says.0.grows); mine = asked.says.0.mine }

-- ---- so the rows that were added

pub added_row : (was mid now : Known) (asked : List Entry) (rows : List Row) (act : Act) (answered : Answered) → HasAdded was mid asked rows
    → IsAsked mid now (act_ask act) (Ok answered) → (taken : IsTaken mid now act answered) → HasAdded was now asked (rows ++ taken.row ∷ [])
added_row was mid now asked rows act answered added is taken = record {
  before = added.before;
  after = prefix_on asked mid.seen now.seen added.after taken.begins;
  stand = stand_more mid.seen now.seen was.by (length asked) rows taken.row taken.begins added.stand (prefix_short asked mid.seen added.after) taken.newer taken.stands (taken.own ∙ added.by);
  mine = taken.mine ∙ ap (λ (all : List Row). all ++ taken.row ∷ []) added.mine ∙ append_assoc was.mine rows (taken.row ∷ []);
  limit = is.limit ∙ added.limit;
  by = is.by ∙ added.by;
}

pub added_none : (was mid now : Known) (asked : List Entry) (rows : List Row) → HasAdded was mid asked rows → IsPrefixOf mid.seen now.seen → now.mine ≡ mid.mine
    → now.limit ≡ mid.limit → now.by ≡ mid.by → HasAdded was now asked rows
added_none was mid now asked rows added begins mine limit by = record {
  before = added.before;
  after = prefix_on asked mid.seen now.seen added.after begins;
  stand = stand_on mid.seen now.seen was.by (length asked) rows begins added.stand;
  mine = mine ∙ added.mine;
  limit = limit ∙ added.limit;
  by = by ∙ added.by;
}

-- before the first ask nothing is added
pub nothing_added : (was : Known) → HasAdded was was was.seen []
nothing_added was = record {
  before = prefix_itself was.seen;
  after = prefix_itself was.seen;
  stand = tt;
  mine = sym (append-nil was.mine);
  limit = refl;
  by = refl;
}

-- a caller was told what a lane does, over what it had then seen
pub record IsFound (was now : Known) (lane : ℕ) (answered : Answered) : Type 0 where
  pub asked : List Entry
  pub added : HasAdded was now asked []
  pub told : stop_told answered.reply ≡ stop_found (lane_view asked lane)

found_in : (was now : Known) (lane : ℕ) (answered : Answered) → HasAnswer was now (lane_ask lane) (Ok answered) → now.limit ≡ was.limit → now.by ≡ was.by → IsFound was now lane answered
found_in was now lane answered has limit by = record {
  asked = has.right.before;
  added = record {
    before = (has.unseen, has.grows);
    after = (has.right.after, has.right.parts);
    stand = tt;
    mine = has.mine;
    limit = limit;
    by = by;
  };
  told = ap stop_told (lane_told was.limit has.right.before lane answered has.right.answered);
}

pub is_found : (was now : Known) (lane : ℕ) (answered : Answered) → IsAsked was now (lane_ask lane) (Ok answered) → IsFound was now lane answered
is_found was now lane answered asked = found_in was now lane answered asked.says asked.limit asked.by

-- ---- the count of faults

pub calm_more : (was mid now : Known) (ask : Ask) (answered : Answered) → IsCalm was mid → IsAsked mid now ask (Ok answered) → IsCalm was now
calm_more was mid now ask answered calm asked =
    let counts : now.faults ≡ min (mid.faults + 0) FAULTS_END = asked.faults in
    omega (arith, calm, counts)

pub calm_first : (was now : Known) (ask : Ask) (answered : Answered) → IsAsked was now ask (Ok answered) → IsCalm was now
calm_first was now ask answered asked =
    let counts : now.faults ≡ min (was.faults + 0) FAULTS_END = asked.faults in
    omega (arith, counts)

pub faults_finished : (was mid now : Known) (ask : Ask) (answered : Answered) → IsCalm was mid → IsAsked mid now ask (Ok answered) → now.faults ≡ min (was.faults + 0) FAULTS_END
faults_finished was mid now ask answered calm asked =
    let counts : now.faults ≡ min (mid.faults + 0) FAULTS_END = asked.faults in
    omega (arith, calm, counts)

told_at : (why : AskError) → faults_told (Err why) ≡ faults_at (ask_stop why)
told_at (error.Refused refused) = refl
told_at error.DiskFault = refl
told_at error.NoMemory = refl

pub faults_broken : (was mid now : Known) (ask : Ask) (why : AskError) → IsCalm was mid → IsAsked mid now ask (Err why) → now.faults ≡ min (was.faults + faults_at (ask_stop why)) FAULTS_END
faults_broken was mid now ask why calm asked =
    let counts : now.faults ≡ min (mid.faults + faults_at (ask_stop why)) FAULTS_END =
    asked.faults ∙ ap (λ n. min (mid.faults + n) FAULTS_END) (told_at why) in
    omega (arith, calm, counts)

-- an act that is taken down makes the list longer
pub grows_if : (mid now : Known) (act : Act) (given : Result Answered AskError) → IsAsked mid now (act_ask act) given → OnOk given (length mid.seen < length now.seen)
grows_if mid now act (Ok answered) asked = let taken = act_is_taken mid now act answered asked in omega (arith, taken.newer, taken.least)
grows_if mid now act (Err why) asked = tt
