-- What the calls of a book answer.
use Rattle.std.specs.Prelude.{◌≡◌, ℕ, ◌+◌, Bool, true, false, List, [], ◌∷◌, ◌++◌, length, Option, Some, None, Result, Ok, Err, IsSome}
use Rattle.std.specs.List.{cons_option}
use Rattle.book_words.specs.declared.act.Act.{Act}
use Rattle.book_words.specs.declared.act.Act.TheVariants.{Weigh}
use Rattle.book_words.specs.declared.act.Question.{Question}
use Rattle.book_words.specs.declared.act.Want.{Want}
use Rattle.book_words.specs.declared.act.Want.TheVariants as want
use Rattle.book_words.specs.declared.act.Ask.{Ask}
use Rattle.book_words.specs.declared.act.Entry.{Entry}
use Rattle.book_words.specs.declared.reply.Answered.{Answered}
use Rattle.book_words.specs.declared.reply.Refused.{Refused}
use Rattle.book_words.specs.Refusals.{book_full, desk_refusals, refusals_of}
use Rattle.book_words.specs.Numbers.{refusal_number, EachFrom}
use Rattle.book_words.specs.Views.{takes_memory}
use Rattle.book_words.specs.Answers.{entry_for, act_answer, want_added, added}
use Rattle.book_core.specs.declared.types.Step.{Step}
use Rattle.book_core.specs.declared.types.Step.TheVariants.{New, Known}
use Rattle.book_core.specs.declared.types.BookError.{BookError}
use Rattle.book_core.specs.declared.types.BookError.TheVariants as error
use Rattle.book_core.specs.View.{ReadyEntry, BookView}

-- an act that is asked
abbrev pub asked_act : ℕ → ℕ → Act → Ask
asked_act desk request act = record { desk = desk; request = request; want = want.Act act }

-- a question that is asked
abbrev pub asked_question : Question → Ask
asked_question question = record { desk = 0; request = 0; want = want.Question question }

-- the entry that an act will be, with its row
abbrev pub numbered_entry : List Entry → ℕ → Ask → Act → ReadyEntry
numbered_entry entries by ask act =
    record { number = length entries + 1; entry = entry_for entries by ask act }

-- what is told of an act that adds no entry: its answer
abbrev pub told_unless_new :
    Option Entry → Result Answered Refused → Result (Option Answered) BookError
told_unless_new (Some entry) answered = Ok None
told_unless_new None (Ok answered) = Ok (Some answered)
told_unless_new None (Err refused) = Err (error.Refused refused)

-- whether an act is refused, and what it is told where it is a repeat: it is its answer, unless the
-- act adds an entry, whoever asks
abbrev pub decision : ℕ → List Entry → Ask → Act → Result (Option Answered) BookError
decision limit entries ask act =
    told_unless_new (want_added limit entries 0 ask (want.Act act))
    (act_answer limit entries ask act)

-- a refused act is answered its refusal, a repeat is known, and any other act is ready
abbrev pub decided_step : ReadyEntry → Result (Option Answered) BookError → Result Step BookError
decided_step ready (Err refused) = Err refused
decided_step ready (Ok (Some answered)) = Ok (Known answered)
decided_step ready (Ok None) = Ok (New ready)

-- what making the act of an ask ready gives
abbrev pub step_for : BookView → ℕ → Ask → Act → Result Step BookError
step_for book by ask act =
    decided_step (numbered_entry book.entries by ask act) (decision book.limit book.entries ask act)

-- what a step has made ready
abbrev pub made_ready : Result Step BookError → Option ReadyEntry
made_ready (Ok (New ready)) = Some ready
made_ready _ = None

-- whether an act is a weighing
abbrev pub is_weighing : Act → Bool
is_weighing (Weigh lane gross prior) = true
is_weighing _ = false

-- an act may find no memory, unless it is a weighing for which there is room
abbrev pub HasNoRoom : BookView → Act → Type 0
HasNoRoom book act = is_weighing act ≡ true → book.spare ≡ 0

-- a call gives what is wanted; only in place of a new step may it answer that there is no memory,
-- and for a weighing only where no row is spare
abbrev pub GivesUnlessNoMemory :
    BookView → Act → Result Step BookError → Result Step BookError → Type 0
GivesUnlessNoMemory book act (Err error.NoMemory) wanted =
    IsSome (made_ready wanted) × HasNoRoom book act
GivesUnlessNoMemory book act given wanted = given ≡ wanted

-- a refusal that is answered has the least number of all that hold
abbrev pub TellsLeast : ℕ → List Entry → Ask → Act → Result Step BookError → Type 0
TellsLeast limit entries ask act (Err (error.Refused refused)) =
    EachFrom (refusal_number refused.refusal)
    (desk_refusals entries ask act ++ book_full limit entries ∷ refusals_of entries act)
TellsLeast limit entries ask act _ = Unit {0}

-- what is ready to be entered behind an ask: an act leaves nothing ready, a question what there was
abbrev pub pending_after : Option ReadyEntry → Want → Option ReadyEntry
pending_after pending (want.Act act) = None
pending_after pending (want.Question question) = pending

-- an answer, or the refusal as the book hands it on
abbrev pub handed_on : Result Answered Refused → Result Answered BookError
handed_on (Ok answered) = Ok answered
handed_on (Err refused) = Err (error.Refused refused)

-- what may find no memory: an act that adds an entry, but no weighing for which there is room, and
-- a question that takes memory
abbrev pub MayLackMemory : BookView → ℕ → Ask → Want → Type 0
MayLackMemory book by ask (want.Act act) =
    IsSome (added book.limit book.entries by ask) × HasNoRoom book act
MayLackMemory book by ask (want.Question question) = takes_memory question ≡ true

-- a book gives the answer that is wanted, unless it may and does find no memory
abbrev pub GivesAnswer : Type 0 → Result Answered BookError → Result Answered Refused → Type 0
GivesAnswer may_lack (Err error.NoMemory) wanted = may_lack
GivesAnswer may_lack given wanted = given ≡ handed_on wanted

-- the list behind an ask: its entry is added, unless there was no memory for it
abbrev pub list_behind : Result Answered BookError → List Entry → Option Entry → List Entry
list_behind (Err error.NoMemory) entries new = entries
list_behind _ entries new = entries ++ cons_option new []

-- a look gives the answer that is wanted; only a question that takes memory may find none
abbrev pub GivesLook : Question → Result Answered BookError → Result Answered Refused → Type 0
GivesLook question given wanted = GivesAnswer (takes_memory question ≡ true) given wanted
