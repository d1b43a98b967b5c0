-- What is asked and answered on a connection: requests, what a caller of the book answers to them,
-- and the responses.
use Rattle.std.specs.Prelude.{◌≡◌, ℕ, ◌+◌, ◌≤◌, min, Bool, true, false, List, [], ◌∷◌, ◌++◌, length, filter, flat_map, All, Option, Some, None, IsSome, Result, Ok, Err}
use Rattle.std.specs.List.{filter_map}
use Rattle.std.specs.Option.{option_map_or}
use Rattle.device_facts.specs.Prefix.{IsPrefixOf}
use Rattle.book_words.specs.declared.act.Ask as asks
use Rattle.book_words.specs.declared.act.Entry.{Entry}
use Rattle.book_words.specs.declared.reply.Answered.{Answered}
use Rattle.book_words.specs.declared.reply.Refused as refusals
use Rattle.book_words.specs.declared.caller.AskError.{AskError}
use Rattle.book_words.specs.declared.caller.AskError.TheVariants as error
use Rattle.book_words.specs.Desks.{Row}
use Rattle.book_words.specs.Answers.{added}
use Rattle.book_words.specs.Callers.{Known, FAULTS_END, IsRight, MayFindNoMemory, row_added}
use Rattle.office_wire.specs.declared.types.Framed.{Framed}
use Rattle.office_wire.specs.declared.types.OfficeAsk.{OfficeAsk}
use Rattle.office_wire.specs.declared.types.OfficeAsk.TheVariants.{Ask, Bad, NoMemory}
use Rattle.office_responses.specs.Responses.{reply_response, bad_response}

-- a request and its response: what the bytes of the request say, and how it was told, since there
-- may be no memory to read an act; what the caller answered, where it was asked; the row that this
-- added to its own, if any; and whether the response ends the connection
pub record Exchange : Type 0 where
  pub request : Framed
  pub told : OfficeAsk
  pub given : Option (Result Answered AskError)
  pub row : Option Row
  pub last : Bool

-- ---- responses

-- the answer that a response tells: want of memory, where nobody was asked
abbrev pub answer_told : Option (Result Answered AskError) → Result Answered AskError
answer_told given = option_map_or (λ answer. answer) given (Err error.NoMemory)

-- the response to a request as it was told
abbrev pub response_to : OfficeAsk → Option (Result Answered AskError) → Bool → List ℕ
response_to (Bad fault) given last = bad_response fault last
response_to what given last = reply_response (answer_told given) last

abbrev pub response_of : Exchange → List ℕ
response_of exchange = response_to exchange.told exchange.given exchange.last

-- the responses of some exchanges, in order
abbrev pub responses : List Exchange → List ℕ
responses exchanges = flat_map response_of exchanges

-- ---- what a caller is asked, and what it answers

-- what a request asks for, where its form isn't at fault and there is memory for it
abbrev pub ask_of : OfficeAsk → Option asks.Ask
ask_of (Ask ask) = Some ask
ask_of what = None

-- the asks of some exchanges, in order
abbrev pub asks_of : List Exchange → List asks.Ask
asks_of exchanges = filter_map (λ x. ask_of x.told) exchanges

-- the rows that they added
abbrev pub rows_of : List Exchange → List Row
rows_of exchanges = filter_map (λ x. x.row) exchanges

-- the place in the list that an answer names
abbrev pub place_of : Option (Result Answered AskError) → Option ℕ
place_of (Some (Ok answered)) = Some answered.at
place_of (Some (Err (error.Refused refused))) = Some refused.at
place_of given = None

-- the places that some exchanges name, in order
abbrev pub places_of : List Exchange → List ℕ
places_of exchanges = filter_map (λ x. place_of x.given) exchanges

-- whether the disk failed at an ask: it is answered by 500
abbrev pub is_disk_fault : Option (Result Answered AskError) → Bool
is_disk_fault (Some (Err error.DiskFault)) = true
is_disk_fault given = false

-- how often the disk failed
abbrev pub disk_faults : List Exchange → ℕ
disk_faults exchanges = length (filter (λ x. is_disk_fault x.given) exchanges)

-- an answer or a refusal is right in a list that a caller has seen, and this row is the entry that
-- the ask added to the caller's own, if any
pub record IsTold (limit by : ℕ) (seen : List Entry) (ask : asks.Ask)
    (given : Result Answered refusals.Refused) (row : Option Row) : Type 0 where
  pub right : IsRight limit by seen ask given
  pub row_is : row ≡ row_added limit right.before by ask

-- an ask without an answer added nothing, and this is so of the entry that it would have added
-- behind some first entries of the list
pub record IsLost (limit by : ℕ) (seen : List Entry) (ask : asks.Ask)
    (Cause : Option Entry → Type 0) (row : Option Row) : Type 0 where
  pub entries : List Entry
  pub begins : IsPrefixOf entries seen
  pub cause : Cause (added limit entries by ask)
  pub row_is : row ≡ None

-- What was answered to a request is right in a list. The disk fails only where an entry would be
-- added. Nobody is asked where the form of the request is at fault, or where there is no memory for
-- it.
abbrev pub IsAnswered : ℕ → ℕ → List Entry → OfficeAsk → Option (Result Answered AskError)
    → Option Row → Type 0
IsAnswered limit by seen (Ask ask) (Some (Ok answered)) row =
    IsTold limit by seen ask (Ok answered) row
IsAnswered limit by seen (Ask ask) (Some (Err (error.Refused refused))) row =
    IsTold limit by seen ask (Err refused) row
IsAnswered limit by seen (Ask ask) (Some (Err error.DiskFault)) row =
    IsLost limit by seen ask IsSome row
IsAnswered limit by seen (Ask ask) (Some (Err error.NoMemory)) row =
    IsLost limit by seen ask (MayFindNoMemory ask.want) row
IsAnswered limit by seen (Ask ask) None row = ⊥
IsAnswered limit by seen (Bad fault) given row = (given ≡ None) × (row ≡ None)
IsAnswered limit by seen NoMemory given row = (given ≡ None) × (row ≡ None)

-- so it is of an exchange
abbrev pub IsAnsweredIn : ℕ → ℕ → List Entry → Exchange → Type 0
IsAnsweredIn limit by seen x = IsAnswered limit by seen x.told x.given x.row

-- numbers that never fall, from one to another
abbrev pub NeverFall : ℕ → List ℕ → ℕ → Type 0
NeverFall from [] to = from ≤ to
NeverFall from (number ∷ numbers) to = (from ≤ number) × NeverFall number numbers to

-- A caller went on by the asks of just these exchanges. Each answer is right in what it has now
-- seen; the places that they name never fall, and each is behind what it had seen before; its own
-- entries grow by theirs, and its faults by theirs.
pub record HasAnswered (Reached : List asks.Ask → Type 0) (was now : Known)
    (exchanges : List Exchange) : Type 0 where
  pub seen : IsPrefixOf was.seen now.seen
  pub asked : Reached (asks_of exchanges)
  pub right : All (IsAnsweredIn was.limit was.by now.seen) exchanges
  pub places : NeverFall (length was.seen) (places_of exchanges) (length now.seen)
  pub mine : now.mine ≡ was.mine ++ rows_of exchanges
  pub faults : min now.faults FAULTS_END ≡ min (was.faults + disk_faults exchanges) FAULTS_END
  pub limit : now.limit ≡ was.limit
  pub by : now.by ≡ was.by
