-- How the serving of a connection goes on, and how that of a door.
use Rattle.std.specs.Prelude.{◌≡◌, ⊤, ℕ, ◌+◌, ◌*◌, ◌<◌, ◌≤◌, Bool, true, false, List, [], ◌∷◌, ◌++◌, length, take, All, Option, Some, None, option_map, Result, Ok, Err}
use Rattle.std.specs.Io.KnownBytes.{Consumes, IsAtEnd}
use Rattle.device_facts.specs.Count.{CountsFault}
use Rattle.disk_core.specs.declared.types.Failed.{Failed}
use Rattle.disk_core.specs.Doors.{with_taken, with_written}
use Rattle.book_words.specs.declared.act.Ask.{Ask}
use Rattle.book_words.specs.declared.reply.Answered.{Answered}
use Rattle.book_words.specs.declared.caller.AskError.{AskError}
use Rattle.book_words.specs.Callers.{Known}
use Rattle.book_words.specs.Desks.{Row}
use Rattle.office_wire.specs.declared.types.Framed.{Framed}
use Rattle.office_wire.specs.declared.types.Frame.TheVariants.{Whole, More, Nothing}
use Rattle.office_wire.specs.declared.types.OfficeAsk.{OfficeAsk}
use Rattle.office_wire.specs.Frames.{IsFrame, TellsFrame}
use Rattle.office_wire.specs.Requests.{BeginWith}
use Rattle.office_door.specs.declared.leaving.Leaving.{Leaving}
use Rattle.office_door.specs.declared.leaving.Leaving.TheVariants.{Last, WriteFailed}
use Rattle.office_door.specs.declared.ending.DoorStop.{DoorStop}
use Rattle.office_door.specs.declared.ending.DoorEnd.{DoorEnd}
use Rattle.office_door.specs.declared.tally.Tally.{Tally}
use Rattle.office_door.specs.declared.limits.TheConstants.{MAX_REQUESTS, MAX_CONNECTIONS}
use Rattle.office_door.specs.Exchanges.{Exchange, response_to, responses, HasAnswered}
use Rattle.office_door.specs.Served.{Visit, GoesOn, IsServed, IsToldRight, exchanges_of, requests_of}
use Rattle.office_door.specs.Doors.{Port, Site, with_talk, links_of, FailedSoOften, HasServed, ServesDoor}

-- the bytes that are held of a connection, and whether its end was given
pub record HeldView : Type 0 where
  pub bytes : List ℕ
  pub ended : Bool

-- bytes of the present connection were read behind those that are held
pub record HasRead (was now : Port) (old new : HeldView) : Type 0 where
  pub bytes : List ℕ
  pub held : new.bytes ≡ old.bytes ++ bytes
  pub consumed : Consumes was.left now.left bytes
  pub connections : now.connections ≡ option_map (with_taken bytes) was.connections
  pub ended : now.ended ≡ new.ended
  pub at_end : new.ended ≡ true → IsAtEnd now.left

-- on a connection since it began: its bytes were these requests and those that are held, and these
-- were written to it
pub record IsHeard (was now : Port) (exchanges : List Exchange) (written held : List ℕ)
    : Type 0 where
  pub taken : List ℕ
  pub bytes : Consumes was.left now.left taken
  pub connections : now.connections ≡ option_map (with_talk taken written) was.connections
  pub requests : BeginWith now.ended taken (requests_of exchanges) held
  pub told : All IsToldRight exchanges
  pub at_end : now.ended ≡ true → IsAtEnd now.left

-- what the next request came to: it is whole; or the end was given, and none begins; or the link
-- failed before it was whole
abbrev pub IsFound : List ℕ → Bool → Result (Option Framed) Failed → Type 0
IsFound held ended (Ok (Some framed)) = TellsFrame held ended (Whole framed)
IsFound held ended (Ok None) = IsFrame held true Nothing × (ended ≡ true)
IsFound held ended (Err error) = IsFrame held false More × (ended ≡ false)

-- a request was answered as it was told: what the caller gave, where it was asked, and the response
pub record Responds (Reached : List Ask → Type 0) (was now : Known) (told : OfficeAsk) (last : Bool)
    (text : List ℕ) : Type 0 where
  pub given : Option (Result Answered AskError)
  pub row : Option Row
  pub text_is : text ≡ response_to told given last
  pub answered : (request : Framed) → HasAnswered Reached was now
      (record { request = request; told = told; given = given; row = row; last = last } ∷ [])

-- what went out of a text that was sent: all of it, or a part
abbrev pub IsSent : {E : Type 0} → List ℕ → List ℕ → Result ⊤ E → Type 0
IsSent text bytes (Ok sent) = bytes ≡ text
IsSent text bytes (Err error) = (part : ℕ) × (part < length text) × (bytes ≡ take part text)

-- a text was sent to the present connection, or a part of it, where the link failed
pub record Sends {E : Type 0} (was now : Port) (text : List ℕ) (result : Result ⊤ E)
    : Type 0 where
  pub bytes : List ℕ
  pub sent : IsSent text bytes result
  pub connections : now.connections ≡ option_map (with_written bytes) was.connections
  pub left : now.left ≡ was.left
  pub ended : now.ended ≡ was.ended
  pub cause : CountsFault was.faults now.faults result

-- a connection is served: each request so far was answered, and it goes on
pub record IsServing (Reached : List Ask → Type 0) (was now : Site) (held : List ℕ)
    (served : ℕ) : Type 0 where
  pub exchanges : List Exchange
  pub heard : IsHeard was.door now.door exchanges (responses exchanges) held
  pub ongoing : All GoesOn exchanges
  pub few : length exchanges < MAX_REQUESTS
  pub served_is : served ≡ length exchanges
  pub answered : HasAnswered Reached was.caller now.caller exchanges
  pub calm : now.door.faults ≡ was.door.faults

-- a connection was served and is left
pub record IsVisited (Reached : List Ask → Type 0) (was now : Site) (served : ℕ)
    (leaving : Leaving) : Type 0 where
  pub visit : Visit
  pub right : IsServed visit
  pub left_so : visit.leaving ≡ leaving
  pub bytes : Consumes was.door.left now.door.left visit.taken
  pub connections : now.door.connections
      ≡ option_map (with_talk visit.taken visit.written) was.door.connections
  pub at_end : visit.ended ≡ true → IsAtEnd now.door.left
  pub served_is : served ≡ length (exchanges_of visit)
  pub answered : HasAnswered Reached was.caller now.caller (exchanges_of visit)
  pub faults : FailedSoOften was.door.faults now.door.faults (links_of leaving)

-- it goes on, or it is left
abbrev pub StepsTo : (List Ask → Type 0) → Site → Site → List ℕ → ℕ → Option Leaving → Type 0
StepsTo Reached was now held served None = IsServing Reached was now held served
StepsTo Reached was now held served (Some leaving) = IsVisited Reached was now served leaving

-- how a connection is left behind a response, where it is
abbrev pub left_behind : {E : Type 0} → Bool → Result ⊤ E → Option Leaving
left_behind true (Ok sent) = Some Last
left_behind false (Ok sent) = None
left_behind last (Err error) = Some WriteFailed

-- the end of a door with this tally
abbrev pub end_of : Tally → DoorStop → DoorEnd
end_of tally stop = record { served = tally.served; links = tally.links; stop = stop }

-- a door has served so many connections, and may serve more
pub record IsOpen (Reached : List Ask → Type 0) (was now : Site) (turns : ℕ)
    (tally : Tally) : Type 0 where
  pub visits : List Visit
  pub has : HasServed Reached was now.caller now.door.connections visits tally.served tally.links
  pub turns_are : length visits ≡ turns
  pub faults : FailedSoOften was.door.faults now.door.faults tally.links
  pub missed : now.door.missed ≡ was.door.missed

-- it may serve more, or has stopped
abbrev pub TurnsTo : (List Ask → Type 0) → Site → Site → ℕ → Tally → Option DoorStop → Type 0
TurnsTo Reached was now turns tally None = IsOpen Reached was now (turns + 1) tally
TurnsTo Reached was now turns tally (Some stop) = ServesDoor Reached was now (end_of tally stop)

-- there is room in a tally for one connection more
abbrev pub HasRoomFor : Tally → Type 0
HasRoomFor tally =
    (tally.served + MAX_REQUESTS ≤ MAX_CONNECTIONS * MAX_REQUESTS)
    × (tally.links < MAX_CONNECTIONS)
