-- How the bytes of a connection were cut into reads tells nothing: what two visits say to the same
-- bytes, where the caller answers alike.
use Rattle.std.specs.Prelude.{◌≡◌, ◌⊎◌, ℕ, zip, All, List, Option, Some}
use Rattle.device_facts.specs.Prefix.{IsPrefixOf}
use Rattle.disk_core.specs.Doors.{Connection, Connections}
use Rattle.office_wire.specs.declared.types.Framed.{Framed}
use Rattle.office_wire.specs.Requests.{AreRequests}
use Rattle.office_door.specs.Exchanges.{Exchange, asks_of}
use Rattle.office_door.specs.Served.{Visit, IsServed, exchanges_of, requests_of}
use Rattle.office_door.specs.Doors.{AreVisited, TakesFrom, links_of}

-- the same request was told the same, and answered the same
abbrev pub IsAnsweredAlike : Exchange → Exchange → Type 0
IsAnsweredAlike x y = x.request ≡ y.request → (x.told ≡ y.told) × (x.given ≡ y.given)

-- so it is of two visits: their first requests, their second ones, and so on, as far as both go
abbrev pub AreAnsweredAlike : Visit → Visit → Type 0
AreAnsweredAlike here there =
    All (λ (both : Exchange × Exchange). IsAnsweredAlike both.0 both.1)
    (zip (exchanges_of here) (exchanges_of there))

-- a visit said no more than another: its asks are the first of the other's, and so are the bytes
-- that were written
pub record SaysFirst (here there : Visit) : Type 0 where
  pub asks : IsPrefixOf (asks_of (exchanges_of here)) (asks_of (exchanges_of there))
  pub written : IsPrefixOf here.written there.written

-- two visits said the same: the same asks, and the same bytes were written
pub record SaysSame (here there : Visit) : Type 0 where
  pub asks : asks_of (exchanges_of here) ≡ asks_of (exchanges_of there)
  pub written : here.written ≡ there.written

-- Two visits talked alike: one said no more than the other; where no fault of the link ended one,
-- the other said no more than this one; and where none ended either, they said the same.
pub record TalksAlike (here there : Visit) : Type 0 where
  pub either : SaysFirst here there ⊎ SaysFirst there here
  pub first : links_of there.leaving ≡ 0 → SaysFirst here there
  pub same : links_of here.leaving ≡ 0 → links_of there.leaving ≡ 0 → SaysSame here there

-- The visits of two doors talked alike, the first ones, the second ones, and so on, where they were
-- answered alike.
abbrev pub VisitsAlike : List Visit → List Visit → Type 0
VisitsAlike heres theres =
    All (λ (both : Visit × Visit). AreAnsweredAlike both.0 both.1 → TalksAlike both.0 both.1)
    (zip heres theres)

-- ---- laws

-- two visits to a connection that gives the same bytes talk alike, where they are answered alike,
-- however the bytes were cut into reads
abbrev pub CutsTalkAlike : Type 0
CutsTalkAlike = (connection : Connection) (here there : Visit) → IsServed here → IsServed there
    → TakesFrom (Some connection) here → TakesFrom (Some connection) there
    → AreAnsweredAlike here there → TalksAlike here there

-- so do the visits of two doors at which the same connections wait
abbrev pub DoorsTalkAlike : Type 0
DoorsTalkAlike = (one other : Connections) (now till : Option Connections)
    (heres theres : List Visit) → one.waiting ≡ other.waiting
    → All IsServed heres → All IsServed theres
    → AreVisited (Some one) heres now → AreVisited (Some other) theres till
    → VisitsAlike heres theres

-- the bytes of a connection have one list of requests
abbrev pub HaveOneList : Type 0
HaveOneList = (bytes : List ℕ) (here there : List Framed)
    → AreRequests bytes here → AreRequests bytes there → here ≡ there

-- those of a visit are the first of those that all bytes of its connection have
abbrev pub ComeFirst : Type 0
ComeFirst = (connection : Connection) (visit : Visit) (all : List Framed)
    → IsServed visit → TakesFrom (Some connection) visit → AreRequests connection.left all
    → IsPrefixOf (requests_of (exchanges_of visit)) all
