-- What a door serves: its connections, one after another.
use Rattle.std.specs.Prelude.{◌≡◌, ℕ, zero, suc, ◌+◌, ◌<◌, Bool, true, List, [], ◌∷◌, length, flat_map, sum_by, All, Option, Some, None, IfSome, option_map}
use Rattle.device_facts.specs.Count.{Counted}
use Rattle.device_facts.specs.Prefix.{IsPrefixOf}
use Rattle.disk_core.specs.Doors.{Connection, Connections, first_connection, next_connections, with_taken, with_written}
use Rattle.disk_core.specs.declared.door.Door as door
use Rattle.disk_core.specs.declared.source.Source as source
use Rattle.book_words.specs.declared.act.Ask.{Ask}
use Rattle.book_words.specs.declared.caller.Caller as caller
use Rattle.book_words.specs.Callers.{Known}
use Rattle.office_door.specs.declared.leaving.Leaving.{Leaving}
use Rattle.office_door.specs.declared.leaving.Leaving.TheVariants.{End, Last, ReadFailed, WriteFailed}
use Rattle.office_door.specs.declared.ending.DoorStop.{DoorStop}
use Rattle.office_door.specs.declared.ending.DoorStop.TheVariants as stop
use Rattle.office_door.specs.declared.ending.DoorEnd.{DoorEnd}
use Rattle.office_door.specs.declared.limits.TheConstants.{MAX_CONNECTIONS}
use Rattle.office_door.specs.Exchanges.{Exchange, HasAnswered}
use Rattle.office_door.specs.Served.{Visit, IsServed, exchanges_of}

-- a door at one moment: what the present connection has left, whether its end was given, all its
-- connections, where it tells them, how often it failed, and how often it missed the next connection
pub record Port : Type 0 where
  pub left : Option (List ℕ)
  pub ended : Bool
  pub connections : Option Connections
  pub faults : ℕ
  pub missed : ℕ

abbrev pub port : {O : Type 0} → source.Ghosts O → door.Ghosts O → O → Port
port reads comes o =
    record {
      left = reads.left o;
      ended = reads.ended o;
      connections = comes.connections o;
      faults = reads.faults o;
      missed = comes.missed o;
    }

-- a caller and a door at one moment
pub record Site : Type 0 where
  pub caller : Known
  pub door : Port

abbrev pub site : {C O : Type 0} → caller.Ghosts C → source.Ghosts O → door.Ghosts O → C → O → Site
site asks reads comes c o = record { caller = asks.known c; door = port reads comes o }

-- ---- connections

-- the connections when these bytes more were taken from the present one, and these written to it
abbrev pub with_talk : List ℕ → List ℕ → Connections → Connections
with_talk taken written all = with_written written (with_taken taken all)

-- the connections when the next was visited
abbrev pub visited : Visit → Connections → Connections
visited visit all = with_talk visit.taken visit.written (next_connections all)

-- the bytes taken at a visit are the first of those that a connection gives, and all of them where
-- its end was given
abbrev pub TakesFrom : Option Connection → Visit → Type 0
TakesFrom None visit = ⊥
TakesFrom (Some connection) visit =
    IsPrefixOf visit.taken connection.left
    × (visit.ended ≡ true → connection.left ≡ visit.taken)

-- the connections that wait are visited, one after another, where they are told
abbrev pub AreVisited : Option Connections → List Visit → Option Connections → Type 0
AreVisited was [] now = now ≡ was
AreVisited was (visit ∷ visits) now =
    IfSome was (λ all. TakesFrom (first_connection all.waiting) visit)
    × AreVisited (option_map (visited visit) was) visits now

-- ---- counts

-- how many faults of the link ended a connection that is left so
abbrev pub links_of : Leaving → ℕ
links_of End = 0
links_of Last = 0
links_of ReadFailed = 1
links_of WriteFailed = 1

-- how many connections a fault of the link ended
abbrev pub link_faults : List Visit → ℕ
link_faults visits = sum_by (λ visit. links_of visit.leaving) visits

-- how often the door failed to admit the next connection
abbrev pub next_faults : DoorStop → ℕ
next_faults stop.Door = 1
next_faults _ = 0

-- a device failed so often; a count stands still at its end
abbrev pub FailedSoOften : ℕ → ℕ → ℕ → Type 0
FailedSoOften before now zero = now ≡ before
FailedSoOften before now (suc k) = Counted before now (suc k)

-- ---- the whole

-- the exchanges of some visits, in order
abbrev pub all_exchanges : List Visit → List Exchange
all_exchanges visits = flat_map exchanges_of visits

-- A caller and a door after some visits: each connection was served right, the caller answered
-- their asks in order, the connections are as the visits leave them, and both counts.
pub record HasServed (Reached : List Ask → Type 0) (was : Site) (known : Known)
    (connections : Option Connections) (visits : List Visit) (served links : ℕ) : Type 0 where
  pub each : All IsServed visits
  pub answered : HasAnswered Reached was.caller known (all_exchanges visits)
  pub visits_are : AreVisited was.door.connections visits connections
  pub served_is : served ≡ length (all_exchanges visits)
  pub links_are : links ≡ link_faults visits

-- Why a door served no more, after so many visits: no connection waited any more; or the next
-- couldn't be admitted; or there was no memory to begin; or as many were served as may be.
abbrev pub StopsAt : DoorStop → ℕ → Option Connections → Option Connections → Type 0
StopsAt stop.Done visits was now =
    (visits < MAX_CONNECTIONS) × IfSome was (λ all. all.waiting ≡ [])
    × (now ≡ option_map next_connections was)
StopsAt stop.Door visits was now = (visits < MAX_CONNECTIONS) × (now ≡ was)
StopsAt stop.NoMemory visits was now = (visits ≡ 0) × (now ≡ was)
StopsAt stop.Turns visits was now = (visits ≡ MAX_CONNECTIONS) × (now ≡ was)

-- The work of a door over its connections, which came to this end. `Reached` says of some asks that
-- the caller went on by just these.
pub record ServesDoor (Reached : List Ask → Type 0) (was now : Site) (end : DoorEnd) : Type 0 where
  pub visits : List Visit
  pub connections : Option Connections
  pub has : HasServed Reached was now.caller connections visits end.served end.links
  pub stops : StopsAt end.stop (length visits) connections now.door.connections
  pub faults : FailedSoOften was.door.faults now.door.faults (end.links + next_faults end.stop)
  pub missed : FailedSoOften was.door.missed now.door.missed (next_faults end.stop)
