-- What is served on one connection: its bytes are requests, in order, and what is written to it is
-- one response for each.
use Rattle.std.specs.Prelude.{◌≡◌, ℕ, ◌+◌, ◌<◌, Bool, true, false, ◌||◌, ◌==◌, List, ◌++◌, length, map, take, All, Option, Some, None, IfSome, option_to_list}
use Rattle.office_wire.specs.declared.types.Framed.{Framed}
use Rattle.office_wire.specs.declared.types.Frame.TheVariants.{More, Nothing}
use Rattle.office_wire.specs.Frames.{IsFrame, MayTell}
use Rattle.office_wire.specs.Requests.{BeginWith}
use Rattle.office_door.specs.declared.leaving.Leaving.{Leaving}
use Rattle.office_door.specs.declared.leaving.Leaving.TheVariants.{End, Last, ReadFailed, WriteFailed}
use Rattle.office_door.specs.declared.limits.TheConstants.{MAX_REQUESTS}
use Rattle.office_door.specs.Exchanges.{Exchange, response_of, responses}

-- the requests of some exchanges, in order
abbrev pub requests_of : List Exchange → List Framed
requests_of exchanges = map (λ x. x.request) exchanges

-- the request of an exchange is told as it may be
abbrev pub IsToldRight : Exchange → Type 0
IsToldRight x = MayTell x.request.what x.told

-- the connection goes on behind an exchange
abbrev pub GoesOn : Exchange → Type 0
GoesOn x = (x.request.last ≡ false) × (x.last ≡ false)

-- A connection that was served: the bytes taken from it, and whether its end was given; the bytes
-- written to it; the exchanges behind which it went on; the one behind which it was left, if it was
-- left behind one; and why it was left.
pub record Visit : Type 0 where
  pub taken : List ℕ
  pub ended : Bool
  pub written : List ℕ
  pub before : List Exchange
  pub last : Option Exchange
  pub leaving : Leaving

-- all of its exchanges, in order
abbrev pub exchanges_of : Visit → List Exchange
exchanges_of visit = visit.before ++ option_to_list visit.last

-- a response that ends the connection is that to a request which says so, and that to the last
-- request that a connection may have
abbrev pub EndsRight : ℕ → Exchange → Type 0
EndsRight before x = x.last ≡ (x.request.last || before + 1 == MAX_REQUESTS)

-- a part of a text, less than all of it, went out behind another
abbrev pub IsCut : List ℕ → List ℕ → List ℕ → Type 0
IsCut before text written =
    (part : ℕ) × (part < length text) × (written ≡ before ++ take part text)

-- How a connection is left. At its end, where no request begins; behind a response that says so;
-- and where its link failed, at a read before the next request is whole, or at a write, which cut
-- the last response. Each other response went out whole.
abbrev pub IsLeft : Leaving → Visit → List ℕ → Type 0
IsLeft End visit rest =
    IsFrame rest true Nothing × (visit.ended ≡ true) × (visit.last ≡ None)
    × (visit.written ≡ responses visit.before)
IsLeft ReadFailed visit rest =
    IsFrame rest false More × (visit.ended ≡ false) × (visit.last ≡ None)
    × (visit.written ≡ responses visit.before)
IsLeft Last visit rest =
    (x : Exchange) × (visit.last ≡ Some x) × (x.last ≡ true)
    × (visit.written ≡ responses visit.before ++ response_of x)
IsLeft WriteFailed visit rest =
    (x : Exchange) × (visit.last ≡ Some x)
    × IsCut (responses visit.before) (response_of x) visit.written

-- A connection was served right: the bytes taken from it are its requests, and perhaps bytes behind
-- them; of these requests only the last may be one behind which the connection ends; and it was
-- left as a connection is.
pub record IsServed (visit : Visit) : Type 0 where
  pub rest : List ℕ
  pub requests : BeginWith visit.ended visit.taken (requests_of (exchanges_of visit)) rest
  pub told : All IsToldRight (exchanges_of visit)
  pub ongoing : All GoesOn visit.before
  pub few : length visit.before < MAX_REQUESTS
  pub ends : IfSome visit.last (EndsRight (length visit.before))
  pub left : IsLeft visit.leaving visit rest
