-- The numbers and the names of the refusals.
use Rattle.std.specs.Prelude.{ℕ, ◌≤◌, List, [], ◌∷◌, codes, Option, IfSome}
use Rattle.book_words.specs.declared.refusal.Refusal.{Refusal}
use Rattle.book_words.specs.declared.refusal.Refusal.TheVariants.{DeskNumber, RequestOld, RequestReused, RequestGap, BookFull, DayUnset, DayBack, ProductKnown, ProductUnknown, NameShape, NominalRange, DayRange, BatchKnown, BatchUnknown, BatchState, LaneNumber, LaneBusy, LaneIdle, NoTare, GrossRange, PriorWrong, LanesRunning, TareRange, PackUnknown, PackPile, Unsettled, BatchEmpty, ModeSmall, NotDrawn, MeasuredAlready, SecondNotNeeded, Unmeasured, SecondNeeded, TareFrozen, DensityRange}

-- the number of each refusal; of several that hold, the one with the least number is told
abbrev pub refusal_number : Refusal → ℕ
refusal_number DeskNumber = 1
refusal_number (RequestOld last) = 2
refusal_number (RequestReused row) = 3
refusal_number (RequestGap last) = 4
refusal_number (BookFull limit) = 5
refusal_number DayUnset = 6
refusal_number (DayBack last) = 7
refusal_number ProductKnown = 8
refusal_number ProductUnknown = 9
refusal_number NameShape = 10
refusal_number NominalRange = 11
refusal_number DayRange = 12
refusal_number BatchKnown = 13
refusal_number BatchUnknown = 14
refusal_number (BatchState state) = 15
refusal_number LaneNumber = 16
refusal_number (LaneBusy batch) = 17
refusal_number LaneIdle = 18
refusal_number (NoTare product) = 19
refusal_number GrossRange = 20
refusal_number (PriorWrong wanted) = 21
refusal_number (LanesRunning lane) = 22
refusal_number TareRange = 23
refusal_number PackUnknown = 24
refusal_number (PackPile pile) = 25
refusal_number (Unsettled lane) = 26
refusal_number BatchEmpty = 27
refusal_number (ModeSmall n) = 28
refusal_number NotDrawn = 29
refusal_number (MeasuredAlready value) = 30
refusal_number (SecondNotNeeded d1) = 31
refusal_number (Unmeasured pack) = 32
refusal_number (SecondNeeded d1) = 33
refusal_number (TareFrozen batch) = 34
refusal_number DensityRange = 35

-- the name of each refusal
abbrev pub refusal_name : Refusal → List ℕ
refusal_name DeskNumber = codes "DeskNumber"
refusal_name (RequestOld last) = codes "RequestOld"
refusal_name (RequestReused row) = codes "RequestReused"
refusal_name (RequestGap last) = codes "RequestGap"
refusal_name (BookFull limit) = codes "BookFull"
refusal_name DayUnset = codes "DayUnset"
refusal_name (DayBack last) = codes "DayBack"
refusal_name ProductKnown = codes "ProductKnown"
refusal_name ProductUnknown = codes "ProductUnknown"
refusal_name NameShape = codes "NameShape"
refusal_name NominalRange = codes "NominalRange"
refusal_name DayRange = codes "DayRange"
refusal_name BatchKnown = codes "BatchKnown"
refusal_name BatchUnknown = codes "BatchUnknown"
refusal_name (BatchState state) = codes "BatchState"
refusal_name LaneNumber = codes "LaneNumber"
refusal_name (LaneBusy batch) = codes "LaneBusy"
refusal_name LaneIdle = codes "LaneIdle"
refusal_name (NoTare product) = codes "NoTare"
refusal_name GrossRange = codes "GrossRange"
refusal_name (PriorWrong wanted) = codes "PriorWrong"
refusal_name (LanesRunning lane) = codes "LanesRunning"
refusal_name TareRange = codes "TareRange"
refusal_name PackUnknown = codes "PackUnknown"
refusal_name (PackPile pile) = codes "PackPile"
refusal_name (Unsettled lane) = codes "Unsettled"
refusal_name BatchEmpty = codes "BatchEmpty"
refusal_name (ModeSmall n) = codes "ModeSmall"
refusal_name NotDrawn = codes "NotDrawn"
refusal_name (MeasuredAlready value) = codes "MeasuredAlready"
refusal_name (SecondNotNeeded d1) = codes "SecondNotNeeded"
refusal_name (Unmeasured pack) = codes "Unmeasured"
refusal_name (SecondNeeded d1) = codes "SecondNeeded"
refusal_name (TareFrozen batch) = codes "TareFrozen"
refusal_name DensityRange = codes "DensityRange"

-- each of some refusals that is there has at least this number
abbrev pub EachFrom : ℕ → List (Option Refusal) → Type 0
EachFrom least [] = Unit {0}
EachFrom least (refusal ∷ refusals) =
    IfSome refusal (λ there. least ≤ refusal_number there) × EachFrom least refusals
