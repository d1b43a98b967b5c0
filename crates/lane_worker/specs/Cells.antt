-- What a cell gives.
use Rattle.std.specs.Prelude.{◌≡◌, ℕ, ℤ, List, [], ◌∷◌, ◌++◌, get_or, drop, Option, Some, None, option_map, IfSome, Result, Ok, Err}
use Rattle.book_words.specs.declared.name.Name.{Name}
use Rattle.lane_worker.specs.declared.types.CellNext.{CellNext}
use Rattle.lane_worker.specs.declared.types.CellNext.TheVariants.{Gross, Batch, End}
use Rattle.lane_worker.specs.declared.either_cell.EitherCell.{EitherCell}
use Rattle.lane_worker.specs.declared.either_cell.EitherCell.TheVariants.{One, Other}

-- ---- the items left

-- the next of the items that a cell has left, one a call: behind them comes the end, at each call
abbrev pub next_item : List CellNext → CellNext
next_item items = get_or items 0 End

-- those left behind it
abbrev pub items_behind : List CellNext → List CellNext
items_behind items = drop 1 items

-- an item is the next of those left, where they are told
abbrev pub IsNext : Option (List CellNext) → CellNext → Type 0
IsNext left item = IfSome left (λ items. item ≡ next_item items)

-- what a call gives is the next item, which isn't left any more; a call that fails takes none
abbrev pub GivesFirst : {E : Type 0} → Option (List CellNext) → Option (List CellNext)
    → Result CellNext E → Type 0
GivesFirst was now (Ok item) = IsNext was item × (now ≡ option_map items_behind was)
GivesFirst was now (Err error) = now ≡ was

-- ---- the items given

-- what a scale says that is booked: a weight in mg, or the batch of those that follow
pub data Given : Type 0 where
  weight : ℤ → Given
  batch : Name → Given

-- what an item says of these
abbrev pub given_by : CellNext → List Given
given_by (Gross gross) = weight gross ∷ []
given_by (Batch name line) = batch name ∷ []
given_by other = []

-- the same of a call
abbrev pub call_gives : {E : Type 0} → Result CellNext E → List Given
call_gives (Ok item) = given_by item
call_gives (Err error) = []

-- what was given is longer by this, where it is told
abbrev pub AddsGiven : Option (List Given) → Option (List Given) → List Given → Type 0
AddsGiven None None more = Unit {0}
AddsGiven (Some was) (Some now) more = now ≡ was ++ more
AddsGiven was now more = ⊥

-- ---- a cell

-- the items that a cell has left, and what it gave so far, each where it tells that
pub record Feed : Type 0 where
  pub left : Option (List CellNext)
  pub given : Option (List Given)

-- of a cell that tells what it has left, and not what it gave
abbrev pub told_left : Option (List CellNext) → Feed
told_left left = record { left = left; given = None }

-- of a cell that tells what it gave, and not what it has left
abbrev pub told_given : Option (List Given) → Feed
told_given given = record { left = None; given = given }

-- behind this item
abbrev pub feed_behind : Feed → CellNext → Feed
feed_behind feed item = record {
  left = option_map items_behind feed.left;
  given = option_map (λ given. given ++ given_by item) feed.given;
}

-- a call gave the next item, and what was given is longer by what that says
abbrev pub GivesNext : {E : Type 0} → Feed → Feed → Result CellNext E → Type 0
GivesNext was now result =
    GivesFirst was.left now.left result × AddsGiven was.given now.given (call_gives result)

-- a cell gave these items, one after another
abbrev pub Gave : Feed → List CellNext → Feed → Type 0
Gave was [] now = now ≡ was
Gave was (item ∷ items) now = IsNext was.left item × Gave (feed_behind was item) items now

-- what is told of a cell of one kind or of another: what its own kind tells of it
abbrev pub either_cell : {A B C : Type 0} → (A → C) → (B → C) → EitherCell A B → C
either_cell one other (One cell) = one cell
either_cell one other (Other cell) = other cell

-- a cell in memory: the items left, the calls made, the numbers of those that fail, the faults
-- counted
pub record CellState : Type 0 where
  pub left : List CellNext
  pub calls : ℕ
  pub fails : List ℕ
  pub faults : ℕ
