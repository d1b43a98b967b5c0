-- The piles add up, each entry moves the packs only as it may, and a verdict stays.
use Rattle.std.specs.Prelude.{◌≡◌, ℕ, ◌+◌, ◌+ℤ◌, Bool, true, false, ◌&&◌, ◌||◌, ◌==◌, List, [], ◌∷◌, ◌++◌, length, map, if◌then◌else◌, None}
use Rattle.std.specs.List.{list_all}
use Rattle.std.specs.Option.{option_map_or}
use Rattle.pack_judge.specs.declared.types.Pile.{Pile}
use Rattle.pack_judge.specs.declared.types.Pile.TheVariants.{Passed, Rejected, Sampled, Voided}
use Rattle.book_words.specs.declared.name.Name.{Name}
use Rattle.book_words.specs.declared.act.Prior.{Prior}
use Rattle.book_words.specs.declared.act.Prior.TheVariants.{Stayed, Unknown}
use Rattle.book_words.specs.declared.act.Act.{Act}
use Rattle.book_words.specs.declared.act.Act.TheVariants.{Weigh, StopLane, Void, Draw, DrawSecond, Close}
use Rattle.book_words.specs.declared.act.Entry.{Entry}
use Rattle.book_words.specs.declared.act.Reading.{Reading}
use Rattle.book_words.specs.Readings.{readings}
use Rattle.book_words.specs.Population.{settled_pile, is_unsettled, readings_of_batch}
use Rattle.pack_judge.specs.Piles.{same_pile}
use Rattle.book_words.specs.Samples.{drawing_from, drawing_of, first_picks, second_picks, is_among}
use Rattle.book_words.specs.Piles.{pile_of, in_pile, gross_sum}
use Rattle.book_words.specs.Verdicts.{verdict_of}

-- some readings are as many, and weigh as much, as their four piles together
pub record AddUp (entries : List Entry) (some : List Reading) : Type 0 where
  pub count :
      length some
      ≡ length (in_pile entries Passed some) + length (in_pile entries Rejected some)
      + length (in_pile entries Sampled some) + length (in_pile entries Voided some)
  pub gross :
      gross_sum some
      ≡ gross_sum (in_pile entries Passed some) +ℤ gross_sum (in_pile entries Rejected some)
      +ℤ gross_sum (in_pile entries Sampled some) +ℤ gross_sum (in_pile entries Voided some)

-- the piles add up in the whole hall and in each batch
pub record IsBalanced (entries : List Entry) : Type 0 where
  pub hall : AddUp entries (readings entries)
  pub batch : (name : Name) → AddUp entries (readings_of_batch entries name)

-- where an unsettled pack goes by what the gate did
abbrev pub pile_by_gate : Prior → Pile → Pile
pile_by_gate Stayed pile = Rejected
pile_by_gate Unknown pile = Voided
pile_by_gate prior pile = pile

-- the packs that an act draws behind some entries
abbrev pub packs_drawn : List Entry → Act → List ℕ
packs_drawn entries (Draw batch mode word) =
    option_map_or first_picks (drawing_from batch entries (Draw batch mode word)) []
packs_drawn entries (DrawSecond batch word) =
    option_map_or (λ drawing. second_picks drawing word) (drawing_of entries batch) []
packs_drawn entries act = []

-- where a drawn pack goes
abbrev pub pile_by_draw : List ℕ → ℕ → Pile → Pile
pile_by_draw packs number pile = if is_among number packs then Sampled else pile

-- where an act moves a reading that lies in a pile: the lane's unsettled reading goes where
-- a weighing or a stop says, a void takes its pack back, and a draw takes its packs to the sampled;
-- any other stays
abbrev pub moved_pile : List Entry → Act → Reading → Pile → Pile
moved_pile entries (Weigh lane gross prior) reading pile =
    if ((reading.lane == lane) && is_unsettled reading) then pile_by_gate prior pile else pile
moved_pile entries (StopLane lane prior) reading pile =
    if ((reading.lane == lane) && is_unsettled reading) then pile_by_gate prior pile else pile
moved_pile entries (Void pack) reading pile = if reading.number == pack then Voided else pile
moved_pile entries (Draw batch mode word) reading pile =
    pile_by_draw (packs_drawn entries (Draw batch mode word)) reading.number pile
moved_pile entries (DrawSecond batch word) reading pile =
    pile_by_draw (packs_drawn entries (DrawSecond batch word)) reading.number pile
moved_pile entries act reading pile = pile

-- the pile of a reading of a list once an act came behind it
abbrev pub next_pile : List Entry → Act → Reading → Pile
next_pile entries act reading = moved_pile entries act reading (pile_of entries reading)

-- the pile of an entry's own reading, where it is a weighing: by its signal
abbrev pub own_pile : Entry → Act → List Pile
own_pile entry (Weigh lane gross prior) = settled_pile false entry.signal None ∷ []
own_pile entry _ = []

-- a reading stays in its pile, or lay among the passed
abbrev pub leaves_passed : List Entry → Act → Reading → Bool
leaves_passed entries act reading =
    same_pile (next_pile entries act reading) (pile_of entries reading)
    || same_pile (pile_of entries reading) Passed

-- an entry moves the packs so, and no others, and each that moves lay among the passed
pub record MovesOnly (entries : List Entry) (entry : Entry) : Type 0 where
  pub piles :
      map (pile_of (entries ++ entry ∷ [])) (readings (entries ++ entry ∷ []))
      ≡ map (next_pile entries entry.act) (readings entries) ++ own_pile entry entry.act
  pub from : list_all (leaves_passed entries entry.act) (readings entries) ≡ true

-- each entry of a list moves the packs as it may
abbrev pub EachMoves : List Entry → Type 0
EachMoves entries =
    (before : List Entry) (entry : Entry) (after : List Entry)
    → entries ≡ before ++ entry ∷ after → MovesOnly before entry

-- a verdict stays: that of a batch over the list that ends with its closing is its verdict over the
-- whole list, whatever came later
abbrev pub VerdictsStay : List Entry → Type 0
VerdictsStay entries =
    (before : List Entry) (entry : Entry) (after : List Entry) (batch : Name)
    → entries ≡ before ++ entry ∷ after → entry.act ≡ Close batch
    → verdict_of (before ++ entry ∷ []) batch ≡ verdict_of entries batch
