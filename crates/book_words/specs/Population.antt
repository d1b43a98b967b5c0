-- Where a reading lies before samples are looked at, and the population of a batch.
use Rattle.std.specs.Prelude.{ℕ, ℤ, Bool, true, false, ◌&&◌, ◌==◌, List, filter, count_by, nat_lt, slice_get, Option, Some, is_none}
use Rattle.pack_judge.specs.declared.types.Pile.{Pile}
use Rattle.pack_judge.specs.declared.types.Pile.TheVariants.{Passed, Rejected, Voided}
use Rattle.pack_judge.specs.declared.types.Signal.{Signal}
use Rattle.pack_judge.specs.declared.types.Signal.TheVariants.{Pass, Reject}
use Rattle.pack_judge.specs.Piles.{same_pile, mass_sum}
use Rattle.book_words.specs.declared.name.Name.{Name}
use Rattle.book_words.specs.declared.act.Prior.{Prior}
use Rattle.book_words.specs.declared.act.Prior.TheVariants.{Stayed, Unknown}
use Rattle.book_words.specs.declared.act.Entry.{Entry}
use Rattle.book_words.specs.declared.act.Reading.{Reading}
use Rattle.book_words.specs.Readings.{readings, is_of_batch, net_of_reading}
use Rattle.book_words.specs.Classes.{is_below, density_of_batch, limits_of_batch}

-- where a reading lies, by whether it was taken back, by its signal, and by what the lane's next
-- act says: one that was taken back is voided, and so is a passed one where nobody knows what the
-- gate did; one that was signalled a reject is rejected, and so is a passed one where the gate
-- stayed shut; any other lies among the passed
abbrev pub settled_pile : Bool → Option Signal → Option Prior → Pile
settled_pile true signal next_prior = Voided
settled_pile false (Some Pass) (Some Unknown) = Voided
settled_pile false (Some Pass) (Some Stayed) = Rejected
settled_pile false (Some (Reject cause)) next_prior = Rejected
settled_pile false signal next_prior = Passed

-- the pile of a reading before samples are looked at
abbrev pub unsampled_pile : Reading → Pile
unsampled_pile reading = settled_pile reading.voided reading.signal reading.next_prior

-- whether a signal let the gate open
abbrev pub is_pass : Option Signal → Bool
is_pass (Some Pass) = true
is_pass _ = false

-- a passed reading is unsettled until its lane's next act
abbrev pub is_unsettled : Reading → Bool
is_unsettled reading = is_pass reading.signal && is_none reading.next_prior

-- the unsettled reading of a lane, where it has one
abbrev pub unsettled_reading : List Entry → ℕ → Option Reading
unsettled_reading entries lane =
    slice_get
    (filter (λ reading. (reading.lane == lane) && is_unsettled reading) (readings entries)) 0

-- the readings of a batch
abbrev pub readings_of_batch : List Entry → Name → List Reading
readings_of_batch entries batch = filter (is_of_batch batch) (readings entries)

-- a pack counts for the population of its batch where it is neither voided nor rejected; so it lies
-- among the passed or the sampled
abbrev pub is_counted : Reading → Bool
is_counted reading = same_pile (unsampled_pile reading) Passed

-- those of some readings that count for a batch
abbrev pub counted_readings : Name → List Reading → List Reading
counted_readings batch readings =
    filter (λ reading. is_of_batch batch reading && is_counted reading) readings

-- the population of a batch
abbrev pub population : List Entry → Name → List Reading
population entries batch = counted_readings batch (readings entries)

-- how many of some readings have a net below a limit, at the density of their batch
abbrev pub count_below : List Entry → Name → ℤ → List Reading → ℕ
count_below entries batch limit some =
    count_by
    (λ reading. is_below (density_of_batch entries batch) limit (net_of_reading entries reading))
    some

-- how many of some readings of a batch aren't standard: non-standard or inadequate
abbrev pub nonstandard_count : List Entry → Name → List Reading → ℕ
nonstandard_count entries batch some =
    count_below entries batch (limits_of_batch entries batch).t1 some

-- how many of some readings of a batch are inadequate
abbrev pub inadequate_count : List Entry → Name → List Reading → ℕ
inadequate_count entries batch some =
    count_below entries batch (limits_of_batch entries batch).t2 some

-- a batch is held where a pack of its population is inadequate
abbrev pub is_held : List Entry → Name → List Reading → Bool
is_held entries batch some = nat_lt 0 (inadequate_count entries batch some)

-- the sum of the nets of some readings
abbrev pub net_sum : List Entry → List Reading → ℤ
net_sum entries some = mass_sum (net_of_reading entries) some
