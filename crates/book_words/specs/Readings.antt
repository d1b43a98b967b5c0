-- The readings of a list, and their nets. All masses are milligrams.
use Rattle.std.specs.Prelude.{ℕ, ℤ, pos, ◌+◌, ◌-ℤ◌, Bool, false, ◌==◌, List, take, drop, length, slice_get, find, Option, Some, None}
use Rattle.std.specs.List.{filter_map, range_with_len}
use Rattle.std.specs.Option.{option_and_then, option_map_or, unwrap_or}
use Rattle.pack_judge.specs.declared.types.Signal.{Signal}
use Rattle.book_words.specs.declared.name.Name.{Name}
use Rattle.book_words.specs.declared.act.Act.{Act}
use Rattle.book_words.specs.declared.act.Act.TheVariants.{Weigh}
use Rattle.book_words.specs.declared.act.Entry.{Entry}
use Rattle.book_words.specs.declared.act.Reading.{Reading}
use Rattle.book_words.specs.Names.{same_name}
use Rattle.book_words.specs.Acts.{next_prior, is_voided, newest_day, product_of, last_batch}
use Rattle.book_words.specs.Tares.{tare_of_product}

-- a weighing as a reading of its number: its day and its batch are told by the entries before it,
-- what the gate did by its lane's first weighing or stop after it, and whether it is taken back by
-- the entries after it; no entry before it can name it
abbrev pub weighed_reading : ℕ → List Entry → Act → Option Signal → List Entry → Option Reading
weighed_reading number before (Weigh lane gross prior) signal after =
    Some (record {
      number = number;
      lane = lane;
      gross = gross;
      signal = signal;
      day = newest_day before;
      batch = last_batch before lane;
      next_prior = next_prior after lane;
      voided = is_voided after number;
    })
weighed_reading number before _ signal after = None

-- the reading at a place of the list, where a weighing stands there; places are counted from 0,
-- numbers from 1
abbrev pub placed_reading : List Entry → ℕ → Option Reading
placed_reading entries place =
    option_and_then
    (λ entry. weighed_reading (place + 1) (take place entries) entry.act entry.signal
    (drop (place + 1) entries))
    (slice_get entries place)

-- the readings among so many of the first entries, as the whole list shows them
abbrev pub first_readings : ℕ → List Entry → List Reading
first_readings count entries = filter_map (placed_reading entries) (range_with_len 0 count)

-- the readings of the list
abbrev pub readings : List Entry → List Reading
readings entries = first_readings (length entries) entries

-- the reading with a number, where there is one
abbrev pub reading_of : List Entry → ℕ → Option Reading
reading_of entries number = find (λ reading. reading.number == number) (readings entries)

-- whether a reading is one of a batch
abbrev pub is_of_batch : Name → Reading → Bool
is_of_batch batch reading = option_map_or (λ name. same_name name batch) reading.batch false

-- the tare of a batch's product on a day, by all tares of the list as it now is
abbrev pub tare_of_batch : List Entry → Name → ℤ → Option ℤ
tare_of_batch entries batch day =
    option_and_then (λ product. tare_of_product entries product day) (product_of entries batch)

-- the tare of a reading: that of its batch's product on its day
abbrev pub tare_of_reading : List Entry → Option Name → Option ℤ → Option ℤ
tare_of_reading entries batch day =
    option_and_then (λ name. option_and_then (tare_of_batch entries name) day) batch

-- a gross less the tare of its batch and day; where there is no such tare, the gross alone
abbrev pub net_of_gross : List Entry → Option Name → Option ℤ → ℤ → ℤ
net_of_gross entries batch day gross =
    gross -ℤ unwrap_or (tare_of_reading entries batch day) (pos 0)

-- the net of a reading, by the tares of the whole list as it now is
abbrev pub net_of_reading : List Entry → Reading → ℤ
net_of_reading entries reading = net_of_gross entries reading.batch reading.day reading.gross
