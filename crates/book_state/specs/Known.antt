-- What is told of a pack and of a batch.
use Rattle.std.specs.Prelude.{ℕ, ℤ, pos, ◌-◌, nat_le, if◌then◌else◌, List, slice_get, find, Option, Some, None, option_map}
use Rattle.std.specs.Option.{option_and_then, unwrap_or}
use Rattle.pack_judge.specs.declared.types.Signal.{Signal}
use Rattle.batch_sums.specs.declared.types.Pack.{Pack}
use Rattle.pack_groups.specs.declared.types.Totals.{Totals}
use Rattle.book_words.specs.declared.name.Name.{Name}
use Rattle.book_words.specs.declared.act.Act.{Act}
use Rattle.book_words.specs.declared.act.Act.TheVariants.{Weigh}
use Rattle.book_words.specs.declared.act.Entry.{Entry}
use Rattle.book_words.specs.declared.act.Reading.{Reading}
use Rattle.book_words.specs.Acts.{said, batch_opened, product_of}
use Rattle.book_words.specs.Readings.{reading_of, tare_of_reading}
use Rattle.book_words.specs.Piles.{pile_of}
use Rattle.book_words.specs.Refusals.{is_frozen}
use Rattle.book_packs.specs.Told.{totals_told}
use Rattle.book_state.specs.declared.types.KnownPack.{KnownPack}

-- the entry of a number, from 1 on
abbrev pub entry_numbered : List Entry → ℕ → Option Entry
entry_numbered entries number = if nat_le 1 number then slice_get entries (number - 1) else None

-- the lane on which an act weighs a pack
abbrev pub lane_weighed : Act → Option ℕ
lane_weighed (Weigh lane gross prior) = Some lane
lane_weighed _ = None

-- a pack, its batch, its lane and its signal together, where all of them are there
abbrev pub put_together : Option Pack → Option Name → Option ℕ → Option Signal → Option KnownPack
put_together pack batch lane signal =
    option_and_then
    (λ pack. option_and_then
    (λ batch. option_and_then
    (λ lane. option_map
    (λ signal. record {
      batch = batch;
      lane = lane;
      day = pack.day;
      gross = pack.gross;
      tare = pack.tare;
      signal = signal;
      pile = pack.pile;
    })
    signal)
    lane)
    batch)
    pack

-- a reading that has this batch, day and signal, as it is told
abbrev pub known_record : List Entry → Reading → Name → ℤ → Signal → KnownPack
known_record entries reading batch day signal =
    record {
      batch = batch;
      lane = reading.lane;
      day = day;
      gross = reading.gross;
      tare = unwrap_or (tare_of_reading entries reading.batch reading.day) (pos 0);
      signal = signal;
      pile = pile_of entries reading;
    }

-- a reading as it is told
abbrev pub known_reading : List Entry → Reading → Option KnownPack
known_reading entries reading =
    option_and_then
    (λ batch. option_and_then
    (λ day. option_map (known_record entries reading batch day) reading.signal)
    reading.day)
    reading.batch

-- the pack of a number as it is told
abbrev pub known_pack : List Entry → ℕ → Option KnownPack
known_pack entries number = option_and_then (known_reading entries) (reading_of entries number)

-- the totals of a batch, where it is one
abbrev pub totals_of_batch : List Entry → Name → Option Totals
totals_of_batch entries batch =
    option_map (λ product. totals_told entries batch) (product_of entries batch)

-- the first closed batch, in order of opening, of which an act gives a reading another tare
abbrev pub frozen_batch : List Entry → Act → Option Name
frozen_batch entries act = find (is_frozen entries act) (said batch_opened entries)
