-- The paper of a batch over the list of entries: the filters of the population, of the samples and
-- of the measurements. All masses are milligrams.
use Rattle.std.specs.Prelude.{ℕ, ℤ, pos, ◌+◌, List, [], ◌++◌, map, position, Bool, false, ◌&&◌, ◌||◌, if◌then◌else◌, Option, Some, None, option_map}
use Rattle.std.specs.Ordering.{int_eq}
use Rattle.std.specs.List.{dedup}
use Rattle.std.specs.Option.{option_and_then, option_map_or, option_to_list, unwrap_or}
use Rattle.annex_tables.specs.declared.types.Mode.{Mode}
use Rattle.annex_tables.specs.declared.types.Mode.TheVariants.{Keep, Destroy}
use Rattle.pack_judge.specs.declared.types.Pile.{Pile}
use Rattle.pack_judge.specs.declared.types.Pile.TheVariants.{Passed, Sampled}
use Rattle.pack_judge.specs.Piles.{same_pile}
use Rattle.pack_judge.specs.declared.tares.DatedTare.{DatedTare}
use Rattle.book_words.specs.declared.name.Name.{Name}
use Rattle.book_words.specs.declared.act.Unit.TheVariants.{Mass}
use Rattle.book_words.specs.declared.act.Act.{Act}
use Rattle.book_words.specs.declared.act.Act.TheVariants.{Draw, Close}
use Rattle.book_words.specs.declared.act.Entry.{Entry}
use Rattle.book_words.specs.declared.act.Reading.{Reading}
use Rattle.book_words.specs.Names.{same_name}
use Rattle.book_words.specs.Acts.{last_said, product_of, unit_of}
use Rattle.book_words.specs.Readings.{reading_of, is_of_batch, tare_of_batch}
use Rattle.book_words.specs.Classes.{nominal_of_batch, density_of_batch}
use Rattle.book_words.specs.Population.{is_counted, population}
use Rattle.book_words.specs.Samples.{Drawing, Sample, drawing_of, second_word, sample_of}
use Rattle.book_words.specs.Measures.{Measured, measured_of}
use Rattle.book_words.specs.Verdicts.{second_packs, verdict_of}
use Rattle.paper_form.specs.declared.types.Goods as goods
use Rattle.paper_form.specs.declared.types.Pack as packs
use Rattle.paper_form.specs.declared.types.Draw as draws
use Rattle.paper_form.specs.declared.types.Weighed.{Weighed}
use Rattle.paper_form.specs.declared.types.Pick.{Pick}
use Rattle.paper_form.specs.declared.types.Line as lines
use Rattle.paper_form.specs.declared.types.Line.TheVariants as line
use Rattle.paper_form.specs.Papers.{PaperData}
use Rattle.batch_paper.specs.declared.picks.Part.{Part}
use Rattle.batch_paper.specs.declared.picks.Part.TheVariants.{First, Second}

-- whether an act closes a batch
abbrev pub is_close_of : Name → Act → Bool
is_close_of batch (Close name) = same_name name batch
is_close_of batch _ = false

-- the place of the entry that closes a batch, from 0
abbrev pub closing_place : List Entry → Name → Option ℕ
closing_place entries batch = position (λ entry. is_close_of batch entry.act) entries

-- the row of the closing of a batch; 0 where there is none
abbrev pub closing_row : List Entry → Name → ℕ
closing_row entries batch = option_map_or (λ place. place + 1) (closing_place entries batch) 0

-- the goods of a batch: its product with the nominal quantity, the unit and the density that count
abbrev pub goods_of : List Entry → Name → Name → goods.Goods
goods_of entries batch product =
    record {
      batch = batch;
      product = product;
      nominal = nominal_of_batch entries batch;
      unit = unwrap_or (unit_of entries product) Mass;
      density = density_of_batch entries batch;
      row = closing_row entries batch;
    }

-- a reading as a pack of the population
abbrev pub reading_pack : Reading → packs.Pack
reading_pack reading =
    record {
      number = reading.number;
      day = unwrap_or reading.day (pos 0);
      gross = reading.gross;
    }

-- whether a pile is the passed or the sampled, in which the packs of a population lie
abbrev pub is_stock : Pile → Bool
is_stock pile = same_pile pile Passed || same_pile pile Sampled

-- the pack of a reading, where it counts for a batch
abbrev pub pack_where : Name → Reading → Option packs.Pack
pack_where batch reading =
    if is_of_batch batch reading && is_counted reading then Some (reading_pack reading) else None

-- the pack of a number, where it is one of the population of a batch
abbrev pub pack_at : List Entry → Name → ℕ → Option packs.Pack
pack_at entries batch number = option_and_then (pack_where batch) (reading_of entries number)

-- the packs of the population of a batch
abbrev pub packs_of : List Entry → Name → List packs.Pack
packs_of entries batch = map reading_pack (population entries batch)

-- the tare of a batch's product on a day, as the tares of the list now are
abbrev pub tare_for : List Entry → Name → ℤ → DatedTare
tare_for entries batch day =
    record { day = day; tare = unwrap_or (tare_of_batch entries batch day) (pos 0) }

-- the days of some packs, each once where they come together
abbrev pub days_of : List packs.Pack → List ℤ
days_of packs = dedup int_eq (map (λ pack. pack.day) packs)

-- the tare of each day of a pack of the population
abbrev pub tares_of : List Entry → Name → List DatedTare
tares_of entries batch = map (tare_for entries batch) (days_of (packs_of entries batch))

-- what was measured, as a paper says it: where packs are kept, no pack is weighed empty
abbrev pub weighed_of : Mode → Measured → Weighed
weighed_of Keep measured = record { gross = measured.gross; empty = pos 0 }
weighed_of Destroy measured = record { gross = measured.gross; empty = measured.empty }

-- a drawn pack, with what was measured of it
abbrev pub pick_of : List Entry → Mode → ℕ → Pick
pick_of entries mode pack =
    record { pack = pack; weighed = option_map (weighed_of mode) (measured_of entries pack) }

-- the word by which an act draws the first sample of a batch
abbrev pub first_word : Name → Act → Option ℕ
first_word batch (Draw name mode word) = if same_name name batch then Some word else None
first_word batch _ = None

-- what the first sample of a batch was drawn by
abbrev pub draw_by : Drawing → draws.Draw
draw_by drawing = record { mode = drawing.mode; word = drawing.word }

-- the packs of a first sample, and those of a second one, with what was measured of them
abbrev pub first_picks : List Entry → Sample → List Pick
first_picks entries sample = map (pick_of entries sample.mode) sample.first

abbrev pub second_picks : List Entry → Sample → List Pick
second_picks entries sample = map (pick_of entries sample.mode) (second_packs sample)

-- the paper of a batch of a product
abbrev pub product_paper : List Entry → Name → Name → PaperData
product_paper entries batch product =
    record {
      goods = goods_of entries batch product;
      tares = tares_of entries batch;
      packs = packs_of entries batch;
      draw = option_map draw_by (drawing_of entries batch);
      first = option_map_or (first_picks entries) (sample_of entries batch) [];
      second_word = last_said (second_word batch) entries;
      second = option_map_or (second_picks entries) (sample_of entries batch) [];
      verdict = verdict_of entries batch;
    }

-- the paper of a batch, where it is one
abbrev pub paper_of : List Entry → Name → Option PaperData
paper_of entries batch = option_map (product_paper entries batch) (product_of entries batch)

-- the line of a pack of a sample
abbrev pub pick_line : Part → Pick → lines.Line
pick_line First pick = line.First pick
pick_line Second pick = line.Second pick

-- the lines of tares, and those of packs
abbrev pub tare_lines : List DatedTare → List lines.Line
tare_lines tares = map (λ dated. line.Tare dated) tares

abbrev pub pack_lines : List packs.Pack → List lines.Line
pack_lines packs = map (λ pack. line.Pack pack) packs

-- the lines of the samples of a paper: nothing where none was drawn
abbrev pub sample_lines : PaperData → List lines.Line
sample_lines paper =
    map (λ draw. line.Mode draw) (option_to_list paper.draw)
    ++ map (λ pick. line.First pick) paper.first
    ++ map (λ word. line.Word word) (option_to_list paper.second_word)
    ++ map (λ pick. line.Second pick) paper.second
