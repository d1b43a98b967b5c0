-- What an act draws, made before the act is entered.
use Rattle.std.specs.Prelude.{◌≡◌, ◌≤◌, ◌<◌, ◌^◌, All, IfSome, is_some, length, ℕ, ℤ, pos, Bool, true, false, List, [], Option, Some, None}
use Rattle.std.specs.Option.{option_and_then, option_map_or, unwrap_or}
use Rattle.pack_judge.specs.declared.types.Signal.{Signal}
use Rattle.book_words.specs.declared.name.Name.{Name}
use Rattle.book_words.specs.declared.act.Act.{Act}
use Rattle.book_words.specs.declared.act.Act.TheVariants.{Weigh, Draw, DrawSecond}
use Rattle.book_words.specs.declared.act.Entry.{Entry}
use Rattle.book_words.specs.Acts.{product_of}
use Rattle.book_words.specs.Population.{population}
use Rattle.book_words.specs.Samples.{Sample, numbers_of, drawing_of, second_picks, sample_by, sample_of}
use Rattle.book_packs.specs.declared.types.Weighing.{Weighing}

-- what is drawn: a first sample, the packs of a second, or nothing
pub record Drawn : Type 0 where
  pub first : Option Sample
  pub second : List ℕ

-- what an act draws behind some entries
abbrev pub drawn_by : List Entry → Act → Drawn
drawn_by entries (Draw batch mode word) =
    record {
      first =
          Some (sample_by (record {
            mode = mode;
            word = word;
            packs = numbers_of (population entries batch);
          })
          None);
      second = [];
    }
drawn_by entries (DrawSecond batch word) =
    record {
      first = None;
      second = option_map_or (λ drawing. second_picks drawing word) (drawing_of entries batch) [];
    }
drawn_by entries act = record { first = None; second = [] }

-- whether an act draws
abbrev pub is_drawing : Act → Bool
is_drawing (Draw batch mode word) = true
is_drawing (DrawSecond batch word) = true
is_drawing act = false

-- a sample has as many packs as its plan says, and the mean looks at some of them, at most 99
pub record IsPlanned (sample : Sample) : Type 0 where
  pub first : length sample.first ≡ sample.plan.first
  pub few : sample.plan.first ≤ 99
  pub mean : sample.plan.mean_n ≤ sample.plan.first
  pub some : 0 < sample.plan.mean_n
  pub part : sample.plan.k1000 ≤ 1000

-- the sample is that of a batch that is there, and its packs are rows
pub record IsSampleOf (entries : List Entry) (batch : Name) (sample : Sample) : Type 0 where
  pub is_of : sample_of entries batch ≡ Some sample
  pub known : is_some (product_of entries batch) ≡ true
  pub planned : IsPlanned sample
  pub first_rows : All (λ pack. pack < 2 ^ 32) sample.first
  pub second_rows : IfSome sample.second (λ picks. All (λ pack. pack < 2 ^ 32) picks)

-- the packs that were drawn: those of the first sample, or else those of the second
abbrev pub picks_in : Drawn → List ℕ
picks_in drawn = option_map_or (λ sample. sample.first) drawn.first drawn.second

-- a weighing by its act, of a batch on a day with a tare, which gave a signal
abbrev pub act_weighing : Act → ℕ → Option ℤ → ℕ → ℤ → Signal → Option Weighing
act_weighing (Weigh lane gross prior) row tare batch day signal =
    Some (record {
      lane = lane;
      prior = prior;
      number = row;
      batch = batch;
      day = day;
      gross = gross;
      tare = unwrap_or tare (pos 0);
      signal = signal;
    })
act_weighing _ row tare batch day signal = None

-- the weighing of a row, where its act is one and its batch, its day and its signal are there
abbrev pub row_weighing : Entry → ℕ → Option ℕ → Option ℤ → Option ℤ → Option Weighing
row_weighing entry row batch day tare =
    option_and_then
    (λ batch. option_and_then
    (λ day. option_and_then (act_weighing entry.act row tare batch day) entry.signal)
    day)
    batch
