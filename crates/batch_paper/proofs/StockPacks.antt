-- A pack that is known is one of the population of its batch where it lies in stock.
use Rattle.std.proofs.Common.{◌≡◌, ℕ, ℤ, pos, false, ◌&&◌, cond, List, Option, Some, None, option_map, refl, sym, ◌∙◌, ap}
use Rattle.std.proofs.lemmas.Option.{same_Some}
use Rattle.std.specs.Option.{option_and_then, option_map_or, unwrap_or}
use Rattle.pack_judge.specs.declared.types.Signal.{Signal}
use Rattle.book_words.specs.declared.name.Name.{Name}
use Rattle.book_words.specs.declared.act.Entry.{Entry}
use Rattle.book_words.specs.declared.act.Reading.{Reading}
use Rattle.book_words.specs.Names.{same_name}
use Rattle.book_words.specs.Readings.{reading_of}
use Rattle.book_words.specs.Population.{is_counted}
use Rattle.book_words.specs.Piles.{pile_of}
use Rattle.book_laws.proofs.PopulationLaws.{counted_is_in_stock}
use Rattle.book_laws.proofs.ReadingLaws.{IsOneOf, each_is_one, of_reading}
use Rattle.book_state.specs.declared.types.KnownPack.{KnownPack}
use Rattle.book_state.specs.Known.{known_record, known_reading, known_pack}
use Rattle.paper_form.specs.declared.types.Pack as packs
use Rattle.batch_paper.specs.Written.{is_stock, reading_pack, pack_where, pack_at}

-- what is known of a reading
record Tells (entries : List Entry) (reading : Reading) (known : KnownPack) : Type 0 where
  batch : reading.batch ≡ Some known.batch
  day : reading.day ≡ Some known.day
  gross : reading.gross ≡ known.gross
  pile : pile_of entries reading ≡ known.pile

tells : (entries : List Entry) (reading : Reading) (known : KnownPack)
    → Some known ≡ known_reading entries reading → Tells entries reading known
tells entries reading known h = each reading.batch reading.day reading.signal refl refl h
  where
    each : (b : Option Name) (d : Option ℤ) (s : Option Signal) → reading.batch ≡ b
        → reading.day ≡ d
        → Some known ≡ option_and_then (λ (batch : Name). option_and_then
        (λ (day : ℤ). option_map (known_record entries reading batch day) s) d) b
        → Tells entries reading known
    each None d s b_is d_is k = absurd (cc)
    each (Some batch) None s b_is d_is k = absurd (cc)
    each (Some batch) (Some day) None b_is d_is k = absurd (cc)
    each (Some batch) (Some day) (Some signal) b_is d_is k =
        let same : known ≡ known_record entries reading batch day signal = same_Some _ _ k in
        record {
          batch = b_is ∙ ap (λ (p : KnownPack). Some p.batch) (sym same);
          day = d_is ∙ ap (λ (p : KnownPack). Some p.day) (sym same);
          gross = ap (λ (p : KnownPack). p.gross) (sym same);
          pile = ap (λ (p : KnownPack). p.pile) (sym same);
        }

-- so it is told of a number
pub stock_pack : (entries : List Entry) (batch : Name) (number : ℕ) (known : KnownPack)
    → Some known ≡ known_pack entries number
    → pack_at entries batch number
    ≡ cond (same_name known.batch batch && is_stock known.pile)
    (Some (record { number = number; day = known.day; gross = known.gross })) None
stock_pack entries batch number known h = each (reading_of entries number) refl h
  where
    each : (o : Option Reading) → reading_of entries number ≡ o
        → Some known ≡ option_and_then (known_reading entries) o
        → option_and_then (pack_where batch) (reading_of entries number)
        ≡ cond (same_name known.batch batch && is_stock known.pile)
        (Some (record { number = number; day = known.day; gross = known.gross })) None
    each None is k = absurd (cc)
    each (Some reading) is k =
        let told = tells entries reading known k in
        let one = of_reading (IsOneOf entries) entries number reading (each_is_one entries) is in
        ap (option_and_then (pack_where batch)) is
        ∙ ap (λ (o : Option Name). cond
        (option_map_or (λ (name : Name). same_name name batch) o false
        && is_counted reading) (Some (reading_pack reading)) None) told.batch
        ∙ ap (λ b. cond (same_name known.batch batch && b) (Some (reading_pack reading)) None)
        (counted_is_in_stock entries reading)
        ∙ ap (λ pile. cond (same_name known.batch batch && is_stock pile)
        (Some (reading_pack reading)) None)
        told.pile
        ∙ ap (λ (pack : packs.Pack). cond (same_name known.batch batch && is_stock known.pile)
        (Some pack) None)
        (λ i. record {
          number = one.0 i;
          day = unwrap_or (told.day i) (pos 0);
          gross = told.gross i;
        })
