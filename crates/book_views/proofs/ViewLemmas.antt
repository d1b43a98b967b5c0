-- What is told of a pack and of a batch, by what is known of them.
use Rattle.std.proofs.Common.{◌≡◌, ℕ, ℤ, pos, ◌-ℤ◌, Bool, true, false, cond, ◌==◌, List, [], ◌∷◌, Option, Some, None, option_map, is_some, refl, sym, ◌∙◌, ap, subst}
use Rattle.std.proofs.lemmas.Bool.{eqb-true}
use Rattle.std.specs.List.{find}
use Rattle.std.specs.Option.{option_and_then, unwrap_or}
use Rattle.pack_judge.specs.declared.types.Class.{Class}
use Rattle.pack_judge.specs.declared.types.Signal.{Signal}
use Rattle.book_words.specs.declared.name.Name.{Name}
use Rattle.book_words.specs.declared.act.Entry.{Entry}
use Rattle.book_words.specs.declared.act.Reading.{Reading}
use Rattle.book_words.specs.declared.views.PackView.{PackView}
use Rattle.book_words.specs.Acts.{nominal_of, product_of}
use Rattle.book_words.specs.Readings.{readings, reading_of}
use Rattle.book_words.specs.Classes.{nominal_of_batch, class_in_batch}
use Rattle.book_words.specs.Refusals.{batch_of_pack}
use Rattle.book_words.specs.Answers.{IsLegal}
use Rattle.book_words.specs.Views.{pack_record, view_of_reading, pack_view}
use Rattle.book_laws.proofs.TareLaws.{IsWeighed, tared_of}
use Rattle.std.proofs.lemmas.Option.{same_Some}
use Rattle.book_laws.proofs.ReadingLaws.{of_reading}
use Rattle.book_verdicts.specs.KnownPack.{KnownPack}
use Rattle.book_verdicts.specs.Known.{known_record, known_reading, known_pack}

-- the nominal quantity of a batch is that of its product
pub nominal_by_product : (entries : List Entry) (batch product : Name) (nominal : ℤ)
    → product_of entries batch ≡ Some product → nominal_of entries product ≡ Some nominal
    → nominal_of_batch entries batch ≡ nominal
nominal_by_product entries batch product nominal given is =
    ap (λ o. unwrap_or (option_and_then (nominal_of entries) o) (pos 0)) given
    ∙ ap (λ o. unwrap_or o (pos 0)) is

found_number : (pack : ℕ) (some : List Reading) (reading : Reading)
    → find (λ (r : Reading). r.number == pack) some ≡ Some reading → reading.number ≡ pack
found_number pack [] reading h = absurd (cc)
found_number pack (first ∷ some) reading h =
    step (first.number == pack) refl (found_number pack some reading) h
  where
    step : (b : Bool) → (first.number == pack) ≡ b
        → (find (λ (r : Reading). r.number == pack) some ≡ Some reading → reading.number ≡ pack)
        → cond b (Some first) (find (λ (r : Reading). r.number == pack) some) ≡ Some reading
        → reading.number ≡ pack
    step true is rest k = ap (λ (r : Reading). r.number) (sym (same_Some first reading k))
        ∙ eqb-true first.number pack is
    step false is rest k = rest k

-- the batch of a pack has a product
pub pack_product : (entries : List Entry) (pack : ℕ) (batch : Name) → IsLegal entries
    → batch_of_pack entries pack ≡ Some batch → is_some (product_of entries batch) ≡ true
pack_product entries pack batch legal of_batch = each (reading_of entries pack) refl of_batch
  where
    each : (o : Option Reading) → reading_of entries pack ≡ o
        → option_and_then (λ (r : Reading). r.batch) o ≡ Some batch
        → is_some (product_of entries batch) ≡ true
    each None found h = absurd (cc)
    each (Some reading) found h =
        let weighed =
        (of_reading (IsWeighed entries) entries pack reading
        (tared_of entries legal).weighed found).1 in
        subst (λ name. is_some (product_of entries name) ≡ true)
        (same_Some weighed.batch batch (sym weighed.of_batch ∙ h))
        (ap is_some weighed.has.known)

-- what is told of a known pack
abbrev pub view_by : ℕ → KnownPack → Name → Class → PackView
view_by pack known product class =
    record {
      pack = pack;
      batch = known.batch;
      product = product;
      lane = known.lane;
      day = known.day;
      gross = known.gross;
      net = known.gross -ℤ known.tare;
      class = class;
      signal = known.signal;
      pile = known.pile;
    }

pub known_view : (entries : List Entry) (pack : ℕ) (known : KnownPack) (product : Name)
    (class : Class) → known_pack entries pack ≡ Some known
    → product_of entries known.batch ≡ Some product
    → class ≡ class_in_batch entries known.batch (known.gross -ℤ known.tare)
    → Some (view_by pack known product class) ≡ pack_view entries pack
known_view entries pack known product class is given of_class = each (reading_of entries pack) refl is
  where
    each : (o : Option Reading) → reading_of entries pack ≡ o
        → option_and_then (known_reading entries) o ≡ Some known
        → Some (view_by pack known product class) ≡ option_and_then (view_of_reading entries) o
    each None found k = absurd (cc)
    each (Some reading) found k = parts reading.batch reading.day reading.signal k
      where
        number : reading.number ≡ pack
        number = found_number pack (readings entries) reading found

        whole : (batch : Name) (day : ℤ) (signal : Signal) (k : KnownPack)
            → known_record entries reading batch day signal ≡ k
            → product_of entries k.batch ≡ Some product
            → class ≡ class_in_batch entries k.batch (k.gross -ℤ k.tare)
            → Some (view_by pack k product class)
            ≡ option_and_then (λ (p : Name). Some
            (pack_record entries reading batch p day signal)) (product_of entries batch)
        whole batch day signal k same =
            subst (λ (k : KnownPack). product_of entries k.batch ≡ Some product
            → class ≡ class_in_batch entries k.batch (k.gross -ℤ k.tare)
            → Some (view_by pack k product class)
            ≡ option_and_then (λ (p : Name). Some
            (pack_record entries reading batch p day signal)) (product_of entries batch)) same
            (λ put classed.
            ap (λ n. Some (view_by n (known_record entries reading batch day signal) product class))
            (sym number)
            ∙ ap (λ (c : Class). Some (view_by reading.number
            (known_record entries reading batch day signal) product c)) classed
            ∙ sym (ap (option_and_then (λ (p : Name). Some
            (pack_record entries reading batch p day signal))) put))

        parts : (b : Option Name) (d : Option ℤ) (s : Option Signal)
            → option_and_then (λ batch. option_and_then
            (λ day. option_map (known_record entries reading batch day) s) d) b ≡ Some known
            → Some (view_by pack known product class)
            ≡ option_and_then (λ batch. option_and_then
            (λ (p : Name). option_and_then
            (λ day. option_map (pack_record entries reading batch p day) s) d)
            (product_of entries batch)) b
        parts None d s h = absurd (cc)
        parts (Some batch) None s h = absurd (cc)
        parts (Some batch) (Some day) None h = absurd (cc)
        parts (Some batch) (Some day) (Some signal) h =
            whole batch day signal known (same_Some _ known h) given of_class
