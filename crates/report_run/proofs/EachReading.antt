-- Each reading of a legal list has its pack in the register, under its number.
use Rattle.std.proofs.Common.{◌≡◌, ℕ, ◌<◌, ◌≤◌, length, arith, true, List, [], ◌∷◌, map, get_or, Option, Some, None, option_map, is_some, refl, ◌∙◌, ap}
use Rattle.std.proofs.lemmas.List.Elements.{All-head, All-tail}
use Rattle.std.proofs.lemmas.Option.{same_Some}
use Rattle.std.specs.List.{All, filter_map, cons_option}
use Rattle.std.specs.Option.{option_and_then}
use Rattle.pack_judge.specs.declared.types.Signal.{Signal}
use Rattle.book_words.specs.declared.name.Name.{Name}
use Rattle.book_words.specs.declared.act.Entry.{Entry}
use Rattle.book_words.specs.declared.act.Reading.{Reading}
use Rattle.book_words.specs.declared.views.PackView.{PackView}
use Rattle.book_words.specs.Acts.{product_of}
use Rattle.book_words.specs.Answers.{IsLegal}
use Rattle.book_words.specs.Readings.{readings}
use Rattle.book_words.specs.Samples.{numbers_of}
use Rattle.book_words.specs.Views.{pack_record, view_of_reading}
use Rattle.book_laws.proofs.ReadingLaws.{IsOneOf, each_is_one}
use Rattle.book_laws.proofs.TareLaws.{IsWhole, readings_whole}
use Rattle.book_state.proofs.ReadingRows.{seen}
use Rattle.report_run.specs.Reports.{HasEachReading}

-- the number of a pack, where there is one
abbrev number_told : Option PackView → Option ℕ
number_told pack = option_map (λ (p : PackView). p.pack) pack

-- a reading is told under its number
abbrev IsListed : List Entry → Reading → Type 0
IsListed entries reading = number_told (view_of_reading entries reading) ≡ Some reading.number

is_listed : (entries : List Entry) (reading : Reading) → IsLegal entries → IsWhole entries reading
    → IsOneOf entries reading → IsListed entries reading
is_listed entries reading legal whole one =
    let weighed = whole.weighed in
    let product = weighed.has.product in
    let by_day = λ (b : Name) (p : Name) (o : Option _). number_told (option_and_then
    (λ day. option_map (pack_record entries reading b p day) reading.signal) o) in
    ap (λ (b : Option Name). number_told (option_and_then
    (λ batch. option_and_then
    (λ product. option_and_then
    (λ day. option_map (pack_record entries reading batch product day) reading.signal)
    reading.day)
    (product_of entries batch)) b)) weighed.of_batch
    ∙ ap (λ (p : Option Name). number_told (option_and_then
    (λ product. option_and_then
    (λ day. option_map (pack_record entries reading weighed.batch product day) reading.signal)
    reading.day) p)) weighed.has.known
    ∙ ap (by_day weighed.batch product) weighed.on_day
    ∙ by_signal reading.signal
    (seen entries reading.number reading weighed.batch legal weighed.of_batch one).told
  where
    by_signal : (o : Option Signal) → is_some o ≡ true
        → number_told (option_map (pack_record entries reading whole.weighed.batch
        whole.weighed.has.product whole.weighed.day) o) ≡ Some reading.number
    by_signal None h = absurd (cc)
    by_signal (Some signal) h = refl

numbers_listed : (entries : List Entry) (some : List Reading) → All (IsListed entries) some
    → map (λ (p : PackView). p.pack) (filter_map (view_of_reading entries) some) ≡ numbers_of some
numbers_listed entries [] all = refl
numbers_listed entries (reading ∷ some) all =
    each (view_of_reading entries reading) (All-head (IsListed entries) reading some all)
    (numbers_listed entries some (All-tail (IsListed entries) reading some all))
  where
    each : (o : Option PackView) → number_told o ≡ Some reading.number
        → map (λ (p : PackView). p.pack) (filter_map (view_of_reading entries) some)
        ≡ numbers_of some
        → map (λ (p : PackView). p.pack)
        (cons_option o (filter_map (view_of_reading entries) some))
        ≡ reading.number ∷ numbers_of some
    each None h rest = absurd (cc)
    each (Some pack) h rest =
        ap (λ n. n ∷ map (λ (p : PackView). p.pack) (filter_map (view_of_reading entries) some))
        (same_Some pack.pack reading.number h)
        ∙ ap (λ (l : List ℕ). reading.number ∷ l) rest

numbers_weighed : (entries : List Entry) → IsLegal entries → HasEachReading entries
numbers_weighed entries legal =
    numbers_listed entries (readings entries)
    (λ k d inside. is_listed entries (get_or (readings entries) k d) legal
    (readings_whole entries legal k d inside) (each_is_one entries k d inside))

-- each reading has its record where the list is legal, which is known once a row was asked for
pub each_weighed : (entries : List Entry) (before : ℕ) → length entries ≤ before
    → (0 < before → IsLegal entries) → HasEachReading entries
each_weighed [] before all legal = refl
each_weighed (entry ∷ entries) before all legal =
    numbers_weighed (entry ∷ entries) (legal (omega (arith, all)))
