-- Over a legal list each pack of a batch is told under its number.
use Rattle.std.proofs.Common.{◌≡◌, ℕ, List, [], ◌∷◌, ◌++◌, map, length, ◌+◌, true, nat_lt, Option, Some, None, is_some, option_map, refl, sym, ◌∙◌, ap, subst}
use Rattle.std.proofs.lemmas.List.Elements.{All-nil, All-cons, All-append, All-map, All-filter}
use Rattle.std.specs.List.{All, cons_option}
use Rattle.std.specs.Option.{option_and_then}
use Rattle.pack_judge.specs.declared.types.Signal.{Signal}
use Rattle.book_words.specs.declared.name.Name.{Name}
use Rattle.book_words.specs.declared.act.Act.{Act}
use Rattle.book_words.specs.declared.act.Act.TheVariants.{Weigh}
use Rattle.book_words.specs.declared.act.Entry.{Entry}
use Rattle.book_words.specs.declared.act.Reading.{Reading}
use Rattle.book_words.specs.declared.views.PackView.{PackView}
use Rattle.book_words.specs.Acts.{product_of, last_batch}
use Rattle.book_words.specs.Answers.{IsLawful, IsLegal}
use Rattle.book_words.specs.Population.{readings_of_batch}
use Rattle.book_words.specs.Readings.{weighed_reading, readings, is_of_batch}
use Rattle.book_words.specs.Signals.{judged_signal, recorded_signal}
use Rattle.book_words.specs.Views.{pack_record, view_of_reading, pack_view}
use Rattle.book_words.proofs.LegalLemmas.{legal_steps}
use Rattle.book_words.proofs.OneMoreEntry.{advance, own_reading, readings-push}
use Rattle.book_laws.proofs.ReadingLaws.{IsOneOf, each_is_one}
use Rattle.book_laws.proofs.TareLaws.{IsWhole, readings_whole}
use Rattle.page_laws.specs.PackPages.{numbers_above}

-- ---- each reading has a signal

-- a reading has a signal where it has a batch
abbrev IsSignalled : Reading → Type 0
IsSignalled reading = is_some reading.signal ≡ is_some reading.batch

mapped_some : {A B : Type 0} (f : A → B) (o : Option A) → is_some (option_map f o) ≡ is_some o
mapped_some f None = refl
mapped_some f (Some x) = refl

own_signalled : (number : ℕ) (entries : List Entry) (act : Act) (signal : Option Signal)
    → signal ≡ recorded_signal entries act
    → All IsSignalled (cons_option (weighed_reading number entries act signal []) [])
own_signalled number entries (Weigh lane gross prior) signal is =
    All-cons IsSignalled _ []
    (ap is_some is
    ∙ mapped_some (judged_signal entries (Weigh lane gross prior) gross) (last_batch entries lane))
    (All-nil IsSignalled)
own_signalled number entries act signal is = All-nil IsSignalled

signalled-push : (before : List Entry) (entry : Entry) → IsLegal before → IsLawful before entry
    → All IsSignalled (readings before) → All IsSignalled (readings (before ++ entry ∷ []))
signalled-push before entry legal lawful have =
    subst (All IsSignalled) (sym (readings-push before entry))
    (All-append IsSignalled (map (advance entry.act) (readings before))
    (cons_option (own_reading before entry) [])
    (All-map IsSignalled (advance entry.act) (readings before) have)
    (own_signalled (length before + 1) before entry.act entry.signal lawful.signal))

signalled : (entries : List Entry) → IsLegal entries → All IsSignalled (readings entries)
signalled =
    legal_steps (λ entries. All IsSignalled (readings entries)) (All-nil IsSignalled) signalled-push

-- ---- each is told under its number

-- the number of a pack, where there is one
abbrev pub number_told : Option PackView → Option ℕ
number_told pack = option_map (λ (p : PackView). p.pack) pack

-- a pack is told under a number, and it has that number
abbrev pub IsTold : List Entry → ℕ → Type 0
IsTold entries number = number_told (pack_view entries number) ≡ Some number

told_under : (entries : List Entry) (reading : Reading) → IsWhole entries reading
    → IsOneOf entries reading → IsSignalled reading → IsTold entries reading.number
told_under entries reading whole one signalled =
    let weighed = whole.weighed in
    let product = weighed.has.product in
    let by_day = λ (b : Name) (p : Name) (o : Option _). number_told (option_and_then
    (λ day. option_map (pack_record entries reading b p day) reading.signal) o) in
    ap (λ (o : Option Reading). number_told (option_and_then (view_of_reading entries) o)) one
    ∙ ap (λ (b : Option Name). number_told (option_and_then
    (λ batch. option_and_then
    (λ product. option_and_then
    (λ day. option_map (pack_record entries reading batch product day) reading.signal)
    reading.day)
    (product_of entries batch)) b)) weighed.of_batch
    ∙ ap (λ (p : Option Name). number_told (option_and_then
    (λ product. option_and_then
    (λ day. option_map (pack_record entries reading weighed.batch product day) reading.signal)
    reading.day) p)) weighed.has.known
    ∙ ap (by_day weighed.batch product) weighed.on_day
    ∙ by_signal reading.signal (signalled ∙ ap is_some weighed.of_batch)
  where
    by_signal : (o : Option Signal) → is_some o ≡ true
        → number_told (option_map (pack_record entries reading whole.weighed.batch
        whole.weighed.has.product whole.weighed.day) o) ≡ Some reading.number
    by_signal None h = absurd (cc)
    by_signal (Some signal) h = refl

-- so is each pack of a batch above a number
pub each_told : (entries : List Entry) (batch : Name) (after : ℕ) → IsLegal entries
    → All (IsTold entries) (numbers_above entries batch after)
each_told entries batch after legal =
    let number = λ (reading : Reading). reading.number in
    All-filter (λ n. nat_lt after n) (IsTold entries)
    (map number (readings_of_batch entries batch))
    (All-map (IsTold entries) number (readings_of_batch entries batch)
    (All-filter (is_of_batch batch) (λ (reading : Reading). IsTold entries reading.number)
    (readings entries)
    (λ k d inside. told_under entries _ (readings_whole entries legal k d inside)
    (each_is_one entries k d inside) (signalled entries legal k d inside))))
