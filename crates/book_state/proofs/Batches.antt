-- What is told of a batch where there is one, and where there is none.
use Rattle.std.proofs.Common.{◌≡◌, ℕ, ◌<◌, Bool, true, false, ◌&&◌, cond, List, [], ◌∷◌, length, filter, Option, Some, None, is_some, option_map, refl, sym, ◌∙◌, ap, subst}
use Rattle.std.specs.List.{All}
use Rattle.std.proofs.lemmas.List.{length-map}
use Rattle.std.proofs.lemmas.List.Elements.{All-head, All-tail, All-weaker}
use Rattle.std.proofs.lemmas.Option.{slice_get_within}
use Rattle.batch_sums.specs.Totals.{Terms}
use Rattle.book_words.specs.declared.name.Name.{Name}
use Rattle.book_words.specs.declared.act.Entry.{Entry}
use Rattle.book_words.specs.declared.act.Reading.{Reading}
use Rattle.book_words.specs.Acts.{said, batch_opened, product_of, state_of}
use Rattle.book_words.specs.Order.{batch_number}
use Rattle.book_words.specs.Readings.{readings, is_of_batch}
use Rattle.book_words.specs.Population.{readings_of_batch, population, is_counted}
use Rattle.book_words.specs.Samples.{sample_of}
use Rattle.book_words.specs.Answers.{IsLegal}
use Rattle.book_packs.proofs.Lists.{filter-filter}
use Rattle.book_packs.specs.Stand.{Standing, IsPacksOf, terms_of_batch}
use Rattle.book_index.proofs.LegalNames.{legal_named}
use Rattle.book_words.proofs.PlaceLemmas.{place_of-name}
use Rattle.book_words.proofs.SaidNames.{product_where_opened}
use Rattle.book_laws.proofs.BatchLaws.{orderly, is_fixed, no_sample}
use Rattle.book_laws.proofs.UnsettledLaws.{Belongs, each_belongs}
use Rattle.book_laws.proofs.PopulationLaws.{batch_of}
use Rattle.book_words.proofs.PlainLemmas.{none_of}

-- a batch without a number isn't one
pub no_batch : (entries : List Entry) (batch : Name) → None ≡ batch_number entries batch
    → product_of entries batch ≡ None
no_batch entries batch none = none_of (product_of entries batch)
    (product_where_opened entries batch ∙ sym (ap is_some none))

-- one with a number is
pub is_batch : (entries : List Entry) (batch : Name) (number : ℕ)
    → Some number ≡ batch_number entries batch → is_some (product_of entries batch) ≡ true
is_batch entries batch number is = product_where_opened entries batch ∙ sym (ap is_some is)

-- and what is told of it is told where it is one
pub told_of_batch : {A B : Type 0} (o : Option A) (x : B) → is_some o ≡ true
    → Some x ≡ option_map (λ y. x) o
told_of_batch None x h = absurd (let clash : false ≡ true = h in cc)
told_of_batch (Some y) x h = refl

-- the number is one of those that are kept
pub number_within : (entries : List Entry) (standing : Standing) (batch : Name) (number : ℕ)
    → IsPacksOf entries standing → Some number ≡ batch_number entries batch
    → number < length standing.batches
number_within entries standing batch number stands is =
    let inside : number < length (said batch_opened entries) =
    slice_get_within (said batch_opened entries) number batch
    (place_of-name (said batch_opened entries) batch number (sym is)) in
    let count : length standing.batches ≡ length (said batch_opened entries) =
    ap (λ (some : List Terms). length some) stands.batches
    ∙ length-map (said batch_opened entries) (terms_of_batch entries) in
    subst (λ n. number < n) (sym count) inside

-- what isn't a batch has no state
pub stateless : (entries : List Entry) (batch : Name) → IsLegal entries
    → product_of entries batch ≡ None → state_of entries batch ≡ None
stateless entries batch legal none =
    none_of (state_of entries batch) ((legal_named entries legal).state batch ∙ ap is_some none)

-- and no sample
pub no_sample_of : (entries : List Entry) (batch : Name) → IsLegal entries
    → product_of entries batch ≡ None → sample_of entries batch ≡ None
no_sample_of entries batch legal none =
    no_sample entries batch (orderly entries legal)
    (ap is_fixed (stateless entries batch legal none))

none_filtered : (test : Reading → Bool) (some : List Reading)
    → All (λ (r : Reading). test r ≡ false) some → filter test some ≡ []
none_filtered test [] all = refl
none_filtered test (r ∷ rs) all =
    ap (λ b. cond b (r ∷ filter test rs) (filter test rs))
    (All-head (λ (x : Reading). test x ≡ false) r rs all)
    ∙ none_filtered test rs (All-tail (λ (x : Reading). test x ≡ false) r rs all)

-- and no readings
pub no_readings : (entries : List Entry) (batch : Name) → IsLegal entries
    → product_of entries batch ≡ None → readings_of_batch entries batch ≡ []
no_readings entries batch legal none =
    none_filtered (is_of_batch batch) (readings entries)
    (All-weaker (Belongs entries) (λ (r : Reading). is_of_batch batch r ≡ false)
    (λ r has. each r has (is_of_batch batch r) refl) (readings entries)
    (each_belongs entries legal))
  where
    each : (r : Reading) (has : Belongs entries r) (b : Bool) → is_of_batch batch r ≡ b → b ≡ false
    each r has false is = refl
    each r has true is =
        let there : is_some (state_of entries batch) ≡ true =
        subst (λ (n : Name). is_some (state_of entries n) ≡ true)
        (batch_of entries r batch has is) has.known in
        absurd (let clash : false ≡ true = sym (ap is_some (stateless entries batch legal none))
        ∙ there in cc)

-- so none in its population
pub no_population : (entries : List Entry) (batch : Name) → IsLegal entries
    → product_of entries batch ≡ None → population entries batch ≡ []
no_population entries batch legal none =
    sym (filter-filter is_counted (is_of_batch batch) (readings entries))
    ∙ ap (filter is_counted) (no_readings entries batch legal none)
