-- The first closed batch that a tare would change, by its number.
use Rattle.std.proofs.Common.{◌≡◌, ℕ, ℤ, Bool, true, false, not, ◌&&◌, cond, List, [], ◌∷◌, ◌++◌, ◌||◌, ◌+◌, find, slice_get, Option, Some, None, option_map, is_some, refl, sym, ◌∙◌, ap, subst, arith, append-nil}
use Rattle.std.specs.List.{All, cons_option, list_any}
use Rattle.std.specs.Option.{option_and_then}
use Rattle.std.proofs.lemmas.Int.{ints}
use Rattle.std.proofs.lemmas.List.Elements.{All-head, All-tail, All-filter, All-weaker}
use Rattle.pack_judge.specs.declared.tares.DatedTare.{DatedTare}
use Rattle.pack_judge.specs.Tares.{tare_by_rule}
use Rattle.book_words.specs.declared.name.Name.{Name}
use Rattle.book_words.specs.declared.act.Act.{Act}
use Rattle.book_words.specs.declared.act.Act.TheVariants.{PutTare}
use Rattle.book_words.specs.declared.act.Entry.{Entry}
use Rattle.book_words.specs.declared.act.Reading.{Reading}
use Rattle.book_words.specs.Names.{same_name}
use Rattle.book_words.specs.Acts.{said, batch_opened, nominal_of, product_given, product_of, state_of}
use Rattle.book_words.specs.Order.{place_of, product_number, batch_number}
use Rattle.book_words.specs.Tares.{tares_put, tare_of_product}
use Rattle.book_words.specs.Readings.{readings, is_of_batch, tare_of_reading}
use Rattle.book_words.specs.Population.{readings_of_batch}
use Rattle.book_words.specs.Signals.{with_act}
use Rattle.book_words.specs.Desks.{same_number}
use Rattle.book_words.specs.Refusals.{same_tare, changes_tare, is_closed, is_frozen}
use Rattle.book_words.specs.Answers.{IsLegal}
use Rattle.book_words.proofs.LastSaid.{last_said-push}
use Rattle.book_words.proofs.NameLemmas.{same_name_itself}
use Rattle.book_index.proofs.LegalNames.{legal_named}
use Rattle.book_words.proofs.PlaceLemmas.{place_of-name}
use Rattle.book_words.proofs.SaidNames.{nominal_where_put}
use Rattle.book_laws.proofs.KnownLaws.{apart}
use Rattle.book_laws.proofs.FrozenLaws.{put_push, and_then_agree}
use Rattle.book_laws.proofs.UnsettledLaws.{Belongs, each_belongs}
use Rattle.book_state.specs.Known.{frozen_batch}

-- a name that is found among some has a place among them
found_has_place : (test : Name → Bool) (names : List Name) (name : Name)
    → find test names ≡ Some name → is_some (place_of names name) ≡ true
found_has_place test [] name h = absurd (let clash : None ≡ Some name = h in cc)
found_has_place test (first ∷ names) name h =
    either (found_has_place test names name) (test first) refl (same_name first name) refl
  where
    some_is : (a b : Name) → Some a ≡ Some b → a ≡ b
    some_is a b k = cc

    rest : (o : Option ℕ) → is_some o ≡ true → is_some (option_map (λ place. place + 1) o) ≡ true
    rest None k = k
    rest (Some place) k = refl

    either : (find test names ≡ Some name → is_some (place_of names name) ≡ true) → (t : Bool)
        → test first ≡ t → (s : Bool) → same_name first name ≡ s
        → is_some (place_of (first ∷ names) name) ≡ true
    either later t passes true same =
        ap (λ b. is_some (cond b (Some 0) (option_map (λ place. place + 1) (place_of names name))))
        same
    either later true passes false same =
        let is : first ≡ name = some_is first name
        (sym (ap (λ b. cond b (Some first) (find test names)) passes) ∙ h) in
        absurd (let clash : true ≡ false = sym (same_name_itself name)
        ∙ subst (λ (n : Name). same_name n name ≡ false) is same in cc)
    either later false passes false same =
        ap (λ b. is_some (cond b (Some 0) (option_map (λ place. place + 1) (place_of names name)))) same
        ∙ rest (place_of names name) (later
        (sym (ap (λ b. cond b (Some first) (find test names)) passes) ∙ h))

-- the batch of the number that is told is the one that is found
pub found_by_number : (entries : List Entry) (test : Name → Bool) (number : ℕ)
    → Some number ≡ option_and_then (batch_number entries) (find test (said batch_opened entries))
    → slice_get (said batch_opened entries) number ≡ find test (said batch_opened entries)
found_by_number entries test number is = either (find test (said batch_opened entries)) refl
  where
    either : (o : Option Name) → find test (said batch_opened entries) ≡ o
        → slice_get (said batch_opened entries) number ≡ o
    either None none = absurd (let clash : Some number ≡ None = is
        ∙ ap (option_and_then (batch_number entries)) none in cc)
    either (Some batch) some = place_of-name (said batch_opened entries) batch number
        (sym (is ∙ ap (option_and_then (batch_number entries)) some))

-- and none is found where no number is told
pub none_by_number : (entries : List Entry) (test : Name → Bool)
    → None ≡ option_and_then (batch_number entries) (find test (said batch_opened entries))
    → find test (said batch_opened entries) ≡ None
none_by_number entries test is = either (find test (said batch_opened entries)) refl
  where
    either : (o : Option Name) → find test (said batch_opened entries) ≡ o → o ≡ None
    either None none = refl
    either (Some batch) some =
        absurd (let clash : true ≡ false =
        sym (found_has_place test (said batch_opened entries) batch some)
        ∙ sym (ap is_some (is ∙ ap (option_and_then (batch_number entries)) some)) in cc)

-- ---- a tare of what isn't a product changes nothing

same_as_itself : (o : Option ℤ) → same_tare o o ≡ true
same_as_itself None = refl
same_as_itself (Some x) = same x
  where
    same : (x : ℤ) → same_number x x ≡ true
    same x = grind (arith, ints)

none_any : (test : Reading → Bool) (some : List Reading)
    → All (λ (r : Reading). test r ≡ false) some → list_any test some ≡ false
none_any test [] all = refl
none_any test (r ∷ rs) all =
    ap (λ b. b || list_any test rs) (All-head (λ (x : Reading). test x ≡ false) r rs all)
    ∙ none_any test rs (All-tail (λ (x : Reading). test x ≡ false) r rs all)

none_found : (test : Name → Bool) → ((name : Name) → test name ≡ false) → (names : List Name)
    → find test names ≡ None
none_found test none [] = refl
none_found test none (name ∷ names) = ap (λ b. cond b (Some name) (find test names)) (none name)
    ∙ none_found test none names

still : (entries : List Entry) (product : Name) (day tare : ℤ) → IsLegal entries
    → is_some (nominal_of entries product) ≡ false → (r : Reading) → Belongs entries r
    → changes_tare entries (PutTare product day tare) r ≡ false
still entries product day tare legal unknown r has =
    ap (λ (batch : Option Name). not
    (same_tare (tare_of_reading entries batch r.day)
    (tare_of_reading (with_act entries (PutTare product day tare)) batch r.day))) has.is
    ∙ ap (λ (t : Option ℤ). not (same_tare (tare_of_reading entries (Some has.batch) r.day) t))
    (each (product_of entries has.batch) refl)
    ∙ ap not (same_as_itself (tare_of_reading entries (Some has.batch) r.day))
  where
    longer : List Entry
    longer = with_act entries (PutTare product day tare)

    or_before : product_of longer has.batch ≡ product_of entries has.batch
    or_before = last_said-push (product_given has.batch) entries
        (record { by = 0; desk = 0; request = 0; act = PutTare product day tare; signal = None })

    each : (o : Option Name) → product_of entries has.batch ≡ o
        → tare_of_reading longer (Some has.batch) r.day
        ≡ tare_of_reading entries (Some has.batch) r.day
    each None is =
        absurd (let clash : false ≡ true = sym (ap is_some is)
        ∙ sym ((legal_named entries legal).state has.batch) ∙ has.known in cc)
    each (Some own) is =
        let known : is_some (nominal_of entries own) ≡ true =
        (legal_named entries legal).product has.batch own is in
        let other : same_name product own ≡ false =
        apart (λ (n : Name). is_some (nominal_of entries n)) product own unknown known in
        let put : tares_put longer own ≡ tares_put entries own =
        put_push entries
        (record {
          by = 0;
          desk = 0;
          request = 0;
          act = PutTare product day tare;
          signal =
              None;
        }) own
        ∙ ap (λ b. tares_put entries own
        ++ cons_option (cond b (Some (record { day = day; tare = tare })) None) []) other
        ∙ append-nil (tares_put entries own) in
        ap (λ (o : Option Name). option_and_then
        (λ d. option_and_then (λ (p : Name). tare_of_product longer p d) o) r.day)
        (or_before ∙ is)
        ∙ and_then_agree (λ d. tare_of_product longer own d) (λ d. tare_of_product entries own d)
        (λ d. ap (λ (some : List DatedTare). tare_by_rule some d) put) r.day
        ∙ sym (ap (λ (o : Option Name). option_and_then
        (λ d. option_and_then (λ (p : Name). tare_of_product entries p d) o) r.day) is)

-- so no batch is frozen by it
pub nothing_frozen : (entries : List Entry) (product : Name) (day tare : ℤ) → IsLegal entries
    → None ≡ product_number entries product → frozen_batch entries (PutTare product day tare) ≡ None
nothing_frozen entries product day tare legal none =
    let unknown : is_some (nominal_of entries product) ≡ false = nominal_where_put entries product
    ∙ sym (ap is_some none) in
    let act : Act = PutTare product day tare in
    let all : All (λ (r : Reading). changes_tare entries act r ≡ false) (readings entries) =
    All-weaker (Belongs entries) (λ (r : Reading). changes_tare entries act r ≡ false)
    (still entries product day tare legal unknown) (readings entries)
    (each_belongs entries legal) in
    none_found (is_frozen entries act)
    (λ name. free (is_closed (state_of entries name)) _
    (none_any (changes_tare entries act) (readings_of_batch entries name)
    (All-filter (is_of_batch name) (λ (r : Reading). changes_tare entries act r ≡ false)
    (readings entries) all)))
    (said batch_opened entries)
  where
    free : (a b : Bool) → b ≡ false → (a && b) ≡ false
    free true b h = h
    free false b h = refl
