-- The tare of each reading of a closed batch stays.
use Rattle.std.proofs.Common.{◌≡◌, ℤ, Bool, true, false, not, ◌&&◌, cond, List, [], ◌∷◌, ◌++◌, get_or, filter, inl, inr, ◌⊎◌, Option, Some, None, is_some, refl, sym, ◌∙◌, ap, arith, append-nil}
use Rattle.std.proofs.lemmas.Bool.{cases_Bool, or_parts}
use Rattle.std.proofs.lemmas.Int.{ints}
use Rattle.std.proofs.lemmas.List.Elements.{All-nil, All-cons, All-head, All-tail, filter_map-append}
use Rattle.std.specs.List.{All, cons_option, find, last_or, list_any}
use Rattle.std.specs.Option.{option_or, option_and_then}
use Rattle.pack_judge.specs.declared.tares.DatedTare.{DatedTare}
use Rattle.pack_judge.specs.Tares.{tare_by_rule}
use Rattle.book_words.specs.declared.name.Name.{Name}
use Rattle.book_words.specs.declared.act.BatchState.TheVariants.{Closed}
use Rattle.book_words.specs.declared.act.Act.{Act}
use Rattle.book_words.specs.declared.act.Act.TheVariants.{PutTare, OpenBatch}
use Rattle.book_words.specs.declared.act.Entry.{Entry}
use Rattle.book_words.specs.declared.act.Reading.{Reading}
use Rattle.book_words.specs.Names.{same_name}
use Rattle.book_words.specs.Acts.{said, batch_opened, product_given, product_of, state_of}
use Rattle.book_words.specs.Tares.{tare_put, tares_put, tare_of_product}
use Rattle.book_words.specs.Readings.{readings, is_of_batch, tare_of_reading}
use Rattle.book_words.specs.Population.{readings_of_batch}
use Rattle.book_words.specs.Signals.{with_act}
use Rattle.book_words.specs.Desks.{same_number}
use Rattle.book_words.specs.Refusals as rules
use Rattle.book_words.specs.Refusals.{same_tare, changes_tare, is_closed, is_frozen}
use Rattle.book_words.proofs.LastSaid.{last_said-push}
use Rattle.book_words.proofs.NameLemmas.{same_name_is}
use Rattle.book_laws.proofs.KnownLaws.{product_of_stays}
use Rattle.book_words.proofs.AllowedActs.{IsAllowed, put_tare_tells}
use Rattle.book_laws.proofs.PackLaws.{batch_is}

-- ---- what no batch is, a batch that is there isn't

opened_none : (test : Name → Bool) (batch : Name) → test batch ≡ true → (entries : List Entry)
    → find test (said batch_opened entries) ≡ None → said (product_given batch) entries ≡ []
opened_none test batch holds [] none = refl
opened_none test batch holds (entry ∷ entries) none =
    step entry.act (opened_none test batch holds entries) none
  where
    step : (act : Act) → (find test (said batch_opened entries) ≡ None
        → said (product_given batch) entries ≡ [])
        → find test (cons_option (batch_opened act) (said batch_opened entries)) ≡ None
        → cons_option (product_given batch act) (said (product_given batch) entries) ≡ []
    step (OpenBatch name product density) rest free = first (test name) refl free
      where
        first : (b : Bool) → test name ≡ b
            → cond b (Some name) (find test (said batch_opened entries)) ≡ None
            → cons_option (cond (same_name name batch) (Some product) None)
            (said (product_given batch) entries) ≡ []
        first true is found = absurd (cc)
        first false is found = second (cases_Bool (same_name name batch))
          where
            second : (same_name name batch ≡ true) ⊎ (same_name name batch ≡ false)
                → cons_option (cond (same_name name batch) (Some product) None)
                (said (product_given batch) entries) ≡ []
            second (inl t) = absurd (let wrong : true ≡ false = sym holds
                ∙ sym (ap test (same_name_is name batch t)) ∙ is in cc)
            second (inr f) =
                ap (λ b. cons_option (cond b (Some product) None)
                (said (product_given batch) entries)) f ∙ rest found
    step act rest free = rest free

-- what holds of no batch that was opened doesn't hold of a batch that is there
pub none_opened : (test : Name → Bool) (entries : List Entry) (batch : Name)
    → find test (said batch_opened entries) ≡ None → is_some (product_of entries batch) ≡ true
    → test batch ≡ false
none_opened test entries batch free known = each (cases_Bool (test batch))
  where
    each : (test batch ≡ true) ⊎ (test batch ≡ false) → test batch ≡ false
    each (inl t) = absurd (let wrong : true ≡ false = sym known
        ∙ ap (λ (names : List Name). is_some (last_or None names))
        (opened_none test batch t entries free) in cc)
    each (inr f) = f

-- ---- tares of a reading over two lists

pub and_then_agree : {A B : Type 0} (f g : A → Option B) → ((x : A) → f x ≡ g x) → (o : Option A)
    → option_and_then f o ≡ option_and_then g o
and_then_agree f g same None = refl
and_then_agree f g same (Some x) = same x

-- the tares of readings of a batch are told by its product and by the tares that are put
pub same_tares : (entries others : List Entry) (batch : Name)
    → product_of entries batch ≡ product_of others batch
    → ((product : Name) → tares_put entries product ≡ tares_put others product)
    → (day : Option ℤ) → tare_of_reading entries (Some batch) day
    ≡ tare_of_reading others (Some batch) day
same_tares entries others batch same tares day =
    and_then_agree (λ (d : ℤ). option_and_then (λ (p : Name). tare_of_product entries p d)
    (product_of entries batch)) (λ (d : ℤ). option_and_then
    (λ (p : Name). tare_of_product others p d) (product_of others batch))
    (λ d. ap (option_and_then (λ (p : Name). tare_of_product entries p d)) same
    ∙ and_then_agree (λ (p : Name). tare_of_product entries p d)
    (λ (p : Name). tare_of_product others p d)
    (λ p. ap (λ (ts : List DatedTare). tare_by_rule ts d) (tares p)) (product_of others batch))
    day

pub put_push : (entries : List Entry) (entry : Entry) (product : Name)
    → tares_put (entries ++ entry ∷ []) product ≡ tares_put entries product
    ++ cons_option (tare_put product entry.act) []
put_push entries entry product =
    filter_map-append (λ (e : Entry). tare_put product e.act) entries (entry ∷ [])

-- entries with one act give the same tares
alike : (entries : List Entry) (one other : Entry) (batch : Name) (day : Option ℤ) → one.act ≡ other.act
    → tare_of_reading (entries ++ one ∷ []) (Some batch) day
    ≡ tare_of_reading (entries ++ other ∷ []) (Some batch) day
alike entries one other batch day same =
    same_tares (entries ++ one ∷ []) (entries ++ other ∷ []) batch
    (last_said-push (product_given batch) entries one
    ∙ ap (λ (a : Act). option_or (product_given batch a) (product_of entries batch)) same
    ∙ sym (last_said-push (product_given batch) entries other))
    (λ product. put_push entries one product
    ∙ ap (λ (a : Act). tares_put entries product ++ cons_option (tare_put product a) []) same
    ∙ sym (put_push entries other product))
    day

-- an act that puts no tare changes none
no_tare_put : (entries : List Entry) (entry : Entry) (batch : Name) (day : Option ℤ)
    → IsAllowed entries entry.act → is_some (product_of entries batch) ≡ true
    → ((product : Name) → tare_put product entry.act ≡ None)
    → tare_of_reading (entries ++ entry ∷ []) (Some batch) day ≡ tare_of_reading entries (Some batch) day
no_tare_put entries entry batch day h known none =
    same_tares (entries ++ entry ∷ []) entries batch (product_of_stays entries entry batch h known)
    (λ product. put_push entries entry product
    ∙ ap (λ o. tares_put entries product ++ cons_option o []) (none product)
    ∙ append-nil (tares_put entries product))
    day

-- ---- the rule

not_changed : (a b : Option ℤ) → not (same_tare a b) ≡ false → a ≡ b
not_changed None None h = refl
not_changed None (Some y) h = absurd (cc)
not_changed (Some x) None h = absurd (cc)
not_changed (Some x) (Some y) h = ap Some (same x y (same_number x y) refl h)
  where
    same : (x y : ℤ) (b : Bool) → same_number x y ≡ b → not b ≡ false → x ≡ y
    same x y false is k = absurd (cc)
    same x y true is k = grind (arith, ints)

none_of_any : (test : Reading → Bool) (some : List Reading) → list_any test some ≡ false
    → All (λ reading. test reading ≡ false) some
none_of_any test [] h = All-nil (λ (r : Reading). test r ≡ false)
none_of_any test (reading ∷ some) h =
    let parts = or_parts (test reading) (list_any test some) h in
    All-cons (λ (r : Reading). test r ≡ false) reading some parts.0 (none_of_any test some parts.1)

of_filter : (test : Reading → Bool) (P : Reading → Type 0) (some : List Reading)
    → All P (filter test some) → All (λ reading. test reading ≡ true → P reading) some
of_filter test P [] all = All-nil (λ (r : Reading). test r ≡ true → P r)
of_filter test P (reading ∷ some) all = step (test reading) refl all (of_filter test P some)
  where
    step : (b : Bool) → test reading ≡ b
        → All P (cond b (reading ∷ filter test some) (filter test some))
        → (All P (filter test some) → All (λ reading. test reading ≡ true → P reading) some)
        → All (λ reading. test reading ≡ true → P reading) (reading ∷ some)
    step true is all rest = All-cons (λ (r : Reading). test r ≡ true → P r) reading some
        (λ t. All-head P reading (filter test some) all)
        (rest (All-tail P reading (filter test some) all))
    step false is all rest = All-cons (λ (r : Reading). test r ≡ true → P r) reading some
        (λ t. absurd (let wrong : true ≡ false = sym t ∙ is in cc)) (rest all)

-- the tare of a reading of a batch stays
abbrev pub TareStays : List Entry → Entry → Name → Reading → Type 0
TareStays entries entry batch reading =
    is_of_batch batch reading ≡ true
    → tare_of_reading (entries ++ entry ∷ []) reading.batch reading.day
    ≡ tare_of_reading entries reading.batch reading.day

frozen : (entries : List Entry) (product : Name) (day tare : ℤ) (batch : Name)
    → IsAllowed entries (PutTare product day tare) → is_some (product_of entries batch) ≡ true
    → state_of entries batch ≡ Some Closed
    → list_any (changes_tare entries (PutTare product day tare)) (readings_of_batch entries batch)
    ≡ false
frozen entries product day tare batch h known closed =
    let act = PutTare product day tare in
    let free = (put_tare_tells entries product day tare h).thawed in
    let other : is_frozen entries act batch ≡ false =
    none_opened (is_frozen entries act) entries batch free known in
    sym (ap (λ b. b && list_any (changes_tare entries act) (readings_of_batch entries batch))
    (ap is_closed closed)) ∙ other

tares_stay : (entries : List Entry) (entry : Entry) (act : Act) (batch : Name) → entry.act ≡ act
    → IsAllowed entries entry.act → is_some (product_of entries batch) ≡ true
    → state_of entries batch ≡ Some Closed
    → All (TareStays entries entry batch) (readings entries)
tares_stay entries entry (PutTare product day tare) batch is h known closed =
    let act = PutTare product day tare in
    let allowed : IsAllowed entries act =
    sym (ap (λ (a : Act). rules.first_refusal (rules.refusals_of entries a)) is) ∙ h in
    let none = none_of_any (changes_tare entries act) (readings_of_batch entries batch)
    (frozen entries product day tare batch allowed known closed) in
    let all = of_filter (is_of_batch batch) (λ (r : Reading). changes_tare entries act r ≡ false)
    (readings entries) none in
    (λ k d less of_batch. one (get_or (readings entries) k d) of_batch (all k d less of_batch))
  where
    one : (reading : Reading) → is_of_batch batch reading ≡ true
        → changes_tare entries (PutTare product day tare) reading ≡ false
        → tare_of_reading (entries ++ entry ∷ []) reading.batch reading.day
        ≡ tare_of_reading entries reading.batch reading.day
    one reading of_batch same =
        let name = batch_is batch reading.batch of_batch in
        ap (λ (o : Option Name). tare_of_reading (entries ++ entry ∷ []) o reading.day) name
        ∙ alike entries entry
        (record {
          by = 0;
          desk = 0;
          request = 0;
          act = PutTare product day tare;
          signal =
              None;
        }) batch reading.day is
        ∙ sym (ap (λ (o : Option Name). tare_of_reading
        (with_act entries (PutTare product day tare)) o reading.day) name)
        ∙ sym (not_changed (tare_of_reading entries reading.batch reading.day)
        (tare_of_reading (with_act entries (PutTare product day tare)) reading.batch
        reading.day) same)
tares_stay entries entry act batch is h known closed =
    (λ k d less of_batch. one (get_or (readings entries) k d) of_batch)
  where
    one : (reading : Reading) → is_of_batch batch reading ≡ true
        → tare_of_reading (entries ++ entry ∷ []) reading.batch reading.day
        ≡ tare_of_reading entries reading.batch reading.day
    one reading of_batch =
        let name = batch_is batch reading.batch of_batch in
        ap (λ (o : Option Name). tare_of_reading (entries ++ entry ∷ []) o reading.day) name
        ∙ no_tare_put entries entry batch reading.day h known (λ product. ap (tare_put product) is)
        ∙ sym (ap (λ (o : Option Name). tare_of_reading entries o reading.day) name)

-- the tares of the readings of a closed batch stay
pub closed_tares_stay : (entries : List Entry) (entry : Entry) (batch : Name)
    → IsAllowed entries entry.act → is_some (product_of entries batch) ≡ true
    → state_of entries batch ≡ Some Closed
    → All (TareStays entries entry batch) (readings entries)
closed_tares_stay entries entry batch h known closed =
    tares_stay entries entry entry.act batch refl h known closed
