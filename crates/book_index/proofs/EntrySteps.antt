-- With one more entry an index that was changed as the act says stands for the longer list.
use Rattle.std.proofs.Common.{◌≡◌, ℕ, pos, zero, suc, ◌+◌, ◌-◌, Bool, true, false, ◌==◌, List, [], ◌∷◌, ◌++◌, length, map, Option, Some, None, is_some, option_map, refl, sym, ◌∙◌, ap, append-nil, if◌then◌else◌}
use Rattle.std.proofs.lemmas.List.Elements.{filter_map-append}
use Rattle.std.specs.List.{filter, cons_option, last_or, range_with_len}
use Rattle.std.specs.Option.{option_or, option_and_then, option_flatten, unwrap_or}
use Rattle.hall_limits.specs.declared.TheConstants.{MAX_LANE, MIN_DESK, MAX_DESK}
use Rattle.book_words.specs.declared.name.Name.{Name}
use Rattle.book_words.specs.declared.act.Unit as units
use Rattle.book_words.specs.declared.act.BatchState.{BatchState}
use Rattle.book_words.specs.declared.act.BatchState.TheVariants.{Running, Ended, Drawn, Closed}
use Rattle.book_words.specs.declared.act.Act.{Act}
use Rattle.book_words.specs.declared.act.Act.TheVariants.{NewDay, PutProduct, PutTare, OpenBatch, StartLane, Weigh, StopLane, Void, EndRun, Draw, Measure, DrawSecond, Close}
use Rattle.book_words.specs.declared.act.Entry.{Entry}
use Rattle.book_words.specs.Names.{same_name}
use Rattle.book_words.specs.Acts.{said, last_said, day_set, nominal_put, unit_put, batch_opened, product_given, density_given, state_set, lane_used, newest_day, nominal_of, unit_of, product_of, density_of, state_of, lane_batch}
use Rattle.book_words.specs.Order.{place_of, product_named, product_number, batch_number}
use Rattle.book_words.specs.Desks.{Row, rows_of, newest_row}
use Rattle.book_words.proofs.NameLemmas.{same_name_itself}
use Rattle.book_words.proofs.LastSaid.{last_said-push}
use Rattle.book_words.proofs.RowLemmas.{rows_push, last_of_some}
use Rattle.book_index.specs.declared.types.ProductTerms.{ProductTerms}
use Rattle.book_index.specs.declared.types.BatchTerms.{BatchTerms}
use Rattle.book_index.specs.Known.{Known, names_of}
use Rattle.book_index.specs.Changes.{with_named, restated, with_state, with_numbered, with_row, after_act}
use Rattle.book_index.specs.Listed.{IsIndexOf, terms_of_product, terms_of_batch, batch_product_number, products_listed, batches_listed, lane_batch_number, newest_row_number}
use Rattle.book_index.proofs.SameNames.{same_name_swap}
use Rattle.book_words.proofs.PlainLemmas.{in_both}
use Rattle.book_index.proofs.Places.{kept_with, names_kept}
use Rattle.book_words.proofs.SaidNames.{nominal_where_put, product_where_opened}
use Rattle.book_index.proofs.LookUps.{products_named, batches_named}
use Rattle.book_index.proofs.LegalNames.{IsActNamed, AreNamed}
use Rattle.book_words.proofs.PlaceLemmas.{place_among_more, place_is_some}
use Rattle.std.proofs.lemmas.Bool.{or_parts}

-- ---- lists of names

map_same : {A B : Type 0} (f g : A → B) → ((x : A) → f x ≡ g x) → (xs : List A) → map f xs ≡ map g xs
map_same f g h xs i = map (λ x. h x i) xs

pub map_twice : {A B C : Type 0} (f : A → B) (g : B → C) (h : A → C) → ((x : A) → g (f x) ≡ h x)
    → (xs : List A) → map g (map f xs) ≡ map h xs
map_twice f g h each [] = refl
map_twice f g h each (x ∷ xs) = λ i. each x i ∷ map_twice f g h each xs i

map_push : {A B : Type 0} (f : A → B) (xs : List A) (x : A) → map f (xs ++ x ∷ []) ≡ map f xs ++ f x ∷ []
map_push f [] x = refl
map_push f (y ∷ ys) x = ap (λ rest. f y ∷ rest) (map_push f ys x)

-- what holds of the other names holds of names among which a new one isn't
map_others : {B : Type 0} (f g : Name → B) (name : Name)
    → ((other : Name) → same_name name other ≡ false → f other ≡ g other) → (names : List Name)
    → is_some (place_of names name) ≡ false → map f names ≡ map g names
map_others f g name each [] new = refl
map_others f g name each (first ∷ names) new =
    let parts = or_parts (same_name first name) (is_some (place_of names name))
    (sym (place_is_some first names name) ∙ new) in
    λ i. each first (same_name_swap name first ∙ parts.0) i ∷ map_others f g name each names parts.1 i

-- a thing put behind others that have other names
named_push : {A : Type 0} (f g : Name → A) (names : List Name) (name : Name)
    (things : List (Name × A)) → things ≡ kept_with f names → is_some (place_of names name) ≡ false
    → ((other : Name) → same_name name other ≡ false → f other ≡ g other)
    → with_named name (g name) things ≡ kept_with g (names ++ name ∷ [])
named_push {A} f g names name things is new each =
    ap (λ (xs : List (Name × A)). with_named name (g name) xs) is
    ∙ ap (λ (b : Bool). if b then kept_with f names else kept_with f names ++ (name, g name) ∷ [])
    (ap (λ ns. is_some (place_of ns name)) (names_kept f names) ∙ new)
    ∙ ap (λ (xs : List (Name × A)). xs ++ (name, g name) ∷ [])
    (map_others (λ n. (n, f n)) (λ n. (n, g n)) name
    (λ other h. ap (λ (x : A). (other, x)) (each other h)) names new)
    ∙ sym (map_push (λ n. (n, g n)) names name)

-- ---- the products

-- the terms of a product once an act came
abbrev product_then : List Entry → Act → Name → ProductTerms
product_then entries act name =
    record {
      nominal = unwrap_or (option_or (nominal_put name act) (nominal_of entries name)) (pos 0);
      unit = unwrap_or (option_or (unit_put name act) (unit_of entries name)) units.TheVariants.Mass;
    }

abbrev products_then : List Entry → Act → List (Name × ProductTerms)
products_then entries act = kept_with (product_then entries act)
    (said product_named entries ++ cons_option (product_named act) [])

products_pushed : (entries : List Entry) (entry : Entry)
    → products_then entries entry.act ≡ products_listed (entries ++ entry ∷ [])
products_pushed entries entry =
    sym (λ i. map (λ (name : Name). (
      name,
      record {
        nominal = unwrap_or (last_said-push (nominal_put name) entries entry i)
            (pos 0);
        unit = unwrap_or (last_said-push (unit_put name) entries entry i)
            units.TheVariants.Mass;
      },
    ))
    (filter_map-append (λ (e : Entry). product_named e.act) entries (entry ∷ []) i))

products_after : (entries : List Entry) (known : Known) → IsIndexOf entries known → (act : Act)
    → IsActNamed entries act → (after_act act known).products ≡ products_then entries act
products_after entries known is (PutProduct name nominal unit) act =
    let new : is_some (product_number entries name) ≡ false = sym (nominal_where_put entries name)
    ∙ ap is_some (act.new_product name refl) in
    let made : product_then entries (PutProduct name nominal unit) name
    ≡ record { nominal = nominal; unit = unit } =
    ap (λ (b : Bool). record {
      nominal =
          unwrap_or (option_or (if b then Some nominal else None) (nominal_of entries name)) (pos 0);
      unit = unwrap_or (option_or (if b then Some unit else None) (unit_of entries name))
          units.TheVariants.Mass;
    }) (same_name_itself name) in
    ap (λ (terms : ProductTerms). with_named name terms known.products) (sym made)
    ∙ named_push (terms_of_product entries) (product_then entries (PutProduct name nominal unit))
    (said product_named entries) name known.products is.products new (λ other h. rw h refl)
products_after entries known is other act = is.products
    ∙ ap (kept_with (terms_of_product entries)) (sym (append-nil (said product_named entries)))

-- ---- the batches

-- the terms of a batch once an act came
abbrev batch_then : List Entry → Act → Name → BatchTerms
batch_then entries act name =
    record {
      product = unwrap_or (option_and_then
          (place_of (said product_named entries ++ cons_option (product_named act) []))
          (option_or (product_given name act) (product_of entries name))) 0;
      density = unwrap_or (option_or (density_given name act) (density_of entries name)) 0;
      state = unwrap_or (option_or (state_set name act) (state_of entries name)) Running;
    }

abbrev batches_then : List Entry → Act → List (Name × BatchTerms)
batches_then entries act = kept_with (batch_then entries act)
    (said batch_opened entries ++ cons_option (batch_opened act) [])

batches_pushed : (entries : List Entry) (entry : Entry)
    → batches_then entries entry.act ≡ batches_listed (entries ++ entry ∷ [])
batches_pushed entries entry =
    sym (λ i. map (λ (name : Name). (
      name,
      record {
        product = unwrap_or
            (option_and_then
            (place_of (filter_map-append (λ (e : Entry). product_named e.act) entries (entry ∷ []) i))
            (last_said-push (product_given name) entries entry i)) 0;
        density =
            unwrap_or (last_said-push (density_given name) entries entry i) 0;
        state =
            unwrap_or (last_said-push (state_set name) entries entry i) Running;
      },
    ))
    (filter_map-append (λ (e : Entry). batch_opened e.act) entries (entry ∷ []) i))

-- the terms of a batch with this state, behind the same products
abbrev batch_with : List Entry → Name → Option BatchState → BatchTerms
batch_with entries name state =
    record {
      product = unwrap_or (option_and_then (place_of (said product_named entries ++ []))
          (product_of entries name)) 0;
      density = unwrap_or (density_of entries name) 0;
      state = unwrap_or (option_or state (state_of entries name)) Running;
    }

batch_as_it_was : (entries : List Entry) (name : Name)
    → terms_of_batch entries name ≡ batch_with entries name None
batch_as_it_was entries name i =
    record {
      product = unwrap_or (option_and_then
          (place_of (sym (append-nil (said product_named entries)) i)) (product_of entries name)) 0;
      density = unwrap_or (density_of entries name) 0;
      state = unwrap_or (state_of entries name) Running;
    }

batches_as_they_were : (entries : List Entry)
    → batches_listed entries ≡ kept_with (λ name. batch_with entries name None)
    (said batch_opened entries ++ [])
batches_as_they_were entries i =
    map (λ (name : Name). (name, batch_as_it_was entries name i))
    (sym (append-nil (said batch_opened entries)) i)

batches_in_state : (entries : List Entry) (known : Known) (name : Name) (state : BatchState)
    → IsIndexOf entries known
    → with_state name state known.batches
    ≡ kept_with (λ other. batch_with entries other
    (if same_name name other then Some state else None)) (said batch_opened entries ++ [])
batches_in_state entries known name state is =
    ap (with_state name state) is.batches
    ∙ map_twice (λ (n : Name). (n, terms_of_batch entries n)) (restated name state)
    (λ (n : Name). (n, batch_with entries n (if same_name name n then Some state else None)))
    each (said batch_opened entries)
    ∙ ap (kept_with (λ other. batch_with entries other
    (if same_name name other then Some state else None)))
    (sym (append-nil (said batch_opened entries)))
  where
    each : (n : Name) → restated name state (n, terms_of_batch entries n)
        ≡ (n, batch_with entries n (if same_name name n then Some state else None))
    each n = in_both (same_name name n)
        (λ h. rw h (ap (λ (terms : BatchTerms). (n, record terms { state = state }))
        (batch_as_it_was entries n)))
        (λ h. rw h (ap (λ (terms : BatchTerms). (n, terms)) (batch_as_it_was entries n)))

batches_after : (entries : List Entry) (known : Known) → IsIndexOf entries known → AreNamed entries
    → (act : Act) → IsActNamed entries act
    → (after_act act known).batches ≡ batches_then entries act
batches_after entries known is named (PutProduct name nominal unit) act =
    is.batches ∙ λ i. map (λ (batch : Name). (
      batch,
      record {
        product = unwrap_or (each batch i) 0;
        density =
            unwrap_or (density_of entries batch) 0;
        state =
            unwrap_or (state_of entries batch) Running;
      },
    ))
    (sym (append-nil (said batch_opened entries)) i)
  where
    either : (o : Option Name) → ((product : Name) → o ≡ Some product
        → is_some (nominal_of entries product) ≡ true)
        → option_and_then (product_number entries) o
        ≡ option_and_then (place_of (said product_named entries ++ name ∷ [])) o
    either None h = refl
    either (Some product) h =
        sym (place_among_more (said product_named entries) (name ∷ []) product
        (sym (nominal_where_put entries product) ∙ h product refl))

    each : (batch : Name) → batch_product_number entries batch
        ≡ option_and_then (place_of (said product_named entries ++ name ∷ []))
        (product_of entries batch)
    each batch = either (product_of entries batch) (λ product h. named.product batch product h)
batches_after entries known is named (OpenBatch name product density) act =
    let new : is_some (batch_number entries name) ≡ false = sym (product_where_opened entries name)
    ∙ ap is_some (act.new_batch name refl) in
    let made : batch_then entries (OpenBatch name product density) name
    ≡ record {
      product = unwrap_or (place_of (said product_named entries ++ []) product) 0;
      density = density;
      state = Running;
    } =
    ap (λ (b : Bool). record {
      product =
          unwrap_or (option_and_then (place_of (said product_named entries ++ []))
          (option_or (if b then Some product else None) (product_of entries name))) 0;
      density =
          unwrap_or (option_or (if b then Some density else None) (density_of entries name)) 0;
      state = unwrap_or (option_or (if b then Some Running else None) (state_of entries name))
          Running;
    }) (same_name_itself name) in
    let products : names_of known.products ≡ said product_named entries ++ [] =
    products_named entries known is ∙ sym (append-nil (said product_named entries)) in
    ap (λ (names : List Name). with_named name
    (record {
      product = unwrap_or (place_of names product) 0;
      density = density;
      state =
          Running;
    }) known.batches) products
    ∙ ap (λ (terms : BatchTerms). with_named name terms known.batches) (sym made)
    ∙ named_push (terms_of_batch entries) (batch_then entries (OpenBatch name product density))
    (said batch_opened entries) name known.batches is.batches new
    (λ other h. batch_as_it_was entries other ∙ rw h refl)
batches_after entries known is named (EndRun name) act = batches_in_state entries known name Ended is
batches_after entries known is named (Draw name mode word) act =
    batches_in_state entries known name Drawn is
batches_after entries known is named (Close name) act = batches_in_state entries known name Closed is
batches_after entries known is named other act = is.batches ∙ batches_as_they_were entries

-- ---- the lanes

-- a numbered thing that is another now
numbered_range : {A : Type 0} (f g : ℕ → A) (number : ℕ) (thing : A)
    → ((other : ℕ) → (if number == other then thing else f other) ≡ g other) → (first many : ℕ)
    → with_numbered first number thing (map f (range_with_len first many))
    ≡ map g (range_with_len first many)
numbered_range f g number thing each first zero = refl
numbered_range f g number thing each first (suc many) =
    λ i. each first i ∷ numbered_range f g number thing each (first + 1) many i

-- the number of the batch of a lane once an act came
abbrev lane_then : List Entry → Act → ℕ → Option ℕ
lane_then entries act lane =
    option_and_then (place_of (said batch_opened entries ++ cons_option (batch_opened act) []))
    (option_flatten (option_or (lane_used lane act) (last_said (lane_used lane) entries)))

lanes_pushed : (entries : List Entry) (entry : Entry)
    → map (lane_then entries entry.act) (range_with_len 1 MAX_LANE)
    ≡ map (lane_batch_number (entries ++ entry ∷ [])) (range_with_len 1 MAX_LANE)
lanes_pushed entries entry =
    sym (λ i. map (λ (lane : ℕ). option_and_then
    (place_of (filter_map-append (λ (e : Entry). batch_opened e.act) entries (entry ∷ []) i))
    (option_flatten (last_said-push (lane_used lane) entries entry i)))
    (range_with_len 1 MAX_LANE))

-- the number of the batch of a lane, among the same batches
abbrev lane_among : List Entry → ℕ → Option ℕ
lane_among entries lane = option_and_then (place_of (said batch_opened entries ++ []))
    (lane_batch entries lane)

lane_as_it_was : (entries : List Entry) (lane : ℕ)
    → lane_batch_number entries lane ≡ lane_among entries lane
lane_as_it_was entries lane i =
    option_and_then (place_of (sym (append-nil (said batch_opened entries)) i))
    (lane_batch entries lane)

lanes_noted : (entries : List Entry) (known : Known) → IsIndexOf entries known
    → (number : ℕ) (batch : Option Name) (place : Option ℕ)
    → place ≡ option_and_then (place_of (said batch_opened entries ++ [])) batch
    → with_numbered 1 number place known.lanes
    ≡ map (λ lane. option_and_then (place_of (said batch_opened entries ++ []))
    (option_flatten (option_or (if number == lane then Some batch else None)
    (last_said (lane_used lane) entries)))) (range_with_len 1 MAX_LANE)
lanes_noted entries known is number batch place h =
    ap (with_numbered 1 number place) is.lanes
    ∙ numbered_range (lane_batch_number entries) later number place each 1 MAX_LANE
  where
    later : ℕ → Option ℕ
    later lane = option_and_then (place_of (said batch_opened entries ++ []))
        (option_flatten (option_or (if number == lane then Some batch else None)
        (last_said (lane_used lane) entries)))

    each : (lane : ℕ) → (if number == lane then place else lane_batch_number entries lane) ≡ later lane
    each lane = in_both (number == lane) (λ k. rw k h) (λ k. rw k (lane_as_it_was entries lane))

lanes_after : (entries : List Entry) (known : Known) → IsIndexOf entries known → AreNamed entries
    → (act : Act) → IsActNamed entries act
    → (after_act act known).lanes ≡ map (lane_then entries act) (range_with_len 1 MAX_LANE)
lanes_after entries known is named (OpenBatch name product density) act =
    is.lanes ∙ map_same (lane_batch_number entries)
    (lane_then entries (OpenBatch name product density)) each (range_with_len 1 MAX_LANE)
  where
    either : (o : Option Name) → ((batch : Name) → o ≡ Some batch
        → is_some (product_of entries batch) ≡ true)
        → option_and_then (batch_number entries) o
        ≡ option_and_then (place_of (said batch_opened entries ++ name ∷ [])) o
    either None h = refl
    either (Some batch) h =
        sym (place_among_more (said batch_opened entries) (name ∷ []) batch
        (sym (product_where_opened entries batch) ∙ h batch refl))

    each : (lane : ℕ) → lane_batch_number entries lane
        ≡ lane_then entries (OpenBatch name product density) lane
    each lane = either (lane_batch entries lane) (λ batch h. named.on_lane lane batch h)
lanes_after entries known is named (StartLane number name) act =
    lanes_noted entries known is number (Some name) (place_of (names_of known.batches) name)
    (ap (λ (names : List Name). place_of names name)
    (batches_named entries known is ∙ sym (append-nil (said batch_opened entries))))
lanes_after entries known is named (StopLane number prior) act =
    lanes_noted entries known is number None None refl
lanes_after entries known is named other act = is.lanes
    ∙ map_same (lane_batch_number entries) (lane_among entries) (lane_as_it_was entries)
    (range_with_len 1 MAX_LANE)

-- ---- the day

day_after : (entries : List Entry) (known : Known) → IsIndexOf entries known → (act : Act)
    → (after_act act known).day ≡ option_or (day_set act) (newest_day entries)
day_after entries known is (NewDay day) = refl
day_after entries known is act = is.day

-- ---- the desks

desks_after : (known : Known) (act : Act) → (after_act act known).desks ≡ known.desks
desks_after known (NewDay day) = refl
desks_after known (PutProduct name nominal unit) = refl
desks_after known (PutTare product day tare) = refl
desks_after known (OpenBatch name product density) = refl
desks_after known (StartLane number name) = refl
desks_after known (Weigh lane gross prior) = refl
desks_after known (StopLane number prior) = refl
desks_after known (Void pack) = refl
desks_after known (EndRun name) = refl
desks_after known (Draw name mode word) = refl
desks_after known (Measure pack gross empty) = refl
desks_after known (DrawSecond name word) = refl
desks_after known (Close name) = refl

-- the newest row of a desk with one more entry
pub newest_row_push : (entries : List Entry) (entry : Entry) (desk : ℕ)
    → newest_row (entries ++ entry ∷ []) desk
    ≡ (if entry.desk == desk then Some
    (record { number = length entries + 1; entry = entry }) else newest_row entries desk)
newest_row_push entries entry desk =
    ap (λ (rows : List Row). last_or None (filter (λ (row : Row). row.entry.desk == desk) rows))
    (rows_push entries entry)
    ∙ last_of_some (λ (row : Row). row.entry.desk == desk) None (rows_of entries)
    (record { number = length entries + 1; entry = entry })

desks_pushed : (entries : List Entry) (entry : Entry) (known : Known) → IsIndexOf entries known
    → with_numbered MIN_DESK entry.desk (Some (length entries + 1)) known.desks
    ≡ map (newest_row_number (entries ++ entry ∷ []))
    (range_with_len MIN_DESK (MAX_DESK - MIN_DESK + 1))
desks_pushed entries entry known is =
    ap (with_numbered MIN_DESK entry.desk (Some (length entries + 1))) is.desks
    ∙ numbered_range (newest_row_number entries)
    (newest_row_number (entries ++ entry ∷ [])) entry.desk
    (Some (length entries + 1)) each MIN_DESK (MAX_DESK - MIN_DESK + 1)
  where
    each : (desk : ℕ) → (if entry.desk
        == desk then Some (length entries + 1) else newest_row_number entries desk)
        ≡ newest_row_number (entries ++ entry ∷ []) desk
    each desk =
        in_both (entry.desk == desk) (λ h. rw h refl) (λ h. rw h refl)
        ∙ sym (ap (option_map (λ (row : Row). row.number)) (newest_row_push entries entry desk))

-- ---- all

-- the index of a list, changed as an entry says, is the index of the list with that entry
pub index_more : (entries : List Entry) (entry : Entry) (known : Known) → IsIndexOf entries known
    → AreNamed entries → IsActNamed entries entry.act
    → IsIndexOf (entries ++ entry ∷ [])
    (with_row entry.desk (length entries + 1) (after_act entry.act known))
index_more entries entry known is named act =
    record {
      products = products_after entries known is entry.act act ∙ products_pushed entries entry;
      batches = batches_after entries known is named entry.act act ∙ batches_pushed entries entry;
      lanes = lanes_after entries known is named entry.act act ∙ lanes_pushed entries entry;
      day = day_after entries known is entry.act ∙ sym (last_said-push day_set entries entry);
      desks = ap (with_numbered MIN_DESK entry.desk (Some (length entries + 1)))
          (desks_after known entry.act) ∙ desks_pushed entries entry known is;
    }
