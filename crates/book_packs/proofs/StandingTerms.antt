-- What stays as it is where a lawful entry comes behind a legal list.
use Rattle.std.proofs.Common.{◌≡◌, ℕ, ℤ, Bool, true, false, cond, List, [], ◌∷◌, ◌++◌, map, Option, Some, None, option_map, is_some, refl, sym, ◌∙◌, ap, inl, inr}
use Rattle.std.specs.Prelude.{pos}
use Rattle.std.specs.List.{AllByRecursion, cons_option}
use Rattle.std.specs.Option.{option_or, option_and_then, unwrap_or}
use Rattle.std.proofs.lemmas.Bool.{cases_Bool}
use Rattle.std.proofs.lemmas.List.{map-append, append-nil}
use Rattle.std.proofs.lemmas.List.Elements.{filter_map-append}
use Rattle.annex_tables.specs.Errors.{limits_of}
use Rattle.tare_register.specs.declared.types.ProductTare.{ProductTare}
use Rattle.pack_judge.specs.Tares.{tare_by_rule}
use Rattle.tare_register.specs.Tares.{entry_of}
use Rattle.batch_sums.specs.Totals.{Terms}
use Rattle.book_words.specs.declared.name.Name.{Name}
use Rattle.book_words.specs.declared.act.Unit as units
use Rattle.book_words.specs.declared.act.Act.{Act}
use Rattle.book_words.specs.declared.act.Act.TheVariants.{NewDay, PutProduct, PutTare, OpenBatch, StartLane, Weigh, StopLane, Void, EndRun, Draw, Measure, DrawSecond, Close}
use Rattle.book_words.specs.declared.act.Entry.{Entry}
use Rattle.book_words.specs.declared.act.Reading.{Reading}
use Rattle.book_words.specs.Names.{same_name}
use Rattle.book_words.specs.Acts.{said, nominal_put, unit_put, product_given, density_given, batch_opened, nominal_of, unit_of, product_of, density_of}
use Rattle.book_words.specs.Order.{product_number, batch_number}
use Rattle.book_words.specs.Tares.{tare_put, tares_put, tare_of_product}
use Rattle.book_words.specs.Readings.{readings, tare_of_reading, tare_of_batch}
use Rattle.book_words.specs.Classes.{density_by_unit}
use Rattle.book_words.specs.Piles.{pile_of}
use Rattle.book_words.proofs.NameLemmas.{same_name_is}
use Rattle.book_words.proofs.LastSaid.{last_said-push}
use Rattle.book_words.proofs.OneMoreEntry.{advance, own_reading, readings-push}
use Rattle.book_packs.specs.Densities.{limits_at}
use Rattle.book_packs.specs.Stand.{tare_entry, tares_in, terms_of_batch, opened_terms, pack_of, packs_in}
use Rattle.book_packs.proofs.Lists.{map-within, map-map, all_then, each_has_place}
use Rattle.book_words.proofs.AllowedActs.{IsAllowed, put_product_tells, open_batch_tells}
use Rattle.book_packs.proofs.KeptNumbers.{product_keeps, batch_keeps}
use Rattle.book_words.proofs.SaidNames.{nominal_where_put, product_where_opened}
use Rattle.book_packs.proofs.Known.{Known, IsWeighed, tare_named, is_there}

guard_off : {A : Type 0} (b : Bool) (x : A) → b ≡ false → cond b (Some x) None ≡ None
guard_off b x h = ap (λ c. cond c (Some x) None) h

clash : {P : Type 0} {b : Bool} → b ≡ true → b ≡ false → P
clash h k = absurd (let wrong : true ≡ false = sym h ∙ k in cc)

-- no lawful act opens a batch that is there
opens_none : (entries : List Entry) (act : Act) → IsAllowed entries act → (batch : Name)
    → is_some (batch_number entries batch) ≡ true → (product_given batch act ≡ None)
    × (density_given batch act ≡ None)
opens_none entries (OpenBatch name product density) h batch known =
    elim (cases_Bool (same_name name batch)) [
      | inl t ↦ clash (ap (λ (n : Name). is_some (batch_number entries n)) (same_name_is name batch t)
          ∙ known) (sym (product_where_opened entries name)
          ∙ ap is_some (open_batch_tells entries name product density h).new)
      | inr f ↦ (guard_off (same_name name batch) product f, guard_off (same_name name batch) density f)
    ]
opens_none entries (NewDay day) h batch known = (refl, refl)
opens_none entries (PutProduct name nominal unit) h batch known = (refl, refl)
opens_none entries (PutTare product day tare) h batch known = (refl, refl)
opens_none entries (StartLane lane name) h batch known = (refl, refl)
opens_none entries (Weigh lane gross prior) h batch known = (refl, refl)
opens_none entries (StopLane lane prior) h batch known = (refl, refl)
opens_none entries (Void pack) h batch known = (refl, refl)
opens_none entries (EndRun name) h batch known = (refl, refl)
opens_none entries (Draw name mode word) h batch known = (refl, refl)
opens_none entries (Measure pack gross empty) h batch known = (refl, refl)
opens_none entries (DrawSecond name word) h batch known = (refl, refl)
opens_none entries (Close name) h batch known = (refl, refl)

-- none puts a product that is there
puts_none : (entries : List Entry) (act : Act) → IsAllowed entries act → (product : Name)
    → is_some (product_number entries product) ≡ true → (nominal_put product act ≡ None)
    × (unit_put product act ≡ None)
puts_none entries (PutProduct name nominal unit) h product known =
    elim (cases_Bool (same_name name product)) [
      | inl t ↦ clash (ap (λ (n : Name). is_some (product_number entries n))
          (same_name_is name product t) ∙ known)
          (sym (nominal_where_put entries name)
          ∙ ap is_some (put_product_tells entries name nominal unit h).new)
      | inr f ↦ (guard_off (same_name name product) nominal f, guard_off (same_name name product) unit f)
    ]
puts_none entries (NewDay day) h product known = (refl, refl)
puts_none entries (PutTare name day tare) h product known = (refl, refl)
puts_none entries (OpenBatch batch name density) h product known = (refl, refl)
puts_none entries (StartLane lane name) h product known = (refl, refl)
puts_none entries (Weigh lane gross prior) h product known = (refl, refl)
puts_none entries (StopLane lane prior) h product known = (refl, refl)
puts_none entries (Void pack) h product known = (refl, refl)
puts_none entries (EndRun name) h product known = (refl, refl)
puts_none entries (Draw name mode word) h product known = (refl, refl)
puts_none entries (Measure pack gross empty) h product known = (refl, refl)
puts_none entries (DrawSecond name word) h product known = (refl, refl)
puts_none entries (Close name) h product known = (refl, refl)

tares_none : (act : Act) (product : Name) → tare_named act ≡ None → tare_put product act ≡ None
tares_none (PutTare name day tare) product h = absurd (cc)
tares_none act product h = refl

entry_none : (entries : List Entry) (act : Act) → tare_named act ≡ None → tare_entry entries act ≡ None
entry_none entries (PutTare name day tare) h = absurd (cc)
entry_none entries act h = refl

through : {A : Type 0} (f g : Name → Option A) (o : Option Name)
    → ((x : Name) → o ≡ Some x → f x ≡ g x) → option_and_then f o ≡ option_and_then g o
through f g None h = refl
through f g (Some x) h = h x refl

abbrev pub built : Option ℕ → Option ℤ → Option units.Unit → Option ℕ → Terms
built number nominal unit density =
    record {
      product = unwrap_or number 0;
      limits =
          limits_at (density_by_unit unit (unwrap_or density 0))
          (limits_of (unwrap_or nominal (pos 0)));
    }

pub tares_put-push : (entries : List Entry) (entry : Entry) (product : Name)
    → tares_put (entries ++ entry ∷ []) product ≡ tares_put entries product
    ++ cons_option (tare_put product entry.act) []
tares_put-push entries entry product =
    filter_map-append (λ (e : Entry). tare_put product e.act) entries (entry ∷ [])

module _ (entries : List Entry) (entry : Entry) (known : Known entries) where
  -- the tares that were put before keep the numbers of their products
  retare : (act : Act) (names : List Name) (xs ys : List ProductTare)
      → AllByRecursion (λ name. is_some (product_number entries name) ≡ true)
      (cons_option (tare_named act) names)
      → (AllByRecursion (λ name. is_some (product_number entries name) ≡ true) names → xs ≡ ys)
      → cons_option (tare_entry (entries ++ entry ∷ []) act) xs
      ≡ cons_option (tare_entry entries act) ys
  retare (PutTare product day tare) names xs ys all h =
      λ i. cons_option (option_map (λ n. entry_of n day tare)
      (product_keeps entries entry product all.0 i)) (h all.1 i)
  retare act names xs ys all h = h all

  retared : (some : List Entry) → AllByRecursion
      (λ name. is_some (product_number entries name) ≡ true) (said tare_named some)
      → said (tare_entry (entries ++ entry ∷ [])) some ≡ said (tare_entry entries) some
  retared [] all = refl
  retared (e ∷ es) all = retare e.act (said tare_named es)
      (said (tare_entry (entries ++ entry ∷ [])) es) (said (tare_entry entries) es) all (retared es)

  pub tares-push : tares_in (entries ++ entry ∷ []) ≡ tares_in entries
      ++ cons_option (tare_entry (entries ++ entry ∷ []) entry.act) []
  tares-push =
      filter_map-append (λ (e : Entry). tare_entry (entries ++ entry ∷ []) e.act) entries (entry ∷ [])
      ∙ ap (λ some. some ++ cons_option (tare_entry (entries ++ entry ∷ []) entry.act) [])
      (retared entries known.tared)

  pub tares_keep : tare_named entry.act ≡ None → tares_in (entries ++ entry ∷ []) ≡ tares_in entries
  tares_keep h = tares-push ∙ ap (λ o. tares_in entries ++ cons_option o [])
      (entry_none (entries ++ entry ∷ []) entry.act h) ∙ append-nil (tares_in entries)

module _ (entries : List Entry) (entry : Entry) (known : Known entries)
    (rules : IsAllowed entries entry.act) where
  pub product_of_keeps : (batch : Name) → is_some (batch_number entries batch) ≡ true
      → product_of (entries ++ entry ∷ []) batch ≡ product_of entries batch
  product_of_keeps batch h =
      last_said-push (product_given batch) entries entry
      ∙ ap (λ o. option_or o (product_of entries batch))
      (opens_none entries entry.act rules batch h).0

  terms_keep : (batch : Name) → is_some (batch_number entries batch) ≡ true
      → terms_of_batch (entries ++ entry ∷ []) batch ≡ terms_of_batch entries batch
  terms_keep batch h i = built (number i) (nominal i) (unit i) (density i)
    where
      number : option_and_then (product_number (entries ++ entry ∷ []))
          (product_of (entries ++ entry ∷ []) batch)
          ≡ option_and_then (product_number entries) (product_of entries batch)
      number =
          ap (option_and_then (product_number (entries ++ entry ∷ []))) (product_of_keeps batch h)
          ∙ through (product_number (entries ++ entry ∷ [])) (product_number entries)
          (product_of entries batch) (λ p is. product_keeps entries entry p
          (known.products batch p is))

      nominal : option_and_then (nominal_of (entries ++ entry ∷ []))
          (product_of (entries ++ entry ∷ []) batch)
          ≡ option_and_then (nominal_of entries) (product_of entries batch)
      nominal =
          ap (option_and_then (nominal_of (entries ++ entry ∷ []))) (product_of_keeps batch h)
          ∙ through (nominal_of (entries ++ entry ∷ [])) (nominal_of entries) (product_of entries batch)
          (λ p is. last_said-push (nominal_put p) entries entry
          ∙ ap (λ o. option_or o (nominal_of entries p))
          (puts_none entries entry.act rules p (known.products batch p is)).0)

      unit : option_and_then (unit_of (entries ++ entry ∷ []))
          (product_of (entries ++ entry ∷ []) batch)
          ≡ option_and_then (unit_of entries) (product_of entries batch)
      unit =
          ap (option_and_then (unit_of (entries ++ entry ∷ []))) (product_of_keeps batch h)
          ∙ through (unit_of (entries ++ entry ∷ [])) (unit_of entries) (product_of entries batch)
          (λ p is. last_said-push (unit_put p) entries entry
          ∙ ap (λ o. option_or o (unit_of entries p))
          (puts_none entries entry.act rules p (known.products batch p is)).1)

      density : density_of (entries ++ entry ∷ []) batch ≡ density_of entries batch
      density = last_said-push (density_given batch) entries entry
          ∙ ap (λ o. option_or o (density_of entries batch))
          (opens_none entries entry.act rules batch h).1

  pub batches-push : opened_terms (entries ++ entry ∷ []) ≡ opened_terms entries
      ++ map (terms_of_batch (entries ++ entry ∷ [])) (cons_option (batch_opened entry.act) [])
  batches-push =
      ap (map (terms_of_batch (entries ++ entry ∷ [])))
      (filter_map-append (λ (e : Entry). batch_opened e.act) entries (entry ∷ []))
      ∙ map-append (terms_of_batch (entries ++ entry ∷ [])) (said batch_opened entries)
      (cons_option (batch_opened entry.act) [])
      ∙ ap (λ some. some ++ map (terms_of_batch (entries ++ entry ∷ []))
      (cons_option (batch_opened entry.act) []))
      (map-within (terms_of_batch (entries ++ entry ∷ [])) (terms_of_batch entries)
      (said batch_opened entries) (all_then terms_keep (said batch_opened entries)
      (each_has_place (said batch_opened entries))))

  pub batches_keep : batch_opened entry.act ≡ None
      → opened_terms (entries ++ entry ∷ []) ≡ opened_terms entries
  batches_keep h = batches-push ∙ ap
      (λ o. opened_terms entries ++ map (terms_of_batch (entries ++ entry ∷ [])) (cons_option o []))
      h ∙ append-nil (opened_terms entries)

  product_tare_keeps : tare_named entry.act ≡ None → (product : Name) (day : ℤ)
      → tare_of_product (entries ++ entry ∷ []) product day ≡ tare_of_product entries product day
  product_tare_keeps h product day =
      ap (λ tares. tare_by_rule tares day)
      (tares_put-push entries entry product
      ∙ ap (λ o. tares_put entries product ++ cons_option o []) (tares_none entry.act product h)
      ∙ append-nil (tares_put entries product))

  pub tare_keeps : tare_named entry.act ≡ None → (batch : Option Name) (day : Option ℤ)
      → ((name : Name) → batch ≡ Some name → is_some (batch_number entries name) ≡ true)
      → tare_of_reading (entries ++ entry ∷ []) batch day ≡ tare_of_reading entries batch day
  tare_keeps h batch day there =
      through _ _ batch (λ name is. ap (λ (f : ℤ → Option ℤ). option_and_then f day)
      (λ i date. on_day name (there name is) date i))
    where
      on_day : (name : Name) → is_some (batch_number entries name) ≡ true → (date : ℤ)
          → tare_of_batch (entries ++ entry ∷ []) name date ≡ tare_of_batch entries name date
      on_day name is date =
          ap (option_and_then (λ product. tare_of_product (entries ++ entry ∷ []) product date))
          (product_of_keeps name is)
          ∙ through (λ product. tare_of_product (entries ++ entry ∷ []) product date)
          (λ product. tare_of_product entries product date) (product_of entries name)
          (λ product same. product_tare_keeps h product date)

  pub packs-push : packs_in (entries ++ entry ∷ [])
      ≡ map (λ reading. pack_of (entries ++ entry ∷ []) (advance entry.act reading))
      (readings entries) ++ map (pack_of (entries ++ entry ∷ []))
      (cons_option (own_reading entries entry) [])
  packs-push =
      ap (map (pack_of (entries ++ entry ∷ []))) (readings-push entries entry)
      ∙ map-append (pack_of (entries ++ entry ∷ [])) (map (advance entry.act) (readings entries))
      (cons_option (own_reading entries entry) [])
      ∙ ap (λ some. some ++ map (pack_of (entries ++ entry ∷ []))
      (cons_option (own_reading entries entry) []))
      (map-map (pack_of (entries ++ entry ∷ [])) (advance entry.act) (readings entries))

  -- the number of a batch that is there
  number_keeps : (reading : Reading) → IsWeighed entries reading
      → option_and_then (batch_number (entries ++ entry ∷ [])) reading.batch
      ≡ option_and_then (batch_number entries) reading.batch
  number_keeps reading w =
      ap (option_and_then (batch_number (entries ++ entry ∷ []))) w.of_batch
      ∙ batch_keeps entries entry w.batch (is_there w.numbered)
      ∙ sym (ap (option_and_then (batch_number entries)) w.of_batch)

  -- a pack with one more entry, but for its tare
  pub pack_tared : (reading : Reading) → IsWeighed entries reading
      → pack_of (entries ++ entry ∷ []) (advance entry.act reading)
      ≡ record (pack_of entries reading) {
        tare = unwrap_or (tare_of_reading (entries ++ entry ∷ []) reading.batch reading.day)
            (pos 0);
        pile = pile_of (entries ++ entry ∷ []) (advance entry.act reading);
      }
  pack_tared reading w i =
      record {
        number = reading.number;
        batch = unwrap_or (number_keeps reading w i) 0;
        day = unwrap_or reading.day (pos 0);
        gross = reading.gross;
        tare = unwrap_or (tare_of_reading (entries ++ entry ∷ []) reading.batch reading.day) (pos 0);
        pile = pile_of (entries ++ entry ∷ []) (advance entry.act reading);
      }

  weighed_batch : (reading : Reading) → IsWeighed entries reading → (name : Name)
      → reading.batch ≡ Some name → is_some (batch_number entries name) ≡ true
  weighed_batch reading w name is =
      let same : w.batch ≡ name = one (sym w.of_batch ∙ is) in
      ap (λ (n : Name). is_some (batch_number entries n)) (sym same) ∙ is_there w.numbered
    where
      one : {x y : Name} → Some x ≡ Some y → x ≡ y
      one h = cc

  -- a pack where no tare is put, but for its pile
  pub pack_kept : tare_named entry.act ≡ None → (reading : Reading) → IsWeighed entries reading
      → pack_of (entries ++ entry ∷ []) (advance entry.act reading)
      ≡ record (pack_of entries reading)
      { pile = pile_of (entries ++ entry ∷ []) (advance entry.act reading) }
  pack_kept h reading w =
      pack_tared reading w
      ∙ ap (λ o. record (pack_of entries reading) {
        tare = unwrap_or o (pos 0);
        pile =
            pile_of (entries ++ entry ∷ []) (advance entry.act reading);
      })
      (tare_keeps h reading.batch reading.day (weighed_batch reading w))
