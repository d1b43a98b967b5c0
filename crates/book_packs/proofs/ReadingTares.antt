-- The tares of readings once a tare was put.
use Rattle.std.proofs.Common.{◌≡◌, ℕ, ℤ, ◌==◌, true, false, ◌&&◌, cond, List, [], ◌∷◌, ◌++◌, Option, Some, None, option_map, is_some, refl, sym, ◌∙◌, ap}
use Rattle.std.specs.Prelude.{pos}
use Rattle.std.specs.List.{cons_option, slice_get}
use Rattle.std.specs.Option.{option_or, option_and_then, option_map_or, unwrap_or}
use Rattle.pack_judge.specs.declared.tares.Span.{Span}
use Rattle.pack_judge.specs.Tares.{covers}
use Rattle.tare_register.specs.Tares.{entry_of, tare_of, DecidesWithin}
use Rattle.batch_sums.specs.Totals.{Terms}
use Rattle.batch_sums.specs.Changes.{is_concerned}
use Rattle.book_words.specs.declared.name.Name.{Name}
use Rattle.book_words.specs.declared.act.Act.TheVariants.{PutTare}
use Rattle.book_words.specs.declared.act.Entry.{Entry}
use Rattle.book_words.specs.declared.act.Reading.{Reading}
use Rattle.book_words.specs.Acts.{product_given, product_of}
use Rattle.book_words.specs.Order.{product_number, batch_number}
use Rattle.book_words.specs.Tares.{tare_of_product}
use Rattle.book_words.specs.Readings.{tare_of_reading}
use Rattle.book_words.proofs.LastSaid.{last_said-push}
use Rattle.book_packs.specs.Stand.{tare_entry, tares_in, terms_of_batch, opened_terms, number_of_product, pack_of}
use Rattle.book_packs.proofs.KeptNumbers.{product_keeps}
use Rattle.book_words.proofs.SaidNames.{product_where_opened}
use Rattle.book_packs.proofs.Known.{Known, IsWeighed, is_there}
use Rattle.book_packs.proofs.PackTotals.{terms_at}
use Rattle.book_packs.proofs.TareRegisters.{tare_is}
use Rattle.book_packs.proofs.StandingTerms.{tares-push}
use Rattle.book_words.proofs.PlainLemmas.{eqb-swap}

-- what a batch that was opened has
pub record HasProduct (entries : List Entry) (batch : Name) : Type 0 where
  pub name : Name
  pub of_batch : product_of entries batch ≡ Some name
  pub number : ℕ
  pub numbered : product_number entries name ≡ Some number

pub has_product : (entries : List Entry) → Known entries → (batch : Name)
    → is_some (batch_number entries batch) ≡ true → HasProduct entries batch
has_product entries known batch h =
    each (product_of entries batch) refl (product_where_opened entries batch ∙ h)
  where
    with_number : (name : Name) (o : Option ℕ) → product_of entries batch ≡ Some name
        → product_number entries name ≡ o → is_some (product_number entries name) ≡ true
        → HasProduct entries batch
    with_number name None of numbered k = absurd (let wrong = sym (ap is_some numbered) ∙ k in cc)
    with_number name (Some number) of numbered k =
        record { name = name; of_batch = of; number = number; numbered = numbered }

    each : (o : Option Name) → product_of entries batch ≡ o
        → is_some (product_of entries batch) ≡ true → HasProduct entries batch
    each None of k = absurd (let wrong = sym (ap is_some of) ∙ k in cc)
    each (Some name) of k = with_number name (product_number entries name) of
        refl (known.products batch name of)

-- whether a reading is one of the product of a number, on a day of a span
pub concerned_is : (entries : List Entry) (product : ℕ) (span : Span) (reading : Reading)
    (w : IsWeighed entries reading) (has : HasProduct entries w.batch)
    → is_concerned (opened_terms entries) product span (pack_of entries reading)
    ≡ ((product == has.number) && covers span w.day)
concerned_is entries product span reading w has =
    let batch : (pack_of entries reading).batch ≡ w.number =
    ap (λ o. unwrap_or (option_and_then (batch_number entries) o) 0) w.of_batch
    ∙ ap (λ o. unwrap_or o 0) w.numbered in
    let terms : slice_get (opened_terms entries) (pack_of entries reading).batch
    ≡ Some (terms_of_batch entries w.batch) = ap (slice_get (opened_terms entries)) batch
    ∙ terms_at entries w.batch w.number w.numbered in
    let number : number_of_product entries w.batch ≡ has.number =
    ap (λ o. unwrap_or (option_and_then (product_number entries) o) 0) has.of_batch
    ∙ ap (λ o. unwrap_or o 0) has.numbered in
    ap (λ o. option_map_or (λ (t : Terms). t.product == product) o false
    && covers span (pack_of entries reading).day) terms
    ∙ ap (λ n. (n == product) && covers span (pack_of entries reading).day) number
    ∙ ap (λ b. b && covers span (pack_of entries reading).day) (eqb-swap has.number product)
    ∙ ap (λ o. (product == has.number) && covers span (unwrap_or o (pos 0))) w.on_day

-- the tare of a reading is that of its product on its day
pub tare_told : (entries : List Entry) (reading : Reading) (w : IsWeighed entries reading)
    (has : HasProduct entries w.batch)
    → tare_of_reading entries reading.batch reading.day ≡ tare_of_product entries has.name w.day
tare_told entries reading w has =
    ap (λ o. tare_of_reading entries o reading.day) w.of_batch
    ∙ ap (λ o. tare_of_reading entries (Some w.batch) o) w.on_day
    ∙ ap (option_and_then (λ p. tare_of_product entries p w.day)) has.of_batch

module _ (entries : List Entry) (entry : Entry) (known : Known entries) (product : ℕ) (day tare : ℤ)
    (span : Span) (name : Name) (act : entry.act ≡ PutTare name day tare)
    (number : product_number entries name ≡ Some product)
    (decides : DecidesWithin span (tares_in entries) product day) where
  pub own_entry_is : tares_in (entries ++ entry ∷ []) ≡ tares_in entries
      ++ entry_of product day tare ∷ []
  own_entry_is =
      tares-push entries entry known
      ∙ ap (λ a. tares_in entries ++ cons_option (tare_entry (entries ++ entry ∷ []) a) []) act
      ∙ ap (λ o. tares_in entries ++ cons_option (option_map (λ n. entry_of n day tare) o) [])
      (product_keeps entries entry name (is_there number) ∙ number)

  -- the tare of a product on a day behind it
  product_tare : (other : Name) (k : ℕ) → product_number entries other ≡ Some k → (date : ℤ)
      → tare_of_product (entries ++ entry ∷ []) other date
      ≡ cond ((product == k) && covers span date) (Some tare)
      (tare_of_product entries other date)
  product_tare other k numbered date =
      sym (tare_is (entries ++ entry ∷ []) other k
      (product_keeps entries entry other (is_there numbered) ∙ numbered) date)
      ∙ ap (λ some. tare_of some k date) own_entry_is
      ∙ decides tare k date
      ∙ ap (λ o. cond ((product == k) && covers span date) (Some tare) o)
      (tare_is entries other k numbered date)

  -- the tare of a reading behind it
  pub reading_retared : (reading : Reading) → IsWeighed entries reading
      → tare_of_reading (entries ++ entry ∷ []) reading.batch reading.day
      ≡ cond (is_concerned (opened_terms entries) product span (pack_of entries reading))
      (Some tare) (tare_of_reading entries reading.batch reading.day)
  reading_retared reading w =
      let has = has_product entries known w.batch (is_there w.numbered) in
      let of_batch : product_of (entries ++ entry ∷ []) w.batch ≡ Some has.name =
      last_said-push (product_given w.batch) entries entry
      ∙ ap (λ a. option_or (product_given w.batch a) (product_of entries w.batch)) act
      ∙ has.of_batch in
      let behind : tare_of_reading (entries ++ entry ∷ []) reading.batch reading.day
      ≡ tare_of_product (entries ++ entry ∷ []) has.name w.day =
      ap (λ o. tare_of_reading (entries ++ entry ∷ []) o reading.day) w.of_batch
      ∙ ap (λ o. tare_of_reading (entries ++ entry ∷ []) (Some w.batch) o) w.on_day
      ∙ ap (option_and_then (λ p. tare_of_product (entries ++ entry ∷ []) p w.day)) of_batch in
      behind ∙ product_tare has.name has.number has.numbered w.day
      ∙ ap (λ b. cond b (Some tare) (tare_of_product entries has.name w.day))
      (sym (concerned_is entries product span reading w has))
      ∙ ap (λ o. cond (is_concerned (opened_terms entries) product span (pack_of entries reading))
      (Some tare) o) (sym (tare_told entries reading w has))
