-- What holds of the names, the days and the readings of a legal list.
use Rattle.std.proofs.Common.{◌≡◌, ℕ, ℤ, ◌+◌, ◌==◌, true, false, cond, List, [], ◌∷◌, ◌++◌, length, map, Option, Some, None, is_some, int_le, refl, sym, ◌∙◌, ap, subst, arith, inl, inr}
use Rattle.std.specs.Prelude.{pos}
use Rattle.std.specs.List.{AllByRecursion, cons_option, slice_get}
use Rattle.std.specs.Option.{option_or}
use Rattle.std.proofs.lemmas.Bool.{and_parts, cases_Bool}
use Rattle.std.proofs.lemmas.Int.{ints}
use Rattle.std.proofs.lemmas.List.Elements.{filter_map-append}
use Rattle.hall_limits.specs.declared.TheConstants.{MAX_DAY}
use Rattle.batch_sums.specs.Changes.{IsUpTo}
use Rattle.book_words.specs.declared.name.Name.{Name}
use Rattle.book_words.specs.declared.act.Act.{Act}
use Rattle.book_words.specs.declared.act.Act.TheVariants.{NewDay, PutTare, OpenBatch, StartLane, Weigh}
use Rattle.book_words.specs.declared.act.Entry.{Entry}
use Rattle.book_words.specs.declared.act.Reading.{Reading}
use Rattle.book_words.specs.Names.{same_name}
use Rattle.book_words.specs.Acts.{said, day_set, product_given, batch_started, batch_opened, newest_day, product_of, last_batch}
use Rattle.book_words.specs.Order.{place_of, product_number, batch_number}
use Rattle.book_words.specs.Readings.{readings, weighed_reading}
use Rattle.book_words.specs.Refusals.{is_within}
use Rattle.book_words.specs.Answers.{IsLegal}
use Rattle.book_words.proofs.LastSaid.{last_said-push}
use Rattle.book_words.proofs.OneMoreEntry.{advance, own_reading, readings-push}
use Rattle.book_packs.proofs.Lists.{all_then, all-append, all-map}
use Rattle.book_words.proofs.LegalLemmas.{legal_steps}
use Rattle.book_words.proofs.AllowedActs.{IsAllowed, allowed, put_tare_tells, new_day_tells, open_batch_tells, start_lane_tells, weigh_tells}
use Rattle.book_packs.proofs.KeptNumbers.{product_keeps, batch_keeps}
use Rattle.book_words.proofs.SaidNames.{nominal_where_put, product_where_opened}
use Rattle.book_words.proofs.SaidTogether.{was_started}
use Rattle.std.proofs.lemmas.Option.{same_Some}
use Rattle.book_words.proofs.PlaceLemmas.{apart_more}

-- the product for which an act puts a tare
abbrev pub tare_named : Act → Option Name
tare_named (PutTare product day tare) = Some product
tare_named _ = None

-- a reading has a batch that was opened, and a day
pub record IsWeighed (entries : List Entry) (reading : Reading) : Type 0 where
  pub batch : Name
  pub of_batch : reading.batch ≡ Some batch
  pub number : ℕ
  pub numbered : batch_number entries batch ≡ Some number
  pub day : ℤ
  pub on_day : reading.day ≡ Some day

-- the names that acts speak of were entered, days are those of the calendar, and readings have
-- batches and days
pub record Known (entries : List Entry) : Type 0 where
  pub products : (batch product : Name) → product_of entries batch ≡ Some product
      → is_some (product_number entries product) ≡ true
  pub tared : AllByRecursion (λ name. is_some (product_number entries name) ≡ true)
      (said tare_named entries)
  pub lanes : (lane : ℕ) (batch : Name) → last_batch entries lane ≡ Some batch
      → is_some (batch_number entries batch) ≡ true
  pub days : (day : ℤ) → newest_day entries ≡ Some day → IsUpTo MAX_DAY day
  pub weighed : AllByRecursion (IsWeighed entries) (readings entries)
  pub opened : (place : ℕ) (batch : Name) → slice_get (said batch_opened entries) place ≡ Some batch
      → batch_number entries batch ≡ Some place

known-nil : Known []
known-nil = record {
  products = λ batch product h. absurd (cc);
  tared = tt;
  lanes =
      λ lane batch h. absurd (cc);
  days = λ day h. absurd (cc);
  weighed = tt;
  opened =
      λ place batch h. absurd (cc);
}

pub up_to : (limit number : ℤ) → is_within (pos 0) limit number ≡ true → IsUpTo limit number
up_to limit number h = let parts = and_parts (int_le (pos 0) number) (int_le number limit) h in
    (grind (arith, ints), grind (arith, ints))

-- what an act says of itself is entered
product_ruled : (entries : List Entry) (act : Act) → IsAllowed entries act → (batch product : Name)
    → product_given batch act ≡ Some product → is_some (product_number entries product) ≡ true
product_ruled entries (OpenBatch name other density) h batch product is =
    elim (cases_Bool (same_name name batch)) [
      | inl t ↦
          let same : other ≡ product = same_Some _ _ (sym (ap (λ b. cond b (Some other) None) t) ∙ is) in
          subst (λ (p : Name). is_some (product_number entries p) ≡ true) same
          (sym (nominal_where_put entries other)
          ∙ (open_batch_tells entries name other density h).known)
      | inr f ↦ absurd (let wrong = sym (ap (λ b. cond b (Some other) None) f) ∙ is in cc)
    ]
product_ruled entries act h batch product is = absurd (cc)

lane_ruled : (entries : List Entry) (act : Act) → IsAllowed entries act → (lane : ℕ) (batch : Name)
    → batch_started lane act ≡ Some batch → is_some (batch_number entries batch) ≡ true
lane_ruled entries (StartLane number name) h lane batch is =
    elim (cases_Bool (number == lane)) [
      | inl t ↦
          let same : name ≡ batch = same_Some _ _ (sym (ap (λ b. cond b (Some name) None) t) ∙ is) in
          subst (λ (b : Name). is_some (batch_number entries b) ≡ true) same
          (sym (product_where_opened entries name)
          ∙ (start_lane_tells entries number name h).known)
      | inr f ↦ absurd (let wrong = sym (ap (λ b. cond b (Some name) None) f) ∙ is in cc)
    ]
lane_ruled entries act h lane batch is = absurd (cc)

day_ruled : (entries : List Entry) (act : Act) → IsAllowed entries act → (day : ℤ)
    → day_set act ≡ Some day → IsUpTo MAX_DAY day
day_ruled entries (NewDay new) h day is =
    subst (λ (d : ℤ). IsUpTo MAX_DAY d) (same_Some _ _ is)
    (up_to MAX_DAY new (new_day_tells entries new h).range)
day_ruled entries act h day is = absurd (cc)

tare_ruled : (entries : List Entry) (act : Act) → IsAllowed entries act
    → AllByRecursion (λ name. is_some (product_number entries name) ≡ true)
    (cons_option (tare_named act) [])
tare_ruled entries (PutTare other date tare) h =
    (sym (nominal_where_put entries other) ∙ (put_tare_tells entries other date tare h).known, tt)
tare_ruled entries act h = tt

opened_new : (entries : List Entry) (act : Act) → IsAllowed entries act → (batch : Name)
    → batch_opened act ≡ Some batch → is_some (batch_number entries batch) ≡ false
opened_new entries (OpenBatch name other density) h batch is =
    subst (λ (b : Name). is_some (batch_number entries b) ≡ false) (same_Some _ _ is)
    (sym (product_where_opened entries name)
    ∙ ap is_some (open_batch_tells entries name other density h).new)
opened_new entries act h batch is = absurd (cc)

-- either the last act said it, or it was said before
last_is : {A : Type 0} {P : Type 0} (x : A) (own before : Option A) → option_or own before ≡ Some x
    → (own ≡ Some x → P) → (before ≡ Some x → P) → P
last_is x None before h here there = there h
last_is x (Some y) before h here there = here h

pub is_there : {A : Type 0} {x : A} {o : Option A} → o ≡ Some x → is_some o ≡ true
is_there h = ap is_some h

module _ (entries : List Entry) (entry : Entry) where
  product_stays_known : (name : Name) → is_some (product_number entries name) ≡ true
      → is_some (product_number (entries ++ entry ∷ []) name) ≡ true
  product_stays_known name h = ap is_some (product_keeps entries entry name h) ∙ h

  batch_stays_known : (name : Name) → is_some (batch_number entries name) ≡ true
      → is_some (batch_number (entries ++ entry ∷ []) name) ≡ true
  batch_stays_known name h = ap is_some (batch_keeps entries entry name h) ∙ h

  weighed_stays : (reading : Reading) → IsWeighed entries reading
      → IsWeighed (entries ++ entry ∷ []) (advance entry.act reading)
  weighed_stays reading w =
      record {
        batch = w.batch;
        of_batch = w.of_batch;
        number = w.number;
        numbered = batch_keeps entries entry w.batch (is_there w.numbered) ∙ w.numbered;
        day = w.day;
        on_day = w.on_day;
      }

  -- the last entry's own reading
  own_weighed : (act : Act) → Known entries → IsAllowed entries act
      → AllByRecursion (IsWeighed (entries ++ entry ∷ []))
      (cons_option (weighed_reading (length entries + 1) entries act entry.signal []) [])
  own_weighed (Weigh lane gross prior) known h = (
    own (newest_day entries) (last_batch entries lane) refl refl
        (weigh_tells entries lane gross prior h).day
        (was_started entries lane (weigh_tells entries lane gross prior h).runs),
    tt,
  )
    where
      own : (day : Option ℤ) (batch : Option Name) → newest_day entries ≡ day
          → last_batch entries lane ≡ batch → is_some (newest_day entries) ≡ true
          → is_some (last_batch entries lane) ≡ true
          → IsWeighed (entries ++ entry ∷ [])
          (record {
            number = length entries + 1;
            lane = lane;
            gross = gross;
            signal =
                entry.signal;
            day = newest_day entries;
            batch = last_batch entries lane;
            next_prior =
                None;
            voided = false;
          })
      own None batch is of a b = absurd (let wrong = sym (ap is_some is) ∙ a in cc)
      own (Some day) None is of a b = absurd (let wrong = sym (ap is_some of) ∙ b in cc)
      own (Some day) (Some batch) is of a b =
          with_number (batch_number entries batch) refl (known.lanes lane batch of)
        where
          with_number : (o : Option ℕ) → batch_number entries batch ≡ o
              → is_some (batch_number entries batch) ≡ true
              → IsWeighed (entries ++ entry ∷ [])
              (record {
                number = length entries + 1;
                lane = lane;
                gross = gross;
                signal =
                    entry.signal;
                day = newest_day entries;
                batch = last_batch entries lane;
                next_prior = None;
                voided = false;
              })
          with_number None none k = absurd (let wrong = sym (ap is_some none) ∙ k in cc)
          with_number (Some number) numbered k =
              record {
                batch = batch;
                of_batch = of;
                number = number;
                numbered =
                    batch_keeps entries entry batch k ∙ numbered;
                day = day;
                on_day = is;
              }
  own_weighed act known h = tt

  pub known-push : Known entries → IsAllowed entries entry.act → Known (entries ++ entry ∷ [])
  known-push known h =
      record {
        products = λ batch product is. product_stays_known product
            (last_is product (product_given batch entry.act) (product_of entries batch)
            (sym (last_said-push (product_given batch) entries entry) ∙ is)
            (product_ruled entries entry.act h batch product) (known.products batch product));
        tared = subst
            (AllByRecursion (λ name. is_some (product_number (entries ++ entry ∷ []) name) ≡ true))
            (sym (filter_map-append (λ (e : Entry). tare_named e.act) entries (entry ∷ [])))
            (all-append _ (said tare_named entries) (cons_option (tare_named entry.act) [])
            (all_then product_stays_known (said tare_named entries) known.tared)
            (all_then product_stays_known (cons_option (tare_named entry.act) [])
            (tare_ruled entries entry.act h)));
        lanes = λ lane batch is. batch_stays_known batch
            (last_is batch (batch_started lane entry.act) (last_batch entries lane)
            (sym (last_said-push (batch_started lane) entries entry) ∙ is)
            (lane_ruled entries entry.act h lane batch) (known.lanes lane batch));
        days = λ day is. last_is day (day_set entry.act) (newest_day entries)
            (sym (last_said-push day_set entries entry) ∙ is) (day_ruled entries entry.act h day)
            (known.days day);
        weighed = subst (AllByRecursion (IsWeighed (entries ++ entry ∷ [])))
            (sym (readings-push entries entry))
            (all-append _ (map (advance entry.act) (readings entries))
            (cons_option (own_reading entries entry) [])
            (all-map _ (advance entry.act) (readings entries)
            (all_then weighed_stays (readings entries) known.weighed))
            (own_weighed entry.act known h));
        opened = λ place batch is.
            let names = filter_map-append (λ (e : Entry). batch_opened e.act) entries (entry ∷ []) in
            ap (λ some. place_of some batch) names
            ∙ apart_more (said batch_opened entries) (batch_opened entry.act) known.opened
            (opened_new entries entry.act h) place batch
            (sym (ap (λ some. slice_get some place) names) ∙ is);
      }

pub known_of : (entries : List Entry) → IsLegal entries → Known entries
known_of =
    legal_steps Known known-nil
    (λ before entry legal lawful known. known-push before entry known (allowed before entry lawful))
