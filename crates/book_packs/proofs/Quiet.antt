-- What is kept behind acts that weigh, stop, void and draw nothing.
use Rattle.std.proofs.Common.{◌≡◌, ℕ, ℤ, ◌+◌, Bool, true, false, ◌||◌, cond, List, [], ◌∷◌, ◌++◌, length, map, Option, Some, None, is_none, refl, sym, ◌∙◌, ap, subst}
use Rattle.std.specs.Prelude.{pos}
use Rattle.std.specs.List.{cons_option, range_with_len}
use Rattle.std.specs.Option.{option_or, option_and_then, unwrap_or}
use Rattle.std.proofs.lemmas.List.{append-nil}
use Rattle.annex_tables.specs.declared.types.Limits.{Limits}
use Rattle.hall_limits.specs.declared.TheConstants.{MAX_TARE, MAX_LANE}
use Rattle.pack_judge.specs.declared.types.Pile.{Pile}
use Rattle.pack_judge.specs.declared.types.Signal.{Signal}
use Rattle.pack_judge.specs.declared.tares.Span.{Span}
use Rattle.tare_register.specs.Tares.{entry_of, DecidesWithin}
use Rattle.batch_sums.specs.declared.types.Pack.{Pack}
use Rattle.batch_sums.specs.Totals.{Terms}
use Rattle.batch_sums.specs.Changes.{corrected, is_concerned, IsUpTo}
use Rattle.book_words.specs.declared.name.Name.{Name}
use Rattle.book_words.specs.declared.act.Act.{Act}
use Rattle.book_words.specs.declared.act.Act.TheVariants.{NewDay, PutProduct, PutTare, OpenBatch, StartLane, EndRun, Measure, Close}
use Rattle.book_words.specs.declared.act.Entry.{Entry}
use Rattle.book_words.specs.declared.act.Reading.{Reading}
use Rattle.book_words.specs.Acts.{prior_told, is_void_of, batch_opened, nominal_put, unit_put, product_given, density_given, nominal_of, unit_of, product_of, density_of}
use Rattle.book_words.specs.Order.{product_number}
use Rattle.book_words.specs.Readings.{readings, weighed_reading, tare_of_reading}
use Rattle.book_words.specs.Population.{settled_pile}
use Rattle.book_words.specs.Samples.{is_sampled}
use Rattle.book_words.specs.Piles.{pile_of, pile_with_sample}
use Rattle.book_words.proofs.NameLemmas.{same_name_itself}
use Rattle.book_words.proofs.LastSaid.{last_said-push}
use Rattle.book_words.proofs.OneMoreEntry.{advance}
use Rattle.book_packs.specs.Stand.{Standing, IsPacksOf, tares_in, terms_of_batch, opened_terms, pack_of, packs_in, unsettled_in}
use Rattle.book_packs.specs.Entering.{IsNext, IsTarePut, IsOpening, leaves_packs}
use Rattle.book_packs.proofs.Lists.{map-map, map-within, all_then}
use Rattle.book_words.proofs.AllowedActs.{IsAllowed, allowed, put_tare_tells}
use Rattle.book_packs.proofs.KeptNumbers.{product_keeps}
use Rattle.book_packs.proofs.Known.{Known, known_of, IsWeighed, tare_named, is_there, up_to}
use Rattle.book_packs.proofs.ReadingTares.{own_entry_is, reading_retared}
use Rattle.book_packs.proofs.Lone.{number_kept}
use Rattle.book_packs.proofs.SampleNumbers.{is_draw, sampled_stays}
use Rattle.book_packs.proofs.StandingTerms.{built, tares_keep, batches-push, batches_keep, packs-push, pack_kept, pack_tared}
use Rattle.book_words.proofs.PlainLemmas.{or_none}
use Rattle.std.proofs.Math.Bool.{or-false}

-- an act that weighs, stops, voids and draws nothing
pub record IsStill (act : Act) : Type 0 where
  pub told : (lane : ℕ) → prior_told lane act ≡ None
  pub voids : (number : ℕ) → is_void_of number act ≡ false
  pub draws : is_draw act ≡ false
  pub own : (number : ℕ) (before : List Entry) (signal : Option Signal)
      → weighed_reading number before act signal [] ≡ None

pub tare_still : (name : Name) (day tare : ℤ) → IsStill (PutTare name day tare)
tare_still name day tare = record {
  told = λ lane. refl;
  voids = λ number. refl;
  draws = refl;
  own =
      λ number before signal. refl;
}

pub opening_still : (batch name : Name) (density : ℕ) → IsStill (OpenBatch batch name density)
opening_still batch name density =
    record {
      told = λ lane. refl;
      voids = λ number. refl;
      draws = refl;
      own =
          λ number before signal. refl;
    }

record Quiet (act : Act) : Type 0 where
  still : IsStill act
  tares : tare_named act ≡ None
  opens : batch_opened act ≡ None

quiet : (act : Act) → leaves_packs act ≡ true → Quiet act
quiet (NewDay day) h = record {
  still =
      record {
        told = λ lane. refl;
        voids = λ number. refl;
        draws = refl;
        own =
            λ number before signal. refl;
      };
  tares = refl;
  opens = refl;
}
quiet (PutProduct name nominal unit) h =
    record {
      still = record {
        told = λ lane. refl;
        voids = λ number. refl;
        draws = refl;
        own =
            λ number before signal. refl;
      };
      tares = refl;
      opens = refl;
    }
quiet (StartLane lane name) h =
    record {
      still = record {
        told = λ lane. refl;
        voids = λ number. refl;
        draws = refl;
        own =
            λ number before signal. refl;
      };
      tares = refl;
      opens = refl;
    }
quiet (EndRun name) h = record {
  still = record {
    told = λ lane. refl;
    voids = λ number. refl;
    draws = refl;
    own =
        λ number before signal. refl;
  };
  tares = refl;
  opens = refl;
}
quiet (Measure pack gross empty) h =
    record {
      still = record {
        told = λ lane. refl;
        voids = λ number. refl;
        draws = refl;
        own =
            λ number before signal. refl;
      };
      tares = refl;
      opens = refl;
    }
quiet (Close name) h = record {
  still =
      record {
        told = λ lane. refl;
        voids = λ number. refl;
        draws = refl;
        own =
            λ number before signal. refl;
      };
  tares = refl;
  opens = refl;
}
quiet act h = absurd (cc)

module _ (entries : List Entry) (entry : Entry) (still : IsStill entry.act) where
  pub pile_still : (reading : Reading)
      → pile_of (entries ++ entry ∷ []) (advance entry.act reading) ≡ pile_of entries reading
  pile_still reading =
      ap (λ b. pile_with_sample (settled_pile
      (reading.voided || is_void_of reading.number entry.act) reading.signal
      (option_or reading.next_prior (prior_told reading.lane entry.act))) b)
      (sampled_stays entries entry (advance entry.act reading) reading still.draws refl refl)
      ∙ ap (λ b. pile_with_sample (settled_pile (reading.voided || b) reading.signal
      (option_or reading.next_prior (prior_told reading.lane entry.act)))
      (is_sampled entries reading)) (still.voids reading.number)
      ∙ ap (λ b. pile_with_sample (settled_pile b reading.signal
      (option_or reading.next_prior (prior_told reading.lane entry.act)))
      (is_sampled entries reading)) (or-false reading.voided)
      ∙ ap (λ o. pile_with_sample (settled_pile reading.voided reading.signal
      (option_or reading.next_prior o)) (is_sampled entries reading)) (still.told reading.lane)
      ∙ ap (λ o. pile_with_sample (settled_pile reading.voided reading.signal o)
      (is_sampled entries reading)) (or_none reading.next_prior)

  pub unsettled_still : unsettled_in (entries ++ entry ∷ []) ≡ unsettled_in entries
  unsettled_still = ap (λ (f : ℕ → Option ℕ). map f (range_with_len 1 MAX_LANE))
      (λ i lane. number_kept entries entry lane (ap is_none (still.told lane)) i)

  module _ (known : Known entries) (rules : IsAllowed entries entry.act) where
    pub packs_still : packs_in (entries ++ entry ∷ [])
        ≡ map (λ reading. pack_of (entries ++ entry ∷ []) (advance entry.act reading))
        (readings entries)
    packs_still =
        packs-push entries entry known rules
        ∙ ap (λ o. map (λ reading. pack_of (entries ++ entry ∷ []) (advance entry.act reading))
        (readings entries) ++ map (pack_of (entries ++ entry ∷ [])) (cons_option o []))
        (still.own (length entries + 1) entries entry.signal)
        ∙ append-nil _

    pub packs_keep : tare_named entry.act ≡ None → packs_in (entries ++ entry ∷ []) ≡ packs_in entries
    packs_keep h =
        packs_still
        ∙ map-within (λ reading. pack_of (entries ++ entry ∷ []) (advance entry.act reading))
        (pack_of entries) (readings entries)
        (all_then (λ reading w. pack_kept entries entry known rules h reading w
        ∙ ap (λ (p : Pile). record (pack_of entries reading) { pile = p }) (pile_still reading))
        (readings entries) known.weighed)

-- acts that leave the packs as they are
pub quiet-push : (entries : List Entry) (entry : Entry) (kept : Standing) → IsNext entries entry
    → leaves_packs entry.act ≡ true → IsPacksOf entries kept
    → IsPacksOf (entries ++ entry ∷ []) kept
quiet-push entries entry kept next leaves stands =
    let known = known_of entries next.legal in
    let rules = allowed entries entry next.lawful in
    let act = quiet entry.act leaves in
    record {
      tares = stands.tares ∙ sym (tares_keep entries entry known act.tares);
      batches = stands.batches ∙ sym (batches_keep entries entry known rules act.opens);
      packs = stands.packs ∙ sym (packs_keep entries entry act.still known rules act.tares);
      unsettled = stands.unsettled ∙ sym (unsettled_still entries entry act.still);
    }

-- ---- a batch that is opened

pub opening-push : (entries : List Entry) (entry : Entry) (product : ℕ) (limits : Limits)
    (old new : Standing) → IsOpening entries entry product limits → IsPacksOf entries old
    → new.tares ≡ old.tares → new.batches ≡ old.batches
    ++ record { product = product; limits = limits } ∷ [] → new.packs ≡ old.packs
    → new.unsettled ≡ old.unsettled → IsPacksOf (entries ++ entry ∷ []) new
opening-push entries entry product limits old new is stands tares batches packs unsettled =
    let known = known_of entries is.next.legal in
    let rules = allowed entries entry is.next.lawful in
    let still : IsStill entry.act =
    subst IsStill (sym is.act) (opening_still is.batch is.name is.density) in
    record {
      tares = tares ∙ stands.tares ∙ sym (tares_keep entries entry known (ap tare_named is.act));
      batches =
          batches ∙ ap (λ (some : List Terms). some ++ record { product = product; limits = limits }
          ∷ []) stands.batches
          ∙ ap (λ (terms : Terms). opened_terms entries ++ terms ∷ []) (sym own)
          ∙ sym (batches-push entries entry known rules
          ∙ ap (λ o. opened_terms entries
          ++ map (terms_of_batch (entries ++ entry ∷ [])) (cons_option o []))
          (ap batch_opened is.act));
      packs = packs ∙ stands.packs ∙ sym
          (packs_keep entries entry still known rules (ap tare_named is.act));
      unsettled = unsettled ∙ stands.unsettled ∙ sym (unsettled_still entries entry still);
    }
  where
    all : List Entry
    all = entries ++ entry ∷ []

    of_product : product_of (entries ++ entry ∷ []) is.batch ≡ Some is.name
    of_product =
        last_said-push (product_given is.batch) entries entry
        ∙ ap (λ a. option_or (product_given is.batch a) (product_of entries is.batch)) is.act
        ∙ ap (λ b. option_or (cond b (Some is.name) None) (product_of entries is.batch))
        (same_name_itself is.batch)

    dense : density_of (entries ++ entry ∷ []) is.batch ≡ Some is.density
    dense =
        last_said-push (density_given is.batch) entries entry
        ∙ ap (λ a. option_or (density_given is.batch a) (density_of entries is.batch)) is.act
        ∙ ap (λ b. option_or (cond b (Some is.density) None) (density_of entries is.batch))
        (same_name_itself is.batch)

    numbered : option_and_then (product_number (entries ++ entry ∷ []))
        (product_of (entries ++ entry ∷ []) is.batch) ≡ Some product
    numbered = ap (option_and_then (product_number (entries ++ entry ∷ []))) of_product
        ∙ product_keeps entries entry is.name (is_there is.number) ∙ is.number

    nominal : option_and_then (nominal_of (entries ++ entry ∷ []))
        (product_of (entries ++ entry ∷ []) is.batch) ≡ nominal_of entries is.name
    nominal =
        ap (option_and_then (nominal_of (entries ++ entry ∷ []))) of_product
        ∙ last_said-push (nominal_put is.name) entries entry
        ∙ ap (λ a. option_or (nominal_put is.name a) (nominal_of entries is.name)) is.act

    unit : option_and_then (unit_of (entries ++ entry ∷ []))
        (product_of (entries ++ entry ∷ []) is.batch) ≡ unit_of entries is.name
    unit =
        ap (option_and_then (unit_of (entries ++ entry ∷ []))) of_product
        ∙ last_said-push (unit_put is.name) entries entry
        ∙ ap (λ a. option_or (unit_put is.name a) (unit_of entries is.name)) is.act

    own : terms_of_batch (entries ++ entry ∷ []) is.batch ≡ record { product = product; limits = limits }
    own = parts ∙ ap (λ (l : Limits). record { product = product; limits = l }) (sym is.limited)
      where
        parts : terms_of_batch (entries ++ entry ∷ []) is.batch
            ≡ built (Some product) (nominal_of entries is.name) (unit_of entries is.name)
            (Some is.density)
        parts i = built (numbered i) (nominal i) (unit i) (dense i)

-- ---- a tare that is put

unwrapped : (b : Bool) (tare : ℤ) (o : Option ℤ)
    → unwrap_or (cond b (Some tare) o) (pos 0) ≡ cond b tare (unwrap_or o (pos 0))
unwrapped true tare o = refl
unwrapped false tare o = refl

retared : (b : Bool) (tare other : ℤ) (p : Pack) → p.tare ≡ other
    → cond b (record p { tare = tare }) p ≡ record p { tare = cond b tare other }
retared true tare other p h = refl
retared false tare other p h = ap (λ (t : ℤ). record p { tare = t }) h

module _ (entries : List Entry) (entry : Entry) (product : ℕ) (day tare : ℤ) (span : Span)
    (is : IsTarePut entries entry product day tare)
    (decides : DecidesWithin span (tares_in entries) product day) where
  known : Known entries
  known = known_of entries is.next.legal

  rules : IsAllowed entries entry.act
  rules = allowed entries entry is.next.lawful

  own_entry : tares_in (entries ++ entry ∷ []) ≡ tares_in entries ++ entry_of product day tare ∷ []
  own_entry = own_entry_is entries entry known product day tare span is.name is.act is.number decides

  reading_tare : (reading : Reading) → IsWeighed entries reading
      → unwrap_or (tare_of_reading (entries ++ entry ∷ []) reading.batch reading.day) (pos 0)
      ≡ cond (is_concerned (opened_terms entries) product span (pack_of entries reading)) tare
      (pack_of entries reading).tare
  reading_tare reading w =
      ap (λ o. unwrap_or o (pos 0)) (reading_retared entries entry known product day tare span
      is.name is.act is.number decides reading w)
      ∙ unwrapped (is_concerned (opened_terms entries) product span (pack_of entries reading)) tare
      (tare_of_reading entries reading.batch reading.day)

  still : IsStill entry.act
  still = subst IsStill (sym is.act) (tare_still is.name day tare)

  corrected_is : corrected (opened_terms entries) product span tare (packs_in entries)
      ≡ packs_in (entries ++ entry ∷ [])
  corrected_is =
      map-map (λ (pack : Pack). cond (is_concerned (opened_terms entries) product span pack)
      (record pack { tare = tare }) pack) (pack_of entries) (readings entries)
      ∙ map-within
      (λ reading. cond (is_concerned (opened_terms entries) product span
      (pack_of entries reading)) (record (pack_of entries reading) { tare = tare })
      (pack_of entries reading))
      (λ reading. pack_of (entries ++ entry ∷ []) (advance entry.act reading)) (readings entries)
      (all_then each (readings entries) known.weighed)
      ∙ sym (packs_still entries entry still known rules)
    where
      each : (reading : Reading) → IsWeighed entries reading
          → cond (is_concerned (opened_terms entries) product span (pack_of entries reading))
          (record (pack_of entries reading) { tare = tare }) (pack_of entries reading)
          ≡ pack_of (entries ++ entry ∷ []) (advance entry.act reading)
      each reading w =
          retared (is_concerned (opened_terms entries) product span (pack_of entries reading)) tare
          (pack_of entries reading).tare (pack_of entries reading) refl
          ∙ ap (λ (t : ℤ). record (pack_of entries reading) { tare = t }) (sym (reading_tare reading w))
          ∙ ap (λ (p : Pile). record (pack_of entries reading) {
            tare = unwrap_or (tare_of_reading (entries ++ entry ∷ []) reading.batch reading.day)
                (pos 0);
            pile = p;
          }) (sym (pile_still entries entry still reading))
          ∙ sym (pack_tared entries entry known rules reading w)

  pub tare-push : (old new : Standing) → IsPacksOf entries old
      → new.tares ≡ old.tares ++ entry_of product day tare ∷ [] → new.batches ≡ old.batches
      → new.packs ≡ corrected old.batches product span tare old.packs
      → new.unsettled ≡ old.unsettled → IsPacksOf (entries ++ entry ∷ []) new
  tare-push old new stands tares batches packs unsettled =
      record {
        tares = tares ∙ ap (λ some. some ++ entry_of product day tare ∷ []) stands.tares ∙ sym own_entry;
        batches = batches ∙ stands.batches
            ∙ sym (batches_keep entries entry known rules (ap batch_opened is.act));
        packs = packs ∙ ap (λ some. corrected some product span tare old.packs) stands.batches
            ∙ ap (corrected (opened_terms entries) product span tare) stands.packs ∙ corrected_is;
        unsettled = unsettled ∙ stands.unsettled ∙ sym (unsettled_still entries entry still);
      }

pub tare_within : (entries : List Entry) (entry : Entry) (product : ℕ) (day tare : ℤ)
    → IsTarePut entries entry product day tare → IsUpTo MAX_TARE tare
tare_within entries entry product day tare is =
    up_to MAX_TARE tare (put_tare_tells entries is.name day tare
    (subst (IsAllowed entries) is.act (allowed entries entry is.next.lawful))).range
