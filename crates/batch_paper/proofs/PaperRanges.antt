-- The masses and days of a written paper are within the limits of the book.
use Rattle.std.proofs.Common.{◌≡◌, ℕ, ℤ, pos, int_le, true, ◌&&◌, List, map, Option, Some, None, IfSome, is_some, option_map, refl, sym, subst, arith}
use Rattle.std.proofs.lemmas.Bool.{and_from}
use Rattle.std.proofs.lemmas.Int.{ints}
use Rattle.std.proofs.lemmas.List.Elements.{All-filter, All-map, All-weaker}
use Rattle.std.proofs.lemmas.List.Filters.{All-dedup}
use Rattle.std.specs.Ordering.{int_eq}
use Rattle.std.specs.List.{All, AllPass}
use Rattle.std.specs.Option.{option_and_then, option_map_or, unwrap_or}
use Rattle.annex_tables.specs.declared.TheConstants.{MIN_NOMINAL, MAX_NOMINAL}
use Rattle.hall_limits.specs.declared.TheConstants.{MAX_DAY, MAX_GROSS, MAX_TARE}
use Rattle.annex_tables.specs.declared.types.Mode.{Mode}
use Rattle.annex_tables.specs.declared.types.Mode.TheVariants.{Keep, Destroy}
use Rattle.book_words.specs.declared.name.Name.{Name}
use Rattle.book_words.specs.declared.act.Entry.{Entry}
use Rattle.book_words.specs.declared.act.Reading.{Reading}
use Rattle.book_words.specs.Acts.{nominal_of, product_of}
use Rattle.book_words.specs.Readings.{readings, is_of_batch, tare_of_batch}
use Rattle.book_words.specs.Classes.{nominal_of_batch}
use Rattle.book_words.specs.Population.{is_counted, population}
use Rattle.book_words.specs.Measures.{Measured, measured_of}
use Rattle.book_words.specs.Ranges.{IsBetween}
use Rattle.book_words.specs.Refusals.{is_within}
use Rattle.book_words.specs.Answers.{IsLegal}
use Rattle.book_laws.proofs.RangeLaws.{nominal_within, tare_within, measured_within}
use Rattle.book_laws.proofs.TareLaws.{tared_of}
use Rattle.paper_form.specs.declared.types.Pack as packs
use Rattle.paper_form.specs.Papers.{is_tare_in_range, is_weighed_in_range}
use Rattle.batch_paper.specs.Ranges.{is_nominal_right, is_pack_right, is_pick_weighed}
use Rattle.batch_paper.specs.Written.{goods_of, reading_pack, packs_of, tare_for, days_of, weighed_of, pick_of}
use Rattle.batch_paper.proofs.DayOrder.{day_on, IsFit, each_fits}

within : (least most x : ℤ) → IsBetween least most x → is_within least most x ≡ true
within least most x h =
    let low : int_le least x ≡ true = grind (arith, ints, h.0) in
    let high : int_le x most ≡ true = grind (arith, ints, h.1) in
    and_from (int_le least x) (int_le x most) low high

-- ---- the goods

there : {A : Type 0} (P : A → Type 0) (o : Option A) (d : A) → is_some o ≡ true → IfSome o P
    → P (unwrap_or o d)
there P None d is h = absurd (cc)
there P (Some x) d is h = h

pub nominal_right : (entries : List Entry) (batch product : Name) → IsLegal entries
    → product_of entries batch ≡ Some product
    → is_nominal_right (goods_of entries batch product) ≡ true
nominal_right entries batch product legal known =
    within MIN_NOMINAL MAX_NOMINAL (nominal_of_batch entries batch)
    (subst (λ (o : Option Name). IsBetween MIN_NOMINAL MAX_NOMINAL
    (unwrap_or (option_and_then (nominal_of entries) o) (pos 0))) (sym known)
    (there (IsBetween MIN_NOMINAL MAX_NOMINAL) (nominal_of entries product) (pos 0)
    ((tared_of entries legal).products batch product known) (nominal_within entries product legal)))

-- ---- the packs

pub each_fit : (entries : List Entry) (batch : Name) → IsLegal entries
    → All IsFit (population entries batch)
each_fit entries batch legal =
    All-filter (λ (r : Reading). is_of_batch batch r && is_counted r) IsFit (readings entries)
    (each_fits entries legal)

pub packs_right : (entries : List Entry) (batch : Name) → IsLegal entries
    → AllPass is_pack_right (packs_of entries batch)
packs_right entries batch legal =
    All-map (λ (p : packs.Pack). is_pack_right p ≡ true) reading_pack (population entries batch)
    (All-weaker IsFit
    (λ (r : Reading). is_pack_right (reading_pack r) ≡ true) (λ r fit. and_from _ _ fit.0 fit.1)
    (population entries batch)
    (each_fit entries batch legal))

-- ---- the tares

no_tare : (o : Option ℤ) → IfSome o (IsBetween (pos 0) MAX_TARE)
    → IsBetween (pos 0) MAX_TARE (unwrap_or o (pos 0))
no_tare None h = (grind (arith, ints), grind (arith, ints))
no_tare (Some tare) h = h

-- a day is within the limits
abbrev IsFitDay : ℤ → Type 0
IsFitDay day = is_within (pos 0) MAX_DAY day ≡ true

tare_fits : (entries : List Entry) (batch : Name) (day : ℤ) → IsLegal entries → IsFitDay day
    → is_tare_in_range (tare_for entries batch day) ≡ true
tare_fits entries batch day legal fit =
    and_from (is_within (pos 0) MAX_DAY day)
    (is_within (pos 0) MAX_TARE (unwrap_or (tare_of_batch entries batch day) (pos 0))) fit
    (within (pos 0) MAX_TARE (unwrap_or (tare_of_batch entries batch day) (pos 0))
    (no_tare (tare_of_batch entries batch day) (tare_within entries (Some batch) (Some day) legal)))

pub tares_fit : (entries : List Entry) (batch : Name) → IsLegal entries
    → AllPass
    (λ day. is_tare_in_range (tare_for entries batch day)) (days_of (packs_of entries batch))
tares_fit entries batch legal =
    All-weaker IsFitDay (λ (day : ℤ). is_tare_in_range (tare_for entries batch day) ≡ true)
    (λ day fit. tare_fits entries batch day legal fit) (days_of (packs_of entries batch))
    (All-dedup int_eq IsFitDay (map (λ (p : packs.Pack). p.day) (packs_of entries batch))
    (All-map IsFitDay (λ (p : packs.Pack). p.day) (packs_of entries batch)
    (All-map (λ (p : packs.Pack). IsFitDay p.day) reading_pack (population entries batch)
    (All-weaker IsFit
    (λ (r : Reading). IsFitDay (day_on r)) (λ r fit. fit.0) (population entries batch)
    (each_fit entries batch legal)))))

-- ---- what was measured

pub pick_right : (entries : List Entry) (mode : Mode) (pack : ℕ) → IsLegal entries
    → is_pick_weighed (pick_of entries mode pack) ≡ true
pick_right entries mode pack legal = each mode (measured_of entries pack)
    (measured_within entries pack legal)
  where
    each : (m : Mode) (o : Option Measured) → IfSome o
        (λ measured. IsBetween (pos 0) MAX_GROSS measured.gross × IsBetween
        (pos 0) MAX_TARE measured.empty)
        → option_map_or is_weighed_in_range (option_map (weighed_of m) o) true ≡ true
    each m None h = refl
    each Keep (Some w) h = and_from (is_within (pos 0) MAX_GROSS w.gross)
        (is_within (pos 0) MAX_TARE (pos 0))
        (within (pos 0) MAX_GROSS w.gross h.0) refl
    each Destroy (Some w) h = and_from (is_within (pos 0) MAX_GROSS w.gross)
        (is_within (pos 0) MAX_TARE w.empty)
        (within (pos 0) MAX_GROSS w.gross h.0) (within (pos 0) MAX_TARE w.empty h.1)

pub picks_weighed : (entries : List Entry) (mode : Mode) (some : List ℕ) → IsLegal entries
    → AllPass (λ pack. is_pick_weighed (pick_of entries mode pack)) some
picks_weighed entries mode some legal k d less = pick_right entries mode _ legal
