-- What the list says of a closed batch has the form of a paper.
use Rattle.std.proofs.Common.{◌≡◌, ℕ, ℤ, pos, negsuc, unsigned_abs, ◌+◌, ◌≤◌, ◌<◌, ◌≤ℤ◌, nat_le, nat_lt, Bool, true, false, ◌&&◌, ◌==◌, cond, inl, inr, List, [], ◌∷◌, length, map, Option, Some, None, is_some, option_map, refl, sym, ◌∙◌, ap, subst, arith}
use Rattle.std.proofs.lemmas.Bool.{and_from, cases_Bool, eqb-true, eqb-false}
use Rattle.std.proofs.lemmas.Bool.Decides.{Decides-int_eq, nat_tests}
use Rattle.std.proofs.lemmas.Int.{ints}
use Rattle.std.proofs.lemmas.List.{length-map}
use Rattle.std.proofs.lemmas.List.Elements.{All-nil, All-cons, All-head, All-tail, All-map, All-weaker}
use Rattle.std.specs.Ordering.{int_eq}
use Rattle.std.specs.List.{All, AllPass, dedup, dedup_from, list_all, position_or_len}
use Rattle.std.specs.List.Sorted.{IsStrictlyIncreasing}
use Rattle.std.specs.Option.{option_and_then, option_map_or, unwrap_or}
use Rattle.annex_tables.specs.declared.TheConstants.{MAX_POPULATION}
use Rattle.hall_limits.specs.declared.TheConstants.{MAX_ROWS, MAX_DAY, MAX_GROSS}
use Rattle.annex_tables.specs.declared.types.Mode.{Mode}
use Rattle.annex_tables.specs.declared.types.Mode.TheVariants.{Keep, Destroy}
use Rattle.pack_judge.specs.declared.tares.DatedTare.{DatedTare}
use Rattle.book_words.specs.declared.name.Name.{Name}
use Rattle.book_words.specs.declared.act.Unit as units
use Rattle.book_words.specs.declared.act.Unit.TheVariants.{Mass, Volume}
use Rattle.book_words.specs.declared.act.BatchState.TheVariants.{Closed}
use Rattle.book_words.specs.declared.act.Entry.{Entry}
use Rattle.book_words.specs.declared.act.Reading.{Reading}
use Rattle.book_words.specs.Acts.{unit_of, product_of, density_of, state_of}
use Rattle.book_words.specs.Readings.{readings, is_of_batch}
use Rattle.book_words.specs.Classes.{density_by_unit, density_of_batch}
use Rattle.book_words.specs.Population.{is_counted, population}
use Rattle.book_words.specs.Samples.{Drawing, Sample, numbers_of, sample_of}
use Rattle.book_words.specs.Measures.{Measured, measured_of}
use Rattle.book_words.specs.Refusals.{is_within}
use Rattle.book_words.specs.Verdicts.{second_packs}
use Rattle.book_words.specs.Answers.{IsLegal}
use Rattle.book_words.proofs.DrawnPacks.{AscendWithin, ascend-wider, ascend-increasing, population_ascends}
use Rattle.book_words.proofs.LegalLemmas.{legal_few}
use Rattle.book_words.proofs.SaidTogether.{density_known}
use Rattle.book_laws.proofs.ReadingLaws.{IsOneOf, each_is_one, of_found, of_reading, numbers_increase}
use Rattle.book_laws.proofs.TareLaws.{tared_of}
use Rattle.book_state.proofs.PopulationLimits.{population_few}
use Rattle.book_verdicts.proofs.BatchFacts.{density_suits}
use Rattle.paper_form.specs.declared.types.Pack as packs
use Rattle.paper_form.specs.declared.types.Pick.{Pick}
use Rattle.paper_form.specs.Papers.{PaperData, is_row, is_density, are_goods_in_range, is_tare_in_range, is_pack_in_range, is_pick_in_range}
use Rattle.paper_form.specs.Form.{is_empty_right, is_pick_right}
use Rattle.paper_form.specs.Ranges.{IsListed}
use Rattle.batch_paper.specs.Ranges.{is_pick_weighed}
use Rattle.batch_paper.specs.Written.{is_close_of, closing_row, goods_of, reading_pack, packs_of, tare_for, days_of, tares_of, weighed_of, pick_of, draw_by, first_picks, second_picks, product_paper}
use Rattle.batch_paper.proofs.DayOrder.{day_on, RiseWithin, span, lower, rise-filter, last_day, days_rise, IsFit}
use Rattle.batch_paper.proofs.PaperNets.{of_mapped, both, IsCounted, pack_found}
use Rattle.batch_paper.proofs.PaperJudged.{twice_mapped}
use Rattle.batch_paper.proofs.PaperRanges.{each_fit, nominal_right, pick_right, tares_fit}
use Rattle.batch_paper.proofs.PaperForm.{batches_shaped, products_shaped, closing_within}
use Rattle.batch_paper.proofs.ClosedBatches.{first_counted, second_counted}

-- what holds of each holds of all
pub list_all_of : {A : Type 0} (test : A → Bool) (some : List A) → AllPass test some
    → list_all test some ≡ true
list_all_of test [] all = refl
list_all_of test (x ∷ some) all =
    and_from (test x) (list_all test some) (All-head (λ y. test y ≡ true) x some all)
    (list_all_of test some (All-tail (λ y. test y ≡ true) x some all))

-- ---- days

apart_by : (a b : ℤ) → int_eq a b ≡ false → (a ≡ b) → ⊥
apart_by a b f e = let wrong : false ≡ true = sym f ∙ (Decides-int_eq a b).1 e in cc

less : (a b : ℕ) → a ≤ b → ((b ≡ a) → ⊥) → a + 1 ≤ b
less a b x z = elim (cases_Bool (a == b)) [
  | inl t ↦ absurd (z (sym (eqb-true a b t)))
  | inr f ↦ (let other = eqb-false a b f in omega (arith, x, other))
]

above_of : (a b : ℤ) → pos 0 ≤ℤ a → a ≤ℤ b → ((b ≡ a) → ⊥) → unsigned_abs a + 1 ≤ unsigned_abs b
above_of (pos a) (pos b) x y z = less a b (let order : a ≤ b = grind (arith, ints, y) in order)
    (λ e. z (ap pos e))
above_of (pos a) (negsuc b) x y z = absurd (grind (arith, ints, y))
above_of (negsuc a) b x y z = absurd (grind (arith, ints, x))

-- days that don't fall ascend once each stands there once
days_ascend : (last most : ℤ) (some : List Reading) → pos 0 ≤ℤ last → RiseWithin last most some
    → AscendWithin (unsigned_abs last) (unsigned_abs most)
    (map unsigned_abs (dedup_from int_eq last (map day_on some)))
days_ascend last most [] low h = (
  omega arith,
  (let order : unsigned_abs last ≤ unsigned_abs most = grind (arith, ints, low, h) in order),
  tt,
)
days_ascend last most (r ∷ rs) low h =
    each (int_eq (day_on r) last) refl
    (λ here. days_ascend last most rs low here)
    (λ here. days_ascend (day_on r) most rs here h.1)
  where
    each : (b : Bool) → int_eq (day_on r) last ≡ b
        → (RiseWithin last most rs → AscendWithin (unsigned_abs last) (unsigned_abs most)
        (map unsigned_abs (dedup_from int_eq last (map day_on rs))))
        → (pos 0 ≤ℤ day_on r → AscendWithin (unsigned_abs (day_on r)) (unsigned_abs most)
        (map unsigned_abs (dedup_from int_eq (day_on r) (map day_on rs))))
        → AscendWithin (unsigned_abs last) (unsigned_abs most) (map unsigned_abs
        (cond b (dedup_from int_eq last (map day_on rs))
        (last ∷ dedup_from int_eq (day_on r) (map day_on rs))))
    each true is same next = same (lower (day_on r) last most rs h.0 h.1)
    each false is same next =
        let order : last ≤ℤ day_on r = h.0 in
        let top : day_on r ≤ℤ most = span (day_on r) most rs h.1 in
        let above : unsigned_abs last + 1 ≤ unsigned_abs (day_on r) =
        above_of last (day_on r) low order (apart_by (day_on r) last is) in
        let first : unsigned_abs last ≤ unsigned_abs most = grind (arith, ints, low, order, top) in
        let later : pos 0 ≤ℤ day_on r = grind (arith, ints, low, order) in (
          omega arith,
          first,
          ascend-wider (unsigned_abs (day_on r)) (unsigned_abs last + 1) (unsigned_abs most)
              (unsigned_abs most)
              (map unsigned_abs (dedup_from int_eq (day_on r) (map day_on rs))) above (omega arith)
              (next later),
        )

twice : (entries : List Entry) (batch : Name) (some : List ℤ)
    → map (λ (dated : DatedTare). unsigned_abs dated.day) (map (tare_for entries batch) some)
    ≡ map unsigned_abs some
twice entries batch [] = refl
twice entries batch (d ∷ some) = ap (λ ns. unsigned_abs d ∷ ns) (twice entries batch some)

pack_days : (some : List Reading)
    → map (λ (p : packs.Pack). p.day) (map reading_pack some) ≡ map day_on some
pack_days [] = refl
pack_days (r ∷ rs) = ap (λ ds. day_on r ∷ ds) (pack_days rs)

ascend_from : (most : ℤ) (some : List Reading) → RiseWithin (pos 0) most some
    → IsStrictlyIncreasing (map unsigned_abs (dedup int_eq (map day_on some)))
ascend_from most [] h = λ k inside. absurd (omega (arith, inside))
ascend_from most (r ∷ rs) h =
    ascend-increasing (unsigned_abs (day_on r)) (unsigned_abs most)
    (map unsigned_abs (dedup_from int_eq (day_on r) (map day_on rs)))
    (days_ascend (day_on r) most rs h.0 h.1)

-- each tare is for a later day than the one before it
pub tares_ascend : (entries : List Entry) (batch : Name) → IsLegal entries
    → IsStrictlyIncreasing
    (map (λ (dated : DatedTare). unsigned_abs dated.day) (tares_of entries batch))
tares_ascend entries batch legal =
    subst IsStrictlyIncreasing
    (sym (twice entries batch (days_of (packs_of entries batch))
    ∙ ap (λ (ds : List ℤ). map unsigned_abs (dedup int_eq ds))
    (pack_days (population entries batch))))
    (ascend_from (last_day entries) (population entries batch)
    (rise-filter (λ (r : Reading). is_of_batch batch r && is_counted r) (pos 0) (last_day entries)
    (readings entries) (days_rise entries legal).1))

-- ---- packs

-- each pack has a greater number than the one before it
pub packs_ascend : (entries : List Entry) (batch : Name)
    → IsStrictlyIncreasing (map (λ (pack : packs.Pack). pack.number) (packs_of entries batch))
packs_ascend entries batch =
    subst IsStrictlyIncreasing (sym (twice_mapped (population entries batch)))
    (numbers_increase entries (λ (r : Reading). is_of_batch batch r && is_counted r))

-- rows of the list are rows of a book
is_row_of : (n most : ℕ) → 1 ≤ n → n ≤ most → most ≤ MAX_ROWS → is_row n ≡ true
is_row_of n most low high few =
    let least : nat_le 1 n ≡ true = grind (arith, nat_tests, low) in
    let greatest : nat_le n MAX_ROWS ≡ true = grind (arith, nat_tests, high, few) in
    and_from (nat_le 1 n) (nat_le n MAX_ROWS) least greatest

above_least : (least most : ℕ) (ns : List ℕ) → AscendWithin least most ns
    → All (λ n. (least ≤ n) × (n ≤ most)) ns
above_least least most [] h = All-nil (λ n. (least ≤ n) × (n ≤ most))
above_least least most (n ∷ ns) h =
    All-cons (λ m. (least ≤ m) × (m ≤ most)) n ns (h.0, h.1)
    (All-weaker (λ m. (n + 1 ≤ m) × (m ≤ most)) (λ m. (least ≤ m) × (m ≤ most))
    (λ m at. let low = at.0 in let first = h.0 in (omega (arith, low, first), at.1)) ns
    (above_least (n + 1) most ns h.2))

-- the numbers of a population are rows
pub each_row : (entries : List Entry) (batch : Name) → IsLegal entries
    → All (λ (r : Reading). is_row r.number ≡ true) (population entries batch)
each_row entries batch legal =
    of_mapped (λ n. is_row n ≡ true) (λ (r : Reading). r.number) (population entries batch)
    (All-weaker (λ n. (1 ≤ n) × (n ≤ length entries)) (λ n. is_row n ≡ true)
    (λ n at. is_row_of n (length entries) at.0 at.1 (legal_few entries legal))
    (numbers_of (population entries batch))
    (above_least 1 (length entries) (numbers_of (population entries batch))
    (population_ascends entries batch)))

-- the packs are within the limits
pub packs_fit : (entries : List Entry) (batch : Name) → IsLegal entries
    → AllPass is_pack_in_range (packs_of entries batch)
packs_fit entries batch legal =
    All-map (λ (p : packs.Pack). is_pack_in_range p ≡ true) reading_pack (population entries batch)
    (All-weaker (λ (r : Reading). (is_row r.number ≡ true) × IsFit r)
    (λ (r : Reading). is_pack_in_range (reading_pack r) ≡ true)
    (λ r at. and_from (is_row r.number && is_within (pos 0) MAX_DAY (day_on r))
    (is_within (pos 0) MAX_GROSS r.gross)
    (and_from (is_row r.number) (is_within (pos 0) MAX_DAY (day_on r)) at.0 at.1.0) at.1.1)
    (population entries batch)
    (both (λ (r : Reading). is_row r.number ≡ true) IsFit (population entries batch)
    (each_row entries batch legal) (each_fit entries batch legal)))

-- ---- the goods

density_right : (entries : List Entry) (batch product : Name) → IsLegal entries
    → product_of entries batch ≡ Some product
    → is_density (unwrap_or (unit_of entries product) Mass) (density_of_batch entries batch) ≡ true
density_right entries batch product legal known =
    subst (λ (o : Option Name). is_density (unwrap_or (unit_of entries product) Mass)
    (density_by_unit (option_and_then (unit_of entries) o) (unwrap_or (density_of entries batch) 0))
    ≡ true)
    (sym known) (each (unit_of entries product) (density_of entries batch) refl refl)
  where
    each : (u : Option units.Unit) (d : Option ℕ) → unit_of entries product ≡ u
        → density_of entries batch ≡ d
        → is_density (unwrap_or u Mass) (density_by_unit u (unwrap_or d 0)) ≡ true
    each None d u_is d_is = refl
    each (Some Mass) d u_is d_is = refl
    each (Some Volume) (Some density) u_is d_is =
        density_suits entries legal batch product density Volume known d_is u_is
    each (Some Volume) None u_is d_is =
        absurd (let wrong : false ≡ true = sym (ap is_some d_is)
        ∙ density_known entries batch (ap is_some known) in cc)

row_right : (entries : List Entry) (batch : Name) → IsLegal entries
    → state_of entries batch ≡ Some Closed
    → is_row (closing_row entries batch) ≡ true
row_right entries batch legal closed =
    let place : ℕ = position_or_len (λ (e : Entry). is_close_of batch e.act) entries in
    let inside : place < length entries = closing_within entries batch legal closed in
    let found : nat_lt place (length entries) ≡ true = grind (arith, nat_tests, inside) in
    ap (λ b. is_row (option_map_or (λ n. n + 1) (cond b (Some place) None) 0)) found
    ∙ is_row_of (place + 1) (length entries) (omega arith) (omega (arith, inside))
    (legal_few entries legal)

pub goods_fit : (entries : List Entry) (batch product : Name) → IsLegal entries
    → state_of entries batch ≡ Some Closed → product_of entries batch ≡ Some product
    → are_goods_in_range (goods_of entries batch product) ≡ true
goods_fit entries batch product legal closed known =
    and_from _ _ (and_from _ _ (and_from _ _ (and_from _ _
    (batches_shaped entries legal batch (ap is_some known))
    (products_shaped entries legal product ((tared_of entries legal).products batch product known)))
    (nominal_right entries batch product legal known))
    (density_right entries batch product legal known))
    (row_right entries batch legal closed)

-- ---- the samples

pick_said : (entries : List Entry) (mode : Mode) (pack : ℕ) → IsLegal entries → is_row pack ≡ true
    → is_pick_in_range (pick_of entries mode pack) ≡ true
pick_said entries mode pack legal row =
    and_from (is_row pack) (is_pick_weighed (pick_of entries mode pack)) row
    (pick_right entries mode pack legal)

counted_row : (entries : List Entry) (batch : Name) (pack : ℕ) → IsLegal entries
    → IsCounted entries batch pack → is_row pack ≡ true
counted_row entries batch pack legal is =
    subst (λ n. is_row n ≡ true)
    (of_reading (IsOneOf entries) entries pack is.reading (each_is_one entries) is.found).0
    (of_found (λ (r : Reading). is_row r.number ≡ true) (λ (r : Reading). r.number == pack)
    (population entries batch) is.reading (each_row entries batch legal)
    (pack_found entries batch pack is)).1

pub picks_said : (entries : List Entry) (batch : Name) (mode : Mode) (some : List ℕ)
    → IsLegal entries
    → All (IsCounted entries batch) some
    → AllPass is_pick_in_range (map (pick_of entries mode) some)
picks_said entries batch mode some legal all =
    All-map (λ (pick : Pick). is_pick_in_range pick ≡ true) (pick_of entries mode) some
    (All-weaker (IsCounted entries batch)
    (λ pack. is_pick_in_range (pick_of entries mode pack) ≡ true)
    (λ pack is. pick_said entries mode pack legal (counted_row entries batch pack legal is)) some
    all)

-- where packs are kept nothing is said of an empty pack
empty_right : (entries : List Entry) (drawing : Drawing) (pack : ℕ)
    → is_pick_right (Some (draw_by drawing)) (pick_of entries drawing.mode pack) ≡ true
empty_right entries drawing pack = each drawing.mode (measured_of entries pack)
  where
    each : (mode : Mode) (o : Option Measured)
        → option_map_or (is_empty_right mode) (option_map (weighed_of mode) o) true ≡ true
    each mode None = refl
    each Keep (Some m) = refl
    each Destroy (Some m) = refl

pub empties_right : (entries : List Entry) (drawing : Drawing) (some : List ℕ)
    → AllPass (is_pick_right (Some (draw_by drawing))) (map (pick_of entries drawing.mode) some)
empties_right entries drawing some =
    All-map (λ (pick : Pick). is_pick_right (Some (draw_by drawing)) pick ≡ true)
    (pick_of entries drawing.mode)
    some (λ k d less. empty_right entries drawing _)

-- ---- the whole

module _ (entries : List Entry) (batch product : Name) (legal : IsLegal entries)
    (closed : state_of entries batch ≡ Some Closed)
    (known : product_of entries batch ≡ Some product) where
  abbrev paper : PaperData
  paper = product_paper entries batch product

  abbrev sampled : Option Sample
  sampled = sample_of entries batch

  first_fits : (o : Option Sample) → sampled ≡ o
      → AllPass is_pick_in_range (option_map_or (first_picks entries) o [])
  first_fits None is = All-nil (λ (pick : Pick). is_pick_in_range pick ≡ true)
  first_fits (Some sample) is = picks_said entries batch sample.mode sample.first legal
      (first_counted entries batch sample legal is)

  second_fits : (o : Option Sample) → sampled ≡ o
      → AllPass is_pick_in_range (option_map_or (second_picks entries) o [])
  second_fits None is = All-nil (λ (pick : Pick). is_pick_in_range pick ≡ true)
  second_fits (Some sample) is = picks_said entries batch sample.mode (second_packs sample) legal
      (second_counted entries batch sample legal is)

  -- what the paper of a closed batch says is within the limits and in order
  pub is_listed : IsListed paper
  is_listed =
      record {
        goods = goods_fit entries batch product legal closed known;
        tares = record {
          range = list_all_of is_tare_in_range (tares_of entries batch)
              (All-map (λ (dated : DatedTare). is_tare_in_range dated ≡ true)
              (tare_for entries batch)
              (days_of (packs_of entries batch)) (tares_fit entries batch legal));
          ascend = tares_ascend entries batch legal;
        };
        packs = record {
          range = list_all_of is_pack_in_range (packs_of entries batch)
              (packs_fit entries batch legal);
          ascend = packs_ascend entries batch;
          few = subst
              (λ n. n ≤ MAX_POPULATION) (sym (length-map (population entries batch) reading_pack))
              (population_few entries legal batch);
        };
        first = list_all_of is_pick_in_range (option_map_or (first_picks entries) sampled [])
            (first_fits sampled refl);
        second = list_all_of is_pick_in_range (option_map_or (second_picks entries) sampled [])
            (second_fits sampled refl);
      }
