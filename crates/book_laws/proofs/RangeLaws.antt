-- What a book tells is in range, and what it refuses with.
use Rattle.std.proofs.Common.{◌≡◌, ℕ, ℤ, pos, negsuc, neg_ℤ, inl, inr, unsigned_abs, zero, suc, ◌+◌, ◌-◌, ◌-ℤ◌, ◌*◌, ◌≤◌, ◌≤ℤ◌, ◌==◌, ◌&&◌, cond, if◌then◌else◌, length, take, drop, filter, nat_lt, map, slice_get, Result, Ok, Err, Bool, true, false, not, int_le, int_lt, List, [], ◌∷◌, ◌++◌, Option, Some, None, IfSome, is_none, option_map, subst, arith}
use Rattle.std.proofs.lemmas.Bool.{and_parts, cases_Bool}
use Rattle.std.proofs.lemmas.Bool.Decides.{nat_tests}
use Rattle.std.proofs.lemmas.Int.{ints}
use Rattle.std.specs.List.{AllByRecursion, find, last_or, list_any, filter_map, range_with_len, cons_option}
use Rattle.std.specs.Option.{option_or, option_and_then, unwrap_or}
use Rattle.annex_tables.specs.declared.TheConstants.{MIN_NOMINAL, MAX_NOMINAL}
use Rattle.hall_limits.specs.declared.TheConstants.{MAX_DAY, MAX_GROSS, MAX_TARE, MAX_ROWS}
use Rattle.annex_tables.specs.declared.types.Mode.{Mode}
use Rattle.annex_tables.specs.declared.types.Mode.TheVariants.{Keep, Destroy}
use Rattle.annex_tables.specs.Errors.{error_of, tolerable_error}
use Rattle.annex_tables.specs.Plans.{plan_of, keeping_plan}
use Rattle.sample_draw.specs.Draws.{packs_left}
use Rattle.sample_draw.proofs.DrawLemmas.{length-drawn}
use Rattle.pack_judge.specs.declared.tares.DatedTare.{DatedTare}
use Rattle.pack_judge.specs.Tares.{latest, dated_by}
use Rattle.pack_judge.specs.declared.types.Pile as piles
use Rattle.pack_judge.specs.declared.types.Pile.TheVariants.{Passed, Rejected, Sampled, Voided}
use Rattle.pack_judge.specs.declared.types.Signal.{Signal}
use Rattle.book_words.specs.declared.name.Name.{Name}
use Rattle.book_words.specs.declared.act.Prior.{Prior}
use Rattle.book_words.specs.declared.act.Prior.TheVariants.{Nothing, Opened, Stayed, Unknown}
use Rattle.book_words.specs.declared.act.Unit as units
use Rattle.book_words.specs.declared.act.BatchState as states
use Rattle.book_words.specs.declared.act.BatchState.TheVariants.{Running, Ended, Drawn}
use Rattle.book_words.specs.declared.act.Act.{Act}
use Rattle.book_words.specs.declared.act.Act.TheVariants.{NewDay, PutProduct, PutTare, OpenBatch, StartLane, Weigh, StopLane, Void, EndRun, Draw, Measure, DrawSecond, Close}
use Rattle.book_words.specs.declared.act.Ask.{Ask}
use Rattle.book_words.specs.declared.act.Entry.{Entry}
use Rattle.book_words.specs.declared.act.Reading.{Reading}
use Rattle.book_words.specs.declared.act.Want.{Want}
use Rattle.book_words.specs.declared.act.Want.TheVariants as want
use Rattle.book_words.specs.declared.act.Question.{Question}
use Rattle.book_words.specs.declared.act.Question.TheVariants.{Sheet, Pack, Lane, Sample, Summary, Rows, Shipment, Packs}
use Rattle.book_words.specs.declared.views.Sheet as sheets
use Rattle.book_words.specs.declared.views.PackView.{PackView}
use Rattle.book_words.specs.declared.views.TheConstants.{MAX_DRAWN, MAX_PAGE}
use Rattle.book_words.specs.declared.reply.Reply.{Reply}
use Rattle.book_words.specs.declared.reply.Reply.TheVariants.{SheetIs, PackIs, SampleIs, PacksAre}
use Rattle.book_words.specs.declared.reply.Answered.{Answered}
use Rattle.book_words.specs.declared.reply.Refused.{Refused}
use Rattle.book_words.specs.declared.refusal.Refusal.{Refusal}
use Rattle.book_words.specs.declared.refusal.Refusal.TheVariants as why
use Rattle.book_words.specs.Acts.{said, last_said, day_set, newest_day, nominal_put, nominal_of, unit_of, product_of, density_of, state_of, same_state, lane_batch}
use Rattle.book_words.specs.Names.{same_name}
use Rattle.book_words.specs.Tares.{tare_put, tares_put, tare_of_product}
use Rattle.book_words.specs.Readings.{readings, weighed_reading, placed_reading, reading_of, tare_of_batch, tare_of_reading, net_of_reading, is_of_batch}
use Rattle.book_words.specs.Classes.{nominal_of_batch}
use Rattle.book_words.specs.Population.{is_counted, is_unsettled, readings_of_batch, population, net_sum}
use Rattle.pack_judge.specs.Piles.{same_pile}
use Rattle.book_words.specs.Samples as samples
use Rattle.book_words.specs.Samples.{Drawing, drawing_of, first_picks, second_picks, sample_by, plan_of_drawing, plan_or_empty, second_word, numbers_of}
use Rattle.book_words.specs.Piles.{pile_of, in_pile, gross_sum, tally}
use Rattle.book_words.specs.Signals.{recorded_signal}
use Rattle.book_words.specs.Measures.{Measured, measured_by, measured_of, first_unmeasured}
use Rattle.book_words.specs.Verdicts.{second_packs, first_defective}
use Rattle.book_words.specs.Desks.{Row, is_desk_right, last_request, newest_row, repeated_row, same_act, desk_number}
use Rattle.book_words.specs.Refusals as rules
use Rattle.book_words.specs.Refusals.{refused_if, first_refusal, is_within, refusals_of, desk_refusals, refusal_of}
use Rattle.book_words.specs.Views.{sheet_record, sheet_of, pack_record, view_of_reading, pack_view, sample_view, summary, told_or, refused_or, question_told, numbers_after, packs_after}
use Rattle.book_words.specs.Answers.{reply_behind, judged_or_done, desk_answer, want_answer, question_answer, IsLegal}
use Rattle.book_words.specs.Soundness.{IsAnswer, IsRefusal}
use Rattle.book_words.specs.Ranges.{IsBetween, IsGrossInRange, IsSummaryInRange, IsSheetInRange, IsPackInRange, IsSampleInRange, IsReplyInRange, IsRefusalInRange, is_act_in_range, AllInRange}
use Rattle.book_words.proofs.LegalLemmas.{legal_in_range, legal_few}
use Rattle.book_words.specs.Ranges.{ArePacksInRange}
use Rattle.book_laws.proofs.PageLaws.{page_within, first_few}

-- ---- what holds of each of some things

module _ {A : Type 0} (P : A → Type 0) where
  either_has : (a b : Option A) → IfSome a P → IfSome b P → IfSome (option_or a b) P
  either_has None b h k = k
  either_has (Some x) b h k = h

  last_has : (o : Option A) (xs : List A) → IfSome o P → AllByRecursion P xs → IfSome (last_or o xs) P
  last_has o [] h all = h
  last_has o (x ∷ xs) h all = last_has (Some x) xs all.0 all.1

  found_has : (test : A → Bool) (xs : List A) → AllByRecursion P xs → IfSome (find test xs) P
  found_has test [] all = tt
  found_has test (x ∷ xs) all = either (test x) (found_has test xs all.1)
    where
      either : (b : Bool) → IfSome (find test xs) P → IfSome (cond b (Some x) (find test xs)) P
      either true h = all.0
      either false h = h

  kept_have : (test : A → Bool) (xs : List A) → AllByRecursion P xs → AllByRecursion P (filter test xs)
  kept_have test [] all = tt
  kept_have test (x ∷ xs) all = either (test x) (kept_have test xs all.1)
    where
      either : (b : Bool) → AllByRecursion P (filter test xs)
          → AllByRecursion P (cond b (x ∷ filter test xs) (filter test xs))
      either true kept = (all.0, kept)
      either false kept = kept

  with_first : (o : Option A) (xs : List A) → IfSome o P → AllByRecursion P xs
      → AllByRecursion P (cons_option o xs)
  with_first None xs h all = all
  with_first (Some x) xs h all = (h, all)

  taken_have : (n : ℕ) (xs : List A) → AllByRecursion P xs → AllByRecursion P (take n xs)
  taken_have zero xs all = tt
  taken_have (suc n) [] all = tt
  taken_have (suc n) (x ∷ xs) all = (all.0, taken_have n xs all.1)

  got_has : (xs : List A) (place : ℕ) → AllByRecursion P xs → IfSome (slice_get xs place) P
  got_has [] place all = tt
  got_has (x ∷ xs) zero all = all.0
  got_has (x ∷ xs) (suc place) all = got_has xs place all.1

  given_has : {B : Type 0} (f : B → Option A) (o : Option B) → ((x : B) → IfSome (f x) P)
      → IfSome (option_and_then f o) P
  given_has f None h = tt
  given_has f (Some x) h = h x

  where_has : (test : Bool) (x : A) → P x → IfSome (cond test (Some x) None) P
  where_has true x h = h
  where_has false x h = tt

-- what follows from what holds of a thing that is there
module _ {A B : Type 0} (Q : B → Type 0) (P : A → Type 0) where
  then_has : (f : B → Option A) (o : Option B) → IfSome o Q → ((x : B) → Q x → IfSome (f x) P)
      → IfSome (option_and_then f o) P
  then_has f None there h = tt
  then_has f (Some x) there h = h x there

  mapped_has : (f : B → A) (o : Option B) → IfSome o Q → ((x : B) → Q x → P (f x))
      → IfSome (option_map f o) P
  mapped_has f None there h = tt
  mapped_has f (Some x) there h = h x there

-- there are no more of some things that meet a test than there are
pub fewer : {A : Type 0} (test : A → Bool) (xs : List A) → length (filter test xs) ≤ length xs
fewer test [] = omega arith
fewer test (x ∷ xs) = either (test x) (fewer test xs)
  where
    either : (b : Bool) → length (filter test xs) ≤ length xs
        → length (cond b (x ∷ filter test xs) (filter test xs)) ≤ suc (length xs)
    either true h = omega (arith, h)
    either false h = omega (arith, h)

-- ---- the entries

abbrev IsFit : Entry → Type 0
IsFit entry = is_act_in_range entry.act ≡ true

all_fit : (entries : List Entry) → AllInRange entries → AllByRecursion IsFit entries
all_fit [] all = tt
all_fit (e ∷ es) all = (all 0 e (omega arith), all_fit es (λ k d inside. all (suc k) d (omega arith)))

-- what a test says of a range
pub within_limits : (least greatest x : ℤ) → is_within least greatest x ≡ true
    → IsBetween least greatest x
within_limits least greatest x h = let parts = and_parts (int_le least x) (int_le x greatest) h in
    (grind (arith, ints), grind (arith, ints))

-- what each fit act says of something has a property, so what the list says has it
module _ {A : Type 0} (P : A → Type 0) (says : Act → Option A)
    (each : (act : Act) → is_act_in_range act ≡ true → IfSome (says act) P) where
  said_have : (entries : List Entry) → AllByRecursion IsFit entries
      → AllByRecursion P (said says entries)
  said_have [] all = tt
  said_have (e ∷ es) all = with_first P (says e.act) (said says es) (each e.act all.0)
      (said_have es all.1)

  last_said_has : (entries : List Entry) → AllByRecursion IsFit entries
      → IfSome (last_said says entries) P
  last_said_has entries all = last_has P None (said says entries) tt (said_have entries all)

abbrev IsFitDay : ℤ → Type 0
IsFitDay day = IsBetween (pos 0) MAX_DAY day

abbrev IsFitGross : ℤ → Type 0
IsFitGross gross = IsBetween (pos 0) MAX_GROSS gross

abbrev IsFitTare : ℤ → Type 0
IsFitTare tare = IsBetween (pos 0) MAX_TARE tare

abbrev IsFitNominal : ℤ → Type 0
IsFitNominal nominal = IsBetween MIN_NOMINAL MAX_NOMINAL nominal

day_fits : (act : Act) → is_act_in_range act ≡ true → IfSome (day_set act) IsFitDay
day_fits (NewDay day) h = within_limits (pos 0) MAX_DAY day h
day_fits act h = tt

newest_fits : (entries : List Entry) → AllByRecursion IsFit entries
    → IfSome (newest_day entries) IsFitDay
newest_fits entries all = last_said_has IsFitDay day_set day_fits entries all

nominal_fits : (product : Name) (act : Act) → is_act_in_range act ≡ true
    → IfSome (nominal_put product act) IsFitNominal
nominal_fits product (PutProduct name nominal unit) h =
    where_has IsFitNominal (same_name name product) nominal
    (within_limits MIN_NOMINAL MAX_NOMINAL nominal h)
nominal_fits product act h = tt

nominal_known : (entries : List Entry) (product : Name) → AllByRecursion IsFit entries
    → IfSome (nominal_of entries product) IsFitNominal
nominal_known entries product all =
    last_said_has IsFitNominal (nominal_put product) (nominal_fits product) entries all

abbrev IsFitDated : DatedTare → Type 0
IsFitDated dated = IsFitTare dated.tare

tare_fits : (product : Name) (act : Act) → is_act_in_range act ≡ true
    → IfSome (tare_put product act) IsFitDated
tare_fits product (PutTare name day tare) h =
    let parts = and_parts (is_within (pos 0) MAX_DAY day) (is_within (pos 0) MAX_TARE tare) h in
    where_has IsFitDated (same_name name product) (record { day = day; tare = tare })
    (within_limits (pos 0) MAX_TARE tare parts.1)
tare_fits product act h = tt

latest_fits : (tares : List DatedTare) → AllByRecursion IsFitDated tares
    → IfSome (latest tares) IsFitDated
unfolding latest
latest_fits tares all = last_has IsFitDated None _ tt (kept_have IsFitDated _ tares all)

tare_known : (entries : List Entry) (product : Name) (day : ℤ) → AllByRecursion IsFit entries
    → IfSome (tare_of_product entries product day) IsFitTare
tare_known entries product day all =
    let tares = tares_put entries product in
    mapped_has IsFitDated IsFitTare (λ dated. dated.tare) (latest (dated_by tares day))
    (latest_fits (dated_by tares day)
    (kept_have IsFitDated _ tares (said_have IsFitDated (tare_put product)
    (tare_fits product) entries all)))
    (λ dated h. h)

tare_of_reading_fits : (entries : List Entry) (batch : Option Name) (day : Option ℤ)
    → AllByRecursion IsFit entries → IfSome (tare_of_reading entries batch day) IsFitTare
tare_of_reading_fits entries batch day all =
    given_has IsFitTare (λ (name : Name). option_and_then (tare_of_batch entries name) day) batch
    (λ name. given_has IsFitTare (tare_of_batch entries name) day
    (λ d. given_has IsFitTare (λ (product : Name). tare_of_product entries product d)
    (product_of entries name) (λ product. tare_known entries product d all)))

abbrev IsFitMeasured : Measured → Type 0
IsFitMeasured measured = IsFitGross measured.gross × IsFitTare measured.empty

measured_fits : (pack : ℕ) (act : Act) → is_act_in_range act ≡ true
    → IfSome (measured_by pack act) IsFitMeasured
measured_fits pack (Measure number gross empty) h =
    let parts = and_parts (is_within (pos 0) MAX_GROSS gross) (is_within (pos 0) MAX_TARE empty) h in
    where_has IsFitMeasured (number == pack) (record { gross = gross; empty = empty }) (
      within_limits (pos 0) MAX_GROSS gross parts.0,
      within_limits (pos 0) MAX_TARE empty parts.1,
    )
measured_fits pack act h = tt

-- ---- what a legal list says

legal_fit : (entries : List Entry) → IsLegal entries → AllByRecursion IsFit entries
legal_fit entries legal = all_fit entries (legal_in_range entries legal)

-- the nominal quantity of a product is one of Annex I
pub nominal_within : (entries : List Entry) (product : Name) → IsLegal entries
    → IfSome (nominal_of entries product) (IsBetween MIN_NOMINAL MAX_NOMINAL)
nominal_within entries product legal = nominal_known entries product (legal_fit entries legal)

-- a tare of a product is 0 to 5 kg
pub product_tare_within : (entries : List Entry) (product : Name) (day : ℤ) → IsLegal entries
    → IfSome (tare_of_product entries product day) (IsBetween (pos 0) MAX_TARE)
product_tare_within entries product day legal = tare_known entries product day (legal_fit entries legal)

-- so is that of a reading
pub tare_within : (entries : List Entry) (batch : Option Name) (day : Option ℤ) → IsLegal entries
    → IfSome (tare_of_reading entries batch day) (IsBetween (pos 0) MAX_TARE)
tare_within entries batch day legal = tare_of_reading_fits entries batch day (legal_fit entries legal)

-- what was measured of a pack: a gross of 0 to 30 kg, and an empty pack of 0 to 5 kg
pub measured_within : (entries : List Entry) (pack : ℕ) → IsLegal entries
    → IfSome (measured_of entries pack)
    (λ measured. IsBetween (pos 0) MAX_GROSS measured.gross
    × IsBetween (pos 0) MAX_TARE measured.empty)
measured_within entries pack legal =
    last_said_has IsFitMeasured (measured_by pack) (measured_fits pack) entries
    (legal_fit entries legal)

-- ---- the readings

-- the gross of a reading and its day are within their limits
abbrev IsFitReading : Reading → Type 0
IsFitReading reading = IsFitGross reading.gross × IfSome reading.day IsFitDay

reading_fits : (number : ℕ) (before : List Entry) (act : Act) (signal : Option Signal)
    (after : List Entry) → AllByRecursion IsFit before → is_act_in_range act ≡ true
    → IfSome (weighed_reading number before act signal after) IsFitReading
reading_fits number before (Weigh lane gross prior) signal after all h =
    (within_limits (pos 0) MAX_GROSS gross h, newest_fits before all)
reading_fits number before act signal after all h = tt

reading_at_fits : (entries : List Entry) (place : ℕ) → AllByRecursion IsFit entries
    → IfSome (placed_reading entries place) IsFitReading
reading_at_fits entries place all =
    then_has IsFit IsFitReading (λ (entry : Entry). weighed_reading (place + 1)
    (take place entries) entry.act entry.signal (drop (place + 1) entries))
    (slice_get entries place)
    (got_has IsFit entries place all)
    (λ entry h. reading_fits (place + 1) (take place entries) entry.act entry.signal
    (drop (place + 1) entries) (taken_have IsFit place entries all) h)

among_fit : (entries : List Entry) (from count : ℕ) → AllByRecursion IsFit entries
    → AllByRecursion IsFitReading (filter_map (placed_reading entries) (range_with_len from count))
among_fit entries from zero all = tt
among_fit entries from (suc count) all =
    with_first IsFitReading (placed_reading entries from) _ (reading_at_fits entries from all)
    (among_fit entries (from + 1) count all)

few_among : (entries : List Entry) (from count : ℕ)
    → length (filter_map (placed_reading entries) (range_with_len from count)) ≤ count
few_among entries from zero = omega arith
few_among entries from (suc count) =
    one_more (placed_reading entries from) (few_among entries (from + 1) count)
  where
    one_more : (o : Option Reading)
        → length (filter_map (placed_reading entries) (range_with_len (from + 1) count)) ≤ count
        → length (cons_option o (filter_map (placed_reading entries)
        (range_with_len (from + 1) count))) ≤ suc count
    one_more None h = omega (arith, h)
    one_more (Some reading) h = omega (arith, h)

-- some readings of a legal list: at most as many as a book has rows, each within its limits
record AreFit (some : List Reading) : Type 0 where
  few : length some ≤ MAX_ROWS
  each : AllByRecursion IsFitReading some

readings_fit : (entries : List Entry) → IsLegal entries → AreFit (readings entries)
readings_fit entries legal =
    let rows = legal_few entries legal in
    let less = few_among entries 0 (length entries) in
    record {
      few = omega (arith, less, rows);
      each =
          among_fit entries 0 (length entries) (legal_fit entries legal);
    }

some_fit : (test : Reading → Bool) (some : List Reading) → AreFit some → AreFit (filter test some)
some_fit test some fit =
    let all = fit.few in
    let less = fewer test some in
    record { few = omega (arith, less, all); each = kept_have IsFitReading test some fit.each }

sum_within : (some : List Reading) → AllByRecursion IsFitReading some → (pos 0 ≤ℤ gross_sum some)
    × (gross_sum some ≤ℤ pos (unsigned_abs MAX_GROSS * length some))
sum_within [] all = (omega (arith, ints), omega (arith, ints))
sum_within (reading ∷ some) all =
    let rest = sum_within some all.1 in
    (omega (arith, ints, rest.0, all.0.0.0), omega (arith, ints, rest.1, all.0.0.1))

tally_within : (some : List Reading) → AreFit some → IsGrossInRange (tally some)
tally_within some fit = let sum = sum_within some fit.each in let few = fit.few in
    (sum.0, omega (arith, ints, sum.1, few))

pile_within : (entries : List Entry) (pile : piles.Pile) (some : List Reading) → AreFit some
    → IsGrossInRange (tally (in_pile entries pile some))
pile_within entries pile some fit =
    tally_within (in_pile entries pile some)
    (some_fit (λ reading. same_pile (pile_of entries reading) pile) some fit)

-- a legal list has no more readings than a book has rows
pub readings_few : (entries : List Entry) → IsLegal entries → length (readings entries) ≤ MAX_ROWS
readings_few entries legal = (readings_fit entries legal).few

-- nor has a batch
pub batch_readings_few : (entries : List Entry) (batch : Name) → IsLegal entries
    → length (readings_of_batch entries batch) ≤ MAX_ROWS
batch_readings_few entries batch legal =
    (some_fit (is_of_batch batch) (readings entries) (readings_fit entries legal)).few

-- the sums of their piles are in range
pub piles_within : (entries : List Entry) (pile : piles.Pile) → IsLegal entries
    → IsGrossInRange (tally (in_pile entries pile (readings entries)))
piles_within entries pile legal =
    pile_within entries pile (readings entries) (readings_fit entries legal)

pub batch_piles_within : (entries : List Entry) (batch : Name) (pile : piles.Pile) → IsLegal entries
    → IsGrossInRange (tally (in_pile entries pile (readings_of_batch entries batch)))
batch_piles_within entries batch pile legal =
    pile_within entries pile (readings_of_batch entries batch)
    (some_fit (is_of_batch batch) (readings entries) (readings_fit entries legal))

-- ---- the nets

abbrev IsFitNet : ℤ → Type 0
IsFitNet net = IsBetween (neg_ℤ MAX_TARE) MAX_GROSS net

less_tare : (gross : ℤ) (tare : Option ℤ) → IsFitGross gross → IfSome tare IsFitTare
    → IsFitNet (gross -ℤ unwrap_or tare (pos 0))
less_tare gross None h k = (omega (arith, ints, h.0), omega (arith, ints, h.1))
less_tare gross (Some tare) h k = (omega (arith, ints, h.0, k.1), omega (arith, ints, h.1, k.0))

net_fits : (entries : List Entry) (reading : Reading) → AllByRecursion IsFit entries
    → IsFitReading reading → IsFitNet (net_of_reading entries reading)
net_fits entries reading all h =
    less_tare reading.gross (tare_of_reading entries reading.batch reading.day) h.0
    (tare_of_reading_fits entries reading.batch reading.day all)

nets_within : (entries : List Entry) (some : List Reading) → AllByRecursion IsFit entries
    → AllByRecursion IsFitReading some
    → IsBetween (neg_ℤ (pos (unsigned_abs MAX_TARE * length some)))
    (pos (unsigned_abs MAX_GROSS * length some)) (net_sum entries some)
nets_within entries [] all each = (omega (arith, ints), omega (arith, ints))
nets_within entries (reading ∷ some) all each =
    let rest = nets_within entries some all each.1 in
    let net = net_fits entries reading all each.0 in
    (omega (arith, ints, rest.0, net.0), omega (arith, ints, rest.1, net.1))

-- ---- what questions are told

error_within : (quantity : ℕ) → quantity ≤ unsigned_abs MAX_NOMINAL
    → error_of quantity ≤ unsigned_abs MAX_NOMINAL
error_within quantity h = grind (arith, nat_tests)

-- the error is within the range of nominal quantities
tne_within : (nominal : ℤ) → nominal ≤ℤ MAX_NOMINAL
    → IsBetween (pos 0) MAX_NOMINAL (tolerable_error nominal)
tne_within (pos quantity) h = let less = error_within quantity (omega (arith, ints, h)) in
    (omega (arith, ints), omega (arith, ints, less))
tne_within (negsuc n) h = (omega (arith, ints), omega (arith, ints))

nominal_of_batch_fits : (entries : List Entry) (batch : Name) → AllByRecursion IsFit entries
    → nominal_of_batch entries batch ≤ℤ MAX_NOMINAL
nominal_of_batch_fits entries batch all =
    or_none (option_and_then (nominal_of entries) (product_of entries batch))
    (given_has IsFitNominal (nominal_of entries) (product_of entries batch)
    (λ product. nominal_known entries product all))
  where
    or_none : (o : Option ℤ) → IfSome o IsFitNominal → unwrap_or o (pos 0) ≤ℤ MAX_NOMINAL
    or_none None h = omega (arith, ints)
    or_none (Some nominal) h = h.1

sheet_within : (entries : List Entry) (batch product : Name) (nominal : ℤ) (unit : units.Unit)
    (density : ℕ) (state : states.BatchState) → IsLegal entries → IsFitNominal nominal
    → IsSheetInRange (sheet_record entries batch product nominal unit density state)
sheet_within entries batch product nominal unit density state legal h =
    let fit = legal_fit entries legal in
    let own = some_fit (is_of_batch batch) (readings entries) (readings_fit entries legal) in
    let some = some_fit (λ reading. is_of_batch batch reading && is_counted reading)
    (readings entries) (readings_fit entries legal) in
    let nets = nets_within entries (population entries batch) fit some.each in
    let few = some.few in
    record {
      nominal = h;
      tne = tne_within (nominal_of_batch entries batch) (nominal_of_batch_fits entries batch fit);
      readings = tally_within (readings_of_batch entries batch) own;
      passed = pile_within entries Passed (readings_of_batch entries batch) own;
      rejected = pile_within entries Rejected (readings_of_batch entries batch) own;
      sampled = pile_within entries Sampled (readings_of_batch entries batch) own;
      voided = pile_within entries Voided (readings_of_batch entries batch) own;
      net = (omega (arith, ints, nets.0, few), omega (arith, ints, nets.1, few));
    }

sheet_of_within : (entries : List Entry) (batch : Name) → IsLegal entries
    → IfSome (sheet_of entries batch) IsSheetInRange
sheet_of_within entries batch legal =
    given_has IsSheetInRange (of_product) (product_of entries batch) (λ product.
    then_has IsFitNominal IsSheetInRange (of_nominal product) (nominal_of entries product)
    (nominal_known entries product (legal_fit entries legal)) (λ nominal h.
    given_has IsSheetInRange (of_unit product nominal) (unit_of entries product) (λ unit.
    given_has IsSheetInRange (of_density product nominal unit) (density_of entries batch) (λ density.
    map_has (sheet_record entries batch product nominal unit density) (state_of entries batch)
    (λ state. sheet_within entries batch product nominal unit density state legal h)))))
  where
    of_density : Name → ℤ → units.Unit → ℕ → Option sheets.Sheet
    of_density product nominal unit density =
        option_map (sheet_record entries batch product nominal unit density)
        (state_of entries batch)

    of_unit : Name → ℤ → units.Unit → Option sheets.Sheet
    of_unit product nominal unit =
        option_and_then (of_density product nominal unit) (density_of entries batch)

    of_nominal : Name → ℤ → Option sheets.Sheet
    of_nominal product nominal = option_and_then (of_unit product nominal) (unit_of entries product)

    of_product : Name → Option sheets.Sheet
    of_product product = option_and_then (of_nominal product) (nominal_of entries product)

    map_has : (f : states.BatchState → sheets.Sheet) (o : Option states.BatchState)
        → ((state : states.BatchState) → IsSheetInRange (f state))
        → IfSome (option_map f o) IsSheetInRange
    map_has f None h = tt
    map_has f (Some state) h = h state

view_within : (entries : List Entry) (reading : Reading) → AllByRecursion IsFit entries
    → IsFitReading reading → IfSome (view_of_reading entries reading) IsPackInRange
view_within entries reading all h =
    given_has IsPackInRange of_batch reading.batch (λ batch.
    given_has IsPackInRange (of_product batch) (product_of entries batch) (λ product.
    then_has IsFitDay IsPackInRange (of_day batch product) reading.day h.1 (λ day fits.
    map_has (pack_record entries reading batch product day) reading.signal
    (λ signal. record { day = fits; gross = h.0; net = net_fits entries reading all h }))))
  where
    of_day : Name → Name → ℤ → Option PackView
    of_day batch product day = option_map (pack_record entries reading batch product day) reading.signal

    of_product : Name → Name → Option PackView
    of_product batch product = option_and_then (of_day batch product) reading.day

    of_batch : Name → Option PackView
    of_batch batch = option_and_then (of_product batch) (product_of entries batch)

    map_has : (f : Signal → PackView) (o : Option Signal)
        → ((signal : Signal) → IsPackInRange (f signal)) → IfSome (option_map f o) IsPackInRange
    map_has f None k = tt
    map_has f (Some signal) k = k signal

pack_within : (entries : List Entry) (pack : ℕ) → IsLegal entries
    → IfSome (pack_view entries pack) IsPackInRange
pack_within entries pack legal =
    then_has IsFitReading IsPackInRange (view_of_reading entries) (reading_of entries pack)
    (found_has IsFitReading (λ reading. reading.number == pack) (readings entries)
    (readings_fit entries legal).each)
    (λ reading h. view_within entries reading (legal_fit entries legal) h)

keeping_within : (n : ℕ) → (keeping_plan n).first + (keeping_plan n).second ≤ MAX_DRAWN
keeping_within n = grind (arith, nat_tests)

-- no plan draws more packs than may be drawn
plan_within : (n : ℕ) (mode : Mode)
    → (plan_or_empty (plan_of n mode)).first + (plan_or_empty (plan_of n mode)).second ≤ MAX_DRAWN
plan_within n Keep = elim (cases_Bool (n == 0)) [
  | inl none ↦ rw none (omega arith)
  | inr some ↦ rw some (keeping_within n)
]
plan_within n Destroy = grind (arith, nat_tests)

drawn_within : (drawing : Drawing) (word : Option ℕ)
    → length (sample_by drawing word).first + length (second_packs (sample_by drawing word))
    ≤ MAX_DRAWN
drawn_within drawing word =
    let most = plan_within (length drawing.packs) drawing.mode in
    let first = length-drawn drawing.word drawing.packs (plan_of_drawing drawing).first in
    second word most first
  where
    second : (o : Option ℕ) → (plan_of_drawing drawing).first + (plan_of_drawing drawing).second
        ≤ MAX_DRAWN → length (first_picks drawing) ≡ (plan_of_drawing drawing).first
        → length (first_picks drawing) + length (unwrap_or (option_map (second_picks drawing) o) [])
        ≤ MAX_DRAWN
    second None most first = omega (arith, most, first)
    second (Some other) most first =
        let more = length-drawn other (packs_left drawing.packs (first_picks drawing))
        (plan_of_drawing drawing).second in
        omega (arith, most, first, more)

-- the samples of a batch have no more packs than a test asks for
pub sample_within : (entries : List Entry) (batch : Name)
    → IfSome (sample_view entries batch) IsSampleInRange
sample_within entries batch = either (drawing_of entries batch)
  where
    either : (o : Option Drawing) → IfSome
        (option_map (λ (sample : samples.Sample). record
        { batch = batch; first = sample.first; second = second_packs sample })
        (option_map (λ drawing. sample_by drawing (last_said (second_word batch) entries)) o))
        IsSampleInRange
    either None = tt
    either (Some drawing) = drawn_within drawing (last_said (second_word batch) entries)

summary_within : (entries : List Entry) → IsLegal entries → IsSummaryInRange (summary entries)
summary_within entries legal =
    let fit = readings_fit entries legal in
    record {
      readings = tally_within (readings entries) fit;
      passed = pile_within entries Passed (readings entries) fit;
      rejected = pile_within entries Rejected (readings entries) fit;
      sampled = pile_within entries Sampled (readings entries) fit;
      voided = pile_within entries Voided (readings entries) fit;
    }

-- ---- what refusals tell

-- a refusal, where there is one, tells nothing out of range
abbrev ToldInRange : Option Refusal → Type 0
ToldInRange o = IfSome o IsRefusalInRange

where_refused : (test : Bool) (refusal : Refusal) → IsRefusalInRange refusal
    → ToldInRange (refused_if test refusal)
where_refused test refusal h = where_has IsRefusalInRange test refusal h

of_map : {A : Type 0} (f : A → Refusal) (o : Option A) → ((x : A) → IsRefusalInRange (f x))
    → ToldInRange (option_map f o)
of_map f None h = tt
of_map f (Some x) h = h x

back_told : (entries : List Entry) (day : ℤ) → AllByRecursion IsFit entries
    → ToldInRange (rules.day_back entries day)
back_told entries day all =
    then_has IsFitDay IsRefusalInRange (λ last. refused_if (int_lt day last) (why.DayBack last))
    (newest_day entries) (newest_fits entries all)
    (λ last h. where_refused (int_lt day last) (why.DayBack last) h)

state_told : (allowed : List states.BatchState) (entries : List Entry) (batch : Name)
    → ToldInRange (rules.batch_state allowed entries batch)
state_told allowed entries batch =
    given_has IsRefusalInRange (λ (state : states.BatchState). refused_if
    (not (list_any (same_state state) allowed)) (why.BatchState state)) (state_of entries batch)
    (λ state. where_refused _ (why.BatchState state) tt)

pack_state_told : (allowed : List states.BatchState) (entries : List Entry) (pack : ℕ)
    → ToldInRange (rules.pack_state allowed entries pack)
pack_state_told allowed entries pack =
    given_has IsRefusalInRange (rules.batch_state allowed entries)
    (rules.batch_of_pack entries pack) (state_told allowed entries)

tare_told : (entries : List Entry) (batch : Name) → ToldInRange (rules.no_tare entries batch)
tare_told entries batch =
    given_has IsRefusalInRange (λ (product : Name). option_and_then
    (λ day. refused_if (is_none (tare_of_product entries product day)) (why.NoTare product))
    (newest_day entries)) (product_of entries batch)
    (λ product. given_has IsRefusalInRange
    (λ (day : ℤ). refused_if (is_none (tare_of_product entries product day))
    (why.NoTare product)) (newest_day entries) (λ day. where_refused _ (why.NoTare product) tt))

gate_told : (entries : List Entry) (lane : ℕ) (prior : Prior)
    → ToldInRange (rules.prior_wrong entries lane prior)
gate_told entries lane Nothing = where_refused _ (why.PriorWrong true) tt
gate_told entries lane Opened = where_refused _ (why.PriorWrong false) tt
gate_told entries lane Stayed = where_refused _ (why.PriorWrong false) tt
gate_told entries lane Unknown = where_refused _ (why.PriorWrong false) tt

pile_told : (wanted : piles.Pile) (entries : List Entry) (pack : ℕ)
    → ToldInRange (rules.pack_pile wanted entries pack)
pile_told wanted entries pack =
    given_has IsRefusalInRange (λ (reading : Reading). refused_if
    (not (same_pile (pile_of entries reading) wanted)) (why.PackPile (pile_of entries reading)))
    (reading_of entries pack)
    (λ reading. where_refused _ (why.PackPile (pile_of entries reading)) tt)

unsettled_told : (entries : List Entry) (pack : ℕ) → ToldInRange (rules.unsettled entries pack)
unsettled_told entries pack =
    given_has IsRefusalInRange (λ (reading : Reading). refused_if (is_unsettled reading)
    (why.Unsettled reading.lane)) (reading_of entries pack)
    (λ reading. where_refused _ (why.Unsettled reading.lane) tt)

small_told : (entries : List Entry) (batch : Name) (mode : Mode)
    → ToldInRange (rules.mode_small entries batch mode)
small_told entries batch Keep = tt
small_told entries batch Destroy = where_refused _ (why.ModeSmall (length (population entries batch))) tt

measured_told : (entries : List Entry) (pack : ℕ) → AllByRecursion IsFit entries
    → ToldInRange (rules.measured_already entries pack)
measured_told entries pack all =
    mapped_has IsFitMeasured IsRefusalInRange (λ measured. why.MeasuredAlready measured.gross)
    (measured_of entries pack)
    (last_said_has IsFitMeasured (measured_by pack) (measured_fits pack) entries all) (λ measured h. h.0)

needless_told : (entries : List Entry) (batch : Name)
    → ToldInRange (rules.second_not_needed entries batch)
needless_told entries batch =
    given_has IsRefusalInRange (λ (sample : samples.Sample). refused_if
    (rules.is_second_not_needed entries batch sample)
    (why.SecondNotNeeded (first_defective entries batch sample)))
    (samples.sample_of entries batch)
    (λ sample. where_refused _ (why.SecondNotNeeded (first_defective entries batch sample)) tt)

wanting_told : (entries : List Entry) (packs : samples.Sample → List ℕ) (o : Option samples.Sample)
    → ToldInRange (option_and_then
    (λ sample. option_map (λ pack. why.Unmeasured pack) (first_unmeasured entries (packs sample)))
    o)
wanting_told entries packs o =
    given_has IsRefusalInRange (λ (sample : samples.Sample). option_map
    (λ pack. why.Unmeasured pack) (first_unmeasured entries (packs sample))) o
    (λ sample. of_map (λ pack. why.Unmeasured pack) (first_unmeasured entries (packs sample))
    (λ pack. tt))

wanted_told : (entries : List Entry) (batch : Name) → ToldInRange (rules.second_needed entries batch)
wanted_told entries batch =
    given_has IsRefusalInRange (λ (sample : samples.Sample). refused_if
    (rules.is_second_needed entries batch sample)
    (why.SecondNeeded (first_defective entries batch sample))) (samples.sample_of entries batch)
    (λ sample. where_refused _ (why.SecondNeeded (first_defective entries batch sample)) tt)

density_told : (entries : List Entry) (product : Name) (density : ℕ)
    → ToldInRange (rules.density_range entries product density)
density_told entries product density =
    given_has IsRefusalInRange (λ (unit : units.Unit). refused_if
    (not (rules.suits_unit unit density)) why.DensityRange) (unit_of entries product)
    (λ unit. where_refused _ why.DensityRange tt)

-- none of some refusals tells anything out of range
abbrev EachTold : List (Option Refusal) → Type 0
EachTold some = AllByRecursion ToldInRange some

first_told : (some : List (Option Refusal)) → EachTold some → ToldInRange (first_refusal some)
first_told [] h = tt
first_told (o ∷ os) h = either_has IsRefusalInRange o (first_refusal os) h.0 (first_told os h.1)

both_told : (some more : List (Option Refusal)) → EachTold some → EachTold more → EachTold (some ++ more)
both_told [] more h k = k
both_told (o ∷ os) more h k = (h.0, both_told os more h.1 k)

each_told : (entries : List Entry) (act : Act) → AllByRecursion IsFit entries
    → EachTold (refusals_of entries act)
each_told entries (NewDay day) all = (back_told entries day all, (where_refused _ why.DayRange tt, tt))
each_told entries (PutProduct name nominal unit) all = (
  where_refused _ why.DayUnset tt,
  (
    where_refused _ why.ProductKnown tt,
    (where_refused _ why.NameShape tt, (where_refused _ why.NominalRange tt, tt)),
  ),
)
each_told entries (PutTare product day tare) all = (
  where_refused _ why.DayUnset tt,
  (
    where_refused _ why.ProductUnknown tt,
    (
      where_refused _ why.DayRange tt,
      (
        where_refused _ why.TareRange tt,
        (of_map (λ batch. why.TareFrozen batch) _ (λ batch. tt), tt),
      ),
    ),
  ),
)
each_told entries (OpenBatch batch product density) all = (
  where_refused _ why.DayUnset tt,
  (
    where_refused _ why.ProductUnknown tt,
    (
      where_refused _ why.NameShape tt,
      (where_refused _ why.BatchKnown tt, (density_told entries product density, tt)),
    ),
  ),
)
each_told entries (StartLane lane batch) all = (
  where_refused _ why.DayUnset tt,
  (
    where_refused _ why.BatchUnknown tt,
    (
      state_told (Running ∷ []) entries batch,
      (
        where_refused _ why.LaneNumber tt,
        (
          of_map (λ name. why.LaneBusy name) (lane_batch entries lane) (λ name. tt),
          (tare_told entries batch, tt),
        ),
      ),
    ),
  ),
)
each_told entries (Weigh lane gross prior) all = (
  where_refused _ why.DayUnset tt,
  (
    where_refused _ why.LaneNumber tt,
    (
      where_refused _ why.LaneIdle tt,
      (where_refused _ why.GrossRange tt, (gate_told entries lane prior, tt)),
    ),
  ),
)
each_told entries (StopLane lane prior) all = (
  where_refused _ why.DayUnset tt,
  (
    where_refused _ why.LaneNumber tt,
    (where_refused _ why.LaneIdle tt, (gate_told entries lane prior, tt)),
  ),
)
each_told entries (Void pack) all = (
  where_refused _ why.DayUnset tt,
  (
    pack_state_told (Running ∷ Ended ∷ []) entries pack,
    (
      where_refused _ why.PackUnknown tt,
      (pile_told Passed entries pack, (unsettled_told entries pack, tt)),
    ),
  ),
)
each_told entries (EndRun batch) all = (
  where_refused _ why.DayUnset tt,
  (
    where_refused _ why.BatchUnknown tt,
    (
      state_told (Running ∷ []) entries batch,
      (of_map (λ lane. why.LanesRunning lane) _ (λ lane. tt), tt),
    ),
  ),
)
each_told entries (Draw batch mode word) all = (
  where_refused _ why.DayUnset tt,
  (
    where_refused _ why.BatchUnknown tt,
    (
      state_told (Ended ∷ []) entries batch,
      (where_refused _ why.BatchEmpty tt, (small_told entries batch mode, tt)),
    ),
  ),
)
each_told entries (Measure pack gross empty) all = (
  where_refused _ why.DayUnset tt,
  (
    pack_state_told (Drawn ∷ []) entries pack,
    (
      where_refused _ why.GrossRange tt,
      (
        where_refused _ why.TareRange tt,
        (
          where_refused _ why.PackUnknown tt,
          (
            pile_told Sampled entries pack,
            (measured_told entries pack all, tt),
          ),
        ),
      ),
    ),
  ),
)
each_told entries (DrawSecond batch word) all = (
  where_refused _ why.DayUnset tt,
  (
    where_refused _ why.BatchUnknown tt,
    (
      state_told (Drawn ∷ []) entries batch,
      (
        needless_told entries batch,
        (
          wanting_told entries (λ sample. sample.first)
              (samples.sample_of entries batch),
          tt,
        ),
      ),
    ),
  ),
)
each_told entries (Close batch) all = (
  where_refused _ why.DayUnset tt,
  (
    where_refused _ why.BatchUnknown tt,
    (
      state_told (Ended ∷ Drawn ∷ []) entries batch,
      (
        where_refused _ why.NotDrawn tt,
        (
          wanting_told entries (rules.needed_packs entries batch) (samples.sample_of entries batch),
          (wanted_told entries batch, tt),
        ),
      ),
    ),
  ),
)

desk_told : (ask : Ask) (act : Act) → ToldInRange (desk_number ask act)
desk_told ask act = either (is_desk_right ask act)
  where
    either : (b : Bool) → ToldInRange (if b then None else Some why.DeskNumber)
    either true = tt
    either false = tt

reused_told : (test : Bool) (ask : Ask) (act : Act) (o : Option Row) → ToldInRange
    (if test then option_and_then (λ row.
    if ((row.entry.request == ask.request) && not (same_act row.entry.act act)) then Some
    (why.RequestReused row.number) else None) o else None)
reused_told false ask act o = tt
reused_told true ask act o =
    given_has IsRefusalInRange (λ (row : Row).
    if ((row.entry.request == ask.request) && not (same_act row.entry.act act)) then Some
    (why.RequestReused row.number) else None) o
    (λ row. where_has IsRefusalInRange _ (why.RequestReused row.number) tt)

desk_each_told : (entries : List Entry) (ask : Ask) (act : Act)
    → EachTold (desk_refusals entries ask act)
desk_each_told entries ask act = (
  desk_told ask act,
  (
    where_has IsRefusalInRange _ (why.RequestOld (last_request entries ask.desk)) tt,
    (
      reused_told _ ask act (newest_row entries ask.desk),
      (where_has IsRefusalInRange _ (why.RequestGap (last_request entries ask.desk)) tt, tt),
    ),
  ),
)

-- the refusal of an act tells nothing out of range
refusal_of_told : (limit : ℕ) (entries : List Entry) (ask : Ask) (act : Act) → IsLegal entries
    → ToldInRange (refusal_of limit entries ask act)
refusal_of_told limit entries ask act legal =
    first_told (desk_refusals entries ask act ++ rules.book_full limit entries ∷ refusals_of entries act)
    (both_told (desk_refusals entries ask act)
    (rules.book_full limit entries ∷ refusals_of entries act) (desk_each_told entries ask act)
    (where_refused _ (why.BookFull limit) tt, each_told entries act (legal_fit entries legal)))

-- ---- each answer and each refusal

-- what an answer or a refusal tells is in range
abbrev OutcomeInRange : Result Answered Refused → Type 0
OutcomeInRange (Ok answered) = IsReplyInRange answered.reply
OutcomeInRange (Err refused) = IsRefusalInRange refused.refusal

row_told : (row : ℕ) (signal : Option Signal) → IsReplyInRange (judged_or_done row signal)
row_told row None = tt
row_told row (Some signal) = tt

behind_told : (entries : List Entry) (act : Act) → IsReplyInRange (reply_behind entries act)
behind_told entries (Weigh lane gross prior) =
    row_told (length entries + 1) (recorded_signal entries (Weigh lane gross prior))
behind_told entries act = tt

act_told : (entries : List Entry) (act : Act) (desk : Option Refusal) (row : Option ℕ)
    (refusal : Option Refusal) → ToldInRange desk → ToldInRange refusal
    → OutcomeInRange (desk_answer entries act desk row refusal)
act_told entries act (Some wrong) row refusal h k = h
act_told entries act None (Some row) refusal h k = behind_told (take (row - 1) entries) act
act_told entries act None None (Some refusal) h k = k
act_told entries act None None None h k = behind_told entries act

-- a thing that is asked for is told in range, and a refusal that keeps nothing is
told_or_told : (entries : List Entry) (refusal : Refusal) (o : Option Reply)
    → IsRefusalInRange refusal → IfSome o IsReplyInRange
    → OutcomeInRange (question_answer entries (told_or refusal o))
told_or_told entries refusal None h k = h
told_or_told entries refusal (Some reply) h k = k

lane_told : (entries : List Entry) (test : Bool) (reply : Reply) → IsReplyInRange reply
    → OutcomeInRange (question_answer entries (refused_or (refused_if test why.LaneNumber) reply))
lane_told entries true reply h = tt
lane_told entries false reply h = h

-- what is found of some numbers isn't more than they are, and in range where each is
views_few : (view : ℕ → Option PackView) (numbers : List ℕ)
    → length (filter_map view numbers) ≤ length numbers
views_few view [] = omega arith
views_few view (number ∷ numbers) =
    either (view number) (filter_map view numbers) (views_few view numbers)
  where
    either : (o : Option PackView) (views : List PackView) → length views ≤ length numbers
        → length (cons_option o views) ≤ suc (length numbers)
    either None views h = omega (arith, h)
    either (Some found) views h = omega (arith, h)

views_fit : (view : ℕ → Option PackView) (numbers : List ℕ)
    → ((number : ℕ) → IfSome (view number) IsPackInRange)
    → AllByRecursion IsPackInRange (filter_map view numbers)
views_fit view [] h = tt
views_fit view (number ∷ numbers) h =
    with_first IsPackInRange (view number) (filter_map view numbers) (h number)
    (views_fit view numbers h)

packs_within : (entries : List Entry) (batch : Name) (after : ℕ) → IsLegal entries
    → ArePacksInRange (packs_after entries batch after)
packs_within entries batch after legal =
    record {
      few = omega (
        arith,
        views_few (pack_view entries) (numbers_after entries batch after),
        first_few MAX_PAGE (filter (λ number. nat_lt after number)
            (map (λ reading. reading.number) (readings_of_batch entries batch))),
      );
      each = views_fit (pack_view entries) (numbers_after entries batch after)
          (λ pack. pack_within entries pack legal);
    }

question_within : (entries : List Entry) (question : Question) → IsLegal entries
    → OutcomeInRange (question_answer entries (question_told entries question))
question_within entries (Sheet batch) legal =
    told_or_told entries why.BatchUnknown _ tt
    (mapped_has IsSheetInRange IsReplyInRange (λ sheet. SheetIs sheet) (sheet_of entries batch)
    (sheet_of_within entries batch legal) (λ sheet h. h))
question_within entries (Pack pack) legal =
    told_or_told entries why.PackUnknown _ tt
    (mapped_has IsPackInRange IsReplyInRange (λ view. PackIs view) (pack_view entries pack)
    (pack_within entries pack legal) (λ view h. h))
question_within entries (Lane lane) legal = lane_told entries _ _ tt
question_within entries (Sample batch) legal = either (is_none (product_of entries batch))
  where
    either : (b : Bool) → OutcomeInRange
        (question_answer entries (if b then Err why.BatchUnknown else told_or why.NotDrawn
        (option_map (λ view. SampleIs view) (sample_view entries batch))))
    either true = tt
    either false =
        told_or_told entries why.NotDrawn _ tt
        (mapped_has IsSampleInRange IsReplyInRange (λ view. SampleIs view)
        (sample_view entries batch) (sample_within entries batch) (λ view h. h))
question_within entries Summary legal = summary_within entries legal
question_within entries (Rows after) legal = page_within after entries legal
question_within entries (Shipment after) legal = page_within after entries legal
question_within entries (Packs batch after) legal = either (is_none (product_of entries batch))
  where
    either : (b : Bool) → OutcomeInRange
        (question_answer entries (if b then Err why.BatchUnknown else
        Ok (PacksAre (packs_after entries batch after))))
    either true = tt
    either false = packs_within entries batch after legal

outcome_within : (limit : ℕ) (entries : List Entry) (ask : Ask) (wanted : Want) → IsLegal entries
    → OutcomeInRange (want_answer limit entries ask wanted)
outcome_within limit entries ask (want.Question question) legal = question_within entries question legal
outcome_within limit entries ask (want.Act act) legal =
    act_told entries act (desk_number ask act) (repeated_row entries ask act)
    (refusal_of limit entries ask act) (desk_told ask act)
    (refusal_of_told limit entries ask act legal)

-- what the book answers can be printed: its masses and days are in range, and its samples aren't
-- longer than a test asks for
pub answer_in_range : (answered : Answered) → IsAnswer answered → IsReplyInRange answered.reply
answer_in_range answered is = subst OutcomeInRange is.given
    (outcome_within is.limit is.entries is.ask is.ask.want is.legal)

-- what a refusal tells can be printed: its day or its mass is in range
pub refusal_told_in_range : (refused : Refused) → IsRefusal refused → IsRefusalInRange refused.refusal
refusal_told_in_range refused is =
    subst OutcomeInRange is.given (outcome_within is.limit is.entries is.ask is.ask.want is.legal)
