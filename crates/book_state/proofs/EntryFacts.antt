-- What the code finds of a lawful entry is what the entry says.
use Rattle.std.proofs.Common.{◌≡◌, ℕ, ℤ, pos, ◌+◌, ◌<◌, ◌^◌, ◌&&◌, true, false, List, [], ◌∷◌, ◌++◌, length, Option, Some, None, option_map, is_some, refl, sym, ◌∙◌, ap, subst, arith, FitsSigned, to_z, of_z}
use Rattle.std.specs.Option.{option_and_then, option_map_or, unwrap_or}
use mir.Syntax.{Width}
use Rattle.std.proofs.lemmas.Bool.{eq-eqb}
use Rattle.std.proofs.lemmas.Int.{to_z-of_z}
use Rattle.std.proofs.lemmas.List.{length-map}
use Rattle.std.specs.List.Sorted.{IsStrictlyIncreasing}
use Rattle.pack_judge.specs.declared.types.Signal.{Signal}
use Rattle.annex_tables.specs.declared.types.Mode.{Mode}
use Rattle.sample_draw.proofs.DrawLemmas.{length-drawn}
use Rattle.sample_draw.specs.Draws.{packs_left}
use Rattle.book_words.specs.declared.name.Name.{Name}
use Rattle.book_words.specs.declared.act.Act.{Act}
use Rattle.book_words.specs.declared.act.Act.TheVariants.{PutTare, OpenBatch, Weigh, Draw, DrawSecond}
use Rattle.book_words.specs.declared.act.Entry.{Entry}
use Rattle.book_words.specs.declared.act.Reading.{Reading}
use Rattle.book_words.specs.Acts.{last_said, newest_day, nominal_of, product_of, last_batch, lane_batch}
use Rattle.book_words.specs.Tares.{tare_of_product}
use Rattle.book_words.specs.Order.{product_number, batch_number}
use Rattle.book_words.specs.Readings.{is_of_batch, tare_of_reading}
use Rattle.book_words.specs.Population.{population, is_counted}
use Rattle.book_words.specs.Samples.{Sample, Drawing, numbers_of, drawing_of, first_picks, plan_of_drawing, second_picks, second_word, sample_by, sample_of}
use Rattle.book_words.specs.Verdicts.{second_packs}
use Rattle.book_words.specs.Signals.{judged_signal, recorded_signal}
use Rattle.book_words.specs.Answers.{IsLegal}
use Rattle.book_packs.specs.declared.types.Weighing.{Weighing}
use Rattle.book_packs.specs.Entering.{IsNext, IsWeighing, IsDraw, batch_drawn, picks_by}
use Rattle.book_samples.specs.Kept.{drawing_at, IsFirstDraw, IsSecondDraw}
use Rattle.book_samples.specs.DrawnBy.{IsDrawnBy}
use Rattle.book_samples.proofs.Known.{sample_drawn_by}
use Rattle.book_words.proofs.SaidNames.{nominal_where_put, product_where_opened}
use Rattle.book_words.proofs.AllowedActs.{IsAllowed, allowed_act, put_tare_tells, open_batch_tells, AllowsWeigh, weigh_tells, draw_tells, draw_second_tells}
use Rattle.book_laws.proofs.ReadingLaws.{numbers_increase}
use Rattle.book_laws.proofs.BatchLaws.{orderly}
use Rattle.book_laws.proofs.PopulationLaws.{drawn_from_all}
use Rattle.book_laws.proofs.DrawnLaws.{draws_second, sample_drawn, second_drawn}
use Rattle.book_state.specs.Prepared as prepared
use Rattle.book_state.specs.Prepared.{drawn_by, picks_in, act_weighing, row_weighing}
use Rattle.book_state.specs.declared.types.LaneNow.{LaneNow}
use Rattle.book_state.specs.Lanes.{IsSeen}
use Rattle.book_state.specs.Known.{lane_weighed}
use Rattle.book_state.proofs.NumberedNames.{lane_has_batch}
use Rattle.book_state.proofs.PopulationLimits.{population_few}

-- what is counted is there
pub some_of : {A : Type 0} (o : Option A) → is_some o ≡ true → (x : A) × (o ≡ Some x)
some_of None h = absurd (let clash : false ≡ true = h in cc)
some_of (Some x) h = (x, refl)

-- and isn't nothing
pub there : {A : Type 0} (o : Option A) → is_some o ≡ true → o ≡ None → ⊥
there o h none = (let clash : true ≡ false = sym h ∙ ap is_some none in cc)

-- numbers of their widths are the same when they are read again
pub read_again : {A : Type 0} (make : ℤ → ℤ → A) (v w : Width) (a b : ℤ) → FitsSigned v a
    → FitsSigned w b → make a b ≡ make (to_z v (of_z v a)) (to_z w (of_z w b))
read_again make v w a b a_fits b_fits =
    sym (ap (λ (x : ℤ). make x (to_z w (of_z w b))) (to_z-of_z v a a_fits)
    ∙ ap (make a) (to_z-of_z w b b_fits))

-- ---- products and batches of acts

pub tare_product : (entries : List Entry) (entry : Entry) (product : Name) (day tare : ℤ)
    → IsNext entries entry → entry.act ≡ PutTare product day tare
    → is_some (product_number entries product) ≡ true
tare_product entries entry product day tare next is =
    sym (nominal_where_put entries product)
    ∙ (put_tare_tells entries product day tare
    (allowed_act entries entry (PutTare product day tare) next.lawful is)).known

pub opened_nominal : (entries : List Entry) (entry : Entry) (batch product : Name) (density : ℕ)
    → IsNext entries entry → entry.act ≡ OpenBatch batch product density
    → is_some (nominal_of entries product) ≡ true
opened_nominal entries entry batch product density next is =
    (open_batch_tells entries batch product density
    (allowed_act entries entry (OpenBatch batch product density) next.lawful is)).known

pub opened_product : (entries : List Entry) (entry : Entry) (batch product : Name) (density : ℕ)
    → IsNext entries entry → entry.act ≡ OpenBatch batch product density
    → is_some (product_number entries product) ≡ true
opened_product entries entry batch product density next is = sym (nominal_where_put entries product)
    ∙ opened_nominal entries entry batch product density next is

name_is : {a b : Name} → Some a ≡ Some b → a ≡ b
name_is h = cc

pub drawn_batch : (entries : List Entry) (entry : Entry) (act : Act) (batch : Name)
    → IsNext entries entry → entry.act ≡ act → batch_drawn act ≡ Some batch
    → is_some (batch_number entries batch) ≡ true
drawn_batch entries entry (Draw name mode word) batch next is drawn =
    subst (λ (b : Name). is_some (batch_number entries b) ≡ true) (name_is drawn)
    (sym (product_where_opened entries name)
    ∙ (draw_tells entries name mode word
    (allowed_act entries entry (Draw name mode word) next.lawful is)).known)
drawn_batch entries entry (DrawSecond name word) batch next is drawn =
    subst (λ (b : Name). is_some (batch_number entries b) ≡ true) (name_is drawn)
    (sym (product_where_opened entries name)
    ∙ (draw_second_tells entries name word
    (allowed_act entries entry (DrawSecond name word) next.lawful is)).known)
drawn_batch entries entry act batch next is drawn = absurd (cc)

-- ---- the tare of a lane

-- what isn't a batch has no tare
pub batchless : (entries : List Entry) (batch : Name) (day : Option ℤ)
    → product_of entries batch ≡ None → tare_of_reading entries (Some batch) day ≡ None
batchless entries batch None none = refl
batchless entries batch (Some day) none =
    ap (option_and_then (λ (product : Name). tare_of_product entries product day)) none

-- ---- weighings

-- a weighing that the code makes is that of the entry
pub record IsMade (entries : List Entry) (entry : Entry) (made : Option Weighing) : Type 0 where
  pub weighing : Weighing
  pub is : made ≡ Some weighing
  pub entered : IsWeighing entries entry weighing

lane_is : {a b : ℕ} → Some a ≡ Some b → a ≡ b
lane_is h = cc

weighing_made : (entries : List Entry) (entry : Entry) (act : Act) (lane : ℕ) (batch : Option ℕ)
    (day tare : Option ℤ) → IsNext entries entry → entry.act ≡ act → lane_weighed act ≡ Some lane
    → batch ≡ option_and_then (batch_number entries) (lane_batch entries lane)
    → day ≡ newest_day entries → tare
    ≡ tare_of_reading entries (lane_batch entries lane) (newest_day entries)
    → IsMade entries entry (row_weighing entry (length entries + 1) batch day tare)
weighing_made entries entry (Weigh other gross prior) lane batch day tare next act_is weighs
    batch_is day_is tare_is =
    record {
      weighing = whole;
      is =
          (λ i. made_from (act_is i) ((batch_is ∙ numbered) i) ((day_is ∙ on_day.1) i) (signal_is i));
      entered = record {
        next = next;
        act = act_is;
        signal = signal_is;
        number = refl;
        batch = ap (option_and_then (batch_number entries)) started ∙ number.1;
        day = on_day.1;
        tare = ap (λ (t : Option ℤ). unwrap_or t (pos 0))
            (tare_is ∙ ap (λ (l : ℕ). tare_of_reading entries (lane_batch entries l)
            (newest_day entries)) (sym same)
            ∙ ap (λ (b : Option Name). tare_of_reading entries b (newest_day entries))
            (on_lane.1 ∙ sym started));
      };
    }
  where
    same : other ≡ lane
    same = lane_is weighs

    tells : AllowsWeigh entries other gross prior
    tells = weigh_tells entries other gross prior
        (allowed_act entries entry (Weigh other gross prior) next.lawful act_is)

    on_lane : (b : Name) × (lane_batch entries other ≡ Some b)
    on_lane = some_of (lane_batch entries other) tells.runs

    started : last_batch entries other ≡ Some on_lane.0
    started = (orderly entries next.legal).started other on_lane.0 on_lane.1

    number : (n : ℕ) × (batch_number entries on_lane.0 ≡ Some n)
    number = some_of (batch_number entries on_lane.0)
        (lane_has_batch entries other on_lane.0 next.legal on_lane.1)

    numbered : option_and_then (batch_number entries) (lane_batch entries lane) ≡ Some number.0
    numbered = ap (λ l. option_and_then (batch_number entries) (lane_batch entries l)) (sym same)
        ∙ ap (option_and_then (batch_number entries)) on_lane.1 ∙ number.1

    on_day : (d : ℤ) × (newest_day entries ≡ Some d)
    on_day = some_of (newest_day entries) tells.day

    signal : Signal
    signal = judged_signal entries (Weigh other gross prior) gross on_lane.0

    signal_is : entry.signal ≡ Some signal
    signal_is = next.lawful.signal ∙ ap (recorded_signal entries) act_is
        ∙ ap (option_map (judged_signal entries (Weigh other gross prior) gross)) started

    whole : Weighing
    whole = record {
      lane = other;
      prior = prior;
      number = length entries + 1;
      batch = number.0;
      day = on_day.0;
      gross = gross;
      tare = unwrap_or tare (pos 0);
      signal = signal;
    }

    made_from : Act → Option ℕ → Option ℤ → Option Signal → Option Weighing
    made_from act b d s = option_and_then
        (λ n. option_and_then (λ on. option_and_then
        (act_weighing act (length entries + 1) tare n on) s) d) b
weighing_made entries entry act lane batch day tare next act_is weighs batch_is day_is tare_is =
    absurd (cc)

-- a weighing is made of what was seen of its lane
pub made_of_seen : (entries : List Entry) (entry : Entry) (act : Act) (seen : LaneNow)
    (day : Option ℤ) → IsNext entries entry → entry.act ≡ act → is_some (lane_weighed act) ≡ true
    → IsSeen entries act seen → day ≡ newest_day entries
    → IsMade entries entry (row_weighing entry (length entries + 1) seen.batch day seen.tare)
made_of_seen entries entry (Weigh lane gross prior) seen day next act_is weighs is day_is =
    weighing_made entries entry (Weigh lane gross prior) lane seen.batch day seen.tare next act_is
    refl is.batch day_is is.tare
made_of_seen entries entry act seen day next act_is weighs is day_is = absurd (cc)

-- ---- draws

-- the packs that were drawn are those of the list with the entry
pub picks_are : (entries : List Entry) (entry : Entry) (act : Act) (drawn : prepared.Drawn)
    → IsNext entries entry → entry.act ≡ act → is_some (batch_drawn act) ≡ true
    → drawn ≡ drawn_by entries act
    → picks_in drawn ≡ picks_by (entries ++ entry ∷ []) act
picks_are entries entry (Draw name mode word) drawn next is draws made =
    ap picks_in made
    ∙ sym (ap (λ (s : Option Sample). option_map_or (λ (sample : Sample). sample.first) s [])
    (sample_drawn entries entry name mode word next.legal next.lawful is))
picks_are entries entry (DrawSecond name word) drawn next is draws made =
    let second = draws_second entries name word next.legal
    (allowed_act entries entry (DrawSecond name word) next.lawful is) in
    ap picks_in made
    ∙ ap (λ (d : Option Drawing). option_map_or (λ drawing. second_picks drawing word) d []) second.drawn
    ∙ sym (ap (λ (s : Option Sample). option_map_or second_packs s [])
    (second_drawn entries entry name word second.drawing is second.drawn))
picks_are entries entry act drawn next is draws made = absurd (cc)

pub is_draw : (entries : List Entry) (entry : Entry) (batch : Name) (number : ℕ)
    (drawn : prepared.Drawn) → IsNext entries entry → batch_drawn entry.act ≡ Some batch
    → batch_number entries batch ≡ Some number
    → drawn ≡ drawn_by entries entry.act → IsDraw entries entry number (picks_in drawn)
is_draw entries entry batch number drawn next draws numbered made =
    record {
      next = next;
      name = batch;
      drawn = draws;
      number = numbered;
      picked =
          picks_are entries entry entry.act drawn next refl (ap is_some draws) made;
    }

-- a first sample
pub is_first_draw : (entries : List Entry) (entry : Entry) (batch : Name) (mode : Mode)
    (word number : ℕ) (sample : Sample) → entry.act ≡ Draw batch mode word
    → batch_number entries batch ≡ Some number
    → Some sample ≡ (drawn_by entries entry.act).first → IsFirstDraw number sample entries entry.act
is_first_draw entries entry batch mode word number sample is numbered made =
    record {
      batch = batch;
      mode = mode;
      word = word;
      act_is = is;
      numbered = numbered;
      sample_is =
          sample_of_it (made ∙ ap (λ (a : Act). (drawn_by entries a).first) is);
    }
  where
    sample_of_it : {a b : Sample} → Some a ≡ Some b → a ≡ b
    sample_of_it h = cc

-- there is one
pub first_there : (entries : List Entry) (entry : Entry) (batch : Name) (mode : Mode) (word : ℕ)
    → entry.act ≡ Draw batch mode word → None ≡ (drawn_by entries entry.act).first → ⊥
first_there entries entry batch mode word is none =
    (let clash : None ≡ Some (sample_by (drawing_at entries batch mode word) None) = none
    ∙ ap (λ (a : Act). (drawn_by entries a).first) is in cc)

pub second_made : (entries : List Entry) (batch : Name) (word : ℕ) (drawing : Drawing)
    → drawing_of entries batch ≡ Some drawing
    → (drawn_by entries (DrawSecond batch word)).second ≡ second_picks drawing word
second_made entries batch word drawing drawn =
    ap (λ (d : Option Drawing). option_map_or (λ drawing. second_picks drawing word) d []) drawn

-- a second sample
pub is_second_draw : (entries : List Entry) (entry : Entry) (batch : Name) (word number : ℕ)
    (picks : List ℕ) → IsNext entries entry → entry.act ≡ DrawSecond batch word
    → batch_number entries batch ≡ Some number
    → picks ≡ (drawn_by entries entry.act).second → IsSecondDraw number picks entries entry.act
is_second_draw entries entry batch word number picks next is numbered made =
    let second = draws_second entries batch word next.legal
    (allowed_act entries entry (DrawSecond batch word) next.lawful is) in
    record {
      batch = batch;
      word = word;
      drawing = second.drawing;
      act_is = is;
      numbered = numbered;
      drawing_is = second.drawn;
      picks_are = made ∙ ap (λ (a : Act). (drawn_by entries a).second) is
          ∙ second_made entries batch word second.drawing second.drawn;
    }

-- it isn't empty
pub second_there : (entries : List Entry) (entry : Entry) (batch : Name) (word : ℕ)
    → IsNext entries entry → entry.act ≡ DrawSecond batch word
    → [] ≡ (drawn_by entries entry.act).second → ⊥
second_there entries entry batch word next is none =
    let second = draws_second entries batch word next.legal
    (allowed_act entries entry (DrawSecond batch word) next.lawful is) in
    let empty : [] ≡ second_picks second.drawing word = none
    ∙ ap (λ (a : Act). (drawn_by entries a).second) is
    ∙ second_made entries batch word second.drawing second.drawn in
    let count : 0 ≡ (plan_of_drawing second.drawing).second = ap length empty
    ∙ length-drawn word (packs_left second.drawing.packs (first_picks second.drawing))
    (plan_of_drawing second.drawing).second in
    (let clash : true ≡ false = sym (eq-eqb (plan_of_drawing second.drawing).second 0 (sym count))
    ∙ second.planned in cc)

-- ---- what is drawn before an act is entered

-- a population is few
pub numbers_few : (entries : List Entry) (batch : Name) → IsLegal entries
    → length (numbers_of (population entries batch)) < 2 ^ 32
numbers_few entries batch legal =
    let count = length-map (population entries batch) (λ (r : Reading). r.number) in
    let few = population_few entries legal batch in
    omega (arith, count, few)

-- and its numbers ascend
pub numbers_ascend : (entries : List Entry) (batch : Name)
    → IsStrictlyIncreasing (numbers_of (population entries batch))
numbers_ascend entries batch =
    numbers_increase entries (λ (r : Reading). is_of_batch batch r && is_counted r)

-- a batch of which a second sample is drawn has a first one
pub sample_there : (entries : List Entry) (batch : Name) (word : ℕ) → IsLegal entries
    → IsAllowed entries (DrawSecond batch word) → None ≡ sample_of entries batch → ⊥
sample_there entries batch word legal free none =
    let second = draws_second entries batch word legal free in
    (let clash : None ≡ Some (sample_by second.drawing (last_said (second_word batch) entries)) =
    none ∙ ap (option_map (λ (d : Drawing). sample_by d (last_said (second_word batch) entries)))
    second.drawn in cc)

-- the draw of the first sample was from the population
pub first_drawn_by : (entries : List Entry) (batch : Name) (word : ℕ) (sample : Sample)
    (packs : List ℕ) → IsLegal entries → IsAllowed entries (DrawSecond batch word)
    → Some sample ≡ sample_of entries batch
    → packs ≡ numbers_of (population entries batch) → (drawing : Drawing)
    × IsDrawnBy packs sample drawing × (drawing_of entries batch ≡ Some drawing)
first_drawn_by entries batch word sample packs legal free is from =
    let second = draws_second entries batch word legal free in
    let by = sample_drawn_by entries batch sample second.drawing (sym is) second.drawn in (
      second.drawing,
      record {
        from = drawn_from_all entries legal batch second.drawing second.drawn
            ∙ sym from;
        plan = by.plan;
        first = by.first;
      },
      second.drawn,
    )
