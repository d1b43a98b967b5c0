-- What a written paper gives is the verdict of the book, and it has no fault of tares or of draws.
use Rattle.std.proofs.Common.{◌≡◌, ℕ, ℤ, zero, suc, ◌+◌, Bool, true, false, not, ◌&&◌, ◌==◌, cond, inl, inr, List, [], ◌∷◌, ◌++◌, length, map, take, Option, Some, None, is_some, is_none, option_map, refl, sym, ◌∙◌, ap, arith}
use Rattle.std.proofs.lemmas.List.{length-map}
use Rattle.std.proofs.lemmas.List.Elements.{All-nil, All-cons, All-take}
use Rattle.std.specs.Prelude.{Result, Ok, Err, is_ok}
use Rattle.std.specs.List.{All, count_by, common_prefix_len, position}
use Rattle.std.specs.Option.{option_or, option_and_then, option_map_or}
use Rattle.annex_tables.specs.declared.types.Mode.{Mode}
use Rattle.annex_tables.specs.declared.types.Mode.TheVariants.{Keep, Destroy}
use Rattle.annex_tables.specs.declared.types.Plan.{Plan}
use Rattle.annex_tables.specs.declared.types.PlanRefusal.{PlanRefusal}
use Rattle.annex_tables.specs.Plans.{plan_of}
use Rattle.reference_test.specs.Means.{total}
use Rattle.book_words.specs.declared.name.Name.{Name}
use Rattle.book_words.specs.declared.act.BatchState.TheVariants.{Closed}
use Rattle.book_words.specs.declared.act.Entry.{Entry}
use Rattle.book_words.specs.declared.act.Reading.{Reading}
use Rattle.book_words.specs.declared.views.Verdict.TheVariants.{Empty}
use Rattle.book_words.specs.Acts.{last_said, state_of}
use Rattle.book_words.specs.Readings.{net_of_reading}
use Rattle.book_words.specs.Classes.{is_below, nominal_of_batch, density_of_batch, limits_of_batch}
use Rattle.book_words.specs.Population.{population, net_sum}
use Rattle.book_words.specs.Samples.{second_picks as drawn_second, Drawing, Sample, drawing_of, second_word, sample_by, sample_of, numbers_of}
use Rattle.book_words.specs.Measures.{Measured, measured_of, first_unmeasured, contents_among}
use Rattle.book_words.specs.Refusals.{is_measured}
use Rattle.book_words.specs.Verdicts.{second_packs, first_defective, second_defective, is_open, contents_check_accepts, mean_check_accepts, mean_accepts, contents_accepts, average_by, allowance_by, none_inadequate, average_accepts, allowance_accepts, no_inadequate, fails_by, fails_of, verdict_by_fails, verdict_of}
use Rattle.book_words.specs.Answers.{IsLegal}
use Rattle.book_laws.proofs.BatchLaws.{is_fixed}
use Rattle.book_laws.proofs.DrawnLaws.{drawing_has_plan}
use Rattle.book_laws.proofs.PopulationLaws.{drawn_from_all, drawn_or_empty}
use Rattle.paper_form.specs.declared.types.Pack as packs
use Rattle.paper_form.specs.declared.types.Draw as draws
use Rattle.paper_form.specs.declared.types.Pick.{Pick}
use Rattle.paper_form.specs.Papers.{PaperData}
use Rattle.paper_check.specs.Judging.{nets_of, contents_of_picks, below_count, defective_picks, sample_in, contents_check_in, mean_check_in, fails_in_nets, judged}
use Rattle.paper_check.specs.Faults.{has_tare_of, tare_fault, strays_at, stray_line, needs_second, unmeasured_line, given_second_fault, second_fault, samples_fault, draw_fault, after_first, second_line, first_line, verdict_line, earlier_line, packs_line, tares_line}
use Rattle.batch_paper.specs.Written.{reading_pack, packs_of, tares_of, weighed_of, pick_of, first_picks, second_picks, draw_by, product_paper}
use Rattle.batch_paper.proofs.TareLines.{none_at, no_tare_missing, no_tare_needless}
use Rattle.batch_paper.proofs.PaperNets.{IsCounted, same_nets, same_sum, same_count, contents_among_picks}
use Rattle.batch_paper.proofs.ClosedBatches.{first_counted, second_counted, IsTested, tested, planned}

-- ---- lists of picks

take_mapped : {A B : Type 0} (f : A → B) (n : ℕ) (some : List A)
    → take n (map f some) ≡ map f (take n some)
take_mapped f zero some = refl
take_mapped f (suc n) [] = refl
take_mapped f (suc n) (x ∷ some) = ap (λ ys. f x ∷ ys) (take_mapped f n some)

pub twice_mapped : (some : List Reading)
    → map (λ (pack : packs.Pack). pack.number) (map reading_pack some) ≡ numbers_of some
twice_mapped [] = refl
twice_mapped (r ∷ rs) = ap (λ ns. r.number ∷ ns) (twice_mapped rs)

no_readings : (some : List Reading) → numbers_of some ≡ [] → some ≡ []
no_readings [] h = refl
no_readings (r ∷ rs) h = absurd (cc)

is_equal : (n : ℕ) → (n == n) ≡ true
is_equal n = grind arith

-- packs that are those drawn stray nowhere
same_prefix : (entries : List Entry) (mode : Mode) (drawn : List ℕ)
    → common_prefix_len
    (λ (pick : Pick) number. pick.pack == number) (map (pick_of entries mode) drawn) drawn
    ≡ length drawn
same_prefix entries mode [] = refl
same_prefix entries mode (pack ∷ drawn) =
    let rest = same_prefix entries mode drawn in
    ap (λ b. cond b (1 + common_prefix_len (λ (pick : Pick) number. pick.pack == number)
    (map (pick_of entries mode) drawn) drawn) 0) (is_equal pack)
    ∙ (let same : 1 + common_prefix_len (λ (pick : Pick) number. pick.pack == number)
    (map (pick_of entries mode) drawn) drawn ≡ suc (length drawn) = omega (arith, rest) in same)

strays_nowhere : (entries : List Entry) (mode : Mode) (drawn : List ℕ)
    → strays_at drawn (map (pick_of entries mode) drawn) ≡ None
strays_nowhere entries mode drawn =
    ap (λ n. cond ((n == length (map (pick_of entries mode) drawn)) && (n == length drawn)) None
    (Some n))
    (same_prefix entries mode drawn)
    ∙ ap (λ m. cond ((length drawn == m) && (length drawn == length drawn)) None
    (Some (length drawn)))
    (length-map drawn (pick_of entries mode))
    ∙ ap (λ b. cond (b && b) None (Some (length drawn))) (is_equal (length drawn))

-- measured packs have no line that isn't
pub none_unmeasured : (entries : List Entry) (mode : Mode) (some : List ℕ)
    → first_unmeasured entries some ≡ None
    → All (λ (pick : Pick). is_none pick.weighed ≡ false) (map (pick_of entries mode) some)
none_unmeasured entries mode [] h = All-nil (λ (pick : Pick). is_none pick.weighed ≡ false)
none_unmeasured entries mode (pack ∷ some) h =
    each (measured_of entries pack) refl (none_unmeasured entries mode some) h
  where
    each : (o : Option Measured) → measured_of entries pack ≡ o
        → (first_unmeasured entries some ≡ None
        → All (λ (pick : Pick). is_none pick.weighed ≡ false) (map (pick_of entries mode) some))
        → cond (is_none o) (Some pack) (first_unmeasured entries some) ≡ None
        → All (λ (pick : Pick). is_none pick.weighed ≡ false)
        (map (pick_of entries mode) (pack ∷ some))
    each None is rest k = absurd (cc)
    each (Some m) is rest k =
        All-cons (λ (pick : Pick). is_none pick.weighed ≡ false) (pick_of entries mode pack)
        (map (pick_of entries mode) some)
        (ap (λ (o : Option Measured). is_none (option_map (weighed_of mode) o)) is)
        (rest k)

pub measured_first : (entries : List Entry) (some more : List ℕ)
    → first_unmeasured entries (some ++ more) ≡ None → first_unmeasured entries some ≡ None
measured_first entries [] more h = refl
measured_first entries (pack ∷ some) more h =
    each (is_none (measured_of entries pack)) (measured_first entries some more) h
  where
    each : (b : Bool)
        → (first_unmeasured entries (some ++ more) ≡ None → first_unmeasured entries some ≡ None)
        → cond b (Some pack) (first_unmeasured entries (some ++ more)) ≡ None
        → cond b (Some pack) (first_unmeasured entries some) ≡ None
    each true rest k = absurd (cc)
    each false rest k = rest k

measured_rest : (entries : List Entry) (some more : List ℕ)
    → first_unmeasured entries (some ++ more) ≡ None → first_unmeasured entries more ≡ None
measured_rest entries [] more h = h
measured_rest entries (pack ∷ some) more h =
    each (is_none (measured_of entries pack)) (measured_rest entries some more) h
  where
    each : (b : Bool)
        → (first_unmeasured entries (some ++ more) ≡ None → first_unmeasured entries more ≡ None)
        → cond b (Some pack) (first_unmeasured entries (some ++ more)) ≡ None
        → first_unmeasured entries more ≡ None
    each true rest k = absurd (cc)
    each false rest k = rest k

keep_middle : (a b c : Bool) → a ≡ true → c ≡ true → (a && b && c) ≡ false → b ≡ false
keep_middle true true true x y h = absurd (cc)
keep_middle true false true x y h = refl
keep_middle false b c x y h = absurd (cc)
keep_middle true b false x y h = absurd (cc)

-- ---- a batch of which a sample was drawn

module _ (entries : List Entry) (batch product : Name) (legal : IsLegal entries)
    (drawing : Drawing) (drawn : drawing_of entries batch ≡ Some drawing) where
  abbrev paper : PaperData
  paper = product_paper entries batch product

  abbrev some : List Reading
  some = population entries batch

  abbrev word : Option ℕ
  word = last_said (second_word batch) entries

  abbrev sample : Sample
  sample = sample_by drawing word

  has : sample_of entries batch ≡ Some sample
  has = ap (option_map (λ (d : Drawing). sample_by d word)) drawn

  abbrev draw : draws.Draw
  draw = draw_by drawing

  is_drawn : paper.draw ≡ Some draw
  is_drawn = ap (option_map draw_by) drawn

  pub first_is : paper.first ≡ map (pick_of entries drawing.mode) sample.first
  first_is = ap (λ (o : Option Sample). option_map_or (first_picks entries) o []) has

  pub second_is : paper.second ≡ map (pick_of entries drawing.mode) (second_packs sample)
  second_is = ap (λ (o : Option Sample). option_map_or (second_picks entries) o []) has

  same_sample : sample_in paper draw ≡ sample
  same_sample =
      ap (λ (packs : List ℕ). sample_by
      (record { mode = drawing.mode; word = drawing.word; packs = packs }) word)
      (twice_mapped some ∙ sym (drawn_from_all entries legal batch drawing drawn))

  firsts : All (IsCounted entries batch) sample.first
  firsts = first_counted entries batch sample legal has

  first_contents : contents_of_picks paper drawing.mode paper.first
      ≡ contents_among entries drawing.mode sample.first
  first_contents =
      ap (contents_of_picks paper drawing.mode) first_is
      ∙ contents_among_picks entries batch product legal drawing.mode sample.first firsts

  second_contents : contents_of_picks paper drawing.mode paper.second
      ≡ contents_among entries drawing.mode (second_packs sample)
  second_contents =
      ap (contents_of_picks paper drawing.mode) second_is
      ∙ contents_among_picks entries batch product legal drawing.mode (second_packs sample)
      (second_counted entries batch sample legal has)

  first_count : defective_picks paper drawing.mode paper.first
      ≡ first_defective entries batch sample
  first_count =
      ap (count_by (is_below (density_of_batch entries batch) (limits_of_batch entries batch).t1))
      first_contents

  second_count : defective_picks paper drawing.mode paper.second
      ≡ second_defective entries batch sample
  second_count =
      ap (count_by (is_below (density_of_batch entries batch) (limits_of_batch entries batch).t1))
      second_contents

  contents_right : contents_check_in paper draw ≡ contents_check_accepts entries batch sample
  contents_right =
      ap (λ (s : Sample). contents_accepts s.plan (defective_picks paper drawing.mode paper.first)
      (defective_picks paper drawing.mode paper.second)) same_sample
      ∙ ap (λ n. contents_accepts sample.plan n (defective_picks paper drawing.mode paper.second))
      first_count
      ∙ ap (contents_accepts sample.plan (first_defective entries batch sample)) second_count

  mean_contents : contents_of_picks paper drawing.mode (take sample.plan.mean_n paper.first)
      ≡ contents_among entries drawing.mode (take sample.plan.mean_n sample.first)
  mean_contents =
      ap (λ (picks : List Pick). contents_of_picks paper drawing.mode
      (take sample.plan.mean_n picks)) first_is
      ∙ ap (contents_of_picks paper drawing.mode)
      (take_mapped (pick_of entries drawing.mode) sample.plan.mean_n sample.first)
      ∙ contents_among_picks entries batch product legal drawing.mode
      (take sample.plan.mean_n sample.first)
      (All-take (IsCounted entries batch) sample.plan.mean_n sample.first firsts)

  mean_right : mean_check_in paper draw ≡ mean_check_accepts entries batch sample
  mean_right =
      ap (λ (s : Sample). mean_accepts
      (contents_of_picks paper drawing.mode (take s.plan.mean_n paper.first))
      (nominal_of_batch entries batch) (density_of_batch entries batch) s.plan.k1000) same_sample
      ∙ ap (λ (values : List ℤ). mean_accepts values (nominal_of_batch entries batch)
      (density_of_batch entries batch) sample.plan.k1000) mean_contents

  number : length paper.packs ≡ length some
  number = length-map some reading_pack

  nets : nets_of paper.tares paper.packs ≡ map (net_of_reading entries) some
  nets = same_nets entries batch legal

  sum : total (nets_of paper.tares paper.packs) ≡ net_sum entries some
  sum = ap total nets ∙ same_sum (net_of_reading entries) some

  below : (limit : ℤ) → below_count paper limit (nets_of paper.tares paper.packs)
      ≡ count_by
      (λ (r : Reading). is_below (density_of_batch entries batch) limit (net_of_reading entries r))
      some
  below limit = ap (count_by (is_below (density_of_batch entries batch) limit)) nets
      ∙ same_count (is_below (density_of_batch entries batch) limit) (net_of_reading entries) some

  average_right : average_by (length paper.packs) paper.goods.density paper.goods.nominal
      (total (nets_of paper.tares paper.packs)) ≡ average_accepts entries batch some
  average_right = λ i. average_by (number i) (density_of_batch entries batch)
      (nominal_of_batch entries batch) (sum i)

  allowance_right : allowance_by (length paper.packs)
      (below_count paper (limits_of_batch entries batch).t1 (nets_of paper.tares paper.packs))
      ≡ allowance_accepts entries batch some
  allowance_right = λ i. allowance_by (number i) (below (limits_of_batch entries batch).t1 i)

  inadequate_right : none_inadequate
      (below_count paper (limits_of_batch entries batch).t2 (nets_of paper.tares paper.packs))
      ≡ no_inadequate entries batch some
  inadequate_right = λ i. none_inadequate (below (limits_of_batch entries batch).t2 i)

  fails_right : fails_in_nets paper draw (nets_of paper.tares paper.packs)
      ≡ fails_of entries batch some (Some sample)
  fails_right =
      λ i. fails_by (contents_right i) (mean_right i) (average_right i) (allowance_right i)
      (inadequate_right i)

  pub some_packs : (length some == 0) ≡ false
  some_packs = each some refl
    where
      each : (rs : List Reading) → some ≡ rs → (length rs == 0) ≡ false
      each (r ∷ rs) is = grind arith
      each [] is = absurd (no_plan drawing.mode
          (sym (ap (λ (packs : List ℕ). is_ok (plan_of (length packs) drawing.mode))
          (drawn_from_all entries legal batch drawing drawn ∙ ap numbers_of is))
          ∙ drawing_has_plan entries batch drawing legal drawn))
        where
          no_plan : (mode : Mode) → is_ok (plan_of 0 mode) ≡ true → ⊥
          no_plan Keep h = absurd (cc)
          no_plan Destroy h = absurd (cc)

  judged_right : judged paper ≡ verdict_of entries batch
  judged_right =
      ap (λ (o : Option draws.Draw). option_map_or (λ (d : draws.Draw). verdict_by_fails
      (fails_in_nets paper d (nets_of paper.tares paper.packs))) o Empty) is_drawn
      ∙ ap verdict_by_fails fails_right
      ∙ sym (ap (λ b. cond b Empty (verdict_by_fails
      (fails_of entries batch some (sample_of entries batch)))) some_packs
      ∙ ap (λ (o : Option Sample). verdict_by_fails (fails_of entries batch some o)) has)

  -- ---- the draws

  open_right : needs_second paper draw ≡ is_open sample.plan (first_defective entries batch sample)
  open_right =
      ap (λ (s : Sample). is_open s.plan (defective_picks paper drawing.mode paper.first))
      same_sample
      ∙ ap (is_open sample.plan) first_count

  first_strays : stray_line (first_line paper) (sample_in paper draw).first paper.first ≡ None
  first_strays =
      ap (λ (s : Sample). stray_line (first_line paper) s.first paper.first) same_sample
      ∙ ap (stray_line (first_line paper) sample.first) first_is
      ∙ ap (option_map
      (λ place. first_line paper + place)) (strays_nowhere entries drawing.mode sample.first)

  second_strays : stray_line (second_line paper) (second_packs (sample_in paper draw)) paper.second
      ≡ None
  second_strays =
      ap (λ (s : Sample). stray_line (second_line paper) (second_packs s) paper.second) same_sample
      ∙ ap (stray_line (second_line paper) (second_packs sample)) second_is
      ∙ ap (option_map
      (λ place. second_line paper + place))
      (strays_nowhere entries drawing.mode (second_packs sample))

  module _ (right : IsTested entries batch) where
    not_needed : word ≡ None → needs_second paper draw ≡ false
    not_needed none =
        open_right
        ∙ keep_middle (is_measured entries sample.first)
        (is_open sample.plan (first_defective entries batch sample)) (is_none sample.second)
        (ap is_none (measured_first entries sample.first _ (right.measured sample has)))
        (ap (λ (o : Option ℕ). is_none (option_map (drawn_second drawing) o)) none)
        (right.whole sample has)

    all_measured : needs_second paper draw ≡ true → unmeasured_line paper ≡ None
    all_measured needed =
        ap (λ (picks : List Pick). option_map (λ place. second_line paper + place)
        (position (λ (pick : Pick). is_none pick.weighed) picks)) second_is
        ∙ ap (option_map (λ place. second_line paper + place))
        (none_at (λ (pick : Pick). is_none pick.weighed)
        (map (pick_of entries drawing.mode) (second_packs sample))
        (none_unmeasured entries drawing.mode (second_packs sample)
        (measured_rest entries sample.first (second_packs sample)
        (sym (ap (λ b. first_unmeasured entries (sample.first ++ cond b (second_packs sample) []))
        (sym open_right ∙ needed)) ∙ right.measured sample has))))

    none_where : (b : Bool) (o : Option ℕ) → (b ≡ true → o ≡ None) → cond b o None ≡ None
    none_where true o h = h refl
    none_where false o h = refl

    second_right : second_fault paper draw ≡ None
    second_right = each word refl
      where
        each : (o : Option ℕ) → word ≡ o → second_fault paper draw ≡ None
        each None is =
            ap (λ (o : Option ℕ). cond (is_none o) (cond (needs_second paper draw)
            (Some (verdict_line paper)) None) (given_second_fault paper draw)) is
            ∙ ap (λ b. cond b (Some (verdict_line paper)) None) (not_needed is)
        each (Some w) is =
            ap (λ (o : Option ℕ). cond (is_none o) (cond (needs_second paper draw)
            (Some (verdict_line paper)) None) (given_second_fault paper draw)) is
            ∙ ap (λ (s : Sample). cond (s.plan.second == 0) (Some (after_first paper))
            (earlier_line
            (stray_line (second_line paper) (second_packs (sample_in paper draw)) paper.second)
            (cond (needs_second paper draw) (unmeasured_line paper) None))) same_sample
            ∙ ap (λ b. cond b (Some (after_first paper))
            (earlier_line
            (stray_line (second_line paper) (second_packs (sample_in paper draw)) paper.second)
            (cond (needs_second paper draw) (unmeasured_line paper) None)))
            (planned entries legal batch drawing w drawn is)
            ∙ ap (λ (o : Option ℕ). earlier_line o
            (cond (needs_second paper draw) (unmeasured_line paper) None)) second_strays
            ∙ none_where (needs_second paper draw) (unmeasured_line paper) all_measured

    draws_right : draw_fault paper ≡ None
    draws_right =
        ap (option_and_then
        (λ (d : draws.Draw). samples_fault paper d (plan_of (length paper.packs) d.mode)))
        is_drawn
        ∙ each (plan_of (length paper.packs) drawing.mode) refl
      where
        good : is_ok (plan_of (length paper.packs) drawing.mode) ≡ true
        good =
            ap (λ n. is_ok (plan_of n drawing.mode)) (number
            ∙ sym (length-map some (λ (r : Reading). r.number))
            ∙ sym (ap length (drawn_from_all entries legal batch drawing drawn)))
            ∙ drawing_has_plan entries batch drawing legal drawn

        each : (r : Result Plan PlanRefusal) → plan_of (length paper.packs) drawing.mode ≡ r
            → samples_fault paper draw r ≡ None
        each (Err refusal) is = absurd (let wrong : false ≡ true = sym (ap is_ok is) ∙ good in cc)
        each (Ok plan) is =
            ap (λ (o : Option ℕ). option_or o (second_fault paper draw)) first_strays ∙ second_right

-- ---- any closed batch

-- a closed batch without a draw has no pack
pub undrawn_empty : (entries : List Entry) (batch : Name) → IsLegal entries
    → state_of entries batch ≡ Some Closed → drawing_of entries batch ≡ None
    → population entries batch ≡ []
undrawn_empty entries batch legal closed none =
    elim (drawn_or_empty entries legal batch (ap is_fixed closed)) [
      | inl has ↦ absurd (let wrong : false ≡ true = sym (ap is_some none) ∙ has in cc)
      | inr empty ↦ no_readings (population entries batch) empty
    ]

-- the verdict that the paper of a closed batch gives is that of the book
pub judged_as_book : (entries : List Entry) (batch product : Name) → IsLegal entries
    → state_of entries batch ≡ Some Closed
    → judged (product_paper entries batch product) ≡ verdict_of entries batch
judged_as_book entries batch product legal closed = each (drawing_of entries batch) refl
  where
    each : (o : Option Drawing) → drawing_of entries batch ≡ o
        → judged (product_paper entries batch product) ≡ verdict_of entries batch
    each (Some drawing) is = judged_right entries batch product legal drawing is
    each None is =
        ap (λ (o : Option Drawing). option_map_or (λ (d : draws.Draw). verdict_by_fails
        (fails_in_nets (product_paper entries batch product) d
        (nets_of (tares_of entries batch) (packs_of entries batch)))) (option_map draw_by o) Empty)
        is
        ∙ sym (ap (λ (rs : List Reading). cond (length rs == 0) Empty (verdict_by_fails
        (fails_of entries batch rs (sample_of entries batch))))
        (undrawn_empty entries batch legal closed is))

-- no tare is missing or needless
pub tares_right : (entries : List Entry) (batch product : Name)
    → tare_fault (product_paper entries batch product) ≡ None
tares_right entries batch product =
    let paper : PaperData = product_paper entries batch product in
    ap (λ (o : Option ℕ). option_or (option_map (λ place. tares_line + place) o)
    (option_map (λ place. packs_line paper + place)
    (position (λ (pack : packs.Pack). not (has_tare_of paper.tares pack)) paper.packs)))
    (no_tare_needless entries batch (packs_of entries batch))
    ∙ ap (option_map (λ place. packs_line paper + place))
    (no_tare_missing entries batch (packs_of entries batch))

-- the samples are those that the words draw, whole and measured as far as needed
pub draws_as_book : (entries : List Entry) (batch product : Name) → IsLegal entries
    → state_of entries batch ≡ Some Closed → draw_fault (product_paper entries batch product) ≡ None
draws_as_book entries batch product legal closed = each (drawing_of entries batch) refl
  where
    each : (o : Option Drawing) → drawing_of entries batch ≡ o
        → draw_fault (product_paper entries batch product) ≡ None
    each (Some drawing) is =
        draws_right entries batch product legal drawing is (tested entries legal batch closed)
    each None is =
        let paper : PaperData = product_paper entries batch product in
        ap (λ (o : Option Drawing). option_and_then (λ (d : draws.Draw). samples_fault paper d
        (plan_of (length paper.packs) d.mode)) (option_map draw_by o)) is
