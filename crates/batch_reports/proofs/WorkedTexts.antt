-- Texts that were written down by hand, computed by the definitions.
use Rattle.std.proofs.Common.{◌≡◌, ℕ, ℤ, pos, negsuc, List, [], ◌∷◌, ◌++◌, codes, Some, None, true, false, refl}
use Rattle.annex_tables.specs.declared.types.Mode.TheVariants.{Keep, Destroy}
use Rattle.pack_judge.specs.declared.types.Class.TheVariants as classes
use Rattle.pack_judge.specs.declared.types.Cause.TheVariants as cause
use Rattle.pack_judge.specs.declared.types.Signal.TheVariants.{Pass, Reject}
use Rattle.pack_judge.specs.declared.types.Pile.TheVariants.{Passed, Rejected}
use Rattle.pack_judge.specs.declared.types.Tally.{Tally}
use Rattle.book_words.specs.declared.name.Name.{Name}
use Rattle.book_words.specs.declared.act.Unit.TheVariants.{Mass, Volume}
use Rattle.book_words.specs.declared.act.BatchState.TheVariants.{Running, Closed}
use Rattle.book_words.specs.declared.views.Verdict.TheVariants.{Empty, Released, Withheld}
use Rattle.book_words.specs.declared.views.Sheet.{Sheet}
use Rattle.book_words.specs.declared.views.PackView.{PackView}
use Rattle.book_words.specs.declared.reply.Reply.TheVariants as reply
use Rattle.book_words.specs.declared.refusal.Refusal.{Refusal}
use Rattle.book_words.specs.declared.refusal.Refusal.TheVariants as why
use Rattle.book_words.specs.Names.{name_with}
use Rattle.std.specs.Fmt.{digits}
use Rattle.hall_units.specs.Grams.{gram_text}
use Rattle.batch_reports.specs.Texts.{reply_text, refusal_text, sheet_text, pack_text, lane_text, sample_text, summary_text}

abbrev batch_a : Name
batch_a = name_with (65 ∷ []) refl

-- so many readings, and the sum of their grosses in milligrams
abbrev weighed : ℕ → ℤ → Tally
weighed count gross = record { count = count; gross = gross }

-- 600 packs by mass, 50 of which were drawn and measured
abbrev closed_sheet : Sheet
closed_sheet = record {
  batch = batch_a;
  product = name_with (codes "rice250") refl;
  nominal = pos 250000;
  unit = Mass;
  tne = pos 9000;
  density = 0;
  state = Closed;
  readings = weighed 600 (pos 157200000);
  passed = weighed 550 (pos 144100000);
  rejected = weighed 0 (pos 0);
  sampled = weighed 50 (pos 13100000);
  voided = weighed 0 (pos 0);
  population = 600;
  net = pos 150600000;
  nonstandard = 0;
  inadequate = 0;
  held = false;
  test = Some (record { mode = Keep; first = 50; measured1 = 50; d1 = 0; second = 0; measured2 = 0; d2 = 0 });
  verdict = Some Released;
}

closed_sheet_by_mass : reply_text (reply.SheetIs closed_sheet) ≡
    codes "batch A product rice250 nominal 250.000 tne 9.000\n"
    ++ codes "state closed\n"
    ++ codes "readings 600 gross 157200.000\n"
    ++ codes "passed 550 gross 144100.000\n"
    ++ codes "rejected 0 gross 0.000\n"
    ++ codes "sampled 50 gross 13100.000\n"
    ++ codes "voided 0 gross 0.000\n"
    ++ codes "population 600 net 150600.000 nonstandard 0 inadequate 0\n"
    ++ codes "held no\n"
    ++ codes "test keep first 50 measured 50 defective 0\n"
    ++ codes "verdict released\n"
unfolding sheet_text gram_text digits
closed_sheet_by_mass = refl

-- two samples of 30 packs, with two and three defective ones
withheld_sheet : reply_text (reply.SheetIs (record closed_sheet {
  product = name_with (codes "juice") refl;
  nominal = pos 1000000;
  unit = Volume;
  tne = pos 15000;
  density = 1040500;
  net = negsuc 0;
  held = true;
  test = Some (record { mode = Destroy; first = 30; measured1 = 30; d1 = 2; second = 30; measured2 = 29; d2 = 3 });
  verdict = Some (Withheld (record { contents = true; mean = false; average = true; allowance = false; inadequate = true }));
})) ≡
    codes "batch A product juice nominal 1000.000 ml tne 15.000 ml density 1040.500\n"
    ++ codes "state closed\n"
    ++ codes "readings 600 gross 157200.000\n"
    ++ codes "passed 550 gross 144100.000\n"
    ++ codes "rejected 0 gross 0.000\n"
    ++ codes "sampled 50 gross 13100.000\n"
    ++ codes "voided 0 gross 0.000\n"
    ++ codes "population 600 net -0.001 nonstandard 0 inadequate 0\n"
    ++ codes "held yes\n"
    ++ codes "test destroy first 30 measured 30 defective 2\n"
    ++ codes "second 30 measured 29 defective 3\n"
    ++ codes "verdict withheld contents average inadequate\n"
unfolding sheet_text gram_text digits
withheld_sheet = refl

-- a batch of which no sample was drawn has neither line
running_sheet : reply_text (reply.SheetIs (record closed_sheet { state = Running; test = None; verdict = None })) ≡
    codes "batch A product rice250 nominal 250.000 tne 9.000\n"
    ++ codes "state running\n"
    ++ codes "readings 600 gross 157200.000\n"
    ++ codes "passed 550 gross 144100.000\n"
    ++ codes "rejected 0 gross 0.000\n"
    ++ codes "sampled 50 gross 13100.000\n"
    ++ codes "voided 0 gross 0.000\n"
    ++ codes "population 600 net 150600.000 nonstandard 0 inadequate 0\n"
    ++ codes "held no\n"
unfolding sheet_text gram_text digits
running_sheet = refl

-- ---- a line each

abbrev pack_six : PackView
pack_six = record {
  pack = 6;
  batch = batch_a;
  product = name_with (codes "rice250") refl;
  lane = 1;
  day = pos 20150;
  gross = pos 243000;
  net = pos 231000;
  class = classes.Inadequate;
  signal = Pass;
  pile = Passed;
}

an_inadequate_pack : reply_text (reply.PackIs pack_six) ≡ codes "pack 6 batch A lane 1 gross 243.000 net 231.000 inadequate pass passed\n"
unfolding pack_text gram_text digits
an_inadequate_pack = refl

a_nonstandard_pack : reply_text (reply.PackIs (record pack_six { net = pos 239999; class = classes.NonStandard; signal = Reject cause.Allowance; pile = Rejected })) ≡
    codes "pack 6 batch A lane 1 gross 243.000 net 239.999 nonstandard reject allowance rejected\n"
unfolding pack_text gram_text digits
a_nonstandard_pack = refl

idle_lane : reply_text (reply.LaneIs (record { lane = 16; batch = None; unsettled = None })) ≡ codes "lane 16 idle\n"
unfolding lane_text digits
idle_lane = refl

settled_lane : reply_text (reply.LaneIs (record { lane = 1; batch = Some batch_a; unsettled = None })) ≡ codes "lane 1 batch A settled\n"
unfolding lane_text digits
settled_lane = refl

unsettled_lane : reply_text (reply.LaneIs (record { lane = 1; batch = Some batch_a; unsettled = Some 105 })) ≡ codes "lane 1 batch A unsettled 105\n"
unfolding lane_text digits
unsettled_lane = refl

first_sample : reply_text (reply.SampleIs (record { batch = batch_a; first = 9 ∷ 8 ∷ []; second = [] })) ≡ codes "sample A first 9 8\n"
unfolding sample_text digits
first_sample = refl

both_samples : reply_text (reply.SampleIs (record { batch = batch_a; first = 9 ∷ 8 ∷ []; second = 1000000 ∷ 7 ∷ [] })) ≡ codes "sample A first 9 8 second 1000000 7\n"
unfolding sample_text digits
both_samples = refl

done : reply_text (reply.Done 1) ≡ codes "1 ok\n"
unfolding digits
done = refl

held : reply_text (reply.Judged 8 (Reject cause.Held)) ≡ codes "8 reject held\n"
unfolding digits
held = refl

empty : reply_text (reply.Closed 9 Empty) ≡ codes "9 empty\n"
unfolding digits
empty = refl

released : reply_text (reply.Closed 170 Released) ≡ codes "170 released\n"
unfolding digits
released = refl

withheld : reply_text (reply.Closed 170 (Withheld (record { contents = true; mean = false; average = false; allowance = false; inadequate = false }))) ≡ codes "170 withheld contents\n"
unfolding digits
withheld = refl

withheld_by_all : reply_text (reply.Closed 170 (Withheld (record { contents = true; mean = true; average = true; allowance = true; inadequate = true }))) ≡
    codes "170 withheld contents mean average allowance inadequate\n"
unfolding digits
withheld_by_all = refl

-- ---- refusals, one of each that keeps something

abbrev told : ℕ → Refusal → List ℕ
told at refusal = refusal_text (record { at = at; refusal = refusal })

density_refused : told 3 why.DensityRange ≡ codes "refused 35 DensityRange at 3\n"
unfolding refusal_text digits
density_refused = refl

old_refused : told 3 (why.RequestOld 2) ≡ codes "refused 2 RequestOld 2 at 3\n"
unfolding refusal_text digits
old_refused = refl

reused_refused : told 2 (why.RequestReused 2) ≡ codes "refused 3 RequestReused 2 at 2\n"
unfolding refusal_text digits
reused_refused = refl

gap_refused : told 3 (why.RequestGap 2) ≡ codes "refused 4 RequestGap 2 at 3\n"
unfolding refusal_text digits
gap_refused = refl

full_refused : told 5 (why.BookFull 5) ≡ codes "refused 5 BookFull 5 at 5\n"
unfolding refusal_text digits
full_refused = refl

state_refused : told 7 (why.BatchState Closed) ≡ codes "refused 15 BatchState closed at 7\n"
unfolding refusal_text digits
state_refused = refl

pile_refused : told 7 (why.PackPile Rejected) ≡ codes "refused 25 PackPile rejected at 7\n"
unfolding refusal_text digits
pile_refused = refl

prior_refused : told 7 (why.PriorWrong true) ≡ codes "refused 21 PriorWrong wanted at 7\n"
unfolding refusal_text digits
prior_refused = refl

measured_refused : told 139 (why.MeasuredAlready (pos 250999)) ≡ codes "refused 30 MeasuredAlready 250.999 at 139\n"
unfolding refusal_text gram_text digits
measured_refused = refl

second_refused : told 138 (why.SecondNeeded 2) ≡ codes "refused 33 SecondNeeded 2 at 138\n"
unfolding refusal_text digits
second_refused = refl

frozen_refused : told 139 (why.TareFrozen batch_a) ≡ codes "refused 34 TareFrozen A at 139\n"
unfolding refusal_text digits
frozen_refused = refl

-- ---- the whole hall

balance : reply_text (reply.SummaryIs (record {
  rows = 10;
  readings = weighed 3 (pos 763000);
  passed = weighed 1 (pos 260000);
  rejected = weighed 1 (pos 260000);
  sampled = weighed 0 (pos 0);
  voided = weighed 1 (pos 243000);
  running = 1;
  ended = 0;
  drawn = 2;
  closed = 12;
})) ≡
    codes "rows 10\n"
    ++ codes "readings 3 gross 763.000\n"
    ++ codes "passed 1 gross 260.000\n"
    ++ codes "rejected 1 gross 260.000\n"
    ++ codes "sampled 0 gross 0.000\n"
    ++ codes "voided 1 gross 243.000\n"
    ++ codes "batches running 1 ended 0 drawn 2 closed 12\n"
unfolding summary_text gram_text digits
balance = refl
