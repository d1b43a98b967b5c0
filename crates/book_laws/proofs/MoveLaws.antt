-- The piles add up, and an entry moves the packs only as it may.
use Rattle.std.proofs.Common.{◌≡◌, ℕ, ℤ, ◌+◌, ◌+ℤ◌, Bool, true, false, not, ◌&&◌, ◌||◌, ◌==◌, cond, List, [], ◌∷◌, ◌++◌, length, map, Option, Some, None, is_some, is_none, option_map, refl, sym, ◌∙◌, ap, subst, arith}
use Rattle.std.proofs.lemmas.Bool.{and_parts, and_from, both_ways, eqb-true, or_parts, or_right, or_left, false_from_ne_true}
use Rattle.std.proofs.lemmas.Int.{ints}
use Rattle.std.proofs.lemmas.List.{map-append, length-map}
use Rattle.std.proofs.lemmas.List.Elements.{All-head, All-tail, All-filter, filter-append}
use Rattle.std.specs.List.{All, filter, list_all, cons_option}
use Rattle.std.specs.List.Sorted.{IsStrictlyIncreasing}
use Rattle.std.specs.Option.{option_or, option_and_then, option_map_or}
use Rattle.annex_tables.specs.declared.types.Mode.{Mode}
use Rattle.pack_judge.specs.declared.types.Signal.{Signal}
use Rattle.pack_judge.specs.declared.types.Signal.TheVariants.{Pass, Reject}
use Rattle.pack_judge.specs.declared.types.Pile.{Pile}
use Rattle.pack_judge.specs.declared.types.Pile.TheVariants.{Passed, Rejected, Sampled, Voided}
use Rattle.book_words.specs.declared.name.Name.{Name}
use Rattle.book_words.specs.declared.act.Prior.{Prior}
use Rattle.book_words.specs.declared.act.Act.{Act}
use Rattle.book_words.specs.declared.act.Act.TheVariants.{Weigh, StopLane, Void, Draw, DrawSecond}
use Rattle.book_words.specs.declared.act.Entry.{Entry}
use Rattle.book_words.specs.declared.act.Reading.{Reading}
use Rattle.book_words.specs.declared.refusal.Refusal.TheVariants as why
use Rattle.book_words.specs.Names.{same_name}
use Rattle.book_words.specs.Acts.{last_said, state_of, newest_day, last_batch, lane_batch}
use Rattle.book_words.specs.Readings.{weighed_reading, readings, reading_of, is_of_batch}
use Rattle.book_words.specs.Population.{settled_pile, unsampled_pile, is_pass, is_unsettled, is_counted, readings_of_batch, population}
use Rattle.pack_judge.specs.Piles.{same_pile}
use Rattle.book_words.specs.Samples.{Drawing, Sample, numbers_of, drawing_from, drawing_of, first_picks, second_picks, second_word, sample_by, sample_of, is_among, holds_pack, is_sampled}
use Rattle.book_words.specs.Piles.{pile_with_sample, pile_of, in_pile, gross_sum, tally}
use Rattle.book_words.specs.Verdicts.{first_defective}
use Rattle.book_words.specs.Balance.{AddUp, IsBalanced, pile_by_gate, packs_drawn, moved_pile, next_pile, own_pile, leaves_passed, MovesOnly, EachMoves}
use Rattle.book_words.specs.Refusals as rules
use Rattle.book_words.specs.Refusals.{refused_if}
use Rattle.book_words.specs.Answers.{IsLawful, IsLegal}
use Rattle.book_words.proofs.NameLemmas.{same_name_is, same_name_itself}
use Rattle.book_words.proofs.RefusalLemmas.{not_refused}
use Rattle.book_words.proofs.LegalLemmas.{legal-prefix}
use Rattle.book_words.proofs.OneMoreEntry.{advance, own_reading, readings-push}
use Rattle.book_words.proofs.DrawnLemmas.{sample_of-push}
use Rattle.book_words.proofs.AllowedActs.{IsAllowed, allowed, not_test, weigh_tells, void_tells, draw_second_tells}
use Rattle.book_laws.proofs.ReadingLaws.{IsOneOf, each_is_one, of_reading, numbers_increase}
use Rattle.book_laws.proofs.BatchLaws.{IsOrderly, orderly, is_fixed, no_sample, draw_state}
use Rattle.book_laws.proofs.UnsettledLaws.{Belongs, each_belongs}
use Rattle.book_laws.proofs.PopulationLaws.{settled_after, unsampled_on, batch_of, unsettled_is_free, DrawnFromAll, drawn_from_all}
use Rattle.book_laws.proofs.SampleLaws.{first_among, second_among, counted_if_among}
use Rattle.book_words.proofs.PileLemmas.{same_itself}

-- ---- the samples with one entry more

-- the samples of a batch behind an act
abbrev pub sample_after : List Entry → Act → Name → Option Sample
sample_after entries act batch =
    option_map (λ drawing. sample_by drawing
    (option_or (second_word batch act) (last_said (second_word batch) entries)))
    (option_or (drawing_from batch entries act) (drawing_of entries batch))

-- whether samples, where there are some, hold a pack
abbrev pub do_hold : Option Sample → ℕ → Bool
do_hold sample pack = option_map_or (λ (s : Sample). holds_pack s pack) sample false

-- a reading of a batch is sampled where the samples of that batch hold it
pub sampled_in : (entries : List Entry) (reading : Reading) (batch : Name)
    → reading.batch ≡ Some batch → is_sampled entries reading
    ≡ do_hold (sample_of entries batch) reading.number
sampled_in entries reading batch is =
    ap (λ (o : Option Name). option_map_or (λ (s : Sample). holds_pack s reading.number)
    (option_and_then (sample_of entries) o) false) is

pile_now : (entries : List Entry) (entry : Entry) (reading : Reading) (has : Belongs entries reading)
    → pile_of (entries ++ entry ∷ []) (advance entry.act reading)
    ≡ pile_with_sample (settled_after entry.act reading (unsampled_pile reading))
    (do_hold (sample_after entries entry.act has.batch) reading.number)
pile_now entries entry reading has =
    ap (pile_with_sample (unsampled_pile (advance entry.act reading)))
    (sampled_in (entries ++ entry ∷ []) (advance entry.act reading) has.batch has.is
    ∙ ap (λ (o : Option Sample). do_hold o reading.number)
    (sample_of-push entries entry has.batch))
    ∙ ap (λ (pile : Pile). pile_with_sample pile
    (do_hold (sample_after entries entry.act has.batch) reading.number))
    (unsampled_on entry.act reading has.kept)

-- the pile of a reading of a batch
pub pile_in : (entries : List Entry) (reading : Reading) (batch : Name) → reading.batch ≡ Some batch
    → pile_of entries reading ≡ pile_with_sample (unsampled_pile reading)
    (do_hold (sample_of entries batch) reading.number)
pile_in entries reading batch is =
    ap (pile_with_sample (unsampled_pile reading)) (sampled_in entries reading batch is)

-- ---- each act, over plain piles

unsampled : (pile : Pile) → pile_with_sample pile false ≡ pile
unsampled Passed = refl
unsampled Rejected = refl
unsampled Sampled = refl
unsampled Voided = refl

is_passed : (pile : Pile) → same_pile pile Passed ≡ true → pile ≡ Passed
is_passed Passed h = refl
is_passed Rejected h = absurd (cc)
is_passed Sampled h = absurd (cc)
is_passed Voided h = absurd (cc)

-- what is unsettled and not taken back lies among the passed
pub unsettled_passed : (voided : Bool) (signal : Option Signal) (next : Option Prior)
    → (is_pass signal && is_none next) ≡ true → voided ≡ false
    → settled_pile voided signal next ≡ Passed
unsettled_passed true signal next h kept = absurd (cc)
unsettled_passed false None next h kept = absurd (cc)
unsettled_passed false (Some (Reject cause)) next h kept = absurd (cc)
unsettled_passed false (Some Pass) (Some prior) h kept = absurd (cc)
unsettled_passed false (Some Pass) None h kept = refl

-- a reading that moves by the gate isn't sampled
by_gate : (moves : Bool) (prior : Prior) (pile : Pile) (sampled : Bool)
    → (moves ≡ true → sampled ≡ false)
    → pile_with_sample (cond moves (pile_by_gate prior pile) pile) sampled
    ≡ cond moves (pile_by_gate prior (pile_with_sample pile sampled))
    (pile_with_sample pile sampled)
by_gate false prior pile sampled h = refl
by_gate true prior pile sampled h =
    subst (λ b. pile_with_sample (pile_by_gate prior pile) b
    ≡ pile_by_gate prior (pile_with_sample pile b)) (sym (h refl))
    (unsampled (pile_by_gate prior pile) ∙ ap (pile_by_gate prior) (sym (unsampled pile)))

by_void : (moves : Bool) (pile : Pile) (sampled : Bool)
    → pile_with_sample (cond moves Voided pile) sampled
    ≡ cond moves Voided (pile_with_sample pile sampled)
by_void true pile sampled = refl
by_void false pile sampled = refl

by_draw : (first second : Bool) (pile : Pile) (sampled : Bool) → (first ≡ true → pile ≡ Passed)
    → sampled ≡ false → second ≡ false
    → pile_with_sample pile (first || second) ≡ cond first Sampled (pile_with_sample pile sampled)
by_draw true second pile sampled h free none = ap (λ (p : Pile). pile_with_sample p true) (h refl)
by_draw false second pile sampled h free none = ap (pile_with_sample pile) (none ∙ sym free)

by_second_draw : (first before second : Bool) (pile : Pile) → (second ≡ true → pile ≡ Passed)
    → before ≡ false
    → pile_with_sample pile (first || second)
    ≡ cond second Sampled (pile_with_sample pile (first || before))
by_second_draw true before true pile h none = ap (λ (p : Pile). pile_with_sample p true) (h refl)
by_second_draw false before true pile h none = ap (λ (p : Pile). pile_with_sample p true) (h refl)
by_second_draw first before false pile h none = ap (λ b. pile_with_sample pile (first || b)) (sym none)

-- what moves lay among the passed
from_passed : (moves : Bool) (to pile : Pile) → (moves ≡ true → pile ≡ Passed)
    → (same_pile (cond moves to pile) pile || same_pile pile Passed) ≡ true
from_passed true to pile h = or_right (same_pile to pile) (same_pile pile Passed)
    (ap (λ (p : Pile). same_pile p Passed) (h refl))
from_passed false to pile h = or_left (same_pile pile pile) (same_pile pile Passed) (same_itself pile)

-- ---- which readings move, and what holds of these

-- a reading lies among the passed: it counts, and no sample of its batch holds it
record LiesPassed (entries : List Entry) (reading : Reading) (batch : Name) : Type 0 where
  pile : unsampled_pile reading ≡ Passed
  free : do_hold (sample_of entries batch) reading.number ≡ false

lies_passed : (entries : List Entry) (reading : Reading) (batch : Name)
    → LiesPassed entries reading batch
    → pile_with_sample (unsampled_pile reading) (do_hold (sample_of entries batch) reading.number)
    ≡ Passed
lies_passed entries reading batch lies =
    ap (λ (p : Pile). pile_with_sample p (do_hold (sample_of entries batch) reading.number))
    lies.pile ∙ ap (pile_with_sample Passed) lies.free

-- an unsettled reading lies among the passed
unsettled_lies : (entries : List Entry) (reading : Reading) → IsOrderly entries
    → (has : Belongs entries reading) → is_unsettled reading ≡ true
    → LiesPassed entries reading has.batch
unsettled_lies entries reading good has unsettled =
    record {
      pile = unsettled_passed reading.voided reading.signal reading.next_prior unsettled
          (has.kept unsettled);
      free = ap (λ (o : Option Sample). do_hold o reading.number)
          (no_sample entries has.batch good (unsettled_is_free entries reading good has unsettled));
    }

-- what a draw of a batch draws by
abbrev drawing_by : List Entry → Name → Mode → ℕ → Drawing
drawing_by entries batch mode word =
    record { mode = mode; word = word; packs = numbers_of (population entries batch) }

draws_by : (entries : List Entry) (batch : Name) (mode : Mode) (word : ℕ)
    → drawing_from batch entries (Draw batch mode word) ≡ Some (drawing_by entries batch mode word)
draws_by entries batch mode word =
    ap (λ b. cond b (Some (drawing_by entries batch mode word)) None) (same_name_itself batch)

-- the packs of a draw are its first sample
packs_by : (entries : List Entry) (batch : Name) (mode : Mode) (word : ℕ)
    → packs_drawn entries (Draw batch mode word) ≡ first_picks (drawing_by entries batch mode word)
packs_by entries batch mode word =
    ap (λ (o : Option Drawing). option_map_or first_picks o []) (draws_by entries batch mode word)

-- a reading that a draw takes is of its batch, and counts
drawn_counts : (entries : List Entry) (reading : Reading) (batch : Name) (mode : Mode) (word : ℕ)
    → IsOneOf entries reading → (has : Belongs entries reading)
    → is_among reading.number (packs_drawn entries (Draw batch mode word)) ≡ true
    → (has.batch ≡ batch) × (unsampled_pile reading ≡ Passed)
drawn_counts entries reading batch mode word one has h =
    let counted = counted_if_among entries batch reading one
    (first_among (drawing_by entries batch mode word) reading.number
    (sym (ap (is_among reading.number) (packs_by entries batch mode word)) ∙ h)) in
    (batch_of entries reading batch has counted.0, is_passed (unsampled_pile reading) counted.1)

-- before the draw its batch has no sample
draw_free : (entries : List Entry) (batch : Name) (mode : Mode) (word : ℕ) → IsOrderly entries
    → IsAllowed entries (Draw batch mode word) → is_fixed (state_of entries batch) ≡ false
draw_free entries batch mode word good h = ap is_fixed (draw_state entries batch mode word good h)

no_word : {A : Type 0} (f : ℕ → A) (o : Option ℕ) → is_some (option_map f o) ≡ false → o ≡ None
no_word f None h = refl
no_word f (Some x) h = absurd (cc)

-- before a second draw its batch has no second sample
no_second_yet : (entries : List Entry) (batch : Name) (word : ℕ) (drawing : Drawing)
    → IsAllowed entries (DrawSecond batch word) → drawing_of entries batch ≡ Some drawing
    → last_said (second_word batch) entries ≡ None
no_second_yet entries batch word drawing h is =
    let sample : Sample = sample_by drawing (last_said (second_word batch) entries) in
    let there : sample_of entries batch ≡ Some sample =
    ap (option_map (λ (d : Drawing). sample_by d (last_said (second_word batch) entries))) is in
    let needed : rules.is_second_not_needed entries batch sample ≡ false =
    not_test (rules.is_second_not_needed entries batch sample)
    (why.SecondNotNeeded (first_defective entries batch sample))
    (sym (ap (option_and_then (λ (s : Sample). refused_if
    (rules.is_second_not_needed entries batch s)
    (why.SecondNotNeeded (first_defective entries batch s)))) there)
    ∙ (draw_second_tells entries batch word h).needed) in
    no_word (second_picks drawing) (last_said (second_word batch) entries)
    (or_parts _ _ (or_parts _ _ needed).0).1

-- a reading that a second draw takes is of its batch, and lies among the passed
second_lies : (entries : List Entry) (reading : Reading) (batch : Name) (word : ℕ)
    → IsAllowed entries (DrawSecond batch word) → DrawnFromAll entries → IsOneOf entries reading
    → (has : Belongs entries reading)
    → is_among reading.number (packs_drawn entries (DrawSecond batch word)) ≡ true
    → (has.batch ≡ batch) × LiesPassed entries reading batch
second_lies entries reading batch word h all one has = each (drawing_of entries batch) refl
  where
    each : (o : Option Drawing) → drawing_of entries batch ≡ o
        → is_among reading.number (option_map_or (λ (d : Drawing). second_picks d word) o []) ≡ true
        → (has.batch ≡ batch) × LiesPassed entries reading batch
    each None is k = absurd (cc)
    each (Some drawing) is k =
        let packs : drawing.packs ≡ numbers_of (population entries batch) = all batch drawing is in
        let rises : IsStrictlyIncreasing drawing.packs =
        subst IsStrictlyIncreasing (sym packs)
        (numbers_increase entries (λ (r : Reading). is_of_batch batch r && is_counted r)) in
        let among = second_among drawing word reading.number rises k in
        let counted = counted_if_among entries batch reading one
        (sym (ap (is_among reading.number) packs) ∙ among.0) in
        let none : last_said (second_word batch) entries ≡ None =
        no_second_yet entries batch word drawing h is in (
          batch_of entries reading batch has counted.0,
          record {
            pile = is_passed (unsampled_pile reading) counted.1;
            free =
                ap (λ (o : Option Drawing). do_hold
                (option_map (λ (d : Drawing). sample_by d
                (last_said (second_word batch) entries)) o) reading.number) is
                ∙ ap (λ (w : Option ℕ). do_hold (Some (sample_by drawing w)) reading.number) none
                ∙ ap (λ b. b || false) among.1;
          },
        )

-- ---- an act moves a reading as it may

-- what an act does to the pile of a reading of a batch
record Moves (entries : List Entry) (act : Act) (reading : Reading) (batch : Name) : Type 0 where
  pile :
      pile_with_sample (settled_after act reading (unsampled_pile reading))
      (do_hold (sample_after entries act batch) reading.number)
      ≡ moved_pile entries act reading
      (pile_with_sample (unsampled_pile reading)
      (do_hold (sample_of entries batch) reading.number))
  from :
      (same_pile (moved_pile entries act reading
      (pile_with_sample (unsampled_pile reading)
      (do_hold (sample_of entries batch) reading.number)))
      (pile_with_sample (unsampled_pile reading) (do_hold (sample_of entries batch) reading.number))
      || same_pile (pile_with_sample (unsampled_pile reading)
      (do_hold (sample_of entries batch) reading.number)) Passed) ≡ true

stays : (pile : Pile) → (same_pile pile pile || same_pile pile Passed) ≡ true
stays pile = or_left (same_pile pile pile) (same_pile pile Passed) (same_itself pile)

gate_moves : (entries : List Entry) (reading : Reading) (lane : ℕ) (prior : Prior)
    → IsOrderly entries → (has : Belongs entries reading)
    → (pile_with_sample (cond ((reading.lane == lane) && is_unsettled reading)
    (pile_by_gate prior (unsampled_pile reading)) (unsampled_pile reading))
    (do_hold (sample_of entries has.batch) reading.number)
    ≡ cond ((reading.lane == lane) && is_unsettled reading)
    (pile_by_gate prior (pile_with_sample (unsampled_pile reading)
    (do_hold (sample_of entries has.batch) reading.number)))
    (pile_with_sample (unsampled_pile reading)
    (do_hold (sample_of entries has.batch) reading.number)))
    × (((reading.lane == lane) && is_unsettled reading) ≡ true
    → pile_with_sample (unsampled_pile reading)
    (do_hold (sample_of entries has.batch) reading.number) ≡ Passed)
gate_moves entries reading lane prior good has = (
  by_gate ((reading.lane == lane) && is_unsettled reading) prior (unsampled_pile reading)
      (do_hold (sample_of entries has.batch) reading.number)
      (λ c. (unsettled_lies entries reading good has
      (and_parts (reading.lane == lane) (is_unsettled reading) c).1).free),
  λ c. lies_passed entries reading has.batch
      (unsettled_lies entries reading good has
      (and_parts (reading.lane == lane) (is_unsettled reading) c).1),
)

void_passed : (entries : List Entry) (reading : Reading) (pack : ℕ) → IsAllowed entries (Void pack)
    → IsOneOf entries reading → (reading.number == pack) ≡ true → pile_of entries reading ≡ Passed
void_passed entries reading pack h one is =
    let found : reading_of entries pack ≡ Some reading =
    ap (reading_of entries) (sym (eqb-true reading.number pack is)) ∙ one in
    is_passed (pile_of entries reading)
    (not_refused (same_pile (pile_of entries reading) Passed) (why.PackPile (pile_of entries reading))
    (sym (ap (option_and_then (λ (r : Reading). refused_if
    (not (same_pile (pile_of entries r) Passed)) (why.PackPile (pile_of entries r)))) found)
    ∙ (void_tells entries pack h).pile))

draw_moves : (entries : List Entry) (reading : Reading) (batch : Name) (mode : Mode) (word : ℕ)
    → IsOrderly entries → IsAllowed entries (Draw batch mode word) → IsOneOf entries reading
    → (has : Belongs entries reading)
    → pile_with_sample (unsampled_pile reading)
    (do_hold (sample_after entries (Draw batch mode word) has.batch) reading.number)
    ≡ cond (is_among reading.number (packs_drawn entries (Draw batch mode word))) Sampled
    (pile_with_sample (unsampled_pile reading)
    (do_hold (sample_of entries has.batch) reading.number))
draw_moves entries reading batch mode word good h one has = either (same_name batch has.batch) refl
  where
    counts : is_among reading.number (packs_drawn entries (Draw batch mode word)) ≡ true
        → (has.batch ≡ batch) × (unsampled_pile reading ≡ Passed)
    counts = drawn_counts entries reading batch mode word one has

    free : is_fixed (state_of entries batch) ≡ false
    free = draw_free entries batch mode word good h

    after : sample_after entries (Draw batch mode word) batch
        ≡ Some (sample_by (drawing_by entries batch mode word)
        (last_said (second_word batch) entries))
    after = ap (λ (o : Option Drawing). option_map
        (λ (d : Drawing). sample_by d (last_said (second_word batch) entries))
        (option_or o (drawing_of entries batch))) (draws_by entries batch mode word)

    at_it : pile_with_sample (unsampled_pile reading)
        (do_hold (sample_after entries (Draw batch mode word) batch) reading.number)
        ≡ cond (is_among reading.number (packs_drawn entries (Draw batch mode word))) Sampled
        (pile_with_sample (unsampled_pile reading)
        (do_hold (sample_of entries batch) reading.number))
    at_it =
        ap (λ (o : Option Sample). pile_with_sample (unsampled_pile reading)
        (do_hold o reading.number)) after
        ∙ by_draw (is_among reading.number (first_picks (drawing_by entries batch mode word)))
        (option_map_or (is_among reading.number)
        (option_map (second_picks (drawing_by entries batch mode word))
        (last_said (second_word batch) entries)) false)
        (unsampled_pile reading) (do_hold (sample_of entries batch) reading.number)
        (λ c. (counts (ap (is_among reading.number) (packs_by entries batch mode word) ∙ c)).1)
        (ap (λ (o : Option Sample). do_hold o reading.number) (no_sample entries batch good free))
        (ap (λ (w : Option ℕ). option_map_or (is_among reading.number)
        (option_map (second_picks (drawing_by entries batch mode word)) w) false)
        (good.single batch free))
        ∙ ap (λ ps. cond (is_among reading.number ps) Sampled
        (pile_with_sample (unsampled_pile reading)
        (do_hold (sample_of entries batch) reading.number)))
        (sym (packs_by entries batch mode word))

    either : (b : Bool) → same_name batch has.batch ≡ b
        → pile_with_sample (unsampled_pile reading)
        (do_hold (sample_after entries (Draw batch mode word) has.batch) reading.number)
        ≡ cond (is_among reading.number (packs_drawn entries (Draw batch mode word))) Sampled
        (pile_with_sample (unsampled_pile reading)
        (do_hold (sample_of entries has.batch) reading.number))
    either true is =
        subst (λ (n : Name). pile_with_sample (unsampled_pile reading)
        (do_hold (sample_after entries (Draw batch mode word) n) reading.number)
        ≡ cond (is_among reading.number (packs_drawn entries (Draw batch mode word))) Sampled
        (pile_with_sample (unsampled_pile reading)
        (do_hold (sample_of entries n) reading.number)))
        (same_name_is batch has.batch is) at_it
    either false is =
        let off : is_among reading.number (packs_drawn entries (Draw batch mode word)) ≡ false =
        false_from_ne_true _ (λ c. both_ways _ is
        (ap (same_name batch) (counts c).0 ∙ same_name_itself batch)) in
        ap (λ b. pile_with_sample (unsampled_pile reading)
        (do_hold (option_map (λ (d : Drawing). sample_by d
        (last_said (second_word has.batch) entries))
        (option_or (cond b
        (Some (record {
          mode = mode;
          word = word;
          packs =
              numbers_of (population entries has.batch);
        })) None) (drawing_of entries has.batch)))
        reading.number)) is
        ∙ sym (ap (λ b. cond b Sampled
        (pile_with_sample (unsampled_pile reading)
        (do_hold (sample_of entries has.batch) reading.number))) off)

second_moves : (entries : List Entry) (reading : Reading) (batch : Name) (word : ℕ)
    → IsAllowed entries (DrawSecond batch word) → DrawnFromAll entries → IsOneOf entries reading
    → (has : Belongs entries reading)
    → pile_with_sample (unsampled_pile reading)
    (do_hold (sample_after entries (DrawSecond batch word) has.batch) reading.number)
    ≡ cond (is_among reading.number (packs_drawn entries (DrawSecond batch word))) Sampled
    (pile_with_sample (unsampled_pile reading)
    (do_hold (sample_of entries has.batch) reading.number))
second_moves entries reading batch word h all one has = either (same_name batch has.batch) refl
  where
    lies : is_among reading.number (packs_drawn entries (DrawSecond batch word)) ≡ true
        → (has.batch ≡ batch) × LiesPassed entries reading batch
    lies = second_lies entries reading batch word h all one has

    words : option_or (second_word batch (DrawSecond batch word))
        (last_said (second_word batch) entries) ≡ Some word
    words = ap (λ b. option_or (cond b (Some word) None) (last_said (second_word batch) entries))
        (same_name_itself batch)

    at_it : (o : Option Drawing) → drawing_of entries batch ≡ o
        → pile_with_sample (unsampled_pile reading)
        (do_hold (option_map (λ (d : Drawing). sample_by d
        (option_or (second_word batch (DrawSecond batch word))
        (last_said (second_word batch) entries))) o) reading.number)
        ≡ cond (is_among reading.number (option_map_or (λ (d : Drawing). second_picks d word) o []))
        Sampled (pile_with_sample (unsampled_pile reading)
        (do_hold (option_map (λ (d : Drawing). sample_by d
        (last_said (second_word batch) entries)) o) reading.number))
    at_it None is = refl
    at_it (Some drawing) is =
        ap (λ (w : Option ℕ). pile_with_sample (unsampled_pile reading)
        (do_hold (Some (sample_by drawing w)) reading.number)) words
        ∙ by_second_draw (is_among reading.number (first_picks drawing))
        (option_map_or (is_among reading.number)
        (option_map (second_picks drawing) (last_said (second_word batch) entries)) false)
        (is_among reading.number (second_picks drawing word)) (unsampled_pile reading)
        (λ c. (lies (ap (λ (o : Option Drawing). is_among reading.number
        (option_map_or (λ (d : Drawing). second_picks d word) o [])) is ∙ c)).1.pile)
        (ap (λ (w : Option ℕ). option_map_or (is_among reading.number)
        (option_map (second_picks drawing) w) false)
        (no_second_yet entries batch word drawing h is))

    either : (b : Bool) → same_name batch has.batch ≡ b
        → pile_with_sample (unsampled_pile reading)
        (do_hold (sample_after entries (DrawSecond batch word) has.batch) reading.number)
        ≡ cond (is_among reading.number (packs_drawn entries (DrawSecond batch word))) Sampled
        (pile_with_sample (unsampled_pile reading)
        (do_hold (sample_of entries has.batch) reading.number))
    either true is =
        subst (λ (n : Name). pile_with_sample (unsampled_pile reading)
        (do_hold (sample_after entries (DrawSecond batch word) n) reading.number)
        ≡ cond (is_among reading.number (packs_drawn entries (DrawSecond batch word))) Sampled
        (pile_with_sample (unsampled_pile reading)
        (do_hold (sample_of entries n) reading.number)))
        (same_name_is batch has.batch is) (at_it (drawing_of entries batch) refl)
    either false is =
        let off : is_among reading.number (packs_drawn entries (DrawSecond batch word)) ≡ false =
        false_from_ne_true _ (λ c. both_ways _ is
        (ap (same_name batch) (lies c).0 ∙ same_name_itself batch)) in
        ap (λ b. pile_with_sample (unsampled_pile reading)
        (do_hold (option_map (λ (d : Drawing). sample_by d
        (option_or (cond b (Some word) None) (last_said (second_word has.batch) entries)))
        (drawing_of entries has.batch)) reading.number)) is
        ∙ sym (ap (λ b. cond b Sampled
        (pile_with_sample (unsampled_pile reading)
        (do_hold (sample_of entries has.batch) reading.number))) off)

act_moves : (entries : List Entry) (act : Act) (reading : Reading) → IsOrderly entries
    → IsAllowed entries act → DrawnFromAll entries → IsOneOf entries reading
    → (has : Belongs entries reading) → Moves entries act reading has.batch
act_moves entries (Weigh lane gross prior) reading good h all one has =
    let moves = gate_moves entries reading lane prior good has in
    record {
      pile = moves.0;
      from =
          from_passed ((reading.lane == lane) && is_unsettled reading)
          (pile_by_gate prior (pile_with_sample (unsampled_pile reading)
          (do_hold (sample_of entries has.batch) reading.number))) _ moves.1;
    }
act_moves entries (StopLane lane prior) reading good h all one has =
    let moves = gate_moves entries reading lane prior good has in
    record {
      pile = moves.0;
      from =
          from_passed ((reading.lane == lane) && is_unsettled reading)
          (pile_by_gate prior (pile_with_sample (unsampled_pile reading)
          (do_hold (sample_of entries has.batch) reading.number))) _ moves.1;
    }
act_moves entries (Void pack) reading good h all one has =
    record {
      pile = by_void (reading.number == pack) (unsampled_pile reading)
          (do_hold (sample_of entries has.batch) reading.number);
      from = from_passed (reading.number == pack) Voided _
          (λ c. sym (pile_in entries reading has.batch has.is)
          ∙ void_passed entries reading pack h one c);
    }
act_moves entries (Draw batch mode word) reading good h all one has =
    record {
      pile = draw_moves entries reading batch mode word good h one has;
      from = from_passed (is_among reading.number (packs_drawn entries (Draw batch mode word))) Sampled _
          (λ c.
          let counts = drawn_counts entries reading batch mode word one has c in
          let none : sample_of entries has.batch ≡ None = ap (sample_of entries) counts.0
          ∙ no_sample entries batch good (draw_free entries batch mode word good h) in
          lies_passed entries reading has.batch
          (record {
            pile = counts.1;
            free =
                ap (λ (o : Option Sample). do_hold o reading.number) none;
          }));
    }
act_moves entries (DrawSecond batch word) reading good h all one has =
    record {
      pile = second_moves entries reading batch word h all one has;
      from = from_passed (is_among reading.number (packs_drawn entries (DrawSecond batch word)))
          Sampled _
          (λ c.
          let lies = second_lies entries reading batch word h all one has c in
          ap (λ (n : Name). pile_with_sample (unsampled_pile reading)
          (do_hold (sample_of entries n) reading.number)) lies.0
          ∙ lies_passed entries reading batch lies.1);
    }
act_moves entries act reading good h all one has = record { pile = refl; from = stays _ }

-- a reading of a legal list lies, behind a lawful entry, in the pile to which the entry's act moves it
pub moved : (entries : List Entry) (entry : Entry) (reading : Reading) → IsLegal entries
    → IsLawful entries entry → IsOneOf entries reading → Belongs entries reading
    → pile_of (entries ++ entry ∷ []) (advance entry.act reading) ≡ next_pile entries entry.act reading
moved entries entry reading legal lawful one has =
    pile_now entries entry reading has
    ∙ (act_moves entries entry.act reading (orderly entries legal) (allowed entries entry lawful)
    (drawn_from_all entries legal) one has).pile
    ∙ ap (moved_pile entries entry.act reading) (sym (pile_in entries reading has.batch has.is))

-- and it stays in its pile, or leaves the passed
pub moved_from : (entries : List Entry) (entry : Entry) (reading : Reading) → IsLegal entries
    → IsLawful entries entry → IsOneOf entries reading → Belongs entries reading
    → leaves_passed entries entry.act reading ≡ true
moved_from entries entry reading legal lawful one has =
    subst (λ (pile : Pile). (same_pile (moved_pile entries entry.act reading pile) pile
    || same_pile pile Passed) ≡ true) (sym (pile_in entries reading has.batch has.is))
    (act_moves entries entry.act reading (orderly entries legal) (allowed entries entry lawful)
    (drawn_from_all entries legal) one has).from

-- so each reading does
pub each_moved : (entries : List Entry) (entry : Entry) → IsLegal entries → IsLawful entries entry
    → All (λ (reading : Reading). pile_of (entries ++ entry ∷ []) (advance entry.act reading)
    ≡ next_pile entries entry.act reading) (readings entries)
each_moved entries entry legal lawful k d inside =
    moved entries entry _ legal lawful (each_is_one entries k d inside)
    (each_belongs entries legal k d inside)

map_agree : {A : Type 0} (f g : Reading → A) (change : Reading → Reading) (some : List Reading)
    → All (λ (r : Reading). f (change r) ≡ g r) some → map f (map change some) ≡ map g some
map_agree f g change [] all = refl
map_agree f g change (r ∷ rs) all =
    ap (λ x. x ∷ map f (map change rs)) (All-head (λ (q : Reading). f (change q) ≡ g q) r rs all)
    ∙ ap (λ xs. g r ∷ xs) (map_agree f g change rs
    (All-tail (λ (q : Reading). f (change q) ≡ g q) r rs all))

all_pass : (test : Reading → Bool) (some : List Reading) → All (λ (r : Reading). test r ≡ true) some
    → list_all test some ≡ true
all_pass test [] all = refl
all_pass test (r ∷ rs) all =
    and_from (test r) (list_all test rs) (All-head (λ (q : Reading). test q ≡ true) r rs all)
    (all_pass test rs (All-tail (λ (q : Reading). test q ≡ true) r rs all))

settled_alone : (signal : Option Signal) (sampled : Bool) → sampled ≡ false
    → pile_with_sample (settled_pile false signal None) sampled ≡ settled_pile false signal None
settled_alone signal sampled free = ap (pile_with_sample (settled_pile false signal None)) free
    ∙ unsampled (settled_pile false signal None)

-- an entry's own reading lies by its signal
pub own_pile_is : (entries : List Entry) (entry : Entry) (act : Act) → entry.act ≡ act
    → IsOrderly entries → IsAllowed entries act
    → map (pile_of (entries ++ entry ∷ []))
    (cons_option (weighed_reading (length entries + 1) entries act entry.signal []) [])
    ≡ own_pile entry act
own_pile_is entries entry (Weigh lane gross prior) is good h =
    each (lane_batch entries lane) refl (weigh_tells entries lane gross prior h).runs
  where
    own : Reading
    own = record {
      number = length entries + 1;
      lane = lane;
      gross = gross;
      signal = entry.signal;
      day = newest_day entries;
      batch = last_batch entries lane;
      next_prior = None;
      voided =
          false;
    }

    each : (o : Option Name) → lane_batch entries lane ≡ o → is_some o ≡ true
        → pile_of (entries ++ entry ∷ []) own ∷ [] ≡ settled_pile false entry.signal None ∷ []
    each None on there = absurd (cc)
    each (Some batch) on there =
        let none : sample_of (entries ++ entry ∷ []) batch ≡ None =
        sample_of-push entries entry batch ∙ ap (λ (a : Act). sample_after entries a batch) is
        ∙ no_sample entries batch good (ap is_fixed (good.lanes lane batch on)) in
        ap (λ (pile : Pile). pile ∷ [])
        (settled_alone entry.signal (is_sampled (entries ++ entry ∷ []) own)
        (sampled_in (entries ++ entry ∷ []) own batch (good.started lane batch on)
        ∙ ap (λ (o : Option Sample). do_hold o (length entries + 1)) none))
own_pile_is entries entry act is good h = refl

-- a lawful entry behind a legal list moves the packs as it may, and no others
pub moves_only : (entries : List Entry) (entry : Entry) → IsLegal entries → IsLawful entries entry
    → MovesOnly entries entry
moves_only entries entry legal lawful =
    record {
      piles =
          ap (map (pile_of (entries ++ entry ∷ []))) (readings-push entries entry)
          ∙ map-append (pile_of (entries ++ entry ∷ []))
          (map (advance entry.act) (readings entries))
          (cons_option (own_reading entries entry) [])
          ∙ ap (λ (ps : List Pile). ps ++ map (pile_of (entries ++ entry ∷ []))
          (cons_option (own_reading entries entry) []))
          (map_agree (pile_of (entries ++ entry ∷ [])) (next_pile entries entry.act)
          (advance entry.act) (readings entries) (each_moved entries entry legal lawful))
          ∙ ap (λ (ps : List Pile). map (next_pile entries entry.act) (readings entries) ++ ps)
          (own_pile_is entries entry entry.act refl (orderly entries legal)
          (allowed entries entry lawful));
      from = all_pass (leaves_passed entries entry.act) (readings entries)
          (λ k d inside. moved_from entries entry _ legal lawful (each_is_one entries k d inside)
          (each_belongs entries legal k d inside));
    }

-- each entry of a legal list moves the packs as it may
pub each_moves : (entries : List Entry) → IsLegal entries → EachMoves entries
each_moves entries legal before entry after parts =
    moves_only before entry (legal-prefix before (entry ∷ after) (subst IsLegal parts legal))
    (legal before entry after parts)

-- ---- the piles add up

four : (x g p r s v : ℤ) → g ≡ p +ℤ r +ℤ s +ℤ v → (x +ℤ g ≡ (x +ℤ p) +ℤ r +ℤ s +ℤ v)
    × (x +ℤ g ≡ p +ℤ (x +ℤ r) +ℤ s +ℤ v) × (x +ℤ g ≡ p +ℤ r +ℤ (x +ℤ s) +ℤ v)
    × (x +ℤ g ≡ p +ℤ r +ℤ s +ℤ (x +ℤ v))
four x g p r s v h = (omega (arith, ints), omega (arith, ints), omega (arith, ints), omega (arith, ints))

four_of : (entries : List Entry) (reading : Reading) (some : List Reading) → AddUp entries some
    → (reading.gross +ℤ gross_sum some ≡ (reading.gross +ℤ gross_sum (in_pile entries Passed some))
    +ℤ gross_sum (in_pile entries Rejected some) +ℤ gross_sum (in_pile entries Sampled some)
    +ℤ gross_sum (in_pile entries Voided some))
    × (reading.gross +ℤ gross_sum some ≡ gross_sum (in_pile entries Passed some)
    +ℤ (reading.gross +ℤ gross_sum (in_pile entries Rejected some))
    +ℤ gross_sum (in_pile entries Sampled some) +ℤ gross_sum (in_pile entries Voided some))
    × (reading.gross +ℤ gross_sum some ≡ gross_sum (in_pile entries Passed some)
    +ℤ gross_sum (in_pile entries Rejected some)
    +ℤ (reading.gross +ℤ gross_sum (in_pile entries Sampled some))
    +ℤ gross_sum (in_pile entries Voided some))
    × (reading.gross +ℤ gross_sum some ≡ gross_sum (in_pile entries Passed some)
    +ℤ gross_sum (in_pile entries Rejected some) +ℤ gross_sum (in_pile entries Sampled some)
    +ℤ (reading.gross +ℤ gross_sum (in_pile entries Voided some)))
four_of entries reading some up =
    four reading.gross (gross_sum some) (gross_sum (in_pile entries Passed some))
    (gross_sum (in_pile entries Rejected some)) (gross_sum (in_pile entries Sampled some))
    (gross_sum (in_pile entries Voided some)) up.gross

add_up-cons : (entries : List Entry) (reading : Reading) (some : List Reading) (pile : Pile)
    → pile_of entries reading ≡ pile → AddUp entries some → AddUp entries (reading ∷ some)
add_up-cons entries reading some Passed is up =
    record {
      count = rw is (omega (arith, up.count));
      gross =
          rw is (four_of entries reading some up).0;
    }
add_up-cons entries reading some Rejected is up =
    record {
      count = rw is (omega (arith, up.count));
      gross =
          rw is (four_of entries reading some up).1;
    }
add_up-cons entries reading some Sampled is up =
    record {
      count = rw is (omega (arith, up.count));
      gross =
          rw is (four_of entries reading some up).2;
    }
add_up-cons entries reading some Voided is up =
    record {
      count = rw is (omega (arith, up.count));
      gross =
          rw is (four_of entries reading some up).3;
    }

-- some readings are in exactly one pile each
pub add_up : (entries : List Entry) (some : List Reading) → AddUp entries some
add_up entries [] = record { count = refl; gross = refl }
add_up entries (reading ∷ some) =
    add_up-cons entries reading some (pile_of entries reading) refl (add_up entries some)

-- the piles add up, in every list
pub balanced : (entries : List Entry) → IsBalanced entries
balanced entries = record {
  hall = add_up entries (readings entries);
  batch =
      λ name. add_up entries (readings_of_batch entries name);
}

-- ---- the piles with one entry more

-- an act leaves grosses as they are
pub gross_advanced : (act : Act) (some : List Reading)
    → gross_sum (map (advance act) some) ≡ gross_sum some
gross_advanced act [] = refl
gross_advanced act (r ∷ rs) = ap (λ sum. r.gross +ℤ sum) (gross_advanced act rs)

-- and so counts and sums
pub tally_advanced : (act : Act) (some : List Reading) → tally (map (advance act) some) ≡ tally some
tally_advanced act some i = record
    { count = length-map some (advance act) i; gross = gross_advanced act some i }

-- the readings of a batch, with one entry more
pub readings_of_batch-push : (entries : List Entry) (entry : Entry) (batch : Name)
    → readings_of_batch (entries ++ entry ∷ []) batch
    ≡ map (advance entry.act) (readings_of_batch entries batch)
    ++ filter (is_of_batch batch) (cons_option (own_reading entries entry) [])
readings_of_batch-push entries entry batch =
    ap (filter (is_of_batch batch)) (readings-push entries entry)
    ∙ filter-append (is_of_batch batch) (map (advance entry.act) (readings entries))
    (cons_option (own_reading entries entry) [])
    ∙ ap (λ (some : List Reading). some
    ++ filter (is_of_batch batch) (cons_option (own_reading entries entry) []))
    (mapped (readings entries))
  where
    either : (b : Bool) (r : Reading) (rs : List Reading)
        → cond b (advance entry.act r ∷ map (advance entry.act) rs) (map (advance entry.act) rs)
        ≡ map (advance entry.act) (cond b (r ∷ rs) rs)
    either true r rs = refl
    either false r rs = refl

    mapped : (some : List Reading)
        → filter (is_of_batch batch) (map (advance entry.act) some)
        ≡ map (advance entry.act) (filter (is_of_batch batch) some)
    mapped [] = refl
    mapped (r ∷ rs) =
        ap (λ (some : List Reading). cond (is_of_batch batch r) (advance entry.act r ∷ some) some)
        (mapped rs) ∙ either (is_of_batch batch r) r (filter (is_of_batch batch) rs)

-- those of some readings that lie in a pile, once an act came: those that it leaves there or moves
-- there
pub in_pile-advanced : (entries : List Entry) (entry : Entry) (pile : Pile) (some : List Reading)
    → All (λ (reading : Reading). pile_of (entries ++ entry ∷ []) (advance entry.act reading)
    ≡ next_pile entries entry.act reading) some
    → in_pile (entries ++ entry ∷ []) pile (map (advance entry.act) some)
    ≡ map (advance entry.act) (filter
    (λ (r : Reading). same_pile (next_pile entries entry.act r) pile) some)
in_pile-advanced entries entry pile [] all = refl
in_pile-advanced entries entry pile (r ∷ rs) all =
    let P : Reading → Type 0 = λ r. pile_of (entries ++ entry ∷ []) (advance entry.act r)
    ≡ next_pile entries entry.act r in
    ap (λ (p : Pile). cond (same_pile p pile)
    (advance entry.act r ∷ in_pile (entries ++ entry ∷ []) pile (map (advance entry.act) rs))
    (in_pile (entries ++ entry ∷ []) pile (map (advance entry.act) rs))) (All-head P r rs all)
    ∙ ap (λ (some : List Reading). cond (same_pile (next_pile entries entry.act r) pile)
    (advance entry.act r ∷ some) some)
    (in_pile-advanced entries entry pile rs (All-tail P r rs all))
    ∙ either (same_pile (next_pile entries entry.act r) pile)
  where
    either : (b : Bool) → cond b (advance entry.act r
        ∷ map (advance entry.act) (filter
        (λ (q : Reading). same_pile (next_pile entries entry.act q) pile) rs))
        (map (advance entry.act) (filter
        (λ (q : Reading). same_pile (next_pile entries entry.act q) pile) rs))
        ≡ map (advance entry.act) (cond b
        (r ∷ filter (λ (q : Reading). same_pile (next_pile entries entry.act q) pile) rs)
        (filter (λ (q : Reading). same_pile (next_pile entries entry.act q) pile) rs))
    either true = refl
    either false = refl

-- the reading of a number lies, behind a lawful entry, in the pile to which the entry's act moves it
pub moved_number : (entries : List Entry) (entry : Entry) (number : ℕ) (reading : Reading)
    → IsLegal entries → IsLawful entries entry → reading_of entries number ≡ Some reading
    → pile_of (entries ++ entry ∷ []) (advance entry.act reading) ≡ next_pile entries entry.act reading
moved_number entries entry number reading legal lawful found =
    (of_reading (λ (r : Reading). pile_of (entries ++ entry ∷ []) (advance entry.act r)
    ≡ next_pile entries entry.act r) entries number reading
    (each_moved entries entry legal lawful) found).1

-- what lies in a pile, with one entry more: what the act leaves there or moves there, and the entry's
-- own reading where it lies there
pub in_pile-push : (entries : List Entry) (entry : Entry) (pile : Pile) → IsLegal entries
    → IsLawful entries entry
    → in_pile (entries ++ entry ∷ []) pile (readings (entries ++ entry ∷ []))
    ≡ map (advance entry.act) (filter
    (λ (r : Reading). same_pile (next_pile entries entry.act r) pile) (readings entries))
    ++ in_pile (entries ++ entry ∷ []) pile (cons_option (own_reading entries entry) [])
in_pile-push entries entry pile legal lawful =
    ap (in_pile (entries ++ entry ∷ []) pile) (readings-push entries entry)
    ∙ filter-append (λ (r : Reading). same_pile (pile_of (entries ++ entry ∷ []) r) pile)
    (map (advance entry.act) (readings entries)) (cons_option (own_reading entries entry) [])
    ∙ ap (λ (some : List Reading). some
    ++ in_pile (entries ++ entry ∷ []) pile (cons_option (own_reading entries entry) []))
    (in_pile-advanced entries entry pile (readings entries) (each_moved entries entry legal lawful))

-- the same of the readings of a batch
pub in_batch_pile-push : (entries : List Entry) (entry : Entry) (pile : Pile) (batch : Name)
    → IsLegal entries → IsLawful entries entry
    → in_pile (entries ++ entry ∷ []) pile (readings_of_batch (entries ++ entry ∷ []) batch)
    ≡ map (advance entry.act) (filter
    (λ (r : Reading). same_pile (next_pile entries entry.act r) pile)
    (readings_of_batch entries batch))
    ++ in_pile (entries ++ entry ∷ []) pile
    (filter (is_of_batch batch) (cons_option (own_reading entries entry) []))
in_batch_pile-push entries entry pile batch legal lawful =
    ap (in_pile (entries ++ entry ∷ []) pile) (readings_of_batch-push entries entry batch)
    ∙ filter-append (λ (r : Reading). same_pile (pile_of (entries ++ entry ∷ []) r) pile)
    (map (advance entry.act) (readings_of_batch entries batch))
    (filter (is_of_batch batch) (cons_option (own_reading entries entry) []))
    ∙ ap (λ (some : List Reading). some
    ++ in_pile (entries ++ entry ∷ []) pile
    (filter (is_of_batch batch) (cons_option (own_reading entries entry) [])))
    (in_pile-advanced entries entry pile (readings_of_batch entries batch)
    (All-filter (is_of_batch batch)
    (λ (r : Reading). pile_of (entries ++ entry ∷ []) (advance entry.act r)
    ≡ next_pile entries entry.act r) (readings entries)
    (each_moved entries entry legal lawful)))
