-- The verdict of a closed batch stays.
use Rattle.std.proofs.Common.{◌≡◌, ℕ, ℤ, pos, ◌+ℤ◌, ◌-ℤ◌, ◌*ℤ◌, ◌*◌, ◌+◌, Bool, true, false, not, ◌&&◌, cond, ◌==◌, int_le, nat_le, List, [], ◌∷◌, ◌++◌, length, take, get_or, inl, inr, Option, Some, None, is_some, option_map, refl, sym, ◌∙◌, ap, subst, append_assoc}
use Rattle.std.proofs.lemmas.Bool.{and_parts}
use Rattle.std.proofs.lemmas.List.Elements.{All-head, All-tail, All-take, All-filter, filter_passes}
use Rattle.std.specs.List.{All, cons_option, count_by, filter_map, find, fold}
use Rattle.std.specs.Option.{option_or, option_and_then, option_map_or, unwrap_or}
use Rattle.annex_tables.specs.declared.types.Mode.{Mode}
use Rattle.annex_tables.specs.declared.types.Mode.TheVariants.{Keep, Destroy}
use Rattle.annex_tables.specs.Errors.{limits_of}
use Rattle.book_words.specs.declared.name.Name.{Name}
use Rattle.book_words.specs.declared.act.BatchState.TheVariants.{Ended, Drawn, Closed}
use Rattle.book_words.specs.declared.act.Act.{Act}
use Rattle.book_words.specs.declared.act.Act.TheVariants.{Draw, DrawSecond}
use Rattle.book_words.specs.declared.act.Entry.{Entry}
use Rattle.book_words.specs.declared.act.Reading.{Reading}
use Rattle.book_words.specs.declared.views.Fails.{Fails}
use Rattle.book_words.specs.declared.views.Verdict.TheVariants.{Empty}
use Rattle.book_words.specs.Names.{same_name}
use Rattle.book_words.specs.Acts.{last_said, state_set, product_of, state_of}
use Rattle.book_words.specs.Readings.{readings, reading_of, is_of_batch, tare_of_reading, net_of_reading}
use Rattle.book_words.specs.Classes.{is_below, nominal_of_batch, limits_of_batch, density_of_batch}
use Rattle.book_words.specs.Population.{is_counted, population, count_below, nonstandard_count, inadequate_count, net_sum}
use Rattle.book_words.specs.Samples.{Drawing, Sample, numbers_of, drawing_from, drawing_of, second_word, sample_by, sample_of}
use Rattle.book_words.specs.Measures.{Measured, measured_of, actual_contents, contents_of_pack, contents_among, defective_count}
use Rattle.book_words.specs.Verdicts.{contents_of, UNIT_DENSITY, mean_accepts, second_packs, first_defective, second_defective, is_accepted, contents_check_accepts, mean_check_accepts, average_accepts, fails_of, verdict_by_fails, verdict_of}
use Rattle.book_words.specs.Answers.{IsLawful, IsLegal}
use Rattle.book_words.specs.Balance.{VerdictsStay}
use Rattle.book_words.proofs.LastSaid.{last_said-push}
use Rattle.book_words.proofs.NameLemmas.{same_name_itself}
use Rattle.book_words.proofs.LegalLemmas.{kept_behind}
use Rattle.book_words.proofs.OneMoreEntry.{advance}
use Rattle.book_words.proofs.DrawnLemmas.{drawing_of-push}
use Rattle.book_laws.proofs.TareLaws.{tared_of}
use Rattle.book_laws.proofs.KnownLaws.{IsKnown, silent, state_apart, closed_stays, nominal_of_batch_stays, density_of_batch_stays}
use Rattle.book_words.proofs.AllowedActs.{IsAllowed, allowed, draw_tells, draw_second_tells}
use Rattle.book_laws.proofs.LaneLaws.{AreLanesRight, lanes_right}
use Rattle.book_laws.proofs.PackLaws.{IsPick, PicksOwn, picks_own, numbered, none_beyond, reading_of_later}
use Rattle.book_laws.proofs.ClosedLaws.{Unmoved, all_unmoved, measured_stays, closed_population_stays}
use Rattle.book_laws.proofs.FrozenLaws.{TareStays, closed_tares_stay}

-- ---- the samples of a closed batch

not_drawn : (entries : List Entry) (act : Act) (batch : Name) → IsAllowed entries act
    → state_of entries batch ≡ Some Closed → drawing_from batch entries act ≡ None
not_drawn entries (Draw name mode word) batch h closed =
    ap (λ test. cond test
    (Some (record { mode = mode; word = word; packs = numbers_of (population entries batch) }))
    None) (state_apart entries (Ended ∷ []) name batch Closed
    (draw_tells entries name mode word h).state closed refl)
not_drawn entries act batch h closed = refl

not_drawn_again : (entries : List Entry) (act : Act) (batch : Name) → IsAllowed entries act
    → state_of entries batch ≡ Some Closed → second_word batch act ≡ None
not_drawn_again entries (DrawSecond name word) batch h closed =
    ap (λ test. cond test (Some word) None)
    (state_apart entries (Drawn ∷ []) name batch Closed
    (draw_second_tells entries name word h).state closed refl)
not_drawn_again entries act batch h closed = refl

-- the samples of a closed batch stay
pub closed_sample_stays : (entries : List Entry) (entry : Entry) (batch : Name)
    → IsAllowed entries entry.act → state_of entries batch ≡ Some Closed
    → sample_of (entries ++ entry ∷ []) batch ≡ sample_of entries batch
closed_sample_stays entries entry batch h closed =
    ap (λ w. option_map (λ (d : Drawing). sample_by d w) (drawing_of (entries ++ entry ∷ []) batch))
    (silent (second_word batch) entries entry
    (not_drawn_again entries entry.act batch h closed))
    ∙ ap (option_map (λ (d : Drawing). sample_by d (last_said (second_word batch) entries)))
    (drawing_of-push entries entry batch
    ∙ ap (λ o. option_or o (drawing_of entries batch))
    (not_drawn entries entry.act batch h closed))

-- ---- the contents of its packs

find_has : (P : Reading → Type 0) (test : Reading → Bool) (some : List Reading) (reading : Reading)
    → All P some → find test some ≡ Some reading → P reading
find_has P test [] reading all h = absurd (cc)
find_has P test (first ∷ some) reading all h =
    step (test first) (find_has P test some reading (All-tail P first some all)) h
  where
    step : (b : Bool) → (find test some ≡ Some reading → P reading)
        → cond b (Some first) (find test some) ≡ Some reading → P reading
    step true rest k = subst P (let same : first ≡ reading = cc in same) (All-head P first some all)
    step false rest k = rest k

is_own : (batch : Name) (o : Option Name) → o ≡ Some batch
    → option_map_or (λ (name : Name). same_name name batch) o false ≡ true
is_own batch o h =
    ap (λ (p : Option Name). option_map_or (λ (name : Name). same_name name batch) p false) h
    ∙ same_name_itself batch

-- what is needed of a closed batch
pub record IsSettled (entries : List Entry) (batch : Name) : Type 0 where
  pub right : AreLanesRight entries
  pub known : IsKnown entries batch
  pub closed : state_of entries batch ≡ Some Closed

contents_agree : (entries : List Entry) (entry : Entry) (batch : Name) (mode : Mode)
    (reading : Reading) (o : Option Measured)
    → tare_of_reading (entries ++ entry ∷ []) reading.batch reading.day
    ≡ tare_of_reading entries reading.batch reading.day
    → option_map (actual_contents (entries ++ entry ∷ []) mode reading) o
    ≡ option_map (actual_contents entries mode reading) o
contents_agree entries entry batch mode reading None same = refl
contents_agree entries entry batch Keep reading (Some measured) same =
    ap (λ (t : Option ℤ). Some (measured.gross -ℤ unwrap_or t (pos 0))) same
contents_agree entries entry batch Destroy reading (Some measured) same = refl

-- the contents of a pack that was drawn from a closed batch stay
pub pick_contents_stay : (entries : List Entry) (entry : Entry) (batch : Name) (mode : Mode)
    → IsAllowed entries entry.act → IsSettled entries batch → (pack : ℕ) → IsPick entries batch pack
    → contents_of_pack (entries ++ entry ∷ []) mode pack ≡ contents_of_pack entries mode pack
pick_contents_stay entries entry batch mode h settled pack (inl is) =
    let reading = is.0 in
    let own = is_own batch reading.batch is.2 in
    let still : advance entry.act reading ≡ reading =
    find_has (Unmoved entry.act batch) (λ (r : Reading). r.number == pack)
    (readings entries) reading (all_unmoved entries entry.act batch settled.right h
    settled.closed) is.1 own in
    let tare = find_has (TareStays entries entry batch) (λ (r : Reading). r.number == pack)
    (readings entries) reading (closed_tares_stay entries entry batch h
    (ap is_some settled.known.given) settled.closed) is.1 own in
    let later : reading_of (entries ++ entry ∷ []) pack ≡ Some reading =
    reading_of_later entries entry pack reading is.1 ∙ ap (λ (r : Reading). Some r) still in
    ap (option_and_then (λ (r : Reading). option_map
    (actual_contents (entries ++ entry ∷ []) mode r)
    (measured_of (entries ++ entry ∷ []) pack))) later
    ∙ ap (option_map (actual_contents (entries ++ entry ∷ []) mode reading))
    (measured_stays entries entry batch pack h settled.closed is)
    ∙ contents_agree entries entry batch mode reading (measured_of entries pack) tare
    ∙ sym (ap (option_and_then (λ (r : Reading). option_map (actual_contents entries mode r)
    (measured_of entries pack))) is.1)
pick_contents_stay entries entry batch mode h settled pack (inr nothing) =
    ap (option_and_then (λ (r : Reading). option_map
    (actual_contents (entries ++ entry ∷ []) mode r)
    (measured_of (entries ++ entry ∷ []) pack)))
    (none_beyond (entries ++ entry ∷ []) pack (numbered (entries ++ entry ∷ [])) (inl nothing))
    ∙ sym (ap (option_and_then (λ (r : Reading). option_map (actual_contents entries mode r)
    (measured_of entries pack))) (none_beyond entries pack (numbered entries) (inl nothing)))

map_agree : {A B : Type 0} (P : A → Type 0) (f g : A → Option B) → ((x : A) → P x → f x ≡ g x)
    → (xs : List A) → All P xs → filter_map f xs ≡ filter_map g xs
map_agree P f g same [] all = refl
map_agree P f g same (x ∷ xs) all =
    ap (λ o. cons_option o (filter_map f xs)) (same x (All-head P x xs all))
    ∙ ap (cons_option (g x)) (map_agree P f g same xs (All-tail P x xs all))

-- so do those of several
pub contents_stay : (entries : List Entry) (entry : Entry) (batch : Name) (mode : Mode)
    → IsAllowed entries entry.act → IsSettled entries batch → (packs : List ℕ)
    → All (IsPick entries batch) packs
    → contents_among (entries ++ entry ∷ []) mode packs ≡ contents_among entries mode packs
contents_stay entries entry batch mode h settled packs all =
    map_agree (IsPick entries batch) (contents_of_pack (entries ++ entry ∷ []) mode)
    (contents_of_pack entries mode)
    (pick_contents_stay entries entry batch mode h settled) packs all

-- ---- the nets of its packs

-- two lists give a reading the same net
abbrev pub NetAgrees : List Entry → List Entry → Reading → Type 0
NetAgrees others entries reading = net_of_reading others reading ≡ net_of_reading entries reading

-- the nets of the packs of a closed batch stay
pub nets_stay : (entries : List Entry) (entry : Entry) (batch : Name) → IsAllowed entries entry.act
    → IsSettled entries batch → All (NetAgrees (entries ++ entry ∷ []) entries)
    (population entries batch)
nets_stay entries entry batch h settled k d less =
    let test : Reading → Bool = λ reading. is_of_batch batch reading && is_counted reading in
    let tares = All-filter test (TareStays entries entry batch) (readings entries)
    (closed_tares_stay entries entry batch h (ap is_some settled.known.given) settled.closed) in
    let passes = filter_passes test (readings entries) in
    let reading = get_or (population entries batch) k d in
    ap (λ (t : Option ℤ). reading.gross -ℤ unwrap_or t (pos 0))
    (tares k d less (and_parts _ _ (passes k d less)).0)

-- ---- two lists that agree in the parts of a batch give it one verdict

-- two lists give the packs of a sample the same contents
pub record SameContents (others entries : List Entry) (sample : Sample) : Type 0 where
  pub first : contents_among others sample.mode sample.first
      ≡ contents_among entries sample.mode sample.first
  pub second : contents_among others sample.mode (second_packs sample)
      ≡ contents_among entries sample.mode (second_packs sample)
  pub mean : contents_among others sample.mode (take sample.plan.mean_n sample.first)
      ≡ contents_among entries sample.mode (take sample.plan.mean_n sample.first)

-- two lists agree in all that the verdict of a batch is told by
pub record Agree (others entries : List Entry) (batch : Name) : Type 0 where
  pub packs : population others batch ≡ population entries batch
  pub sample : sample_of others batch ≡ sample_of entries batch
  pub nominal : nominal_of_batch others batch ≡ nominal_of_batch entries batch
  pub density : density_of_batch others batch ≡ density_of_batch entries batch
  pub nets : All (NetAgrees others entries) (population entries batch)
  pub contents : (sample : Sample) → sample_of entries batch ≡ Some sample
      → SameContents others entries sample

fold_agrees : {A : Type 0} (test other : A → Bool) (P : A → Type 0)
    → ((x : A) → P x → test x ≡ other x) → (n : ℕ) (xs : List A) → All P xs
    → fold (λ m x. m + cond (test x) 1 0) n xs ≡ fold (λ m x. m + cond (other x) 1 0) n xs
fold_agrees test other P same n [] all = refl
fold_agrees test other P same n (x ∷ xs) all =
    ap (λ b. fold (λ m y. m + cond (test y) 1 0) (n + cond b 1 0) xs) (same x (All-head P x xs all))
    ∙ fold_agrees test other P same (n + cond (other x) 1 0) xs (All-tail P x xs all)

count_agree : {A : Type 0} (test other : A → Bool) (P : A → Type 0)
    → ((x : A) → P x → test x ≡ other x) → (xs : List A) → All P xs
    → count_by test xs ≡ count_by other xs
count_agree test other P same xs all = fold_agrees test other P same 0 xs all

below_agree : (others entries : List Entry) (batch : Name) (limit : ℤ) (some : List Reading)
    → density_of_batch others batch ≡ density_of_batch entries batch
    → All (NetAgrees others entries) some
    → count_below others batch limit some ≡ count_below entries batch limit some
below_agree others entries batch limit some density nets =
    count_agree (λ (r : Reading). is_below (density_of_batch others batch) limit
    (net_of_reading others r)) (λ (r : Reading). is_below (density_of_batch entries batch) limit
    (net_of_reading entries r))
    (NetAgrees others entries) (λ r same. ap
    (λ d. is_below d limit (net_of_reading others r)) density
    ∙ ap (is_below (density_of_batch entries batch) limit) same) some nets

sum_agrees : (others entries : List Entry) (some : List Reading)
    → All (NetAgrees others entries) some → net_sum others some ≡ net_sum entries some
sum_agrees others entries [] nets = refl
sum_agrees others entries (reading ∷ some) nets =
    ap (λ net. net +ℤ net_sum others some) (All-head (NetAgrees others entries) reading some nets)
    ∙ ap (λ sum. net_of_reading entries reading +ℤ sum)
    (sum_agrees others entries some (All-tail (NetAgrees others entries) reading some nets))

average_agrees : (others entries : List Entry) (batch : Name) (some : List Reading)
    → nominal_of_batch others batch ≡ nominal_of_batch entries batch
    → density_of_batch others batch ≡ density_of_batch entries batch
    → All (NetAgrees others entries) some
    → average_accepts others batch some ≡ average_accepts entries batch some
average_agrees others entries batch some nominal density nets =
    ap (λ d. int_le (pos (length some) *ℤ pos d *ℤ nominal_of_batch others batch)
    (pos UNIT_DENSITY *ℤ net_sum others some)) density
    ∙ ap (λ n. int_le (pos (length some) *ℤ pos (density_of_batch entries batch) *ℤ n)
    (pos UNIT_DENSITY *ℤ net_sum others some)) nominal
    ∙ ap (λ sum. int_le (pos (length some) *ℤ pos (density_of_batch entries batch)
    *ℤ nominal_of_batch entries batch) (pos UNIT_DENSITY *ℤ sum))
    (sum_agrees others entries some nets)

nonstandard_agrees : (others entries : List Entry) (batch : Name) (some : List Reading)
    → nominal_of_batch others batch ≡ nominal_of_batch entries batch
    → density_of_batch others batch ≡ density_of_batch entries batch
    → All (NetAgrees others entries) some
    → nonstandard_count others batch some ≡ nonstandard_count entries batch some
nonstandard_agrees others entries batch some nominal density nets =
    ap (λ n. count_below others batch (limits_of n).t1 some) nominal
    ∙ below_agree others entries batch (limits_of_batch entries batch).t1 some density nets

inadequate_agrees : (others entries : List Entry) (batch : Name) (some : List Reading)
    → nominal_of_batch others batch ≡ nominal_of_batch entries batch
    → density_of_batch others batch ≡ density_of_batch entries batch
    → All (NetAgrees others entries) some
    → inadequate_count others batch some ≡ inadequate_count entries batch some
inadequate_agrees others entries batch some nominal density nets =
    ap (λ n. count_below others batch (limits_of n).t2 some) nominal
    ∙ below_agree others entries batch (limits_of_batch entries batch).t2 some density nets

defective_agrees : (others entries : List Entry) (batch : Name) (mode : Mode) (packs : List ℕ)
    → nominal_of_batch others batch ≡ nominal_of_batch entries batch
    → density_of_batch others batch ≡ density_of_batch entries batch
    → contents_among others mode packs ≡ contents_among entries mode packs
    → defective_count others batch mode packs ≡ defective_count entries batch mode packs
defective_agrees others entries batch mode packs nominal density contents =
    ap (λ d. count_by (is_below d (limits_of_batch others batch).t1)
    (contents_among others mode packs)) density
    ∙ ap (λ n. count_by (is_below (density_of_batch entries batch) (limits_of n).t1)
    (contents_among others mode packs)) nominal
    ∙ ap (count_by (is_below (density_of_batch entries batch) (limits_of_batch entries batch).t1))
    contents

contents_check_agrees : (others entries : List Entry) (batch : Name) (sample : Sample)
    → nominal_of_batch others batch ≡ nominal_of_batch entries batch
    → density_of_batch others batch ≡ density_of_batch entries batch
    → SameContents others entries sample
    → contents_check_accepts others batch sample ≡ contents_check_accepts entries batch sample
contents_check_agrees others entries batch sample nominal density same =
    ap (λ n. is_accepted (contents_of sample.plan n (Some (second_defective others batch sample))))
    (defective_agrees others entries batch sample.mode sample.first nominal density same.first)
    ∙ ap (λ n. is_accepted (contents_of sample.plan (first_defective entries batch sample)
    (Some n))) (defective_agrees others entries batch sample.mode
    (second_packs sample) nominal density same.second)

mean_check_agrees : (others entries : List Entry) (batch : Name) (sample : Sample)
    → nominal_of_batch others batch ≡ nominal_of_batch entries batch
    → density_of_batch others batch ≡ density_of_batch entries batch
    → SameContents others entries sample
    → mean_check_accepts others batch sample ≡ mean_check_accepts entries batch sample
mean_check_agrees others entries batch sample nominal density same =
    ap (λ values. mean_accepts values (nominal_of_batch others batch)
    (density_of_batch others batch) sample.plan.k1000) same.mean
    ∙ ap (λ n. mean_accepts (contents_among entries sample.mode
    (take sample.plan.mean_n sample.first)) n (density_of_batch others batch) sample.plan.k1000)
    nominal
    ∙ ap (λ d. mean_accepts (contents_among entries sample.mode
    (take sample.plan.mean_n sample.first))
    (nominal_of_batch entries batch) d sample.plan.k1000) density

checks_agree : (test other : Sample → Bool) (o sample : Option Sample)
    → ((some : Sample) → sample ≡ Some some → test some ≡ other some) → sample ≡ o
    → option_map_or test o false ≡ option_map_or other o false
checks_agree test other None sample same is = refl
checks_agree test other (Some some) sample same is = same some is

-- the same parts fail over both lists
fails_agree : (others entries : List Entry) (batch : Name) → Agree others entries batch
    → fails_of others batch (population entries batch) (sample_of entries batch)
    ≡ fails_of entries batch (population entries batch) (sample_of entries batch)
fails_agree others entries batch agree =
    let sample = sample_of entries batch in
    let some = population entries batch in
    let contents = checks_agree (contents_check_accepts others batch)
    (contents_check_accepts entries batch) sample sample
    (λ s is. contents_check_agrees others entries batch s agree.nominal agree.density
    (agree.contents s is)) refl in
    let mean = checks_agree (mean_check_accepts others batch)
    (mean_check_accepts entries batch) sample sample
    (λ s is. mean_check_agrees others entries batch s agree.nominal agree.density
    (agree.contents s is)) refl in
    let average = average_agrees others entries batch some agree.nominal agree.density agree.nets in
    let nonstandard = nonstandard_agrees others entries batch some agree.nominal agree.density
    agree.nets in
    let inadequate = inadequate_agrees others entries batch some agree.nominal agree.density
    agree.nets in
    λ i. record {
      contents = not (contents i);
      mean = not (mean i);
      average = not (average i);
      allowance = not (nat_le (40 * nonstandard i) (length some));
      inadequate = not (inadequate i == 0);
    }

-- two lists that agree in what the verdict of a batch is told by give it one verdict
pub same_verdict : (others entries : List Entry) (batch : Name) → Agree others entries batch
    → verdict_of others batch ≡ verdict_of entries batch
same_verdict others entries batch agree =
    ap (λ (some : List Reading). cond (length some == 0) Empty
    (verdict_by_fails (fails_of others batch some (sample_of others batch)))) agree.packs
    ∙ ap (λ (sample : Option Sample). cond (length (population entries batch) == 0) Empty
    (verdict_by_fails (fails_of others batch (population entries batch) sample))) agree.sample
    ∙ ap (λ (fails : Fails). cond (length (population entries batch) == 0) Empty
    (verdict_by_fails fails)) (fails_agree others entries batch agree)

-- ---- a closed batch

-- with each lawful entry the list agrees with the one before
pub agrees : (entries : List Entry) (entry : Entry) (batch : Name) → IsAllowed entries entry.act
    → IsSettled entries batch → Agree (entries ++ entry ∷ []) entries batch
agrees entries entry batch h settled =
    record {
      packs = closed_population_stays entries entry batch settled.right h settled.closed;
      sample = closed_sample_stays entries entry batch h settled.closed;
      nominal = nominal_of_batch_stays entries entry batch h settled.known;
      density = density_of_batch_stays entries entry batch h settled.known;
      nets = nets_stay entries entry batch h settled;
      contents = λ sample is. same sample (picks_own entries batch sample is);
    }
  where
    same : (sample : Sample) → PicksOwn entries batch sample
        → SameContents (entries ++ entry ∷ []) entries sample
    same sample own =
        record {
          first = contents_stay entries entry batch sample.mode h settled sample.first own.first;
          second = contents_stay entries entry batch sample.mode h settled
              (second_packs sample) own.second;
          mean = contents_stay entries entry batch sample.mode h settled
              (take sample.plan.mean_n sample.first)
              (All-take (IsPick entries batch) sample.plan.mean_n sample.first own.first);
        }

-- a batch that is closed in a legal list is so
pub settled_of : (entries : List Entry) (batch : Name) → IsLegal entries
    → state_of entries batch ≡ Some Closed → IsSettled entries batch
settled_of entries batch legal closed =
    each (product_of entries batch) refl (right.opened batch (ap is_some closed))
  where
    right : AreLanesRight entries
    right = lanes_right entries legal

    each : (o : Option Name) → product_of entries batch ≡ o → is_some o ≡ true → IsSettled entries batch
    each None is there = absurd (cc)
    each (Some product) is there =
        record {
          right = right;
          known =
              record {
                product = product;
                given = is;
                nominal =
                    (tared_of entries legal).products batch product is;
              };
          closed = closed;
        }

-- the verdict of a closed batch stays with each lawful entry
pub closed_verdict_stays : (entries : List Entry) (entry : Entry) (batch : Name) → IsLegal entries
    → IsLawful entries entry → state_of entries batch ≡ Some Closed
    → verdict_of (entries ++ entry ∷ []) batch ≡ verdict_of entries batch
closed_verdict_stays entries entry batch legal lawful closed =
    same_verdict (entries ++ entry ∷ []) entries batch
    (agrees entries entry batch (allowed entries entry lawful)
    (settled_of entries batch legal closed))

-- it stays whatever follows
verdict_behind : (batch : Name) (before after : List Entry) → state_of before batch ≡ Some Closed
    → IsLegal (before ++ after) → verdict_of before batch ≡ verdict_of (before ++ after) batch
verdict_behind batch before after closed legal =
    (kept_behind Stays step before after legal (closed, refl)).1
  where
    -- the batch is closed, and its verdict is the one before
    Stays : List Entry → Type 0
    Stays all = (state_of all batch ≡ Some Closed) × (verdict_of before batch ≡ verdict_of all batch)

    step : (front : List Entry) (entry : Entry) → IsLegal front → IsLawful front entry → Stays front
        → Stays (front ++ entry ∷ [])
    step front entry is_legal lawful stays =
        let settled = settled_of front batch is_legal stays.0 in (
          closed_stays front entry batch (allowed front entry lawful)
              (ap is_some settled.known.given) stays.0,
          stays.1 ∙ sym (closed_verdict_stays front entry batch is_legal lawful stays.0),
        )

-- in a legal list each verdict stays, whatever came after it
pub verdicts_stay : (entries : List Entry) → IsLegal entries → VerdictsStay entries
verdicts_stay entries legal before entry after batch parts closes =
    let whole : (before ++ entry ∷ []) ++ after ≡ entries = append_assoc before (entry ∷ []) after
    ∙ sym parts in
    let closed : state_of (before ++ entry ∷ []) batch ≡ Some Closed =
    last_said-push (state_set batch) before entry
    ∙ ap (λ (a : Act). option_or (state_set batch a) (state_of before batch)) closes
    ∙ ap (λ b. option_or (cond b (Some Closed) None) (state_of before batch))
    (same_name_itself batch) in
    verdict_behind batch (before ++ entry ∷ []) after closed (subst IsLegal (sym whole) legal)
    ∙ ap (λ (es : List Entry). verdict_of es batch) whole
