-- Packs are found by their numbers, and the drawn packs of a batch are packs of it.
use Rattle.std.proofs.Common.{◌≡◌, ℕ, zero, suc, ◌+◌, ◌<◌, ◌≤◌, Bool, true, false, ◌&&◌, cond, ◌==◌, List, [], ◌∷◌, ◌++◌, length, take, drop, get_or, map, inl, inr, ◌⊎◌, Option, Some, None, option_map, refl, sym, ◌∙◌, ap, subst, arith, append_assoc, append-nil, length-append}
use Rattle.std.proofs.lemmas.Bool.{and_parts, eq-eqb, ne_eqb}
use Rattle.std.proofs.lemmas.List.Elements.{All-nil, All-cons, All-head, All-tail, All-append, All-map, All-weaker, All-take, All-drop, All-filter, filter_passes}
use Rattle.std.proofs.lemmas.List.Folds.{find-append}
use Rattle.std.specs.List.{All, cons_option, find, remove}
use Rattle.std.specs.Option.{option_or, option_map_or, unwrap_or}
use Rattle.sample_draw.specs.Draws.{next_word, place_of, drawn, packs_left}
use Rattle.book_words.specs.declared.name.Name.{Name}
use Rattle.book_words.specs.declared.act.Act.{Act}
use Rattle.book_words.specs.declared.act.Act.TheVariants.{Weigh, Draw}
use Rattle.book_words.specs.declared.act.Entry.{Entry}
use Rattle.book_words.specs.declared.act.Reading.{Reading}
use Rattle.book_words.specs.Names.{same_name}
use Rattle.book_words.specs.Acts.{last_said}
use Rattle.book_words.specs.Readings.{readings, weighed_reading, reading_of, is_of_batch}
use Rattle.book_words.specs.Population.{is_counted, population}
use Rattle.book_words.specs.Samples.{Drawing, Sample, numbers_of, drawing_from, drawing_of, plan_of_drawing, first_picks, second_picks, second_word, sample_by, sample_of}
use Rattle.book_words.specs.Verdicts.{second_packs}
use Rattle.book_words.proofs.NameLemmas.{same_name_is}
use Rattle.book_words.proofs.OneMoreEntry.{advance, own_reading, readings-push}
use Rattle.book_words.proofs.DrawnLemmas.{drawing_of-push}
use Rattle.std.proofs.lemmas.Option.{same_Some}

-- ---- a reading by its number

found_first : (n : ℕ) (act : Act) (some : List Reading)
    → find (λ (r : Reading). r.number == n) (map (advance act) some)
    ≡ option_map (advance act) (find (λ (r : Reading). r.number == n) some)
found_first n act [] = refl
found_first n act (reading ∷ some) = step (reading.number == n) (found_first n act some)
  where
    step : (b : Bool) → find (λ (r : Reading). r.number == n) (map (advance act) some)
        ≡ option_map (advance act) (find (λ (r : Reading). r.number == n) some)
        → cond b (Some (advance act reading))
        (find (λ (r : Reading). r.number == n) (map (advance act) some))
        ≡ option_map (advance act) (cond b (Some reading)
        (find (λ (r : Reading). r.number == n) some))
    step true h = refl
    step false h = h

-- the reading with a number, once one more entry came
pub reading_of-push : (entries : List Entry) (entry : Entry) (n : ℕ)
    → reading_of (entries ++ entry ∷ []) n
    ≡ option_or (option_map (advance entry.act) (reading_of entries n))
    (find (λ (r : Reading). r.number == n) (cons_option (own_reading entries entry) []))
reading_of-push entries entry n =
    ap (find (λ (r : Reading). r.number == n)) (readings-push entries entry)
    ∙ find-append (λ (r : Reading). r.number == n) (map (advance entry.act) (readings entries))
    (cons_option (own_reading entries entry) [])
    ∙ ap (λ o. option_or o (find (λ (r : Reading). r.number == n)
    (cons_option (own_reading entries entry) []))) (found_first n entry.act (readings entries))

-- a reading that is found is found again, as the act after it leaves it
pub reading_of_later : (entries : List Entry) (entry : Entry) (n : ℕ) (reading : Reading)
    → reading_of entries n ≡ Some reading
    → reading_of (entries ++ entry ∷ []) n ≡ Some (advance entry.act reading)
reading_of_later entries entry n reading h =
    reading_of-push entries entry n
    ∙ ap (λ o. option_or (option_map (advance entry.act) o)
    (find (λ (r : Reading). r.number == n) (cons_option (own_reading entries entry) []))) h

-- a number is from 1 to the number of rows
abbrev pub IsNumber : List Entry → ℕ → Type 0
IsNumber entries number = (0 < number) × (number ≤ length entries)

-- a reading is the one that is found by its number
abbrev pub IsFound : List Entry → Reading → Type 0
IsFound entries reading = reading_of entries reading.number ≡ Some reading

-- the readings of a list have numbers, and each is found by its own
pub record AreNumbered (entries : List Entry) : Type 0 where
  pub numbers : All (λ reading. IsNumber entries reading.number) (readings entries)
  pub found : All (IsFound entries) (readings entries)

absent : (n : ℕ) (some : List Reading) → All (λ reading. (reading.number == n) ≡ false) some
    → find (λ (r : Reading). r.number == n) some ≡ None
absent n [] h = refl
absent n (reading ∷ some) h =
    ap (λ b. cond b (Some reading) (find (λ (r : Reading). r.number == n) some))
    (All-head (λ (r : Reading). (r.number == n) ≡ false) reading some h)
    ∙ absent n some (All-tail (λ (r : Reading). (r.number == n) ≡ false) reading some h)

-- no reading is found by a number that isn't one of a row
pub none_beyond : (entries : List Entry) (n : ℕ) → AreNumbered entries → (n ≡ 0)
    ⊎ (length entries < n) → reading_of entries n ≡ None
none_beyond entries n numbered beyond =
    absent n (readings entries) (All-weaker (λ (r : Reading). IsNumber entries r.number)
    (λ (r : Reading). (r.number == n) ≡ false) (λ reading is. apart reading.number is beyond)
    (readings entries) numbered.numbers)
  where
    apart : (number : ℕ) → IsNumber entries number → (n ≡ 0) ⊎ (length entries < n)
        → (number == n) ≡ false
    apart number is (inl nothing) = ne_eqb number n (λ same. absurd (omega (arith, is.0, nothing, same)))
    apart number is (inr far) = ne_eqb number n (λ same. absurd (omega (arith, is.1, far, same)))

numbered-push : (entries : List Entry) (entry : Entry) → AreNumbered entries
    → AreNumbered (entries ++ entry ∷ [])
numbered-push entries entry numbered =
    let longer : length (entries ++ entry ∷ []) ≡ length entries + 1 =
    length-append entries (entry ∷ []) in
    let Numbered : Reading → Type 0 = λ reading. IsNumber (entries ++ entry ∷ []) reading.number in
    let Found : Reading → Type 0 = IsFound (entries ++ entry ∷ []) in
    record {
      numbers = subst (All Numbered) (sym (readings-push entries entry))
          (All-append Numbered (map (advance entry.act) (readings entries))
          (cons_option (own_reading entries entry) [])
          (All-map Numbered (advance entry.act) (readings entries)
          (All-weaker (λ (r : Reading). IsNumber entries r.number) Numbered
          (λ reading is. (is.0, omega (arith, is.1, longer)))
          (readings entries) numbered.numbers))
          (own_number entry.act));
      found = subst (All Found) (sym (readings-push entries entry))
          (All-append Found (map (advance entry.act) (readings entries))
          (cons_option (own_reading entries entry) [])
          (All-map Found (advance entry.act) (readings entries)
          (All-weaker (IsFound entries) (λ (r : Reading). Found (advance entry.act r))
          (λ reading is. reading_of_later entries entry reading.number reading is)
          (readings entries) numbered.found))
          (own_found entry.act refl));
    }
  where
    own_number : (act : Act) → All (λ (r : Reading). IsNumber (entries ++ entry ∷ []) r.number)
        (cons_option (weighed_reading (length entries + 1) entries act entry.signal []) [])
    own_number (Weigh lane gross prior) =
        let longer : length (entries ++ entry ∷ []) ≡ length entries + 1 =
        length-append entries (entry ∷ []) in
        All-cons (λ (r : Reading). IsNumber (entries ++ entry ∷ []) r.number) _ []
        (omega arith, omega (arith, longer))
        (All-nil (λ (r : Reading). IsNumber (entries ++ entry ∷ []) r.number))
    own_number act = All-nil (λ (r : Reading). IsNumber (entries ++ entry ∷ []) r.number)

    own_found : (act : Act) → entry.act ≡ act
        → All (IsFound (entries ++ entry ∷ []))
        (cons_option (weighed_reading (length entries + 1) entries act entry.signal []) [])
    own_found (Weigh lane gross prior) is =
        All-cons (IsFound (entries ++ entry ∷ [])) _ []
        (reading_of-push entries entry (length entries + 1)
        ∙ ap (λ o. option_or (option_map (advance entry.act) o)
        (find (λ (r : Reading). r.number == length entries + 1)
        (cons_option (own_reading entries entry) [])))
        (none_beyond entries (length entries + 1) numbered (inr (omega arith)))
        ∙ ap (λ (a : Act). find (λ (r : Reading). r.number == length entries + 1)
        (cons_option (weighed_reading (length entries + 1) entries a entry.signal []) [])) is
        ∙ ap (λ b. cond b (weighed_reading (length entries + 1) entries
        (Weigh lane gross prior) entry.signal []) None)
        (eq-eqb (length entries + 1) (length entries + 1) refl))
        (All-nil (IsFound (entries ++ entry ∷ [])))
    own_found act is = All-nil (IsFound (entries ++ entry ∷ []))

numbered_behind : (before after : List Entry) → AreNumbered before → AreNumbered (before ++ after)
numbered_behind before [] numbered = subst AreNumbered (sym (append-nil before)) numbered
numbered_behind before (entry ∷ after) numbered =
    subst AreNumbered (append_assoc before (entry ∷ []) after)
    (numbered_behind (before ++ entry ∷ []) after (numbered-push before entry numbered))

-- the readings of every list are numbered
pub numbered : (entries : List Entry) → AreNumbered entries
numbered entries = numbered_behind [] entries
    (record {
      numbers = All-nil (λ reading. IsNumber [] reading.number);
      found =
          All-nil (IsFound []);
    })

-- ---- the packs that are drawn

-- a pack of a batch
abbrev pub IsPackOf : List Entry → Name → ℕ → Type 0
IsPackOf entries batch pack = (reading : Reading) × (reading_of entries pack ≡ Some reading)
    × (reading.batch ≡ Some batch)

-- the packs that the first sample of a batch is drawn from are packs of it
abbrev pub DrawsOwn : List Entry → Name → Type 0
DrawsOwn entries batch = (drawing : Drawing) → drawing_of entries batch ≡ Some drawing
    → All (IsPackOf entries batch) drawing.packs

-- the batch of a reading that is one of it
pub batch_is : (batch : Name) (o : Option Name)
    → option_map_or (λ (name : Name). same_name name batch) o false ≡ true → o ≡ Some batch
batch_is batch None h = absurd (cc)
batch_is batch (Some name) h = ap Some (same_name_is name batch h)

population_is_own : (entries : List Entry) (batch : Name)
    → All (IsPackOf entries batch) (numbers_of (population entries batch))
population_is_own entries batch =
    let test : Reading → Bool = λ reading. is_of_batch batch reading && is_counted reading in
    let found = All-filter test (IsFound entries) (readings entries) (numbered entries).found in
    let passes = filter_passes test (readings entries) in
    All-map (IsPackOf entries batch) (λ (r : Reading). r.number) (population entries batch)
    (λ k d less. (
      get_or (population entries batch) k d,
      found k d less,
      batch_is batch (get_or (population entries batch) k d).batch
          (and_parts _ _ (passes k d less)).0,
    ))

drawn_packs : (entries : List Entry) (act : Act) (batch : Name) (drawing : Drawing)
    → drawing_from batch entries act ≡ Some drawing
    → numbers_of (population entries batch) ≡ drawing.packs
drawn_packs entries (Draw name mode word) batch drawing h = each (same_name name batch) h
  where
    each : (b : Bool)
        → cond b (Some
        (record { mode = mode; word = word; packs = numbers_of (population entries batch) })) None
        ≡ Some drawing → numbers_of (population entries batch) ≡ drawing.packs
    each true k = ap (λ (d : Drawing). d.packs) (same_Some _ drawing k)
    each false k = absurd (cc)
drawn_packs entries act batch drawing h = absurd (cc)

pack_later : (entries : List Entry) (entry : Entry) (batch : Name) (pack : ℕ)
    → IsPackOf entries batch pack → IsPackOf (entries ++ entry ∷ []) batch pack
pack_later entries entry batch pack is =
    (advance entry.act is.0, reading_of_later entries entry pack is.0 is.1, is.2)

draws_own-push : (entries : List Entry) (entry : Entry) (batch : Name) → DrawsOwn entries batch
    → DrawsOwn (entries ++ entry ∷ []) batch
draws_own-push entries entry batch own drawing h =
    later (each (drawing_from batch entries entry.act) refl
    (sym (drawing_of-push entries entry batch) ∙ h))
  where
    later : All (IsPackOf entries batch) drawing.packs
        → All (IsPackOf (entries ++ entry ∷ []) batch) drawing.packs
    later all = All-weaker (IsPackOf entries batch) (IsPackOf (entries ++ entry ∷ []) batch)
        (pack_later entries entry batch) drawing.packs all

    each : (o : Option Drawing) → drawing_from batch entries entry.act ≡ o
        → option_or o (drawing_of entries batch) ≡ Some drawing
        → All (IsPackOf entries batch) drawing.packs
    each None is k = own drawing k
    each (Some new) is k = subst (All (IsPackOf entries batch))
        (drawn_packs entries entry.act batch new is
        ∙ ap (λ (d : Drawing). d.packs) (same_Some new drawing k)) (population_is_own entries batch)

draws_own_behind : (batch : Name) (before after : List Entry) → DrawsOwn before batch
    → DrawsOwn (before ++ after) batch
draws_own_behind batch before [] own =
    subst (λ (es : List Entry). DrawsOwn es batch) (sym (append-nil before)) own
draws_own_behind batch before (entry ∷ after) own =
    subst (λ (es : List Entry). DrawsOwn es batch) (append_assoc before (entry ∷ []) after)
    (draws_own_behind batch (before ++ entry ∷ []) after
    (draws_own-push before entry batch own))

-- so it is in every list
pub draws_own : (entries : List Entry) (batch : Name) → DrawsOwn entries batch
draws_own entries batch = draws_own_behind batch [] entries (λ drawing h. absurd (cc))

-- ---- the packs of a sample

get_from : (P : ℕ → Type 0) (xs : List ℕ) (k d : ℕ) → All P xs → P d → P (get_or xs k d)
get_from P [] k d all other = other
get_from P (x ∷ xs) zero d all other = All-head P x xs all
get_from P (x ∷ xs) (suc k) d all other = get_from P xs k d (All-tail P x xs all) other

-- what is drawn is one of the packs, or no number at all where there are too few
drawn_from : (P : ℕ → Type 0) (word : ℕ) (packs : List ℕ) (k : ℕ) → All P packs → P 0
    → All P (drawn word packs k)
unfolding drawn
drawn_from P word packs zero all none = All-nil P
drawn_from P word packs (suc k) all none =
    let next = next_word word in
    let place = place_of next (length packs) in
    All-cons P (get_or packs place 0) (drawn next (remove packs place) k)
    (get_from P packs place 0 all none)
    (drawn_from P next (remove packs place) k
    (All-append P (take place packs) (drop (suc place) packs) (All-take P place packs all)
    (All-drop P (suc place) packs all)) none)

-- a drawn pack is a pack of its batch; a draw from too few packs takes 0, which is none
abbrev pub IsPick : List Entry → Name → ℕ → Type 0
IsPick entries batch pack = IsPackOf entries batch pack ⊎ (pack ≡ 0)

-- the packs of a sample of a batch are so
pub record PicksOwn (entries : List Entry) (batch : Name) (sample : Sample) : Type 0 where
  pub first : All (IsPick entries batch) sample.first
  pub second : All (IsPick entries batch) (second_packs sample)

picks_by : (entries : List Entry) (batch : Name) (drawing : Drawing) (word : Option ℕ)
    → All (IsPackOf entries batch) drawing.packs → PicksOwn entries batch (sample_by drawing word)
picks_by entries batch drawing word own =
    let Pick : ℕ → Type 0 = IsPick entries batch in
    let all : All Pick drawing.packs =
    All-weaker (IsPackOf entries batch) Pick (λ pack is. inl is) drawing.packs own in
    record {
      first = drawn_from Pick drawing.word drawing.packs (plan_of_drawing drawing).first all (inr refl);
      second = each all word;
    }
  where
    each : All (IsPick entries batch) drawing.packs → (o : Option ℕ)
        → All (IsPick entries batch) (unwrap_or (option_map (second_picks drawing) o) [])
    each all None = All-nil (IsPick entries batch)
    each all (Some w) =
        drawn_from (IsPick entries batch) w (packs_left drawing.packs (first_picks drawing))
        (plan_of_drawing drawing).second
        (All-filter _ (IsPick entries batch) drawing.packs all) (inr refl)

-- the drawn packs of a batch are packs of it
pub picks_own : (entries : List Entry) (batch : Name) (sample : Sample)
    → sample_of entries batch ≡ Some sample → PicksOwn entries batch sample
picks_own entries batch sample h = each (drawing_of entries batch) refl h
  where
    each : (o : Option Drawing) → drawing_of entries batch ≡ o
        → option_map (λ (d : Drawing). sample_by d (last_said (second_word batch) entries)) o
        ≡ Some sample → PicksOwn entries batch sample
    each None is k = absurd (cc)
    each (Some drawing) is k = subst (PicksOwn entries batch) (same_Some _ sample k)
        (picks_by entries batch drawing (last_said (second_word batch) entries)
        (draws_own entries batch drawing is))
