-- The nets and the contents that the lines of a written paper give are those of the book.
use Rattle.std.proofs.Common.{◌≡◌, ℕ, ℤ, pos, ◌+ℤ◌, ◌-ℤ◌, Bool, true, false, ◌&&◌, ◌==◌, cond, List, [], ◌∷◌, map, Option, Some, None, option_map, refl, sym, ◌∙◌, ap, ◌+◌}
use Rattle.std.proofs.lemmas.Bool.{and_parts}
use Rattle.std.proofs.lemmas.List.Elements.{All-nil, All-cons, All-head, All-tail, All-weaker, All-filter, filter_passes}
use Rattle.std.proofs.lemmas.Option.{same_Some}
use Rattle.std.specs.List.{All, cons_option, count_by, filter, filter_map, find, fold}
use Rattle.std.specs.Option.{option_and_then, option_map_or, unwrap_or}
use Rattle.annex_tables.specs.declared.types.Mode.{Mode}
use Rattle.annex_tables.specs.declared.types.Mode.TheVariants.{Keep, Destroy}
use Rattle.pack_judge.specs.Piles.{mass_sum}
use Rattle.pack_judge.specs.declared.tares.DatedTare.{DatedTare}
use Rattle.reference_test.specs.Means.{total}
use Rattle.book_words.specs.declared.name.Name.{Name}
use Rattle.book_words.specs.declared.act.Entry.{Entry}
use Rattle.book_words.specs.declared.act.Reading.{Reading}
use Rattle.book_words.specs.Readings.{readings, reading_of, is_of_batch, tare_of_batch, tare_of_reading, net_of_reading}
use Rattle.book_words.specs.Population.{is_counted, population}
use Rattle.book_words.specs.Measures.{Measured, measured_of, actual_contents, contents_of_pack, contents_among}
use Rattle.book_words.specs.Answers.{IsLegal}
use Rattle.book_words.specs.Names.{same_name}
use Rattle.book_words.proofs.NameLemmas.{same_name_is}
use Rattle.book_laws.proofs.ReadingLaws.{of_found}
use Rattle.book_laws.proofs.TareLaws.{IsWeighed, tared_of}
use Rattle.paper_form.specs.declared.types.Pack as packs
use Rattle.paper_form.specs.Papers.{PaperData}
use Rattle.paper_check.specs.Judging.{tare_on, net_on, nets_of, pack_with, contents_by, contents_of_pick, contents_of_picks}
use Rattle.batch_paper.specs.Written.{reading_pack, packs_of, tare_for, tares_of, weighed_of, pick_of, product_paper}
use Rattle.batch_paper.proofs.TareLines.{IsTaredBy, tares_found}

-- ---- a reading of the population

-- a reading of a batch, weighed on a day
pub record IsOwn (batch : Name) (reading : Reading) : Type 0 where
  pub day : ℤ
  pub on_day : reading.day ≡ Some day
  pub of_batch : reading.batch ≡ Some batch

pub own_batch : (batch : Name) (o : Option Name)
    → option_map_or (λ (name : Name). same_name name batch) o false ≡ true → o ≡ Some batch
own_batch batch None h = absurd (cc)
own_batch batch (Some name) h = ap Some (same_name_is name batch h)

-- each reading of a population is so
pub each_own : (entries : List Entry) (batch : Name) → IsLegal entries
    → All (IsOwn batch) (population entries batch)
each_own entries batch legal k d less =
    let test : Reading → Bool = λ reading. is_of_batch batch reading && is_counted reading in
    let weighed = All-filter test (IsWeighed entries) (readings entries)
    (tared_of entries legal).weighed k d less in
    let passes = filter_passes test (readings entries) k d less in
    record {
      day = weighed.day;
      on_day = weighed.on_day;
      of_batch = own_batch batch _ (and_parts _ _ passes).0;
    }

-- the tare of such a reading is that of its batch on the day that its line has
own_tare : (entries : List Entry) (batch : Name) (reading : Reading) → IsOwn batch reading
    → tare_of_reading entries reading.batch reading.day
    ≡ tare_of_batch entries batch ((reading_pack reading).day)
own_tare entries batch reading own =
    ap (λ (b : Option Name). tare_of_reading entries b reading.day) own.of_batch
    ∙ ap (λ (d : Option ℤ). option_and_then (tare_of_batch entries batch) d) own.on_day
    ∙ sym (ap (λ (d : Option ℤ). tare_of_batch entries batch (unwrap_or d (pos 0))) own.on_day)

-- ---- the nets

-- the lines of tares give a reading's line its tare
abbrev HasLine : List Entry → Name → List DatedTare → Reading → Type 0
HasLine entries batch tares reading =
    tare_on tares ((reading_pack reading).day)
    ≡ Some ((tare_for entries batch ((reading_pack reading).day)).tare)

pub of_mapped : {A B : Type 0} (P : B → Type 0) (f : A → B) (some : List A) → All P (map f some)
    → All (λ x. P (f x)) some
of_mapped P f [] all = All-nil (λ x. P (f x))
of_mapped P f (x ∷ some) all =
    All-cons (λ y. P (f y)) x some (All-head P (f x) (map f some) all)
    (of_mapped P f some (All-tail P (f x) (map f some) all))

each_has_line : (entries : List Entry) (batch : Name)
    → All (HasLine entries batch (tares_of entries batch)) (population entries batch)
each_has_line entries batch =
    of_mapped (IsTaredBy entries batch (tares_of entries batch)) reading_pack (population entries batch)
    (tares_found entries batch (packs_of entries batch))

own_net : (entries : List Entry) (batch : Name) (tares : List DatedTare) (reading : Reading)
    (gross : ℤ) → HasLine entries batch tares reading → IsOwn batch reading
    → net_on tares ((reading_pack reading).day) gross
    ≡ Some (gross -ℤ unwrap_or (tare_of_reading entries reading.batch reading.day) (pos 0))
own_net entries batch tares reading gross line own =
    ap (option_map (λ (tare : ℤ). gross -ℤ tare)) line
    ∙ sym (ap
    (λ (t : Option ℤ). Some (gross -ℤ unwrap_or t (pos 0))) (own_tare entries batch reading own))

all_there : {A B C : Type 0} (f : B → Option C) (g : A → B) (h : A → C) (some : List A)
    → All (λ x. f (g x) ≡ Some (h x)) some → filter_map f (map g some) ≡ map h some
all_there f g h [] all = refl
all_there f g h (x ∷ some) all =
    let first : f (g x) ≡ Some (h x) = All-head (λ y. f (g y) ≡ Some (h y)) x some all in
    ap (λ o. cons_option o (filter_map f (map g some))) first
    ∙ ap (λ ys. h x ∷ ys) (all_there f g h some (All-tail (λ y. f (g y) ≡ Some (h y)) x some all))

pub both : {A : Type 0} (P Q : A → Type 0) (some : List A) → All P some → All Q some
    → All (λ x. P x × Q x) some
both P Q some p q k d less = (p k d less, q k d less)

-- the nets of the lines are those of the readings
pub same_nets : (entries : List Entry) (batch : Name) → IsLegal entries
    → nets_of (tares_of entries batch) (packs_of entries batch)
    ≡ map (net_of_reading entries) (population entries batch)
same_nets entries batch legal =
    all_there (λ (pack : packs.Pack). net_on (tares_of entries batch) pack.day pack.gross) reading_pack
    (net_of_reading entries) (population entries batch)
    (All-weaker (λ (r : Reading). HasLine entries batch (tares_of entries batch) r × IsOwn batch r)
    (λ (r : Reading). net_on (tares_of entries batch) ((reading_pack r).day) r.gross
    ≡ Some (net_of_reading entries r)) (λ reading at.
    own_net entries batch (tares_of entries batch) reading reading.gross at.0 at.1)
    (population entries batch)
    (both (HasLine entries batch (tares_of entries batch)) (IsOwn batch) (population entries batch)
    (each_has_line entries batch) (each_own entries batch legal)))

-- ---- sums and counts of nets

pub same_sum : {A : Type 0} (net : A → ℤ) (some : List A) → total (map net some) ≡ mass_sum net some
same_sum net [] = refl
same_sum net (x ∷ some) = ap (λ sum. net x +ℤ sum) (same_sum net some)

fold_mapped : {A B : Type 0} (test : B → Bool) (f : A → B) (n : ℕ) (some : List A)
    → fold (λ m y. m + cond (test y) 1 0) n (map f some)
    ≡ fold (λ m x. m + cond (test (f x)) 1 0) n some
fold_mapped test f n [] = refl
fold_mapped test f n (x ∷ some) = fold_mapped test f (n + cond (test (f x)) 1 0) some

pub same_count : {A B : Type 0} (test : B → Bool) (f : A → B) (some : List A)
    → count_by test (map f some) ≡ count_by (λ x. test (f x)) some
same_count test f some = fold_mapped test f 0 some

-- ---- the contents of drawn packs

-- a pack is one of the population
pub record IsCounted (entries : List Entry) (batch : Name) (pack : ℕ) : Type 0 where
  pub reading : Reading
  pub found : reading_of entries pack ≡ Some reading
  pub passes : (is_of_batch batch reading && is_counted reading) ≡ true

found_still : (test keep : Reading → Bool) (reading : Reading) (some : List Reading)
    → find test some ≡ Some reading → keep reading ≡ true
    → find test (filter keep some) ≡ Some reading
found_still test keep reading [] found kept = absurd (cc)
found_still test keep reading (r ∷ rs) found kept =
    each (test r) (keep r) refl refl (λ later. found_still test keep reading rs later kept)
  where
    each : (t k : Bool) → test r ≡ t → keep r ≡ k
        → (find test rs ≡ Some reading → find test (filter keep rs) ≡ Some reading)
        → find test (cond k (r ∷ filter keep rs) (filter keep rs)) ≡ Some reading
    each true true t k rest = ap (λ b. cond b (Some r) (find test (filter keep rs))) t
        ∙ sym (ap (λ b. cond b (Some r) (find test rs)) t) ∙ found
    each true false t k rest =
        let same : r ≡ reading = same_Some r reading
        (sym (ap (λ b. cond b (Some r) (find test rs)) t) ∙ found) in
        absurd (let wrong : true ≡ false = sym kept ∙ ap keep (sym same) ∙ k in cc)
    each false true t k rest = ap (λ b. cond b (Some r) (find test (filter keep rs))) t
        ∙ rest (sym (ap (λ b. cond b (Some r) (find test rs)) t) ∙ found)
    each false false t k rest = rest (sym (ap (λ b. cond b (Some r) (find test rs)) t) ∙ found)

find_mapped : (pack : ℕ) (some : List Reading)
    → pack_with (map reading_pack some) pack
    ≡ option_map reading_pack (find (λ (r : Reading). r.number == pack) some)
find_mapped pack [] = refl
find_mapped pack (r ∷ rs) = each (r.number == pack) (find_mapped pack rs)
  where
    each : (b : Bool) → pack_with (map reading_pack rs) pack
        ≡ option_map reading_pack (find (λ (q : Reading). q.number == pack) rs)
        → cond b (Some (reading_pack r)) (pack_with (map reading_pack rs) pack)
        ≡ option_map reading_pack (cond b (Some r) (find (λ (q : Reading). q.number == pack) rs))
    each true h = refl
    each false h = h

-- its line is found by its number
pub pack_found : (entries : List Entry) (batch : Name) (pack : ℕ)
    (is : IsCounted entries batch pack)
    → find (λ (r : Reading). r.number == pack) (population entries batch) ≡ Some is.reading
pack_found entries batch pack is =
    found_still (λ (r : Reading). r.number == pack)
    (λ (r : Reading). is_of_batch batch r && is_counted r) is.reading (readings entries) is.found
    is.passes

module _ (entries : List Entry) (batch product : Name) (legal : IsLegal entries) where
  abbrev paper : PaperData
  paper = product_paper entries batch product

  of_counted : (P : Reading → Type 0) → All P (population entries batch) → (pack : ℕ)
      → (is : IsCounted entries batch pack) → P is.reading
  of_counted P all pack is =
      (of_found P (λ (r : Reading). r.number == pack) (population entries batch) is.reading all
      (pack_found entries batch pack is)).1

  kept : (pack : ℕ) → (is : IsCounted entries batch pack) → (gross : ℤ)
      → option_and_then (λ (p : packs.Pack). net_on (tares_of entries batch) p.day gross)
      (pack_with (packs_of entries batch) pack)
      ≡ Some (gross -ℤ unwrap_or (tare_of_reading entries is.reading.batch is.reading.day) (pos 0))
  kept pack is gross =
      ap (option_and_then (λ (p : packs.Pack). net_on (tares_of entries batch) p.day gross))
      (find_mapped pack (population entries batch)
      ∙ ap (option_map reading_pack) (pack_found entries batch pack is))
      ∙ own_net entries batch (tares_of entries batch) is.reading gross
      (of_counted (HasLine entries batch (tares_of entries batch))
      (each_has_line entries batch) pack is)
      (of_counted (IsOwn batch) (each_own entries batch legal) pack is)

  measured_contents : (mode : Mode) (pack : ℕ) → (is : IsCounted entries batch pack)
      → (o : Option Measured)
      → option_and_then (contents_by paper mode pack) (option_map (weighed_of mode) o)
      ≡ option_map (actual_contents entries mode is.reading) o
  measured_contents mode pack is None = refl
  measured_contents Keep pack is (Some measured) = kept pack is measured.gross
  measured_contents Destroy pack is (Some measured) = refl

  -- the contents of a drawn pack
  pub same_contents : (mode : Mode) (pack : ℕ) → IsCounted entries batch pack
      → contents_of_pick (product_paper entries batch product) mode (pick_of entries mode pack)
      ≡ contents_of_pack entries mode pack
  same_contents mode pack is =
      measured_contents mode pack is (measured_of entries pack)
      ∙ sym (ap (option_and_then (λ (r : Reading). option_map (actual_contents entries mode r)
      (measured_of entries pack))) is.found)

  -- those of several
  pub contents_among_picks : (mode : Mode) (some : List ℕ) → All (IsCounted entries batch) some
      → contents_of_picks (product_paper entries batch product) mode (map (pick_of entries mode) some)
      ≡ contents_among entries mode some
  contents_among_picks mode [] all = refl
  contents_among_picks mode (pack ∷ some) all =
      ap (λ o. cons_option o (contents_of_picks paper mode (map (pick_of entries mode) some)))
      (same_contents mode pack (All-head (IsCounted entries batch) pack some all))
      ∙ ap (cons_option (contents_of_pack entries mode pack))
      (contents_among_picks mode some (All-tail (IsCounted entries batch) pack some all))
