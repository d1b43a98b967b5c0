-- What is kept goes on to stand for the list, whatever is taken down.
use Rattle.std.proofs.Common.{◌≡◌, ℕ, ℤ, zero, suc, ◌+◌, Bool, true, false, cond, nat_eq, List, [], ◌∷◌, ◌++◌, map, slice_get, Option, Some, None, option_map, if◌then◌else◌, refl, sym, ◌∙◌, ap, arith, append-nil}
use Rattle.std.specs.List.{cons_option}
use Rattle.std.specs.Option.{option_or}
use Rattle.book_words.specs.declared.name.Name.{Name}
use Rattle.book_words.specs.declared.act.Act.{Act}
use Rattle.book_words.specs.declared.act.Act.TheVariants.{OpenBatch, Draw, Measure, DrawSecond}
use Rattle.book_words.specs.declared.act.Entry.{Entry}
use Rattle.book_words.specs.Names.{same_name}
use Rattle.book_words.specs.Acts.{said, batch_opened, last_said}
use Rattle.book_words.specs.Order.{place_of, batch_number}
use Rattle.book_words.specs.Samples.{Drawing, Sample, drawing_from, second_word, sample_by, sample_of}
use Rattle.book_words.specs.Measures.{Measured, measured_by, measured_of}
use Rattle.book_words.specs.Answers.{IsLegal}
use Rattle.book_words.proofs.NameLemmas.{same_name_is}
use Rattle.book_words.proofs.DrawnLemmas.{sample_of-kept, measured_of-push}
use Rattle.book_words.proofs.SampleSteps.{draws_packs, sample_of-no_draw, sample_of-opened, sample_of-draw, sample_of-draw_apart, sample_of-second, sample_of-second_apart}
use Rattle.book_words.proofs.OpenedOnce.{said-push, is_named, AreDistinct, opened_once}
use Rattle.book_words.proofs.PlaceLemmas.{place_of-name}
use Rattle.book_samples.specs.Kept.{Kept, measured_in, IsSamplesOf, StandsForAll, TakesDown, IsOpening, IsFirstDraw, IsSecondDraw, IsMeasurement, is_of_samples}
use Rattle.book_samples.specs.Changed.{change_at, with_second}
use Rattle.std.proofs.lemmas.Bool.{or_parts}

true_is_not_false : true ≡ false → ⊥
true_is_not_false h = cc

-- an act that opens no batch, draws nothing and measures nothing
record IsQuiet (entries : List Entry) (act : Act) : Type 0 where
  opened : batch_opened act ≡ None
  first : (batch : Name) → drawing_from batch entries act ≡ None
  second : (batch : Name) → second_word batch act ≡ None
  measured : (pack : ℕ) → measured_by pack act ≡ None

quiet : (entries : List Entry) (act : Act) → is_of_samples act ≡ false → IsQuiet entries act
quiet entries (OpenBatch batch product density) h = absurd (true_is_not_false h)
quiet entries (Draw batch mode word) h = absurd (true_is_not_false h)
quiet entries (Measure pack gross empty) h = absurd (true_is_not_false h)
quiet entries (DrawSecond batch word) h = absurd (true_is_not_false h)
quiet entries act h = record {
  opened = refl;
  first = λ _. refl;
  second = λ _. refl;
  measured =
      λ _. refl;
}

-- no batch is opened by the last entry
none_opened : (entries : List Entry) (entry : Entry) → batch_opened entry.act ≡ None
    → said batch_opened (entries ++ entry ∷ []) ≡ said batch_opened entries
none_opened entries entry none =
    said-push batch_opened entries entry
    ∙ ap (λ (o : Option Name). said batch_opened entries ++ cons_option o []) none
    ∙ append-nil (said batch_opened entries)

-- the measurements stay behind an entry that measures nothing
none_measured : (entries : List Entry) (entry : Entry) (pack : ℕ)
    → measured_by pack entry.act ≡ None
    → measured_of (entries ++ entry ∷ []) pack ≡ measured_of entries pack
none_measured entries entry pack none =
    measured_of-push entries entry pack
    ∙ ap (λ (o : Option Measured). option_or o (measured_of entries pack)) none

map_same : {A B : Type 0} (f g : A → B) → ((x : A) → f x ≡ g x) → (xs : List A) → map f xs ≡ map g xs
map_same f g same [] = refl
map_same f g same (x ∷ xs) = ap (λ y. y ∷ map f xs) (same x) ∙ ap (λ ys. g x ∷ ys) (map_same f g same xs)

map-push : {A B : Type 0} (f : A → B) (xs : List A) (x : A) → map f (xs ++ x ∷ []) ≡ map f xs ++ f x ∷ []
map-push f [] x = refl
map-push f (y ∷ ys) x = ap (λ zs. f y ∷ zs) (map-push f ys x)

-- what has the same samples and measurements stands for the same lists
pub same_stands : (old new : Kept) → new.samples ≡ old.samples
    → ((pack : ℕ) → measured_in new.measured pack ≡ measured_in old.measured pack)
    → StandsForAll old new
same_stands old new samples measured entries stands =
    record {
      samples = samples ∙ stands.samples;
      measured = λ pack. measured pack ∙ stands.measured pack;
    }

-- the samples of a batch stand at its number
pub sample_at_number : (entries : List Entry) (kept : Kept) (batch : Name) (number : ℕ)
    → IsSamplesOf entries kept → batch_number entries batch ≡ Some number
    → slice_get kept.samples number ≡ Some (sample_of entries batch)
sample_at_number entries kept batch number stands numbered =
    ap (λ (some : List (Option Sample)). slice_get some number) stands.samples
    ∙ mapped (sample_of entries) (said batch_opened entries) number
    ∙ ap (option_map (sample_of entries))
    (place_of-name (said batch_opened entries) batch number numbered)
  where
    mapped : (f : Name → Option Sample) (names : List Name) (place : ℕ)
        → slice_get (map f names) place ≡ option_map f (slice_get names place)
    mapped f [] place = refl
    mapped f (n ∷ ns) zero = refl
    mapped f (n ∷ ns) (suc place) = mapped f ns place

-- an act that isn't of samples leaves what is kept as it is
pub stands_on : (entries : List Entry) (entry : Entry) (kept : Kept)
    → is_of_samples entry.act ≡ false → IsSamplesOf entries kept
    → IsSamplesOf (entries ++ entry ∷ []) kept
stands_on entries entry kept other stands =
    let still = quiet entries entry.act other in
    record {
      samples =
          stands.samples
          ∙ sym (map_same (sample_of (entries ++ entry ∷ [])) (sample_of entries)
          (λ batch. sample_of-kept entries entry batch (still.first batch) (still.second batch))
          (said batch_opened entries))
          ∙ ap (map (sample_of (entries ++ entry ∷ []))) (sym (none_opened entries entry still.opened));
      measured = λ pack. stands.measured pack
          ∙ sym (none_measured entries entry pack (still.measured pack));
    }

-- a batch is opened: its place is behind the others, and nothing was drawn from it
pub opened_stands : (old new : Kept) → new.samples ≡ old.samples ++ None ∷ []
    → new.measured ≡ old.measured → TakesDown IsOpening old new
opened_stands old new samples measured entries entry stands legal lawful opening =
    let names : List Name = said batch_opened entries in
    let longer : List Entry = entries ++ entry ∷ [] in
    let undrawn = sample_of-opened entries entry opening.batch opening.product opening.density legal
    lawful opening.act_is in
    let opened : said batch_opened longer ≡ names ++ opening.batch ∷ [] =
    said-push batch_opened entries entry
    ∙ ap (λ (act : Act). names ++ cons_option (batch_opened act) []) opening.act_is in
    record {
      samples =
          samples ∙ ap (λ (some : List (Option Sample)). some ++ None ∷ []) stands.samples
          ∙ ap (λ (o : Option Sample). map (sample_of entries) names ++ o ∷ []) (sym undrawn)
          ∙ sym (map-push (sample_of entries) names opening.batch)
          ∙ sym (map_same (sample_of longer) (sample_of entries)
          (sample_of-no_draw entries entry (ap draws_packs opening.act_is))
          (names ++ opening.batch ∷ []))
          ∙ ap (map (sample_of longer)) (sym opened);
      measured =
          λ pack. ap (λ (pairs : List (ℕ × Measured)). measured_in pairs pack) measured
          ∙ stands.measured pack
          ∙ sym (none_measured entries entry pack (ap (measured_by pack) opening.act_is));
    }

-- what two functions give for names of which none is this one, where they differ for this one alone
map_apart : {A : Type 0} (f g : Name → A) (name : Name)
    → ((other : Name) → same_name other name ≡ false → g other ≡ f other)
    → (names : List Name) → is_named name names ≡ false → map g names ≡ map f names
map_apart f g name same [] h = refl
map_apart f g name same (n ∷ ns) h =
    let parts = or_parts (same_name n name) (is_named name ns) h in
    ap (λ y. y ∷ map g ns) (same n parts.0) ∙ ap (λ ys. f n ∷ ys) (map_apart f g name same ns parts.1)

-- a list that stands for distinct names changes at the place of the one for which the function does
pub map-changed : {A : Type 0} (f g : Name → A) (change : A → A) (name : Name)
    → g name ≡ change (f name) → ((other : Name) → same_name other name ≡ false → g other ≡ f other)
    → (names : List Name) (place : ℕ) → AreDistinct names → place_of names name ≡ Some place
    → map g names ≡ change_at change place (map f names)
map-changed f g change name here apart [] place distinct at = refl
map-changed f g change name here apart (n ∷ ns) place distinct at =
    either (same_name n name) refl
    (λ before found. map-changed f g change name here apart ns before distinct.1 found) at
  where
    some_is : (a b : ℕ) → Some a ≡ Some b → a ≡ b
    some_is a b h = cc

    behind : (o : Option ℕ) → place_of ns name ≡ o
        → ((before : ℕ) → place_of ns name ≡ Some before
        → map g ns ≡ change_at change before (map f ns)) → same_name n name ≡ false
        → option_map (λ place. place + 1) o ≡ Some place
        → map g (n ∷ ns) ≡ change_at change place (map f (n ∷ ns))
    behind None found step other h = absurd (none_is_not_some h)
      where
        none_is_not_some : None ≡ Some place → ⊥
        none_is_not_some h = cc
    behind (Some before) found step other h =
        let next : suc before ≡ place = (let up : suc before ≡ before + 1 = omega arith in up)
        ∙ some_is (before + 1) place h in
        ap (λ y. y ∷ map g ns) (apart n other) ∙ ap (λ ys. f n ∷ ys) (step before found)
        ∙ ap (λ p. change_at change p (map f (n ∷ ns))) next

    either : (test : Bool) → same_name n name ≡ test
        → ((before : ℕ) → place_of ns name ≡ Some before
        → map g ns ≡ change_at change before (map f ns))
        → (if test then Some 0 else option_map (λ place. place + 1) (place_of ns name)) ≡ Some place
        → map g (n ∷ ns) ≡ change_at change place (map f (n ∷ ns))
    either true same step h =
        let is : n ≡ name = same_name_is n name same in
        ap (λ y. y ∷ map g ns) (ap g is ∙ here ∙ ap (λ (b : Name). change (f b)) (sym is))
        ∙ ap (λ ys. change (f n) ∷ ys)
        (map_apart f g name apart ns (ap (λ (b : Name). is_named b ns) (sym is) ∙ distinct.0))
        ∙ ap (λ p. change_at change p (map f (n ∷ ns))) (some_is 0 place h)
    either false same step h = behind (place_of ns name) refl step same h

-- an entry changes the samples of one batch, and the others stay
one_changed : (old new : Kept) (number : ℕ) (change : Option Sample → Option Sample)
    (entries : List Entry) (entry : Entry) (batch : Name)
    → new.samples ≡ change_at change number old.samples → new.measured ≡ old.measured
    → IsSamplesOf entries old → IsLegal entries → batch_number entries batch ≡ Some number
    → batch_opened entry.act ≡ None → ((pack : ℕ) → measured_by pack entry.act ≡ None)
    → sample_of (entries ++ entry ∷ []) batch ≡ change (sample_of entries batch)
    → ((other : Name) → same_name other batch ≡ false
    → sample_of (entries ++ entry ∷ []) other ≡ sample_of entries other)
    → IsSamplesOf (entries ++ entry ∷ []) new
one_changed old new number change entries entry batch samples measured stands legal numbered opens
    measures here apart =
    record {
      samples =
          samples ∙ ap (change_at change number) stands.samples
          ∙ sym (map-changed (sample_of entries)
          (sample_of (entries ++ entry ∷ [])) change batch here apart
          (said batch_opened entries) number (opened_once entries legal) numbered)
          ∙ ap (map (sample_of (entries ++ entry ∷ []))) (sym (none_opened entries entry opens));
      measured =
          λ pack. ap (λ (pairs : List (ℕ × Measured)). measured_in pairs pack) measured
          ∙ stands.measured pack
          ∙ sym (none_measured entries entry pack (measures pack));
    }

-- a first sample is drawn: it comes to the place of its batch
pub first_stands : (old new : Kept) (number : ℕ) (sample : Sample)
    → new.samples ≡ change_at (λ none. Some sample) number old.samples → new.measured ≡ old.measured
    → TakesDown (IsFirstDraw number sample) old new
first_stands old new number sample samples measured entries entry stands legal lawful draw =
    one_changed old new number (λ none. Some sample) entries entry draw.batch samples measured
    stands legal draw.numbered
    (ap batch_opened draw.act_is) (λ pack. ap (measured_by pack) draw.act_is)
    (sample_of-draw entries entry draw.batch draw.mode draw.word legal lawful draw.act_is
    ∙ ap Some (sym draw.sample_is))
    (λ other. sample_of-draw_apart entries entry draw.batch other draw.mode draw.word draw.act_is)

-- a second sample is drawn: it comes beside the first of its batch
pub second_stands : (old new : Kept) (number : ℕ) (picks : List ℕ)
    → new.samples ≡ change_at (with_second picks) number old.samples → new.measured ≡ old.measured
    → TakesDown (IsSecondDraw number picks) old new
second_stands old new number picks samples measured entries entry stands legal lawful draw =
    let here : sample_of (entries ++ entry ∷ []) draw.batch
    ≡ with_second picks (sample_of entries draw.batch) =
    sample_of-second entries entry draw.batch draw.word draw.drawing draw.act_is draw.drawing_is
    ∙ ap (λ (packs : List ℕ). with_second packs
    (Some (sample_by draw.drawing (last_said (second_word draw.batch) entries))))
    (sym draw.picks_are)
    ∙ ap (λ (o : Option Drawing). with_second picks
    (option_map (λ d. sample_by d (last_said (second_word draw.batch) entries)) o))
    (sym draw.drawing_is) in
    one_changed old new number (with_second picks) entries entry draw.batch samples measured stands
    legal draw.numbered
    (ap batch_opened draw.act_is) (λ pack. ap (measured_by pack) draw.act_is) here
    (λ other. sample_of-second_apart entries entry draw.batch other draw.word draw.act_is)

-- a pack is measured
pub measured_stands : (old new : Kept) (pack : ℕ) (gross empty : ℤ) → new.samples ≡ old.samples
    → ((other : ℕ) → measured_in new.measured other
    ≡ cond (nat_eq pack other) (Some (record { gross = gross; empty = empty }))
    (measured_in old.measured other))
    → TakesDown (IsMeasurement pack gross empty) old new
measured_stands old new pack gross empty samples measured entries entry stands legal lawful act_is =
    let longer : List Entry = entries ++ entry ∷ [] in
    let given : Measured = record { gross = gross; empty = empty } in
    record {
      samples =
          samples ∙ stands.samples
          ∙ sym (map_same (sample_of longer) (sample_of entries)
          (sample_of-no_draw entries entry (ap draws_packs act_is)) (said batch_opened entries))
          ∙ ap (map (sample_of longer)) (sym (none_opened entries entry (ap batch_opened act_is)));
      measured =
          λ other. measured other
          ∙ ap (cond (nat_eq pack other) (Some given)) (stands.measured other)
          ∙ either given (nat_eq pack other) (measured_of entries other)
          ∙ ap (λ (act : Act). option_or (measured_by other act) (measured_of entries other))
          (sym act_is)
          ∙ sym (measured_of-push entries entry other);
    }
  where
    either : (given : Measured) (test : Bool) (o : Option Measured)
        → cond test (Some given) o ≡ option_or (if test then Some given else None) o
    either given true o = refl
    either given false o = refl
