-- A text that is read as a paper is the lines of that paper, and no others.
use Rattle.std.specs.Prelude.{⊤}
use Rattle.std.proofs.Common.{◌≡◌, ℕ, ◌+◌, ◌-◌, ◌^◌, ◌==◌, Bool, true, false, List, [], ◌∷◌, ◌++◌, length, map, Option, Some, None, is_none, if◌then◌else◌, Result, Ok, Err, IfOk, codes, refl, sym, ap, subst, inl, inr, ◌∙◌, arith, append_assoc, append-nil}
use Rattle.std.specs.Option.{option_map, option_map_or, option_and_then, option_to_list}
use Rattle.std.specs.List.{list_all, slice_split}
use Rattle.std.specs.Str.{bytes_eq}
use Rattle.std.proofs.lemmas.Bool.{cases_Bool, eqb-true, lt-ltb}
use Rattle.hall_limits.specs.declared.TheConstants.{MAX_GROSS, MAX_TARE}
use Rattle.hall_units.specs.Days.{day_of}
use Rattle.std.proofs.lemmas.List.{map-append}
use Rattle.hall_units.proofs.Numerals.{bounded_number-within}
use Rattle.book_words.specs.declared.views.Fails.{Fails}
use Rattle.book_words.specs.declared.views.Verdict as verdicts
use Rattle.book_words.specs.declared.views.Verdict.TheVariants.{Empty, Released, Withheld}
use Rattle.book_words.specs.Verdicts.{any_fails}
use Rattle.pack_judge.specs.declared.tares.DatedTare.{DatedTare}
use Rattle.paper_form.specs.declared.types.Goods as goods
use Rattle.paper_form.specs.declared.types.Pack as packs
use Rattle.paper_form.specs.declared.types.Draw as draws
use Rattle.paper_form.specs.declared.types.Pick.{Pick}
use Rattle.paper_form.specs.declared.types.PaperFault.{PaperFault}
use Rattle.paper_form.specs.declared.types.Line as lines
use Rattle.paper_form.specs.declared.types.Line.TheVariants as line
use Rattle.paper_form.specs.declared.types.Stage as stages
use Rattle.paper_form.specs.declared.types.Stage.TheVariants as stage
use Rattle.paper_form.specs.declared.reading.Paper.{Paper}
use Rattle.paper_form.specs.Papers.{PaperData, is_blank, is_line_end, lines_of, is_verdict_said}
use Rattle.paper_form.specs.Lines.{Labelled, from_both, from_three, where_it, number_in, row_in, mass_in, mode_in, weighed_in, weighed_or_not, only_value, value_with, fails_in, is_over, alone, withheld_in, verdict_in, title_line, quantity_line, goods_line, tare_line, pack_line, mode_line, first_line, word_line, second_line, verdict_line, fields_line, line_of_fields, line_of}
use Rattle.paper_form.specs.Form.{Draft, no_lines, follows, adds, is_later, is_next, is_pick_right, next, next_text, whole_of, ends_with, read_on, paper_in}
use Rattle.paper_form.specs.Drafts.{data_of}
use Rattle.paper_form.specs.Ranges.{is_word, is_measured, IsListed, IsPaper, SaysLines}
use Rattle.paper_form.proofs.Listed.{list_all-push}
use Rattle.paper_form.proofs.ReadingOn.{paper_in-begins}
use Rattle.paper_form.proofs.RoundTrip.{at_tares, at_packs, at_first, at_second, end_with, paper_with}

some_is : {A : Type 0} {a b : A} → Some a ≡ Some b → a ≡ b
some_is h = cc

-- ---- what a line that is read says

-- what is given, if anything, has a property
abbrev Gives : {A : Type 0} → (A → Type 0) → Option A → Type 0
Gives {A} P given = (a : A) → given ≡ Some a → P a

gives_none : {A : Type 0} (P : A → Type 0) → Gives P None
gives_none P a is = absurd (cc)

gives_some : {A : Type 0} (P : A → Type 0) (a : A) → P a → Gives P (Some a)
gives_some P a has b is = subst P (some_is is) has

gives_if : {A : Type 0} (P : A → Type 0) (test : Bool) (first second : Option A)
    → Gives P first → Gives P second → Gives P (if test then first else second)
gives_if P true first second has other = has
gives_if P false first second has other = other

gives_then : {A B : Type 0} (P : B → Type 0) (given : Option A) (k : A → Option B)
    → ((a : A) → given ≡ Some a → Gives P (k a)) → Gives P (option_and_then k given)
gives_then P None k each = gives_none P
gives_then P (Some a) k each = each a refl

gives_map : {A B : Type 0} (P : B → Type 0) (given : Option A) (f : A → B)
    → ((a : A) → given ≡ Some a → P (f a)) → Gives P (option_map f given)
gives_map P None f each = gives_none P
gives_map P (Some a) f each = gives_some P (f a) (each a refl)

gives_both : {A B C : Type 0} (P : C → Type 0) (f : A → B → C) (x : Option A) (y : Option B)
    → ((a : A) (b : B) → y ≡ Some b → P (f a b)) → Gives P (from_both f x y)
gives_both P f x y each =
    gives_then P x (λ a. option_map (f a) y) (λ a _. gives_map P y (f a) (λ b is. each a b is))

gives_three : {A B C D : Type 0} (P : D → Type 0) (f : A → B → C → D) (x : Option A)
    (y : Option B) (z : Option C) → ((a : A) (b : B) (c : C) → P (f a b c))
    → Gives P (from_three f x y z)
gives_three P f x y z each =
    gives_then P x (λ a. from_both (f a) y z)
    (λ a _. gives_both P (f a) y z (λ b c _. each a b c))

-- a word has 64 bits, a pack of the first sample is measured, and a withheld verdict says why
abbrev IsSaid : lines.Line → Type 0
IsSaid (line.Mode draw) = is_word draw.word ≡ true
IsSaid (line.First pick) = is_measured pick ≡ true
IsSaid (line.Word word) = is_word word ≡ true
IsSaid (line.Verdict verdict) = is_verdict_said verdict ≡ true
IsSaid other = ⊤

word_said : (field : List ℕ) → Gives (λ word. is_word word ≡ true) (number_in field)
word_said field word is =
    let within = bounded_number-within 20 (2 ^ 64 - 1) field word (sym is) in
    lt-ltb word (2 ^ 64) (omega (arith, within))

title_said : (fields : List (List ℕ)) → Gives IsSaid (title_line fields)
title_said [] = gives_none IsSaid
title_said (number ∷ []) =
    gives_if IsSaid (bytes_eq number (codes "1")) (Some line.Title) None
    (gives_some IsSaid line.Title tt) (gives_none IsSaid)
title_said (number ∷ other ∷ fields) = gives_none IsSaid

goods_said : (fields : List (List ℕ)) → Gives IsSaid (goods_line fields)
goods_said [] = gives_none IsSaid
goods_said (batch ∷ fields) =
    gives_then IsSaid (value_with (codes "product") fields) _
    (λ product _. gives_map IsSaid (quantity_line batch product.value product.left)
    (λ said. line.Goods said) (λ said _. tt))

tare_said : (fields : List (List ℕ)) → Gives IsSaid (tare_line fields)
tare_said [] = gives_none IsSaid
tare_said (date ∷ []) = gives_none IsSaid
tare_said (date ∷ grams ∷ []) =
    gives_both IsSaid (λ day tare. line.Tare (record { day = day; tare = tare })) (day_of date)
    (mass_in MAX_TARE grams) (λ day tare _. tt)
tare_said (date ∷ grams ∷ other ∷ fields) = gives_none IsSaid

pack_said : (fields : List (List ℕ)) → Gives IsSaid (pack_line fields)
pack_said [] = gives_none IsSaid
pack_said (number ∷ []) = gives_none IsSaid
pack_said (number ∷ date ∷ []) = gives_none IsSaid
pack_said (number ∷ date ∷ grams ∷ []) =
    gives_three IsSaid
    (λ row day gross. line.Pack (record { number = row; day = day; gross = gross })) (row_in number)
    (day_of date) (mass_in MAX_GROSS grams) (λ row day gross. tt)
pack_said (number ∷ date ∷ grams ∷ other ∷ fields) = gives_none IsSaid

mode_said : (fields : List (List ℕ)) → Gives IsSaid (mode_line fields)
mode_said [] = gives_none IsSaid
mode_said (mode ∷ fields) =
    gives_both IsSaid (λ m word. line.Mode (record { mode = m; word = word })) (mode_in mode)
    (option_and_then number_in (only_value (codes "word") fields))
    (λ m word is. gives_then (λ w. is_word w ≡ true) (only_value (codes "word") fields) number_in
    (λ field _. word_said field) word is)

first_said : (fields : List (List ℕ)) → Gives IsSaid (first_line fields)
first_said [] = gives_none IsSaid
first_said (number ∷ fields) =
    gives_both IsSaid (λ pack weighed. line.First (record { pack = pack; weighed = Some weighed }))
    (row_in number) (weighed_in fields) (λ pack weighed _. refl)

word_line_said : (fields : List (List ℕ)) → Gives IsSaid (word_line fields)
word_line_said [] = gives_none IsSaid
word_line_said (field ∷ []) =
    gives_map IsSaid (number_in field) (λ word. line.Word word) (λ word is. word_said field word is)
word_line_said (field ∷ other ∷ fields) = gives_none IsSaid

second_said : (fields : List (List ℕ)) → Gives IsSaid (second_line fields)
second_said [] = gives_none IsSaid
second_said (number ∷ fields) =
    gives_both IsSaid (λ pack weighed. line.Second (record { pack = pack; weighed = weighed }))
    (row_in number) (weighed_or_not fields) (λ pack weighed _. tt)

abbrev IsVerdictSaid : verdicts.Verdict → Type 0
IsVerdictSaid verdict = is_verdict_said verdict ≡ true

alone_said : (verdict : verdicts.Verdict) (fields : List (List ℕ)) → IsVerdictSaid verdict
    → Gives IsVerdictSaid (alone verdict fields)
alone_said verdict fields has =
    gives_if IsVerdictSaid (is_over fields) (Some verdict) None
    (gives_some IsVerdictSaid verdict has) (gives_none IsVerdictSaid)

where_said : (fails : Fails) → Gives (λ f. any_fails f ≡ true)
    (if any_fails fails then Some fails else None)
where_said fails = each (any_fails fails) refl
  where
    each : (test : Bool) → any_fails fails ≡ test
        → Gives (λ f. any_fails f ≡ true) (if test then Some fails else None)
    each true is = gives_some (λ f. any_fails f ≡ true) fails is
    each false is = gives_none (λ f. any_fails f ≡ true)

withheld_said : (parts : List (List ℕ)) → Gives IsVerdictSaid (withheld_in parts)
withheld_said parts =
    gives_map IsVerdictSaid (where_it any_fails (fails_in parts)) (λ fails. Withheld fails)
    (λ fails is. gives_then (λ f. any_fails f ≡ true) (fails_in parts) _
    (λ found _. where_said found) fails is)

verdict_said : (fields : List (List ℕ)) → Gives IsVerdictSaid (verdict_in fields)
verdict_said [] = gives_none IsVerdictSaid
verdict_said (word ∷ parts) =
    gives_if IsVerdictSaid (bytes_eq word (codes "empty")) _ _ (alone_said Empty parts refl)
    (gives_if IsVerdictSaid (bytes_eq word (codes "released")) _ _
    (alone_said Released parts refl)
    (gives_if IsVerdictSaid (bytes_eq word (codes "withheld")) _ _
    (withheld_said parts) (gives_none IsVerdictSaid)))

verdict_line_said : (fields : List (List ℕ)) → Gives IsSaid (verdict_line fields)
verdict_line_said fields =
    gives_map IsSaid (verdict_in fields) (λ verdict. line.Verdict verdict)
    (λ verdict is. verdict_said fields verdict is)

fields_said : (word : List ℕ) (others : List (List ℕ)) → Gives IsSaid (fields_line word others)
fields_said word others =
    gives_if IsSaid (bytes_eq word (codes "first")) _ _ (first_said others)
    (gives_if IsSaid (bytes_eq word (codes "pack")) _ _ (pack_said others)
    (gives_if IsSaid (bytes_eq word (codes "tare")) _ _ (tare_said others)
    (gives_if IsSaid (bytes_eq word (codes "second")) _ _ (second_said others)
    (gives_if IsSaid (bytes_eq word (codes "paper")) _ _ (title_said others)
    (gives_if IsSaid (bytes_eq word (codes "batch")) _ _ (goods_said others)
    (gives_if IsSaid (bytes_eq word (codes "mode")) _ _ (mode_said others)
    (gives_if IsSaid (bytes_eq word (codes "word")) _ _ (word_line_said others)
    (gives_if IsSaid (bytes_eq word (codes "verdict")) _ _ (verdict_line_said others)
    (gives_none IsSaid)))))))))

line_said : (text : List ℕ) → Gives IsSaid (line_of text)
line_said text = each (slice_split is_blank text)
  where
    each : (fields : List (List ℕ)) → Gives IsSaid (line_of_fields fields)
    each [] = gives_none IsSaid
    each (word ∷ others) = fields_said word others

-- ---- where the reading of a paper may stand

-- what a paper has beside its limits and its order
record IsSaidPaper (paper : PaperData) : Type 0 where
  drawn : is_none paper.draw ≡ (length paper.packs == 0)
  word : option_map_or (λ draw. is_word draw.word) paper.draw true ≡ true
  second_word : option_map_or is_word paper.second_word true ≡ true
  measured : list_all is_measured paper.first ≡ true
  first_right : list_all (is_pick_right paper.draw) paper.first ≡ true
  second_right : list_all (is_pick_right paper.draw) paper.second ≡ true
  undrawn : is_none paper.draw ≡ true → (paper.first ≡ []) × (is_none paper.second_word ≡ true)
  no_second : is_none paper.second_word ≡ true → paper.second ≡ []
  verdict : is_verdict_said paper.verdict ≡ true

-- the lines of the tares behind those of the title and the goods, and so on
abbrev tare_lines : List DatedTare → List lines.Line
tare_lines ts = map (λ tare. line.Tare tare) ts

abbrev pack_lines : List DatedTare → List packs.Pack → List lines.Line
pack_lines ts ps = tare_lines ts ++ map (λ pack. line.Pack pack) ps

abbrev first_lines : List DatedTare → List packs.Pack → draws.Draw → List Pick → List lines.Line
first_lines ts ps draw first =
    (pack_lines ts ps ++ line.Mode draw ∷ []) ++ map (λ pick. line.First pick) first

abbrev second_lines : List DatedTare → List packs.Pack → draws.Draw → List Pick → ℕ → List Pick
    → List lines.Line
second_lines ts ps draw first word second =
    (first_lines ts ps draw first ++ line.Word word ∷ [])
    ++ map (λ pick. line.Second pick) second

abbrev behind_goods : goods.Goods → List lines.Line → List lines.Line
behind_goods g rest = line.Title ∷ line.Goods g ∷ rest

record AtTares (draft : Draft) (before : List lines.Line) : Type 0 where
  g : goods.Goods
  ts : List DatedTare
  is : draft ≡ at_tares g ts
  are : before ≡ behind_goods g (tare_lines ts)

record AtPacks (draft : Draft) (before : List lines.Line) : Type 0 where
  g : goods.Goods
  ts : List DatedTare
  p : packs.Pack
  ps : List packs.Pack
  is : draft ≡ at_packs g ts (p ∷ ps)
  are : before ≡ behind_goods g (pack_lines ts (p ∷ ps))

record IsFirst (draw : draws.Draw) (first : List Pick) : Type 0 where
  word : is_word draw.word ≡ true
  measured : list_all is_measured first ≡ true
  right : list_all (is_pick_right (Some draw)) first ≡ true

record AtFirst (draft : Draft) (before : List lines.Line) : Type 0 where
  g : goods.Goods
  ts : List DatedTare
  p : packs.Pack
  ps : List packs.Pack
  draw : draws.Draw
  first : List Pick
  is : draft ≡ at_first g ts (p ∷ ps) draw first
  are : before ≡ behind_goods g (first_lines ts (p ∷ ps) draw first)
  said : IsFirst draw first

record AtSecond (draft : Draft) (before : List lines.Line) : Type 0 where
  g : goods.Goods
  ts : List DatedTare
  p : packs.Pack
  ps : List packs.Pack
  draw : draws.Draw
  first : List Pick
  word : ℕ
  second : List Pick
  is : draft ≡ at_second g ts (p ∷ ps) draw first word second
  are : before ≡ behind_goods g (second_lines ts (p ∷ ps) draw first word second)
  said : IsFirst draw first
  worded : is_word word ≡ true
  right : list_all (is_pick_right (Some draw)) second ≡ true

record AtEnd (draft : Draft) (before : List lines.Line) : Type 0 where
  paper : PaperData
  stops : draft.stage ≡ stage.End
  is : whole_of draft ≡ Some paper
  are : before ≡ lines_of paper
  said : IsSaidPaper paper

abbrev StandsAt : stages.Stage → Draft → List lines.Line → Type 0
StandsAt stage.Title draft before = (draft ≡ no_lines) × (before ≡ [])
StandsAt stage.Goods draft before =
    (draft ≡ record no_lines { stage = stage.Goods }) × (before ≡ line.Title ∷ [])
StandsAt stage.Tares draft before = AtTares draft before
StandsAt stage.Packs draft before = AtPacks draft before
StandsAt stage.First draft before = AtFirst draft before
StandsAt stage.Second draft before = AtSecond draft before
StandsAt stage.End draft before = AtEnd draft before

abbrev Stands : Draft → List lines.Line → Type 0
Stands draft before = StandsAt draft.stage draft before

-- ---- one line more

push_on : {A B : Type 0} (f : A → B) (front : List B) (xs : List A) (x : A)
    → (front ++ map f xs) ++ f x ∷ [] ≡ front ++ map f (xs ++ x ∷ [])
push_on f front xs x =
    append_assoc front (map f xs) (f x ∷ [])
    ∙ ap (λ ys. front ++ ys) (sym (map-append f xs (x ∷ [])))

grown : (g : goods.Goods) (some more : List lines.Line) (said : lines.Line)
    (before : List lines.Line) → before ≡ behind_goods g some → some ++ said ∷ [] ≡ more
    → before ++ said ∷ [] ≡ behind_goods g more
grown g some more said before are one =
    ap (λ (b : List lines.Line). b ++ said ∷ []) are ∙ ap (behind_goods g) one

made : (test : Bool) (draft after : Draft) → (if test then Some draft else None) ≡ Some after
    → (test ≡ true) × (draft ≡ after)
made true draft after is = (refl, some_is is)
made false draft after is = absurd (cc)

some_packs : (p : packs.Pack) (ps : List packs.Pack) → false ≡ (length (p ∷ ps) == 0)
some_packs p ps = elim (cases_Bool (length (p ∷ ps) == 0)) [
  | inl none ↦
      let nothing : length (p ∷ ps) ≡ 0 = eqb-true (length (p ∷ ps)) 0 none in
      absurd (omega (arith, nothing))
  | inr some ↦ sym some
]

nothing_more : (some : List lines.Line) → ((((some ++ []) ++ []) ++ []) ++ []) ++ [] ≡ some
nothing_more some = simp append-nil

no_second_lines : (some : List lines.Line) → (some ++ []) ++ [] ≡ some
no_second_lines some = simp append-nil

title_step : (said : lines.Line) (after : Draft) → next no_lines said ≡ Some after
    → Stands after ([] ++ said ∷ [])
title_step line.Title after is =
    subst (λ (d : Draft). Stands d (line.Title ∷ [])) (some_is is) (refl, refl)
title_step other after is = absurd (cc)

goods_step : (said : lines.Line) (after : Draft)
    → next (record no_lines { stage = stage.Goods }) said ≡ Some after
    → Stands after (line.Title ∷ said ∷ [])
goods_step (line.Goods g) after is =
    subst (λ (d : Draft). Stands d (line.Title ∷ line.Goods g ∷ [])) (some_is is)
    (record { g = g; ts = []; is = refl; are = refl })
goods_step other after is = absurd (cc)

module _ (g : goods.Goods) (ts : List DatedTare) (before : List lines.Line) where
  tares_step : (said : lines.Line) (after : Draft) → before ≡ behind_goods g (tare_lines ts)
      → IsSaid said → next (at_tares g ts) said ≡ Some after → Stands after (before ++ said ∷ [])
  tares_step (line.Tare t) after are has is =
      let made = made (is_later ts t) (at_tares g (ts ++ t ∷ [])) after is in
      subst (λ (d : Draft). Stands d (before ++ line.Tare t ∷ [])) made.1
      (record {
        g = g;
        ts = ts ++ t ∷ [];
        is = refl;
        are = grown g (tare_lines ts) (tare_lines (ts ++ t ∷ [])) (line.Tare t) before are
            (sym (map-append (λ tare. line.Tare tare) ts (t ∷ [])));
      })
  tares_step (line.Pack p) after are has is =
      let made = made (is_next [] p) (at_packs g ts (p ∷ [])) after is in
      subst (λ (d : Draft). Stands d (before ++ line.Pack p ∷ [])) made.1
      (record {
        g = g;
        ts = ts;
        p = p;
        ps = [];
        is = refl;
        are = grown g (tare_lines ts) (pack_lines ts (p ∷ [])) (line.Pack p) before are refl;
      })
  tares_step (line.Verdict v) after are has is =
      subst (λ (d : Draft). Stands d (before ++ line.Verdict v ∷ [])) (some_is is)
      (record {
        paper = paper_with g ts [] None [] None [] v;
        stops = refl;
        is = refl;
        are = grown g (tare_lines ts) _ (line.Verdict v) before are
            (ap (λ (some : List lines.Line). some ++ line.Verdict v ∷ [])
            (sym (nothing_more (tare_lines ts))));
        said = record {
          drawn = refl;
          word = refl;
          second_word = refl;
          measured = refl;
          first_right = refl;
          second_right = refl;
          undrawn = λ _. (refl, refl);
          no_second = λ _. refl;
          verdict = has;
        };
      })
  tares_step other after are has is = absurd (cc)

  module _ (p : packs.Pack) (ps : List packs.Pack) where
    packs_step : (said : lines.Line) (after : Draft)
        → before ≡ behind_goods g (pack_lines ts (p ∷ ps)) → IsSaid said
        → next (at_packs g ts (p ∷ ps)) said ≡ Some after → Stands after (before ++ said ∷ [])
    packs_step (line.Pack q) after are has is =
        let made = made (is_next (p ∷ ps) q) (at_packs g ts (p ∷ ps ++ q ∷ [])) after is in
        subst (λ (d : Draft). Stands d (before ++ line.Pack q ∷ [])) made.1
        (record {
          g = g;
          ts = ts;
          p = p;
          ps = ps ++ q ∷ [];
          is = refl;
          are = grown g (pack_lines ts (p ∷ ps)) (pack_lines ts (p ∷ ps ++ q ∷ [])) (line.Pack q)
              before are (push_on (λ pack. line.Pack pack) (tare_lines ts) (p ∷ ps) q);
        })
    packs_step (line.Mode draw) after are has is =
        subst (λ (d : Draft). Stands d (before ++ line.Mode draw ∷ [])) (some_is is)
        (record {
          g = g;
          ts = ts;
          p = p;
          ps = ps;
          draw = draw;
          first = [];
          is = refl;
          are = grown g (pack_lines ts (p ∷ ps)) (first_lines ts (p ∷ ps) draw []) (line.Mode draw)
              before are (sym (append-nil (pack_lines ts (p ∷ ps) ++ line.Mode draw ∷ [])));
          said = record { word = has; measured = refl; right = refl };
        })
    packs_step other after are has is = absurd (cc)

    module _ (draw : draws.Draw) (first : List Pick) (told : IsFirst draw first) where
      first_step : (said : lines.Line) (after : Draft)
          → before ≡ behind_goods g (first_lines ts (p ∷ ps) draw first) → IsSaid said
          → next (at_first g ts (p ∷ ps) draw first) said ≡ Some after
          → Stands after (before ++ said ∷ [])
      first_step (line.First pick) after are has is =
          let made = made (is_pick_right (Some draw) pick)
          (at_first g ts (p ∷ ps) draw (first ++ pick ∷ [])) after is in
          subst (λ (d : Draft). Stands d (before ++ line.First pick ∷ [])) made.1
          (record {
            g = g;
            ts = ts;
            p = p;
            ps = ps;
            draw = draw;
            first = first ++ pick ∷ [];
            is = refl;
            are = grown g (first_lines ts (p ∷ ps) draw first)
                (first_lines ts (p ∷ ps) draw (first ++ pick ∷ [])) (line.First pick) before are
                (push_on (λ q. line.First q) (pack_lines ts (p ∷ ps) ++ line.Mode draw ∷ [])
                first pick);
            said = record {
              word = told.word;
              measured = list_all-push is_measured first pick told.measured has;
              right = list_all-push (is_pick_right (Some draw)) first pick told.right made.0;
            };
          })
      first_step (line.Word word) after are has is =
          subst (λ (d : Draft). Stands d (before ++ line.Word word ∷ [])) (some_is is)
          (record {
            g = g;
            ts = ts;
            p = p;
            ps = ps;
            draw = draw;
            first = first;
            word = word;
            second = [];
            is = refl;
            are = grown g (first_lines ts (p ∷ ps) draw first)
                (second_lines ts (p ∷ ps) draw first word []) (line.Word word) before are
                (sym (append-nil (first_lines ts (p ∷ ps) draw first ++ line.Word word ∷ [])));
            said = told;
            worded = has;
            right = refl;
          })
      first_step (line.Verdict v) after are has is =
          subst (λ (d : Draft). Stands d (before ++ line.Verdict v ∷ [])) (some_is is)
          (record {
            paper = paper_with g ts (p ∷ ps) (Some draw) first None [] v;
            stops = refl;
            is = refl;
            are = grown g (first_lines ts (p ∷ ps) draw first) _ (line.Verdict v) before are
                (ap (λ (some : List lines.Line). some ++ line.Verdict v ∷ [])
                (sym (no_second_lines (first_lines ts (p ∷ ps) draw first))));
            said = record {
              drawn = some_packs p ps;
              word = told.word;
              second_word = refl;
              measured = told.measured;
              first_right = told.right;
              second_right = refl;
              undrawn = λ never. absurd (cc);
              no_second = λ _. refl;
              verdict = has;
            };
          })
      first_step other after are has is = absurd (cc)

      second_step : (word : ℕ) (second : List Pick) (said : lines.Line) (after : Draft)
          → before ≡ behind_goods g (second_lines ts (p ∷ ps) draw first word second)
          → is_word word ≡ true → list_all (is_pick_right (Some draw)) second ≡ true → IsSaid said
          → next (at_second g ts (p ∷ ps) draw first word second) said ≡ Some after
          → Stands after (before ++ said ∷ [])
      second_step word second (line.Second pick) after are worded right has is =
          let made = made (is_pick_right (Some draw) pick)
          (at_second g ts (p ∷ ps) draw first word (second ++ pick ∷ [])) after is in
          subst (λ (d : Draft). Stands d (before ++ line.Second pick ∷ [])) made.1
          (record {
            g = g;
            ts = ts;
            p = p;
            ps = ps;
            draw = draw;
            first = first;
            word = word;
            second = second ++ pick ∷ [];
            is = refl;
            are = grown g (second_lines ts (p ∷ ps) draw first word second)
                (second_lines ts (p ∷ ps) draw first word (second ++ pick ∷ [])) (line.Second pick)
                before are
                (push_on (λ q. line.Second q)
                (first_lines ts (p ∷ ps) draw first ++ line.Word word ∷ []) second pick);
            said = told;
            worded = worded;
            right = list_all-push (is_pick_right (Some draw)) second pick right made.0;
          })
      second_step word second (line.Verdict v) after are worded right has is =
          subst (λ (d : Draft). Stands d (before ++ line.Verdict v ∷ [])) (some_is is)
          (record {
            paper = paper_with g ts (p ∷ ps) (Some draw) first (Some word) second v;
            stops = refl;
            is = refl;
            are = grown g (second_lines ts (p ∷ ps) draw first word second) _ (line.Verdict v)
                before are refl;
            said = record {
              drawn = some_packs p ps;
              word = told.word;
              second_word = worded;
              measured = told.measured;
              first_right = told.right;
              second_right = right;
              undrawn = λ never. absurd (cc);
              no_second = λ never. absurd (cc);
              verdict = has;
            };
          })
      second_step word second other after are worded right has is = absurd (cc)

end_stops : (said : lines.Line) → follows stage.End said ≡ None
end_stops said = refl

-- wherever the reading stands, it stands there behind one line more
step : (draft after : Draft) (said : lines.Line) (before : List lines.Line) → Stands draft before
    → IsSaid said → next draft said ≡ Some after → Stands after (before ++ said ∷ [])
step draft after said before stands has is = at draft.stage refl stands
  where
    at : (s : stages.Stage) → draft.stage ≡ s → StandsAt s draft before
        → Stands after (before ++ said ∷ [])
    at stage.Title here e =
        subst (λ (b : List lines.Line). Stands after (b ++ said ∷ [])) (sym e.1)
        (title_step said after (subst (λ (d : Draft). next d said ≡ Some after) e.0 is))
    at stage.Goods here e =
        subst (λ (b : List lines.Line). Stands after (b ++ said ∷ [])) (sym e.1)
        (goods_step said after (subst (λ (d : Draft). next d said ≡ Some after) e.0 is))
    at stage.Tares here e =
        tares_step e.g e.ts before said after e.are has
        (subst (λ (d : Draft). next d said ≡ Some after) e.is is)
    at stage.Packs here e =
        packs_step e.g e.ts before e.p e.ps said after e.are has
        (subst (λ (d : Draft). next d said ≡ Some after) e.is is)
    at stage.First here e =
        first_step e.g e.ts before e.p e.ps e.draw e.first e.said said after e.are has
        (subst (λ (d : Draft). next d said ≡ Some after) e.is is)
    at stage.Second here e =
        second_step e.g e.ts before e.p e.ps e.draw e.first e.said e.word e.second said after e.are
        e.worded e.right has (subst (λ (d : Draft). next d said ≡ Some after) e.is is)
    at stage.End here e =
        let none : option_and_then (λ (s : stages.Stage). adds (record draft { stage = s }) said)
        (follows stage.End said) ≡ Some after =
        sym (ap (λ (t : stages.Stage). option_and_then
        (λ (s : stages.Stage). adds (record draft { stage = s }) said) (follows t said))
        here) ∙ is in
        let nothing : None ≡ Some after =
        sym (ap (λ (o : Option stages.Stage). option_and_then
        (λ (s : stages.Stage). adds (record draft { stage = s }) said) o) (end_stops said))
        ∙ none in
        absurd (cc)

-- ---- the whole

record IsEnded (before : List lines.Line) (paper : PaperData) : Type 0 where
  are : before ≡ lines_of paper
  said : IsSaidPaper paper

ended : (draft : Draft) (before : List lines.Line) (paper : PaperData) → Stands draft before
    → whole_of draft ≡ Some paper → IsEnded before paper
ended draft before paper stands whole = at draft.stage refl stands
  where
    unended : (d : Draft) → draft ≡ d → whole_of d ≡ None → IsEnded before paper
    unended d same none =
        let nothing : None ≡ Some paper = sym none ∙ sym (ap whole_of same) ∙ whole in absurd (cc)

    at : (s : stages.Stage) → draft.stage ≡ s → StandsAt s draft before → IsEnded before paper
    at stage.Title here e = unended no_lines e.0 refl
    at stage.Goods here e = unended (record no_lines { stage = stage.Goods }) e.0 refl
    at stage.Tares here e = unended (at_tares e.g e.ts) e.is refl
    at stage.Packs here e = unended (at_packs e.g e.ts (e.p ∷ e.ps)) e.is refl
    at stage.First here e = unended (at_first e.g e.ts (e.p ∷ e.ps) e.draw e.first) e.is refl
    at stage.Second here e =
        unended (at_second e.g e.ts (e.p ∷ e.ps) e.draw e.first e.word e.second) e.is refl
    at stage.End here e =
        subst (λ (p : PaperData). IsEnded before p) (some_is (sym e.is ∙ whole))
        (record { are = e.are; said = e.said })

-- what the pieces of a text say behind the lines before them
record Reads (before : List lines.Line) (pieces : List (List ℕ)) (paper : PaperData) : Type 0 where
  texts : List (List ℕ)
  split : pieces ≡ texts ++ [] ∷ []
  lines : map (λ said. Some said) before ++ map line_of texts
      ≡ map (λ said. Some said) (lines_of paper)
  said : IsSaidPaper paper

whole_ok : (given : Option PaperData) (number : ℕ) (paper : PaperData)
    → option_map_or (λ p. Ok p) given (Err number) ≡ Ok paper → given ≡ Some paper
whole_ok None number paper is = absurd (cc)
whole_ok (Some p) number paper is = cc

reads : (number : ℕ) (draft : Draft) (before : List lines.Line) (pieces : List (List ℕ))
    (paper : PaperData) → Stands draft before → read_on number draft pieces ≡ Ok paper
    → Reads before pieces paper
unfolding read_on
reads number draft before [] paper stands is = absurd (cc)
reads number draft before ([] ∷ []) paper stands is =
    let end = ended draft before paper stands (whole_ok (whole_of draft) number paper is) in
    record {
      texts = [];
      split = refl;
      lines = append-nil (map (λ said. Some said) before) ∙ ap (map (λ said. Some said)) end.are;
      said = end.said;
    }
reads number draft before ((byte ∷ bytes) ∷ []) paper stands is = absurd (cc)
reads number draft before (piece ∷ after ∷ pieces) paper stands is =
    lined (λ said more there h. reads (number + 1) more (before ++ said ∷ []) (after ∷ pieces) paper
    there h) (line_of piece) refl is
  where
    Others : Type 0
    Others = (said : lines.Line) (more : Draft) → Stands more (before ++ said ∷ [])
        → read_on (number + 1) more (after ∷ pieces) ≡ Ok paper
        → Reads (before ++ said ∷ []) (after ∷ pieces) paper

    taken : Others → (said : lines.Line) → line_of piece ≡ Some said → (o : Option Draft)
        → next draft said ≡ o
        → option_map_or (λ more. read_on (number + 1) more (after ∷ pieces)) o (Err number)
        ≡ Ok paper
        → Reads before (piece ∷ after ∷ pieces) paper
    taken others said is_line None came h = absurd (cc)
    taken others said is_line (Some more) came h =
        let rest = others said more
        (step draft more said before stands (line_said piece said is_line) came) h in
        record {
          texts = piece ∷ rest.texts;
          split = ap (λ (ps : List (List ℕ)). piece ∷ ps) rest.split;
          lines = ap
              (λ (o : Option lines.Line). map (λ l. Some l) before ++ o ∷ map line_of rest.texts)
              is_line
              ∙ sym (append_assoc (map (λ l. Some l) before) (Some said ∷ [])
              (map line_of rest.texts))
              ∙ ap (λ (xs : List (Option lines.Line)). xs ++ map line_of rest.texts)
              (sym (map-append (λ (l : lines.Line). Some l) before (said ∷ [])))
              ∙ rest.lines;
          said = rest.said;
        }

    lined : Others → (o : Option lines.Line) → line_of piece ≡ o
        → option_map_or (λ more. read_on (number + 1) more (after ∷ pieces))
        (option_and_then (next draft) o) (Err number) ≡ Ok paper
        → Reads before (piece ∷ after ∷ pieces) paper
    lined others None is_line h = absurd (cc)
    lined others (Some said) is_line h = taken others said is_line (next draft said) refl h

whole_reads : (bytes : List ℕ) (paper : PaperData) → paper_in bytes ≡ Ok paper
    → Reads [] (slice_split is_line_end bytes) paper
whole_reads bytes paper is =
    reads 1 no_lines [] (slice_split is_line_end bytes) paper (refl, refl)
    (paper_in-begins bytes ∙ is)

is_paper : (bytes : List ℕ) (paper : PaperData) → paper_in bytes ≡ Ok paper → IsListed paper
    → IsPaper paper
is_paper bytes paper is listed =
    let said = (whole_reads bytes paper is).said in
    record {
      listed = listed;
      drawn = said.drawn;
      word = said.word;
      second_word = said.second_word;
      measured = said.measured;
      first_right = said.first_right;
      second_right = said.second_right;
      undrawn = said.undrawn;
      no_second = said.no_second;
      verdict = said.verdict;
    }

says_lines : (bytes : List ℕ) (paper : PaperData) → paper_in bytes ≡ Ok paper
    → SaysLines bytes paper
says_lines bytes paper is =
    let read = whole_reads bytes paper is in
    record { texts = read.texts; split = read.split; lines = read.lines }

pub ok_paper : (bytes : List ℕ) (r : Result Paper PaperFault)
    → IfOk r (λ paper. paper_in bytes ≡ Ok (data_of paper))
    → IfOk r (λ paper. IsListed (data_of paper)) → IfOk r (λ paper. IsPaper (data_of paper))
ok_paper bytes (Ok paper) is listed = is_paper bytes (data_of paper) is listed
ok_paper bytes (Err why) is listed = is

pub ok_lines : (bytes : List ℕ) (r : Result Paper PaperFault)
    → IfOk r (λ paper. paper_in bytes ≡ Ok (data_of paper))
    → IfOk r (λ paper. SaysLines bytes (data_of paper))
ok_lines bytes (Ok paper) is = says_lines bytes (data_of paper) is
ok_lines bytes (Err why) is = is
