-- The lines of the samples of a written paper.
use Rattle.std.proofs.Common.{◌≡◌, ℕ, Bool, true, false, cond, inl, inr, List, [], ◌∷◌, ◌++◌, map, Option, Some, None, is_some, option_map, refl, sym, ◌∙◌, ap, append_assoc, append-nil}
use Rattle.std.proofs.lemmas.List.Concat.{flat_map-append}
use Rattle.std.specs.List.{flat_map}
use Rattle.std.specs.Option.{option_or, option_map_or, option_to_list, unwrap_or}
use Rattle.book_words.specs.declared.name.Name.{Name}
use Rattle.book_words.specs.declared.act.Act.{Act}
use Rattle.book_words.specs.declared.act.Act.TheVariants as acts
use Rattle.book_words.specs.declared.act.Entry.{Entry}
use Rattle.book_words.specs.Names.{same_name}
use Rattle.book_words.specs.Acts.{last_said}
use Rattle.book_words.specs.Population.{population}
use Rattle.book_words.specs.Samples.{Drawing, Sample, numbers_of, drawing_from, drawing_of, second_word, sample_by, sample_of}
use Rattle.book_words.specs.Answers.{IsLawful, IsLegal}
use Rattle.book_words.proofs.AllowedActs.{allowed_act}
use Rattle.book_words.proofs.DrawnLemmas.{drawing_of-push}
use Rattle.book_words.proofs.LastSaid.{last_said-push}
use Rattle.book_words.proofs.PlainLemmas.{none_mapped}
use Rattle.book_words.proofs.LegalLemmas.{legal_steps}
use Rattle.book_laws.proofs.DrawnLaws.{comes_from, draws_second}
use Rattle.paper_form.specs.declared.types.Draw as draws
use Rattle.paper_form.specs.declared.types.Line as lines
use Rattle.paper_form.specs.declared.types.Line.TheVariants as line
use Rattle.paper_form.specs.Papers.{line_text}
use Rattle.batch_paper.specs.declared.picks.Part.TheVariants.{First, Second}
use Rattle.batch_paper.specs.Written.{first_word, draw_by, pick_line, first_picks, second_picks, product_paper, sample_lines}
use Rattle.batch_paper.proofs.ClosedBatches.{second_draw, some_of_two}

-- ---- the words

either_word : (entries : List Entry) (batch : Name) (act : Act) (o : Option ℕ) (d : Option Drawing)
    → o ≡ option_map (λ (drawing : Drawing). drawing.word) d
    → option_or (first_word batch act) o
    ≡ option_map
    (λ (drawing : Drawing). drawing.word) (option_or (drawing_from batch entries act) d)
either_word entries batch (acts.Draw name mode word) o d h = each (same_name name batch)
  where
    each : (b : Bool) → option_or (cond b (Some word) None) o
        ≡ option_map (λ (drawing : Drawing). drawing.word) (option_or (cond b (Some
        (record { mode = mode; word = word; packs = numbers_of (population entries batch) })) None)
        d)
    each true = refl
    each false = h
either_word entries batch act o d h = h

-- the word of the draw of a batch is what its draws say last
abbrev WordsTell : List Entry → Type 0
WordsTell entries = (batch : Name) → last_said (first_word batch) entries
    ≡ option_map (λ (drawing : Drawing). drawing.word) (drawing_of entries batch)

pub words_tell : (entries : List Entry) → IsLegal entries → WordsTell entries
words_tell =
    legal_steps WordsTell (λ batch. refl)
    (λ before entry legal lawful all batch.
    last_said-push (first_word batch) before entry
    ∙ either_word before batch entry.act (last_said (first_word batch) before)
    (drawing_of before batch)
    (all batch)
    ∙ sym (ap
    (option_map (λ (drawing : Drawing). drawing.word)) (drawing_of-push before entry batch)))

-- a second sample is drawn only behind a first one
abbrev SecondsFollow : List Entry → Type 0
SecondsFollow entries = (batch : Name) (word : ℕ) → last_said (second_word batch) entries
    ≡ Some word
    → is_some (drawing_of entries batch) ≡ true

some_or : {A : Type 0} (o p : Option A) → is_some p ≡ true → is_some (option_or o p) ≡ true
some_or None p h = h
some_or (Some x) p h = refl

follow-push : (entries : List Entry) (entry : Entry) → IsLegal entries → IsLawful entries entry
    → SecondsFollow entries → SecondsFollow (entries ++ entry ∷ [])
follow-push entries entry legal lawful all batch word said =
    ap is_some (drawing_of-push entries entry batch)
    ∙ some_or (drawing_from batch entries entry.act) (drawing_of entries batch)
    (elim (some_of_two (second_word batch entry.act) (last_said (second_word batch) entries) word
    (sym (last_said-push (second_word batch) entries entry) ∙ said)) [
      | inl now ↦
          let told = draws_second entries batch word legal
          (allowed_act entries entry (acts.DrawSecond batch word) lawful
          (second_draw batch entry.act word now)) in
          ap is_some told.drawn
      | inr before ↦ all batch word before
    ])

pub seconds_follow : (entries : List Entry) → IsLegal entries → SecondsFollow entries
seconds_follow = legal_steps SecondsFollow (λ batch word said. absurd (cc)) follow-push

-- ---- the lines

pub none_said : {A : Type 0} (o : Option A) (d : Option Drawing)
    → (is_some o ≡ true → is_some d ≡ true) → d ≡ None
    → o ≡ None
none_said None d h is = refl
none_said (Some x) d h is = absurd (let wrong : false ≡ true = sym (ap is_some is) ∙ h refl in cc)

text_parts : (m f w s : List lines.Line) → flat_map line_text (m ++ f ++ w ++ s)
    ≡ flat_map line_text m ++ flat_map line_text f ++ flat_map line_text w ++ flat_map line_text s
text_parts m f w s =
    flat_map-append line_text (m ++ f ++ w) s
    ∙ ap (λ (t : List ℕ). t ++ flat_map line_text s) (flat_map-append line_text (m ++ f) w
    ∙ ap (λ (t : List ℕ). t ++ flat_map line_text w) (flat_map-append line_text m f))

pieces : (start a b c d : List ℕ) → start ++ a ++ b ++ c ++ d ≡ start ++ ((a ++ []) ++ b ++ c ++ d)
pieces start a b c d = simp (append_assoc, append-nil)

module _ (entries : List Entry) (batch product : Name) (legal : IsLegal entries) where
  abbrev second : Option ℕ
  second = last_said (second_word batch) entries

  abbrev words : List lines.Line
  words = map (λ word. line.Word word) (option_to_list second)

  abbrev mode_of : Sample → draws.Draw
  mode_of sample =
      record { mode = sample.mode; word = unwrap_or (last_said (first_word batch) entries) 0 }

  drawn_mode : (sample : Sample) → sample_of entries batch ≡ Some sample
      → option_map draw_by (drawing_of entries batch) ≡ Some (mode_of sample)
  drawn_mode sample is =
      let from = comes_from entries batch sample legal is in
      let same_mode : from.drawing.mode ≡ sample.mode = sym (ap (λ (s : Sample). s.mode) from.is) in
      let same_word : from.drawing.word ≡ unwrap_or (last_said (first_word batch) entries) 0 =
      sym (ap (λ (o : Option ℕ). unwrap_or o 0) (words_tell entries legal batch
      ∙ ap (option_map (λ (drawing : Drawing). drawing.word)) from.drawn)) in
      let same_draw : draw_by from.drawing ≡ mode_of sample =
      λ i. record { mode = same_mode i; word = same_word i } in
      ap (option_map draw_by) from.drawn ∙ ap Some same_draw

  same_lines : (sample : Sample) → sample_of entries batch ≡ Some sample
      → sample_lines (product_paper entries batch product)
      ≡ (line.Mode (mode_of sample) ∷ []) ++ map (pick_line First) (first_picks entries sample)
      ++ words
      ++ map (pick_line Second) (second_picks entries sample)
  same_lines sample is =
      ap (λ (o : Option draws.Draw). map (λ draw. line.Mode draw) (option_to_list o)
      ++ map (pick_line First) (product_paper entries batch product).first ++ words
      ++ map (pick_line Second) (product_paper entries batch product).second) (drawn_mode sample is)
      ∙ ap (λ (o : Option Sample). (line.Mode (mode_of sample) ∷ [])
      ++ map (pick_line First) (option_map_or (first_picks entries) o []) ++ words
      ++ map (pick_line Second) (option_map_or (second_picks entries) o [])) is

  drawn_behind : (sample : Sample) (start : List ℕ) → sample_of entries batch ≡ Some sample
      → start ++ line_text (line.Mode (mode_of sample))
      ++ flat_map line_text (map (pick_line First) (first_picks entries sample))
      ++ flat_map line_text words
      ++ flat_map line_text (map (pick_line Second) (second_picks entries sample))
      ≡ start ++ flat_map line_text (sample_lines (product_paper entries batch product))
  drawn_behind sample start is =
      pieces start (line_text (line.Mode (mode_of sample)))
      (flat_map line_text (map (pick_line First) (first_picks entries sample)))
      (flat_map line_text words)
      (flat_map line_text (map (pick_line Second) (second_picks entries sample)))
      ∙ ap (λ (rest : List ℕ). start ++ rest)
      (sym (ap (flat_map line_text) (same_lines sample is)
      ∙ text_parts (line.Mode (mode_of sample) ∷ [])
      (map (pick_line First) (first_picks entries sample))
      words (map (pick_line Second) (second_picks entries sample))))

  -- the lines of a drawn sample behind a text
  pub drawn_told : (sample : Sample) (start : List ℕ) (one two : Option ℕ)
      → sample_of entries batch ≡ Some sample → one ≡ last_said (first_word batch) entries
      → two ≡ last_said (second_word batch) entries
      → start ++ line_text (line.Mode (record { mode = sample.mode; word = unwrap_or one 0 }))
      ++ flat_map line_text (map (pick_line First) (first_picks entries sample))
      ++ flat_map line_text (map (λ word. line.Word word) (option_to_list two))
      ++ flat_map line_text (map (pick_line Second) (second_picks entries sample))
      ≡ start ++ flat_map line_text (sample_lines (product_paper entries batch product))
  drawn_told sample start one two is one_is two_is =
      ap (λ (o : Option ℕ). start
      ++ line_text (line.Mode (record { mode = sample.mode; word = unwrap_or o 0 }))
      ++ flat_map line_text (map (pick_line First) (first_picks entries sample))
      ++ flat_map line_text (map (λ word. line.Word word) (option_to_list two))
      ++ flat_map line_text (map (pick_line Second) (second_picks entries sample))) one_is
      ∙ ap (λ (o : Option ℕ). start ++ line_text (line.Mode (mode_of sample))
      ++ flat_map line_text (map (pick_line First) (first_picks entries sample))
      ++ flat_map line_text (map (λ word. line.Word word) (option_to_list o))
      ++ flat_map line_text (map (pick_line Second) (second_picks entries sample))) two_is
      ∙ drawn_behind sample start is

  follows : (o : Option ℕ) → second ≡ o → is_some second ≡ true → is_some (drawing_of entries batch)
      ≡ true
  follows None said there = absurd (let wrong : false ≡ true = sym (ap is_some said) ∙ there in cc)
  follows (Some word) said there = seconds_follow entries legal batch word said

  -- where none was drawn there is none
  pub no_lines : sample_of entries batch ≡ None → sample_lines (product_paper entries batch product) ≡ []
  no_lines is =
      let undrawn : drawing_of entries batch ≡ None =
      none_mapped (λ (d : Drawing). sample_by d second) (drawing_of entries batch) is in
      let unsaid : second ≡ None =
      none_said second (drawing_of entries batch) (follows second refl) undrawn in
      ap (λ (o : Option Drawing). map (λ draw. line.Mode draw)
      (option_to_list (option_map draw_by o))
      ++ map (pick_line First) (product_paper entries batch product).first ++ words
      ++ map (pick_line Second) (product_paper entries batch product).second) undrawn
      ∙ ap (λ (o : Option Sample). map (pick_line First) (option_map_or (first_picks entries) o [])
      ++ words ++ map (pick_line Second) (option_map_or (second_picks entries) o [])) is
      ∙ ap (λ (o : Option ℕ). map (λ word. line.Word word) (option_to_list o) ++ []) unsaid
