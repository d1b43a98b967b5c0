-- What each kind of act makes of the samples of a batch.
use Rattle.std.proofs.Common.{◌≡◌, ℕ, Bool, true, false, List, [], ◌∷◌, ◌++◌, Option, Some, None, option_map, is_some, if◌then◌else◌, refl, sym, ◌∙◌, ap}
use Rattle.std.specs.List.{last_or}
use Rattle.std.specs.Option.{option_or}
use Rattle.annex_tables.specs.declared.types.Mode.{Mode}
use Rattle.book_words.specs.declared.name.Name.{Name}
use Rattle.book_words.specs.declared.act.Act.{Act}
use Rattle.book_words.specs.declared.act.Act.TheVariants.{OpenBatch, Draw, DrawSecond}
use Rattle.book_words.specs.declared.act.Entry.{Entry}
use Rattle.book_words.specs.Names.{same_name}
use Rattle.book_words.specs.Acts.{last_said, product_of, state_of}
use Rattle.book_words.specs.Population.{population}
use Rattle.book_words.specs.Samples.{Drawing, Sample, numbers_of, drawing_from, drawing_of, second_word, sample_by, sample_of}
use Rattle.book_words.specs.Refusals.{first_refusal, refusals_of}
use Rattle.book_words.specs.Answers.{IsLawful, IsLegal}
use Rattle.book_words.proofs.NameLemmas.{same_name_itself}
use Rattle.book_words.proofs.DrawnLemmas.{sample_of-push, sample_of-kept}
use Rattle.book_words.proofs.DrawnOnce.{opened_is_new, states_known, is_undrawn, IsUndrawn, undrawn_by_state, undrawn_at_draw}
use Rattle.book_words.proofs.AllowedActs.{allowed}
use Rattle.book_words.proofs.OpenedOnce.{same_name-swap}
use Rattle.book_words.proofs.PlainLemmas.{none_of}

-- whether an act draws packs
abbrev pub draws_packs : Act → Bool
draws_packs (Draw batch mode word) = true
draws_packs (DrawSecond batch word) = true
draws_packs _ = false

record DrawsNone (entries : List Entry) (act : Act) (batch : Name) : Type 0 where
  first : drawing_from batch entries act ≡ None
  second : second_word batch act ≡ None

draws_none : (entries : List Entry) (act : Act) (batch : Name) → draws_packs act ≡ false
    → DrawsNone entries act batch
draws_none entries (Draw name mode word) batch h = absurd (true_is_not_false h)
  where
    true_is_not_false : true ≡ false → ⊥
    true_is_not_false h = cc
draws_none entries (DrawSecond name word) batch h = absurd (true_is_not_false h)
  where
    true_is_not_false : true ≡ false → ⊥
    true_is_not_false h = cc
draws_none entries act batch h = record { first = refl; second = refl }

-- an act that draws no packs leaves the samples of each batch
pub sample_of-no_draw : (entries : List Entry) (entry : Entry) → draws_packs entry.act ≡ false
    → (batch : Name) → sample_of (entries ++ entry ∷ []) batch ≡ sample_of entries batch
sample_of-no_draw entries entry none batch =
    let nothing = draws_none entries entry.act batch none in
    sample_of-kept entries entry batch nothing.first nothing.second

-- where nothing was drawn there is no sample
pub sample_of-undrawn : (entries : List Entry) (batch : Name) → IsUndrawn entries batch
    → sample_of entries batch ≡ None
sample_of-undrawn entries batch undrawn =
    ap (λ (some : List Drawing). option_map
    (λ drawing. sample_by drawing (last_said (second_word batch) entries)) (last_or None some))
    undrawn.first

-- a batch that isn't there has no sample
pub sample_of-unknown : (entries : List Entry) (batch : Name) → IsLegal entries
    → product_of entries batch ≡ None → sample_of entries batch ≡ None
sample_of-unknown entries batch legal unknown =
    let stateless : state_of entries batch ≡ None =
    none_of (state_of entries batch) (states_known entries legal batch ∙ ap is_some unknown) in
    sample_of-undrawn entries batch (undrawn_by_state entries legal batch (ap is_undrawn stateless))

-- a batch that is opened has no sample
pub sample_of-opened : (entries : List Entry) (entry : Entry) (batch product : Name) (density : ℕ)
    → IsLegal entries → IsLawful entries entry → entry.act ≡ OpenBatch batch product density
    → sample_of entries batch ≡ None
sample_of-opened entries entry batch product density legal lawful is =
    sample_of-unknown entries batch legal
    (opened_is_new entries batch product density
    (ap (λ (act : Act). first_refusal (refusals_of entries act)) (sym is)
    ∙ allowed entries entry lawful))

-- what a draw of the first sample of a batch behind some entries draws by
abbrev pub drawing_behind : List Entry → Name → Mode → ℕ → Drawing
drawing_behind entries batch mode word =
    record { mode = mode; word = word; packs = numbers_of (population entries batch) }

-- a first draw gives its batch the first sample
pub sample_of-draw : (entries : List Entry) (entry : Entry) (batch : Name) (mode : Mode) (word : ℕ)
    → IsLegal entries → IsLawful entries entry → entry.act ≡ Draw batch mode word
    → sample_of (entries ++ entry ∷ []) batch
    ≡ Some (sample_by (drawing_behind entries batch mode word) None)
sample_of-draw entries entry batch mode word legal lawful is =
    let drawing : Drawing = drawing_behind entries batch mode word in
    let draws : drawing_from batch entries entry.act ≡ Some drawing =
    ap (drawing_from batch entries) is
    ∙ ap (λ test. if test then Some drawing else None) (same_name_itself batch) in
    let undrawn = undrawn_at_draw entries entry batch drawing legal lawful draws in
    sample_of-push entries entry batch
    ∙ ap (λ (o : Option Drawing). option_map
    (λ d. sample_by d (option_or (second_word batch entry.act)
    (last_said (second_word batch) entries))) (option_or o (drawing_of entries batch))) draws
    ∙ ap (λ (o : Option ℕ). Some (sample_by drawing
    (option_or o (last_said (second_word batch) entries)))) (ap (second_word batch) is)
    ∙ ap (λ (o : Option ℕ). Some (sample_by drawing o)) undrawn.second

-- and leaves those of every other
pub sample_of-draw_apart : (entries : List Entry) (entry : Entry) (batch other : Name) (mode : Mode)
    (word : ℕ) → entry.act ≡ Draw batch mode word → same_name other batch ≡ false
    → sample_of (entries ++ entry ∷ []) other ≡ sample_of entries other
sample_of-draw_apart entries entry batch other mode word is apart =
    sample_of-kept entries entry other
    (ap (drawing_from other entries) is
    ∙ ap (λ test. if test then Some (drawing_behind entries other mode word) else None)
    (same_name-swap other batch apart))
    (ap (second_word other) is)

-- a second draw gives its batch the second sample beside the first
pub sample_of-second : (entries : List Entry) (entry : Entry) (batch : Name) (word : ℕ)
    (drawing : Drawing) → entry.act ≡ DrawSecond batch word
    → drawing_of entries batch ≡ Some drawing
    → sample_of (entries ++ entry ∷ []) batch ≡ Some (sample_by drawing (Some word))
sample_of-second entries entry batch word drawing is drawn =
    let says : second_word batch entry.act ≡ Some word = ap (second_word batch) is
    ∙ ap (λ test. if test then Some word else None) (same_name_itself batch) in
    sample_of-push entries entry batch
    ∙ ap (λ (o : Option Drawing). option_map
    (λ d. sample_by d (option_or (second_word batch entry.act)
    (last_said (second_word batch) entries))) (option_or o (drawing_of entries batch)))
    (ap (drawing_from batch entries) is)
    ∙ ap (λ (o : Option ℕ). option_map
    (λ d. sample_by d (option_or o (last_said (second_word batch) entries)))
    (drawing_of entries batch)) says
    ∙ ap (option_map (λ d. sample_by d (Some word))) drawn

-- and leaves those of every other
pub sample_of-second_apart : (entries : List Entry) (entry : Entry) (batch other : Name) (word : ℕ)
    → entry.act ≡ DrawSecond batch word → same_name other batch ≡ false
    → sample_of (entries ++ entry ∷ []) other ≡ sample_of entries other
sample_of-second_apart entries entry batch other word is apart =
    sample_of-kept entries entry other (ap (drawing_from other entries) is)
    (ap (second_word other) is ∙ ap (λ test. if test then Some word else None)
    (same_name-swap other batch apart))

-- a sample was drawn by the draw of its batch
pub sample_is_drawn : (entries : List Entry) (batch : Name) (sample : Sample)
    → sample_of entries batch ≡ Some sample
    → (drawing : Drawing) × (drawing_of entries batch ≡ Some drawing)
    × (sample ≡ sample_by drawing (last_said (second_word batch) entries))
sample_is_drawn entries batch sample h = either (drawing_of entries batch) refl h
  where
    some_is : (a b : Sample) → Some a ≡ Some b → a ≡ b
    some_is a b h = cc

    none_is_not_some : None ≡ Some sample → ⊥
    none_is_not_some h = cc

    either : (o : Option Drawing) → drawing_of entries batch ≡ o
        → option_map (λ drawing. sample_by drawing (last_said (second_word batch) entries)) o
        ≡ Some sample
        → (drawing : Drawing) × (drawing_of entries batch ≡ Some drawing)
        × (sample ≡ sample_by drawing (last_said (second_word batch) entries))
    either None is h = absurd (none_is_not_some h)
    either (Some drawing) is h = (
      drawing,
      is,
      some_is sample (sample_by drawing (last_said (second_word batch) entries)) (sym h),
    )
