-- The paper of a closed batch is the paper of its data, and the check of papers finds it true.
use Rattle.std.proofs.Common.{◌≡◌, ◌≤◌, ℕ, ◌^◌, ◌==◌, true, false, List, [], length, map, Option, Some, None, is_none, is_some, option_map, Ok, refl, sym, ◌∙◌, ap, subst}
use Rattle.std.proofs.lemmas.List.{length-map}
use Rattle.std.specs.Option.{option_map_or}
use Rattle.std.specs.List.{All, list_all}
use Rattle.std.proofs.lemmas.Bool.{lt-ltb}
use Rattle.std.proofs.lemmas.List.Elements.{All-weaker}
use Rattle.book_words.specs.declared.name.Name.{Name}
use Rattle.book_words.specs.declared.act.BatchState.TheVariants.{Closed}
use Rattle.book_words.specs.declared.act.Entry.{Entry}
use Rattle.book_words.specs.declared.act.Reading.{Reading}
use Rattle.book_words.specs.Acts.{last_said, product_of, state_of}
use Rattle.book_words.specs.Population.{population}
use Rattle.book_words.specs.Samples.{Drawing, Sample, drawing_of, sample_by, sample_of, second_word}
use Rattle.book_words.specs.Verdicts.{second_packs}
use Rattle.book_words.specs.Answers.{IsLegal}
use Rattle.paper_form.specs.declared.types.Draw as draws
use Rattle.paper_form.specs.declared.types.Pick.{Pick}
use Rattle.paper_form.specs.declared.types.TheConstants.{MAX_PAPER}
use Rattle.paper_form.specs.Papers.{PaperData, paper_text}
use Rattle.paper_form.specs.Form.{is_pick_right, paper_in}
use Rattle.paper_form.specs.Ranges.{IsPaper, is_word, is_measured}
use Rattle.paper_form.proofs.RoundTrip.{paper_read}
use Rattle.batch_paper.specs.Outcomes.{IsPaperOf}
use Rattle.batch_paper.specs.Ranges.{IsWordOf}
use Rattle.batch_paper.specs.Written.{reading_pack, pick_of, draw_by, first_word, first_picks, second_picks, product_paper}
use Rattle.batch_paper.proofs.ClosedBatches.{tested}
use Rattle.batch_paper.proofs.PaperForm.{verdict_said}
use Rattle.batch_paper.proofs.PaperJudged.{first_is, second_is, some_packs, undrawn_empty, none_unmeasured, measured_first, judged_as_book, tares_right, draws_as_book}
use Rattle.batch_paper.proofs.PaperSamples.{words_tell, seconds_follow, none_said}
use Rattle.batch_paper.proofs.PaperWhole.{is_listed, list_all_of, empties_right}

word_said : (o : Option Drawing) → IsWordOf (option_map (λ (d : Drawing). d.word) o)
    → option_map_or (λ (d : draws.Draw). is_word d.word) (option_map draw_by o) true ≡ true
word_said None h = refl
word_said (Some d) h = lt-ltb d.word (2 ^ 64) h

second_said : (o : Option ℕ) → IsWordOf o → option_map_or is_word o true ≡ true
second_said None h = refl
second_said (Some w) h = lt-ltb w (2 ^ 64) h

-- measured packs say what they weighed
all_told : (picks : List Pick) → All (λ (pick : Pick). is_none pick.weighed ≡ false) picks
    → list_all is_measured picks ≡ true
all_told picks all =
    list_all_of is_measured picks
    (All-weaker
    (λ (pick : Pick). is_none pick.weighed ≡ false) (λ (pick : Pick). is_measured pick ≡ true)
    (λ pick h. each pick.weighed h) picks all)
  where
    each : {A : Type 0} (o : Option A) → is_none o ≡ false → is_some o ≡ true
    each None h = absurd (cc)
    each (Some x) h = refl

module _ (entries : List Entry) (batch product : Name) (legal : IsLegal entries)
    (closed : state_of entries batch ≡ Some Closed)
    (known : product_of entries batch ≡ Some product) where
  abbrev paper : PaperData
  paper = product_paper entries batch product

  abbrev second : Option ℕ
  second = last_said (second_word batch) entries

  no_sample : drawing_of entries batch ≡ None → sample_of entries batch ≡ None
  no_sample is = ap (option_map (λ (d : Drawing). sample_by d second)) is

  no_first : drawing_of entries batch ≡ None → paper.first ≡ []
  no_first is = ap (λ (o : Option Sample). option_map_or (first_picks entries) o []) (no_sample is)

  no_second : drawing_of entries batch ≡ None → paper.second ≡ []
  no_second is =
      ap (λ (o : Option Sample). option_map_or (second_picks entries) o []) (no_sample is)

  unsaid : drawing_of entries batch ≡ None → second ≡ None
  unsaid is = none_said second (drawing_of entries batch) (follows second refl) is
    where
      follows : (o : Option ℕ) → second ≡ o → is_some second ≡ true
          → is_some (drawing_of entries batch) ≡ true
      follows None said there =
          absurd (let wrong : false ≡ true = sym (ap is_some said) ∙ there in cc)
      follows (Some word) said there = seconds_follow entries legal batch word said

  -- a draw is told just where there are packs
  drawn_or_empty : (o : Option Drawing) → drawing_of entries batch ≡ o
      → is_none (option_map draw_by o) ≡ (length paper.packs == 0)
  drawn_or_empty None is =
      sym (ap (λ (rs : List Reading). length (map reading_pack rs) == 0)
      (undrawn_empty entries batch legal closed is))
  drawn_or_empty (Some drawing) is =
      sym (ap (λ n. n == 0) (length-map (population entries batch) reading_pack)
      ∙ some_packs entries batch product legal drawing is)

  measured : (o : Option Sample) → sample_of entries batch ≡ o
      → list_all is_measured (option_map_or (first_picks entries) o []) ≡ true
  measured None is = refl
  measured (Some sample) is =
      all_told (first_picks entries sample)
      (none_unmeasured entries sample.mode sample.first
      (measured_first entries sample.first _
      ((tested entries legal batch closed).measured sample is)))

  first_right : (o : Option Drawing) → drawing_of entries batch ≡ o
      → list_all (is_pick_right (option_map draw_by o)) paper.first ≡ true
  first_right None is = ap (list_all (is_pick_right None)) (no_first is)
  first_right (Some drawing) is =
      ap (list_all (is_pick_right (Some (draw_by drawing))))
      (first_is entries batch product legal drawing is)
      ∙ list_all_of (is_pick_right (Some (draw_by drawing))) _
      (empties_right entries drawing (sample_by drawing second).first)

  second_right : (o : Option Drawing) → drawing_of entries batch ≡ o
      → list_all (is_pick_right (option_map draw_by o)) paper.second ≡ true
  second_right None is = ap (list_all (is_pick_right None)) (no_second is)
  second_right (Some drawing) is =
      ap (list_all (is_pick_right (Some (draw_by drawing))))
      (second_is entries batch product legal drawing is)
      ∙ list_all_of (is_pick_right (Some (draw_by drawing))) _
      (empties_right entries drawing (second_packs (sample_by drawing second)))

  -- without a draw there are no samples
  undrawn : (o : Option Drawing) → drawing_of entries batch ≡ o → is_none (option_map draw_by o)
      ≡ true
      → (paper.first ≡ []) × (is_none paper.second_word ≡ true)
  undrawn None is h = (no_first is, ap is_none (unsaid is))
  undrawn (Some drawing) is h = absurd (cc)

  -- without a word of it there is no second sample
  wordless : (o : Option Drawing) (w : Option ℕ) → drawing_of entries batch ≡ o → second ≡ w
      → is_none w ≡ true → paper.second ≡ []
  wordless None w is said h = no_second is
  wordless (Some drawing) None is said h =
      second_is entries batch product legal drawing is
      ∙ ap (λ (v : Option ℕ). map (pick_of entries drawing.mode)
      (second_packs (sample_by drawing v))) said
  wordless (Some drawing) (Some word) is said h = absurd (cc)

  -- what the list says of a closed batch is the data of a paper
  is_paper : IsWordOf (last_said (first_word batch) entries) → IsWordOf second → IsPaper paper
  is_paper one two =
      record {
        listed = is_listed entries batch product legal closed known;
        drawn = drawn_or_empty (drawing_of entries batch) refl;
        word = word_said (drawing_of entries batch)
            (subst IsWordOf (words_tell entries legal batch) one);
        second_word = second_said second two;
        measured = measured (sample_of entries batch) refl;
        first_right = first_right (drawing_of entries batch) refl;
        second_right = second_right (drawing_of entries batch) refl;
        undrawn = undrawn (drawing_of entries batch) refl;
        no_second = wordless (drawing_of entries batch) second refl refl;
        verdict = verdict_said entries batch;
      }

  -- the text of what the list says of a closed batch is its paper
  pub paper_right : (bytes : List ℕ) → IsWordOf (last_said (first_word batch) entries)
      → IsWordOf second
      → bytes ≡ paper_text paper → length bytes ≤ MAX_PAPER → IsPaperOf entries batch bytes
  paper_right bytes one two text short =
      let whole : IsPaper paper = is_paper one two in
      let read : paper_in bytes ≡ Ok paper = paper_read bytes paper whole text in
      record {
        closed = closed;
        paper = paper;
        written = ap (option_map (product_paper entries batch)) known;
        text = text;
        short = short;
        whole = whole;
        read = read;
        proven = record {
          paper = paper;
          says = read;
          tares = tares_right entries batch product;
          draws = draws_as_book entries batch product legal closed;
          given = judged_as_book entries batch product legal closed;
          said = refl;
        };
      }
