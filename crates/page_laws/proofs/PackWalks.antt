-- Pages of packs that are asked in turn, joined.
use Rattle.std.proofs.Common.{◌≡◌, ℕ, Bool, true, false, if◌then◌else◌, List, [], ◌∷◌, ◌++◌, ◌<◌, length, map, take, filter_map, flat_map, Option, Some, None, is_none, Ok, Err, refl, sym, ◌∙◌, ap, arith}
use Rattle.std.proofs.lemmas.Grind.{flat_map-append}
use Rattle.std.proofs.lemmas.List.{length-map}
use Rattle.std.proofs.lemmas.List.Elements.{All-head, All-tail, All-take, filter_map-append}
use Rattle.std.proofs.lemmas.Option.{same_Some}
use Rattle.std.specs.List.{All, cons_option}
use Rattle.book_words.specs.declared.name.Name.{Name}
use Rattle.book_words.specs.declared.act.Entry.{Entry}
use Rattle.book_words.specs.declared.act.Question.TheVariants.{Packs}
use Rattle.book_words.specs.declared.refusal.Refusal.TheVariants.{BatchUnknown}
use Rattle.book_words.specs.declared.reply.Reply.{Reply}
use Rattle.book_words.specs.declared.reply.Reply.TheVariants.{PacksAre}
use Rattle.book_words.specs.declared.views.PackView.{PackView}
use Rattle.book_words.specs.declared.views.PacksView.{PacksView}
use Rattle.book_words.specs.declared.views.TheConstants.{MAX_PAGE}
use Rattle.book_words.specs.Acts.{product_of}
use Rattle.book_words.specs.Answers.{IsLegal}
use Rattle.book_words.specs.Readings.{readings, is_of_batch}
use Rattle.book_words.specs.Population.{readings_of_batch}
use Rattle.book_words.specs.Samples.{numbers_of}
use Rattle.book_words.specs.Views.{pack_view, numbers_after, packs_after, question_told}
use Rattle.book_words.proofs.DrawnPacks.{AscendWithin, readings_ascend, filter_ascends}
use Rattle.batch_reports.specs.Texts.{pack_text, reply_text}
use Rattle.page_laws.specs.PackPages.{last_number, next_after, numbers_above, ArePacksWhole, IsEachPackTold, AreShortPagesLast}
use Rattle.page_laws.proofs.Above.{last_of, page_and_rest, none_first, none_behind}
use Rattle.page_laws.proofs.Listed.{number_told, IsTold, each_told}

-- what is told of the packs of some numbers, and its text
abbrev views_of : List Entry → List ℕ → List PackView
views_of entries numbers = filter_map (pack_view entries) numbers

abbrev text_of : List Entry → List ℕ → List ℕ
text_of entries numbers = flat_map pack_text (views_of entries numbers)

both_texts : (entries : List Entry) (some more : List ℕ)
    → text_of entries some ++ text_of entries more ≡ text_of entries (some ++ more)
both_texts entries some more =
    sym (flat_map-append pack_text (views_of entries some) (views_of entries more))
    ∙ sym (ap (flat_map pack_text) (filter_map-append (pack_view entries) some more))

-- the last pack that is told is that of the last number
last_told : (entries : List Entry) (after : ℕ) (numbers : List ℕ) → All (IsTold entries) numbers
    → last_number after (views_of entries numbers) ≡ last_of after numbers
last_told entries after [] all = refl
last_told entries after (number ∷ numbers) all =
    each (pack_view entries number) (All-head (IsTold entries) number numbers all)
    (last_told entries number numbers (All-tail (IsTold entries) number numbers all))
  where
    each : (o : Option PackView) → number_told o ≡ Some number
        → last_number number (views_of entries numbers) ≡ last_of number numbers
        → last_number after (cons_option o (views_of entries numbers)) ≡ last_of number numbers
    each None h rest = absurd (cc)
    each (Some pack) h rest =
        ap (λ n. last_number n (views_of entries numbers)) (same_Some pack.pack number h) ∙ rest

-- where nothing is told, there is no number
none_told : (entries : List Entry) (numbers : List ℕ) → All (IsTold entries) numbers
    → views_of entries numbers ≡ [] → numbers ≡ []
none_told entries [] all h = refl
none_told entries (number ∷ numbers) all h =
    absurd (each (pack_view entries number) (All-head (IsTold entries) number numbers all) h)
  where
    each : (o : Option PackView) → number_told o ≡ Some number
        → cons_option o (views_of entries numbers) ≡ [] → ⊥
    each None told h = cc
    each (Some pack) told h = cc

-- a page that is told is the one of the batch behind the number
page_is : (entries : List Entry) (batch : Name) (after : ℕ) (reply : Reply)
    → question_told entries (Packs batch after) ≡ Ok reply
    → reply ≡ PacksAre (packs_after entries batch after)
page_is entries batch after reply = by (is_none (product_of entries batch))
  where
    by : (b : Bool)
        → (if b then Err BatchUnknown else Ok (PacksAre (packs_after entries batch after)))
        ≡ Ok reply
        → reply ≡ PacksAre (packs_after entries batch after)
    by true h = absurd (cc)
    by false h = cc

-- the packs that a reply tells
abbrev packs_in : Reply → List PackView
packs_in (PacksAre view) = view.packs
packs_in _ = []

module _ (entries : List Entry) (batch : Name) (after : ℕ) (legal : IsLegal entries) where
  abbrev all : List ℕ
  all = numbers_above entries batch after

  abbrev page : List ℕ
  page = numbers_after entries batch after

  numbers_ascend : AscendWithin 1 (length entries) (numbers_of (readings_of_batch entries batch))
  numbers_ascend =
      filter_ascends (is_of_batch batch) 1 (length entries) (readings entries)
      (readings_ascend entries)

  page_told : All (IsTold entries) page
  page_told = All-take (IsTold entries) MAX_PAGE all (each_told entries batch after legal)

  -- behind an empty page there is none
  none_above : question_told entries (Packs batch after) ≡ Ok (PacksAre (record { packs = [] }))
      → all ≡ []
  none_above h =
      none_first MAX_PAGE all (omega arith)
      (none_told entries page page_told
      (sym (ap packs_in (page_is entries batch after (PacksAre (record { packs = [] })) h))))

  -- the text of a page, and that of all packs behind its last one
  joined : (reply : Reply) → reply ≡ PacksAre (packs_after entries batch after)
      → reply_text reply ++ text_of entries (numbers_above entries batch (next_after after reply))
      ≡ text_of entries all
  joined reply is =
      ap (λ (r : Reply). reply_text r
      ++ text_of entries (numbers_above entries batch (next_after after r))) is
      ∙ ap (λ n. text_of entries page ++ text_of entries (numbers_above entries batch n))
      (last_told entries after page page_told)
      ∙ both_texts entries page (numbers_above entries batch (last_of after page))
      ∙ ap (text_of entries) (page_and_rest MAX_PAGE after 1 (length entries)
      (numbers_of (readings_of_batch entries batch)) numbers_ascend)

pub packs_are_whole : ArePacksWhole
packs_are_whole entries batch after [] legal h =
    sym (ap (text_of entries) (none_above entries batch after legal h))
packs_are_whole entries batch after (reply ∷ replies) legal h =
    ap (λ (t : List ℕ). reply_text reply ++ t)
    (packs_are_whole entries batch (next_after after reply) replies legal h.1)
    ∙ joined entries batch after legal reply (page_is entries batch after reply h.0)

-- ---- none is left out

numbers_told : (entries : List Entry) (numbers : List ℕ) → All (IsTold entries) numbers
    → map (λ (pack : PackView). pack.pack) (views_of entries numbers) ≡ numbers
numbers_told entries [] all = refl
numbers_told entries (number ∷ numbers) all =
    each (pack_view entries number) (All-head (IsTold entries) number numbers all)
    (numbers_told entries numbers (All-tail (IsTold entries) number numbers all))
  where
    each : (o : Option PackView) → number_told o ≡ Some number
        → map (λ (pack : PackView). pack.pack) (views_of entries numbers) ≡ numbers
        → map (λ (pack : PackView). pack.pack) (cons_option o (views_of entries numbers))
        ≡ number ∷ numbers
    each None h rest = absurd (cc)
    each (Some pack) h rest =
        ap (λ n. n ∷ map (λ (p : PackView). p.pack) (views_of entries numbers))
        (same_Some pack.pack number h)
        ∙ ap (λ ns. number ∷ ns) rest

pub each_pack_is_told : IsEachPackTold
each_pack_is_told entries batch after legal =
    numbers_told entries (numbers_above entries batch after) (each_told entries batch after legal)

-- ---- a short page is the last

-- where a page of a batch is told, so is another, whatever it is
page_beside : (entries : List Entry) (batch : Name) (after other : ℕ) (reply : Reply)
    (view : PacksView) → question_told entries (Packs batch after) ≡ Ok reply
    → packs_after entries batch other ≡ view
    → question_told entries (Packs batch other) ≡ Ok (PacksAre view)
page_beside entries batch after other reply view = by (is_none (product_of entries batch))
  where
    by : (b : Bool)
        → (if b then Err BatchUnknown else Ok (PacksAre (packs_after entries batch after)))
        ≡ Ok reply → packs_after entries batch other ≡ view
        → (if b then Err BatchUnknown else Ok (PacksAre (packs_after entries batch other)))
        ≡ Ok (PacksAre view)
    by true h is = absurd (cc)
    by false h is = ap (λ v. Ok (PacksAre v)) is

pub short_pages_are_last : AreShortPagesLast
short_pages_are_last entries batch after view legal h few =
    page_beside entries batch after (last_number after view.packs) (PacksAre view)
    (record { packs = [] }) h
    (ap (λ ns. record { packs = views_of entries (take MAX_PAGE ns) }) none)
  where
    packs : view.packs ≡ views_of entries (numbers_after entries batch after)
    packs = ap packs_in (page_is entries batch after (PacksAre view) h)

    told : All (IsTold entries) (numbers_after entries batch after)
    told = page_told entries batch after legal

    short : length (numbers_after entries batch after) < MAX_PAGE
    short =
        let same : length (numbers_after entries batch after) ≡ length view.packs =
        ap length (sym (numbers_told entries (numbers_after entries batch after) told))
        ∙ length-map (views_of entries (numbers_after entries batch after))
        (λ (pack : PackView). pack.pack)
        ∙ sym (ap length packs) in
        omega (arith, same, few)

    none : numbers_above entries batch (last_number after view.packs) ≡ []
    none =
        ap (numbers_above entries batch) (ap (last_number after) packs
        ∙ last_told entries after (numbers_after entries batch after) told)
        ∙ none_behind MAX_PAGE after 1 (length entries)
        (numbers_of (readings_of_batch entries batch))
        (numbers_ascend entries batch after legal) short
