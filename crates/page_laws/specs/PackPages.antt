-- What the pages of the packs of a batch are together.
use Rattle.std.specs.Prelude.{◌≡◌, ℕ, ◌<◌, nat_lt, List, [], ◌∷◌, length, map, filter, filter_map, flat_map, Ok}
use Rattle.book_words.specs.declared.name.Name.{Name}
use Rattle.book_words.specs.declared.act.Entry.{Entry}
use Rattle.book_words.specs.declared.act.Question.TheVariants.{Packs}
use Rattle.book_words.specs.declared.views.PackView.{PackView}
use Rattle.book_words.specs.declared.views.PacksView.{PacksView}
use Rattle.book_words.specs.declared.views.TheConstants.{MAX_PAGE}
use Rattle.book_words.specs.declared.reply.Reply.{Reply}
use Rattle.book_words.specs.declared.reply.Reply.TheVariants.{PacksAre}
use Rattle.book_words.specs.Population.{readings_of_batch}
use Rattle.book_words.specs.Answers.{IsLegal}
use Rattle.book_words.specs.Views.{pack_view, question_told}
use Rattle.batch_reports.specs.Texts.{pack_lines, reply_text}

-- the number of the last of some packs; of none it is this one
abbrev pub last_number : ℕ → List PackView → ℕ
last_number after [] = after
last_number after (pack ∷ packs) = last_number pack.pack packs

-- the number behind which the next page is asked for: that of the last pack that a reply tells
abbrev pub next_after : ℕ → Reply → ℕ
next_after after (PacksAre view) = last_number after view.packs
next_after after _ = after

-- these replies are told to questions for the packs of a batch that are asked one after another,
-- the first behind a number, each other one behind the last pack of the one before, up to a number
-- behind which the page is empty
abbrev pub AreAskedInTurnOf : List Entry → Name → ℕ → List Reply → Type 0
AreAskedInTurnOf entries batch after [] =
    question_told entries (Packs batch after) ≡ Ok (PacksAre (record { packs = [] }))
AreAskedInTurnOf entries batch after (reply ∷ replies) =
    (question_told entries (Packs batch after) ≡ Ok reply)
    × AreAskedInTurnOf entries batch (next_after after reply) replies

-- the numbers of the packs of a batch above one, all of them, in their order
abbrev pub numbers_above : List Entry → Name → ℕ → List ℕ
numbers_above entries batch after =
    filter (λ number. nat_lt after number)
    (map (λ reading. reading.number) (readings_of_batch entries batch))

-- what is told of each of these packs
abbrev pub packs_above : List Entry → Name → ℕ → List PackView
packs_above entries batch after =
    filter_map (pack_view entries) (numbers_above entries batch after)

-- A law: over a legal list the texts of such replies, one behind the other, are the lines of all
-- packs of the batch above the number.
abbrev pub ArePacksWhole : Type 0
ArePacksWhole =
    (entries : List Entry) (batch : Name) (after : ℕ) (replies : List Reply)
    → IsLegal entries → AreAskedInTurnOf entries batch after replies
    → flat_map reply_text replies ≡ pack_lines (packs_above entries batch after)

-- A law: over a legal list none of these packs is left out: each is told, under its number.
abbrev pub IsEachPackTold : Type 0
IsEachPackTold =
    (entries : List Entry) (batch : Name) (after : ℕ) → IsLegal entries
    → map (λ pack. pack.pack) (packs_above entries batch after)
    ≡ numbers_above entries batch after

-- A law: over a legal list a page with fewer packs than a page may have is the last: behind it the
-- page is empty.
abbrev pub AreShortPagesLast : Type 0
AreShortPagesLast =
    (entries : List Entry) (batch : Name) (after : ℕ) (view : PacksView)
    → IsLegal entries → question_told entries (Packs batch after) ≡ Ok (PacksAre view)
    → length view.packs < MAX_PAGE
    → AreAskedInTurnOf entries batch (last_number after view.packs) []
