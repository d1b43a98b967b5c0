-- What a book answers to the questions for a sheet and for a pack.
use Rattle.std.proofs.Common.{◌≡◌, ℕ, List, length, Option, Some, None, option_map, Result, Ok, Err, IfSome, refl, sym, ◌∙◌, ap}
use Rattle.book_words.specs.declared.act.Entry.{Entry}
use Rattle.book_words.specs.declared.act.Question.{Question}
use Rattle.book_words.specs.declared.act.Question.TheVariants.{Pack}
use Rattle.book_words.specs.declared.reply.Reply.TheVariants.{PackIs}
use Rattle.book_words.specs.declared.reply.Answered.{Answered}
use Rattle.book_words.specs.declared.reply.Refused.{Refused}
use Rattle.book_words.specs.declared.refusal.Refusal.TheVariants.{PackUnknown}
use Rattle.book_words.specs.declared.views.PackView.{PackView}
use Rattle.book_words.specs.Ranges.{IsPackInRange}
use Rattle.book_words.specs.Soundness.{IsAnswer, IsRefusal}
use Rattle.book_words.specs.Views.{told_or, pack_view}
use Rattle.book_words.specs.Answers.{answer, question_answer, IsLegal}
use Rattle.book_laws.proofs.RangeLaws.{answer_in_range}
use Rattle.book_core.specs.declared.types.BookError.{BookError}
use Rattle.book_core.specs.declared.types.BookError.TheVariants as error
use Rattle.book_core.specs.Steps.{asked_question, handed_on, GivesLook}
use Rattle.report_run.specs.Reports.{pack_told}

-- what the book hands on is what was wanted of it
pub was_answered : (wanted : Result Answered Refused) (answered : Answered)
    → Ok answered ≡ handed_on wanted → Ok answered ≡ wanted
was_answered (Ok told) answered is = cc
was_answered (Err why) answered is = absurd (cc)

pub was_refused : (wanted : Result Answered Refused) (refused : Refused)
    → Err (error.Refused refused) ≡ handed_on wanted → Err refused ≡ wanted
was_refused (Ok told) refused is = absurd (cc)
was_refused (Err why) refused is = cc

-- an answer to a question over a legal list is one that the book gives
pub answers : (limit : ℕ) (entries : List Entry) (question : Question) (answered : Answered)
    → IsLegal entries → Ok answered ≡ answer limit entries (asked_question question)
    → IsAnswer answered
answers limit entries question answered legal is =
    record {
      limit = limit;
      entries = entries;
      ask = asked_question question;
      legal = legal;
      given = sym is;
    }

pub refuses : (limit : ℕ) (entries : List Entry) (question : Question) (refused : Refused)
    → IsLegal entries → Err refused ≡ answer limit entries (asked_question question)
    → IsRefusal refused
refuses limit entries question refused legal is =
    record {
      limit = limit;
      entries = entries;
      ask = asked_question question;
      legal = legal;
      given = sym is;
    }

told_pack : (entries : List Entry) (o : Option PackView)
    → pack_told (handed_on (question_answer entries
    (told_or PackUnknown (option_map (λ view. PackIs view) o)))) ≡ o
told_pack entries None = refl
told_pack entries (Some view) = refl

-- the pack that is told is the one with the number
pub looked_pack : (limit : ℕ) (entries : List Entry) (number : ℕ)
    (given : Result Answered BookError)
    → GivesLook (Pack number) given (answer limit entries (asked_question (Pack number)))
    → pack_told given ≡ pack_view entries number
looked_pack limit entries number (Ok answered) is =
    ap pack_told is ∙ told_pack entries (pack_view entries number)
looked_pack limit entries number (Err (error.Refused refused)) is =
    ap pack_told is ∙ told_pack entries (pack_view entries number)
looked_pack limit entries number (Err error.NoMemory) is = absurd (cc)

-- the pack with a number is in its ranges
pub pack_within : (entries : List Entry) (number : ℕ) → IsLegal entries
    → IfSome (pack_view entries number) IsPackInRange
pack_within entries number legal = each (pack_view entries number) refl
  where
    each : (o : Option PackView) → pack_view entries number ≡ o → IfSome o IsPackInRange
    each None is = tt
    each (Some view) is =
        answer_in_range (record { at = length entries; reply = PackIs view })
        (record {
          limit = 0;
          entries = entries;
          ask = asked_question (Pack number);
          legal = legal;
          given = ap (λ (o : Option PackView). question_answer entries
              (told_or PackUnknown (option_map (λ v. PackIs v) o))) is;
        })
