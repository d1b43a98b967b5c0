use Rattle.std.proofs.Common.{rules, ◌≡◌, Result, Ok, Err, sym, subst}
use Rattle.book_words.specs.declared.act.Ask.{Ask}
use Rattle.book_words.specs.declared.act.Want.TheVariants as want
use Rattle.book_words.specs.declared.reply.Answered.{Answered}
use Rattle.book_words.specs.declared.reply.Refused.{Refused}
use Rattle.book_core.specs.declared.types.BookError.{BookError}
use Rattle.book_core.specs.declared.types.BookError.TheVariants as error
use Rattle.book_core.specs.Steps.{handed_on, GivesAnswer}
use Rattle.batch_reports_tests.proofs.texts.print_answer.Goals as goal

-- what the book hands on is what was wanted of it
was_answered : (wanted : Result Answered Refused) (answered : Answered) → handed_on wanted ≡ Ok answered → wanted ≡ Ok answered
was_answered (Ok told) answered is = cc
was_answered (Err why) answered is = absurd (cc)

was_refused : (wanted : Result Answered Refused) (refused : Refused) → handed_on wanted ≡ Err (error.Refused refused) → wanted ≡ Err refused
was_refused (Ok told) refused is = absurd (cc)
was_refused (Err why) refused is = cc

refused_by : (may : Type 0) (given : Result Answered BookError) (wanted : Result Answered Refused) (refused : Refused) → given ≡ Err (error.Refused refused) → GivesAnswer may given wanted
    → wanted ≡ Err refused
refused_by may given wanted refused is gives = was_refused wanted refused (sym (subst (λ (g : Result Answered BookError). GivesAnswer may g wanted) is gives))

pub answer_text-requires : goal.answer_text-requires
answer_text-requires c =
    let ask : Ask = record { desk = 0; request = 0; want = want.Act c.args.act } in
    record {
      limit = c.args.book.now.limit;
      entries = c.args.book.now.entries;
      ask = ask;
      legal = c.in-Ok.ensures.legal_before;
      given = was_answered _ c.in-Ok.answered (sym c.in-Ok.ensures.answer);
    }

pub refusal_text-requires : goal.refusal_text-requires
refusal_text-requires c =
    let ask : Ask = record { desk = 0; request = 0; want = want.Act c.args.act } in
    let is : c.ask.result ≡ Err (error.Refused c.in-Err-Refused.refused) = search rules in
    record {
      limit = c.args.book.now.limit;
      entries = c.args.book.now.entries;
      ask = ask;
      legal = c.in-Err-Refused.ensures.legal_before;
      given = refused_by _ c.ask.result _ c.in-Err-Refused.refused is c.ask.ensures.answer;
    }
