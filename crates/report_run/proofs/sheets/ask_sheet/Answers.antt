use Rattle.std.proofs.Common.{rules, ◌≡◌, Result, Err, subst}
use Rattle.book_words.specs.declared.act.Question.TheVariants.{Sheet}
use Rattle.book_words.specs.declared.reply.Answered.{Answered}
use Rattle.book_core.specs.declared.types.BookError.{BookError}
use Rattle.book_core.specs.declared.types.BookError.TheVariants as error
use Rattle.book_core.specs.Steps.{GivesLook}
use Rattle.report_run.specs.Reports.{sheet_answer}
use Rattle.report_run.proofs.Questions.{answers, refuses, was_answered, was_refused}
use Rattle.report_run.proofs.sheets.ask_sheet.Goals as goal

pub returns-in-Ok-clause-answered : goal.returns-in-Ok-clause-answered
returns-in-Ok-clause-answered c =
    let book = c.args.book.now in
    answers book.limit book.entries (Sheet c.args.batch) c.in-Ok.answered c.look.ensures.legal
    (was_answered _ c.in-Ok.answered c.in-Ok.ensures.answer)

pub returns-in-Err-Refused-clause-refused : goal.returns-in-Err-Refused-clause-refused
returns-in-Err-Refused-clause-refused c =
    let book = c.args.book.now in
    let refused = c.in-Err-Refused.refused in
    let is : c.look.result ≡ Err (error.Refused refused) = search rules in
    refuses book.limit book.entries (Sheet c.args.batch) refused c.look.ensures.legal
    (was_refused _ refused
    (subst (λ (given : Result Answered BookError). GivesLook (Sheet c.args.batch) given
    (sheet_answer book.entries c.args.batch)) is c.look.ensures.answer))
