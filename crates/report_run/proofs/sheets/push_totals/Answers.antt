use Rattle.book_words.specs.declared.act.Question.TheVariants.{Summary}
use Rattle.report_run.proofs.Questions.{answers, was_answered}
use Rattle.report_run.proofs.sheets.push_totals.Goals as goal

pub answer_text-requires : goal.answer_text-requires
answer_text-requires c =
    let book = c.args.book.now in
    answers book.limit book.entries Summary c.in-Ok.answered c.look.ensures.legal
    (was_answered _ c.in-Ok.answered c.in-Ok.ensures.answer)
