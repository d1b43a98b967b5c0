use Rattle.std.proofs.Common.{Result, Err, sym, ap, ◌∙◌, subst}
use Rattle.book_words.specs.declared.act.Question.TheVariants.{Sample}
use Rattle.book_words.specs.declared.reply.Answered.{Answered}
use Rattle.book_words.specs.Answers.{answer}
use Rattle.book_core.specs.declared.types.BookError.{BookError}
use Rattle.book_core.specs.Steps.{asked_question, GivesLook}
use Rattle.trial_run.proofs.TrialNames.{look_found, look_refused}
use Rattle.trial_run.proofs.samples.drawn_packs.Goals as goal

pub returns-in-Ok-clause-packs : goal.returns-in-Ok-clause-packs
returns-in-Ok-clause-packs c =
    c.packs_told.ensures ∙ look_found (Sample c.args.batch) c.in-Ok.answered
    (answer c.args.book.now.limit c.args.book.now.entries (asked_question (Sample c.args.batch)))
    c.in-Ok.ensures.answer

pub returns-in-Err-Refused-clause-packs : goal.returns-in-Err-Refused-clause-packs
returns-in-Err-Refused-clause-packs c =
    let wanted = answer c.args.book.now.limit c.args.book.now.entries
    (asked_question (Sample c.args.batch)) in
    let told = c.in-Err-Refused.is ∙ ap (λ (e : BookError). Err e) c.in-Err-Refused.field-0-is in
    let says = subst (λ (r : Result Answered BookError). GivesLook (Sample c.args.batch) r wanted)
    told c.look.ensures.answer in
    c.from.ensures ∙ c.new.ensures.items
    ∙ sym (look_refused (Sample c.args.batch) c.in-Err-Refused._refused wanted says)
