use Rattle.std.proofs.Common.{Option, IfSome, ◌∙◌, sym, subst}
use Rattle.book_words.specs.declared.views.PackView.{PackView}
use Rattle.book_words.specs.Ranges.{IsPackInRange}
use Rattle.report_run.proofs.Questions.{looked_pack, pack_within}
use Rattle.report_run.proofs.packs.pack_at.Goals as goal

pub returns-clause-range : goal.returns-clause-range
returns-clause-range c =
    let book = c.args.book.now in
    subst (λ (pack : Option PackView). IfSome pack IsPackInRange)
    (sym (c.pack_told.ensures
    ∙ looked_pack book.limit book.entries c.args.number c.look.result c.look.ensures.answer))
    (pack_within book.entries c.args.number c.look.ensures.legal)
