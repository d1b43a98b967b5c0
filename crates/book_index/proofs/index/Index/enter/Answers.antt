use Rattle.std.proofs.Common.{◌++◌, [], ◌∷◌, sym, subst, ap, ◌∙◌}
use Rattle.book_index.specs.Known.{Known}
use Rattle.book_index.specs.Changes.{with_row, after_act}
use Rattle.book_index.specs.Listed.{IsIndexOf}
use Rattle.book_index.proofs.LegalNames.{legal_named, lawful_named}
use Rattle.book_index.proofs.EntrySteps.{index_more}
use Rattle.book_index.proofs.index.Index.enter.Goals as goal

pub returns-clause-entered : goal.returns-clause-entered
returns-clause-entered c entries is legal lawful row =
    let entry = c.args.entry.now in
    subst (λ (known : Known). IsIndexOf (entries ++ entry ∷ []) known)
    (ap (λ n. with_row entry.desk n (after_act entry.act c.args.self.now)) (sym row)
    ∙ ap (with_row entry.desk c.args.row) (sym c.enter_act.ensures) ∙ sym c.set_row.ensures)
    (index_more entries entry c.args.self.now is (legal_named entries legal)
    (lawful_named entries entry lawful))
