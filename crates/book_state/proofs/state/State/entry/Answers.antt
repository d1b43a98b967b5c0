use Rattle.std.proofs.Common.{◌∙◌, ◌-◌, List, slice_get, ap}
use Rattle.book_words.specs.declared.act.Entry.{Entry}
use Rattle.book_state.specs.View.{StateView}
use Rattle.book_state.proofs.Rows.{got, at_number}
use Rattle.book_state.proofs.state.State.entry.Goals as goal

pub returns-clause-value : goal.returns-clause-value
returns-clause-value c =
    c.copied.ensures ∙ got c.get.result c.deref.result.now
    (c.args.number - 1) c.get.ensures.lookup.3 c.get.ensures.lookup.1
    ∙ ap (λ (xs : List Entry). slice_get xs (c.args.number - 1))
    (c.deref.ensures.value ∙ ap (λ (v : StateView). v.entries) c.self.view_is)
    ∙ at_number c.args.self.now.entries c.args.number c.if-number-eq0.false
