use Rattle.std.proofs.Common.{length, ap, sym, ◌∙◌}
use Rattle.book_index.specs.contracts.index.Index.{the_view}
use Rattle.book_index.specs.Known.{Known}
use Rattle.book_index.specs.Changes.{with_row}
use Rattle.book_index.proofs.FirstNumbers.{desk_outside, desk_inside}
use Rattle.book_index.proofs.index.Index.set_row.Goals as goal

pub returns-else-is_desk : goal.returns-else-is_desk
returns-else-is_desk c =
    c.self.view_is ∙ desk_outside c.args.desk c.args.row c.args.self.now
    (sym (ap (λ (known : Known). length known.desks) c.self.view_is) ∙ c.self.invariant.desks)
    (sym c.is_desk.ensures ∙ c.if-is_desk.false)

pub returns-then-is_desk : goal.returns-then-is_desk
returns-then-is_desk c =
    desk_inside c.args.desk c.args.row (the_view c.self.inside) c.self.invariant.desks
    (sym c.is_desk.ensures ∙ c.if-is_desk.true)
    ∙ ap (with_row c.args.desk c.args.row) c.self.view_is
