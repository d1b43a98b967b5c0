use Rattle.std.proofs.Common.{List, subst, sym, ◌∙◌, ap}
use Rattle.book_words.specs.declared.act.Entry.{Entry}
use Rattle.book_words.proofs.AllowedActs.{IsAllowed, allowed}
use Rattle.book_core.specs.View.{BookView}
use Rattle.book_core.proofs.book.Book.hold.Goals as goal

pub draw-requires : goal.draw-requires
draw-requires c =
    record {
      free = subst (λ (es : List Entry). IsAllowed es c.args.entry.now.act)
          (sym (c.reserve.ensures.entries ∙ ap (λ (b : BookView). b.entries) c.self.view_is))
          (allowed c.args.self.now.entries c.args.entry.now c.requires.lawful);
    }
