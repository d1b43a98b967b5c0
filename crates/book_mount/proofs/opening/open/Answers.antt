use Rattle.std.proofs.Common.{◌≡◌, ◌∙◌, refl, sym, subst, List, ap}
use Rattle.book_words.specs.declared.act.Entry.{Entry}
use Rattle.book_words.specs.Answers.{IsLegal}
use Rattle.book_core.specs.View.{BookView}
use Rattle.book_mount.proofs.NewStores.{opened_over}
use Rattle.book_mount.proofs.OneMoreRow.{none_legal}
use Rattle.book_mount.proofs.opening.open.Goals as goal

pub returns-in-Ok : goal.returns-in-Ok
returns-in-Ok g c =
    let new : c.new-book.result ≡ _ = c.new-book.ensures in
    let store = c.new.ensures in
    opened_over g.D.Disk c.args.journal c.read_rows.new.journal c.args.limit c.read_rows.new.book
    c.new.result store.journal store.book store.held
    (record {
      read = c.read_rows.ensures.read;
      limited = c.read_rows.ensures.grows.limit ∙ ap (λ (b : BookView). b.limit) new;
      legal = c.read_rows.ensures.grows.legal
          (subst (λ (entries : List Entry). IsLegal entries)
          (sym (ap (λ (b : BookView). b.entries) new)) none_legal);
      held = refl;
      count = c.in-Ok.ensures.count;
      calm = c.in-Ok.ensures.cause;
      asked = c.in-Ok.ensures.asked;
      listed = λ bytes told there. c.in-Ok.ensures.reads bytes told there;
    })
