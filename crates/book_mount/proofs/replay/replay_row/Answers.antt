use Rattle.std.proofs.Common.{sym, subst, List}
use Rattle.book_words.specs.declared.act.Entry.{Entry}
use Rattle.book_words.specs.Answers.{IsLegal}
use Rattle.book_mount.specs.Opening.{HasRead}
use Rattle.book_mount.proofs.OneMoreRow.{read_more, same_ok}
use Rattle.book_mount.proofs.replay.replay_row.Goals as goal

pub returns-in-Ok-replay-clause-reads : goal.returns-in-Ok-replay-clause-reads
returns-in-Ok-replay-clause-reads c rows left read =
    let entry = c.in-Ok.entry in
    let same = c.in-Ok-replay.ensures.ok in
    subst (λ (entries : List Entry). HasRead rows entries left) (sym same)
    (read_more rows left c.args.book.now.entries entry c.args.number c.args.row.now c.requires read
    c.in-Ok.ensures.row
    (λ other spells. same_ok c.read_row.result entry other c.in-Ok.is
    (c.read_row.ensures.back other spells))
    (subst (λ (entries : List Entry). IsLegal entries) same c.in-Ok-replay.ensures.legal))
