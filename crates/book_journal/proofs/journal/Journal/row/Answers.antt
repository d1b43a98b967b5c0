use Rattle.std.proofs.Common.{◌*◌, ◌∙◌, ℕ, ap, sym, length}
use Rattle.book_snapshot.specs.declared.layout.TheConstants.{ROW_BYTES}
use Rattle.book_journal.proofs.OpenRows.{row_read}
use Rattle.book_journal.proofs.journal.Journal.row.Goals as goal

pub returns-clause-row : goal.returns-clause-row
returns-clause-row g c rows has =
    let read = c.in_ok-read_at.ensures in
    row_read c.args.self.now.count c.args.number c.in_ok-read_at.field-0 _ has.bytes
    c.read_at.new.into rows c.read_at.auto.into
    (ap (λ (n : ℕ). ROW_BYTES * n) c.from.ensures) has.are
    (ap length (sym has.are) ∙ has.stands.rows) c.requires.first c.requires.last
    (read.count has.bytes has.told) (read.bytes has.bytes has.told)
