use Rattle.std.proofs.Common.{◌∙◌, ap}
use Rattle.book_journal.proofs.Calls.{kept_still, cleared_rows}
use Rattle.book_journal.proofs.journal.Journal.unmark.Goals as goal

pub returns-then-not-self-clause-keeps : goal.returns-then-not-self-clause-keeps
returns-then-not-self-clause-keeps g c rows has =
    kept_still g.D.Disk g.met.D.Disk.reads_image g.met.D.Disk.only_now c.args.self.now rows has

pub returns-in_err-mark-clause-keeps : goal.returns-in_err-mark-clause-keeps
returns-in_err-mark-clause-keeps g c rows has = (c.mark.ensures.marks rows has).0

pub returns-clause-keeps : goal.returns-clause-keeps
returns-clause-keeps g c rows has =
    let marks = c.in_ok-mark.ensures.marks rows has in
    let marked = ap (λ j. j.marked) c.mark.ensures.same ∙ c.if-not-self.false in
    record {
      has = cleared_rows g.D.Disk c.mark.new.self rows marked marks.0.has marks.1;
      moments = marks.0.moments;
    }
