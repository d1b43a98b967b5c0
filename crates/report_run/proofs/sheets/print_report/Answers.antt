use Rattle.std.proofs.Common.{[], subst}
use Rattle.text_streams.specs.Streams.{output_at, WroteAll, IsCutIn}
use Rattle.book_core.specs.View.{BookView}
use Rattle.report_run.specs.Reports.{report_text}
use Rattle.report_run.proofs.sheets.print_report.Goals as goal

pub returns-in-Ok-write_report : goal.returns-in-Ok-write_report
returns-in-Ok-write_report g c = record {
  says = subst (λ (book : BookView). WroteAll (output_at g.K.Sink c.args.output.now)
      (output_at g.K.Sink c.write_report.new.output) (report_text book.entries)) c.book.ensures
      c.in-Ok-write_report.ensures.wrote;
}

pub returns : goal.returns
returns g c = record {
  says = subst (λ (book : BookView). IsCutIn (output_at g.K.Sink c.args.output.now)
      (output_at g.K.Sink c.write_report.new.output) [] (report_text book.entries)) c.book.ensures
      c.in-Err.ensures.cut;
}
