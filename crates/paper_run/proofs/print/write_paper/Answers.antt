use Rattle.std.proofs.Common.{◌≡◌, Err, ap, ◌∙◌}
use Rattle.text_streams.specs.Streams.{output_at}
use Rattle.paper_run.proofs.Refused.{says_refused}
use Rattle.paper_run.proofs.print.write_paper.Goals as goal

pub returns-in-Err-NotClosed : goal.returns-in-Err-NotClosed
returns-in-Err-NotClosed g c =
    let told = (c.paper_of_book.ensures.not_closed c.in-Err-NotClosed.state).0
    (c.in-Err-NotClosed.is ∙ ap (λ e. Err e) c.in-Err-NotClosed.field-0-is) in
    says_refused c.args.book.now.entries c.args.batch.now c.in-Err-NotClosed.state
    (output_at g.K.Sink c.args.output.now)
    (output_at g.K.Sink c.write_refused-in-Err-NotClosed.new.output)
    c.write_refused-in-Err-NotClosed.result told.0 told.1
    c.write_refused-in-Err-NotClosed.ensures
