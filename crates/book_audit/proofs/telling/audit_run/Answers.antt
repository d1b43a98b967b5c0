use Rattle.text_streams.specs.Streams.{output_at}
use Rattle.book_audit.proofs.Refusals.{explains_refused}
use Rattle.book_audit.proofs.telling.audit_run.Goals as goal

pub returns-in-Err-clause-explained : goal.returns-in-Err-clause-explained
returns-in-Err-clause-explained g c =
    explains_refused (g.D.Disk.reads c.args.disk.now) c.args.most
    (output_at g.K.Sink c.args.output.now) c.in-Err.why c.in-Err.ensures.refused
    c.in-Err.ensures.undamaged
