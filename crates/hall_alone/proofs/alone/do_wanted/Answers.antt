use Rattle.std.proofs.Common.{inr, refl, sym, ◌∙◌}
use Rattle.text_streams.specs.Streams.{output_at}
use Rattle.script_run.specs.Outside.{outside_at, nothing_told}
use Rattle.hall_alone.proofs.OpenedBooks.{lanes_rest}
use Rattle.hall_alone.proofs.alone.do_wanted.Goals as goal

pub returns-then-is_audit-clause-ends : goal.returns-then-is_audit-clause-ends
returns-then-is_audit-clause-ends g c =
    let here = outside_at g.K.Sink g.L.Cell g.L.Gate c.args.output.now c.args.lanes.now
    nothing_told in
    inr (inr record {
      asked = sym c.is_audit.ensures ∙ c.if-is_audit.true;
      unread = refl;
      rest = lanes_rest here (output_at g.K.Sink c.do_audit.new.output)
          c.do_audit.result.log.told c.do_audit.ensures.log;
      rows = c.do_audit.ensures.rows;
      audits = c.do_audit.ensures.audits;
    })
