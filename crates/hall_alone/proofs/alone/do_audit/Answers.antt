use Rattle.std.proofs.Common.{◌∙◌, sym, subst}
use Rattle.disk_core.specs.Devices.{IsUnmoved}
use Rattle.book_audit.specs.Audits.{CountsEnd}
use Rattle.hall_alone.proofs.alone.do_audit.Goals as goal

pub returns-clause-audits : goal.returns-clause-audits
returns-clause-audits g c =
    let left = c.leave_unopened.ensures in
    let end = c.audit_run-end.result in
    record {
      end = end;
      ending = left.ending ∙ c.ending_of.ensures;
      explained = c.audit_run-end.ensures.explained;
      unmoved = subst (λ (d : _). IsUnmoved g.D.Disk c.args.disk d) (sym left.disk)
          c.audit_run-end.ensures.unmoved;
      cause = subst (λ (d : _). CountsEnd (g.D.Disk.faults c.args.disk) (g.D.Disk.faults d) end)
          (sym left.disk) c.audit_run-end.ensures.cause;
      none = left.held;
    }
