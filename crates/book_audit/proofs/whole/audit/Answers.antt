use Rattle.std.proofs.Common.{◌∙◌}
use Rattle.book_journal.proofs.Moments.{unmoved_on}
use Rattle.book_audit.specs.Audits.{IsUnaudited}
use Rattle.book_audit.specs.Fronts.{IsUndamaged}
use Rattle.book_audit.proofs.Refusals.{passing_unaudited, passing_undamaged, counts_behind, err_passing}
use Rattle.book_audit.proofs.whole.audit.Goals as goal

pub returns-clause-found : goal.returns-clause-found
returns-clause-found g c bytes told =
    c.audit_slots-found.ensures.found bytes (c.find.ensures.unmoved.reads ∙ told)
    (c.in_ok-kept.ensures.book bytes told) (c.in_ok-kept.ensures.found bytes told)

pub returns-clause-refused : goal.returns-clause-refused
returns-clause-refused g c bytes told =
    err_passing (IsUnaudited bytes) c.audit_slots-found.result (passing_unaudited bytes)
    c.audit_slots-found.ensures.passing

pub returns-clause-undamaged : goal.returns-clause-undamaged
returns-clause-undamaged g c =
    err_passing IsUndamaged c.audit_slots-found.result passing_undamaged c.audit_slots-found.ensures.passing

pub returns-clause-unmoved : goal.returns-clause-unmoved
returns-clause-unmoved g c =
    unmoved_on g.D.Disk c.args.disk.now c.find.new.disk c.audit_slots-found.new.disk c.find.ensures.unmoved
    c.audit_slots-found.ensures.unmoved

pub returns-clause-cause : goal.returns-clause-cause
returns-clause-cause g c =
    counts_behind (g.D.Disk.faults c.args.disk.now) (g.D.Disk.faults c.find.new.disk)
    (g.D.Disk.faults c.audit_slots-found.new.disk) c.audit_slots-found.result c.in_ok-kept.ensures.cause
    c.audit_slots-found.ensures.cause
