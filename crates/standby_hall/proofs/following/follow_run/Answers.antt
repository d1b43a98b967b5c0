use Rattle.std.proofs.Common.{rules, ◌≡◌, Err, sym, subst}
use Rattle.store_runs.specs.Runs.{RunGoes}
use Rattle.store_runs.proofs.StoreSteps.{goes_on, goes_as}
use Rattle.standby_hall.specs.Following.{shipment_stop}
use Rattle.standby_hall.proofs.following.follow_run.Goals as goal

pub returns-in-Ok-clause-goes : goal.returns-in-Ok-clause-goes
returns-in-Ok-clause-goes g c =
    goes_on g.D.Disk c.in-Ok.field-0 (Err c.end_run-stop.result) c.args.store
    c.follow_shipments.new.store c.end_run-stop.new.store c.in-Ok.ensures.goes
    c.end_run-stop.ensures.goes

pub returns-in-Err-clause-goes : goal.returns-in-Err-clause-goes
returns-in-Err-clause-goes g c =
    let same : c.from.result ≡ shipment_stop c.in-Err.why = search rules in
    subst (λ s. RunGoes g.D.Disk s c.args.store c.follow_shipments.new.store) (sym same)
    (goes_as g.D.Disk (shipment_stop c.in-Err.why) c.args.store c.follow_shipments.new.store
    c.in-Err.ensures.goes)
