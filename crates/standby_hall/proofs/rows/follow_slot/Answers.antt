use Rattle.std.proofs.Common.{◌≡◌, Err, sym, ap, ◌∙◌, subst}
use Rattle.book_store.specs.Stores.{entries_of}
use Rattle.store_runs.specs.Runs.{Goes}
use Rattle.standby_hall.specs.Following.{shipment_stop}
use Rattle.standby_hall.specs.Rows.{StopsSlot}
use Rattle.standby_hall.proofs.RowSteps.{stop_again, slot_stops}
use Rattle.standby_hall.proofs.rows.follow_slot.Goals as goal

pub returns-in-Err-clause-stops : goal.returns-in-Err-clause-stops
returns-in-Err-clause-stops g c =
    let rows = entries_of c.args.store.now in
    subst (StopsSlot rows c.args.number c.args.slot.now) (sym c.entry_stop.ensures)
    (slot_stops rows c.args.number c.args.slot.now c.in-Ok.entry c.in-Ok.ensures.row c.in-Err.stop
    c.in-Err.ensures.carries.1)

pub returns-in-Err-clause-goes : goal.returns-in-Err-clause-goes
returns-in-Err-clause-goes g c =
    let again = ap shipment_stop c.entry_stop.ensures
    ∙ stop_again (entries_of c.args.store.now) c.args.number c.in-Ok.entry c.in-Err.stop
    c.in-Err.ensures.carries.1 in
    subst (λ s. Goes g.D.Disk (Err s) c.args.store.now c.carry_entry.new.store) (sym again)
    c.in-Err.ensures.goes
