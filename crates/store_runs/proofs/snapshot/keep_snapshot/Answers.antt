use Rattle.std.proofs.Common.{rules, ◌≡◌, Ok, Err, refl}
use Rattle.book_store.specs.Stores.{disk_of}
use Rattle.book_store.proofs.StoreFacts.{keeps_none}
use Rattle.store_runs.specs.declared.stop.Offer.TheVariants as offering
use Rattle.store_runs.specs.declared.stop.Stop.TheVariants.{DiskFault, NoMemory}
use Rattle.store_runs.specs.Runs.{CountsStep, HasAddedRows}
use Rattle.store_runs.proofs.StoreSteps.{goes_rested, leaves_snapshot, on_unfinished}
use Rattle.store_runs.proofs.snapshot.keep_snapshot.Goals as goal

pub returns-in-Ok-clause-goes : goal.returns-in-Ok-clause-goes
returns-in-Ok-clause-goes g c =
    let r = c.rest.ensures in
    let cause : g.D.Disk.faults (disk_of c.rest.new.self) ≡ g.D.Disk.faults (disk_of c.args.store.now) = search rules in
    let grown : HasAddedRows c.args.store.now = search rules in
    goes_rested g.D.Disk c.args.store.now c.rest.new.self (Ok tt) r.book r.held grown r.keeps r.images r.hangs.0 refl cause (on_unfinished tt)

pub returns-in-Err-DiskFault-clause-goes : goal.returns-in-Err-DiskFault-clause-goes
returns-in-Err-DiskFault-clause-goes g c =
    let r = c.rest.ensures in
    let cause : CountsStep {T = Unit {0}} (g.D.Disk.faults (disk_of c.args.store.now)) (g.D.Disk.faults (disk_of c.rest.new.self)) (Err (DiskFault offering.Snapshot)) = search rules in
    let grown : HasAddedRows c.args.store.now = search rules in
    goes_rested g.D.Disk c.args.store.now c.rest.new.self (Err (DiskFault offering.Snapshot)) r.book r.held grown r.keeps r.images r.hangs.0 refl cause (λ is. absurd (cc))

pub returns-in-Err-NoMemory-clause-goes : goal.returns-in-Err-NoMemory-clause-goes
returns-in-Err-NoMemory-clause-goes g c =
    let r = c.rest.ensures in
    let cause : g.D.Disk.faults (disk_of c.rest.new.self) ≡ g.D.Disk.faults (disk_of c.args.store.now) = search rules in
    let grown : HasAddedRows c.args.store.now = search rules in
    goes_rested g.D.Disk c.args.store.now c.rest.new.self (Err NoMemory) r.book r.held grown r.keeps r.images r.hangs.0 refl cause (λ is. absurd (cc))

pub returns-in-Ok-clause-snapshot : goal.returns-in-Ok-clause-snapshot
returns-in-Ok-clause-snapshot g c =
    let r = c.rest.ensures in
    let grown : HasAddedRows c.args.store.now = search rules in
    leaves_snapshot g.D.Disk c.args.store.now c.rest.new.self c.rest.result c.in-Ok.field-0 c.in-Ok.is r.book r.hangs.1 grown r.idle.0 r.holds

pub returns-then-len-held-clause-keeps : goal.returns-then-len-held-clause-keeps
returns-then-len-held-clause-keeps g c has =
    keeps_none g.D.Disk g.met.D.Disk.reads_image g.met.D.Disk.only_now c.args.store.now has
