use Rattle.std.proofs.Common.{rules, ◌≡◌, ◌∙◌, Err, inl, inr, sym, ap, subst}
use Rattle.book_words.specs.Answers.{IsLawful}
use Rattle.book_store.specs.Stores.{entries_of}
use Rattle.store_runs.specs.Runs.{Goes}
use Rattle.store_runs.specs.Stops.{step_adopted}
use Rattle.store_runs.proofs.StoreSteps.{goes_adopted}
use Rattle.store_runs.proofs.carrying.adopt_entry.Goals as goal

pub returns-in-Ok-clause-goes : goal.returns-in-Ok-clause-goes
returns-in-Ok-clause-goes g c =
    let a = c.adopt.ensures in
    subst (λ r. Goes g.D.Disk (step_adopted tt c.args.number c.args.entry.now r) c.args.store.now
    c.adopt.new.self) c.in-Ok.is
    (goes_adopted g.D.Disk tt c.args.number c.args.store.now c.adopt.new.self c.args.entry.now
    c.adopt.result a.entries a.adopts a.offers a.unlawful a.no_memory a.settled a.images a.hangs
    a.limit a.held a.cause)

pub returns-in-Err-Unlawful-clause-goes : goal.returns-in-Err-Unlawful-clause-goes
returns-in-Err-Unlawful-clause-goes g c =
    let a = c.adopt.ensures in
    let path = c.in-Err-Unlawful.is ∙ ap (λ e. Err e) c.in-Err-Unlawful.field-0-is in
    subst (λ s. Goes g.D.Disk (Err s) c.args.store.now c.adopt.new.self) (sym c.bad_row.ensures)
    (subst (λ r. Goes g.D.Disk (step_adopted tt c.args.number c.args.entry.now r) c.args.store.now
    c.adopt.new.self) path
    (goes_adopted g.D.Disk tt c.args.number c.args.store.now c.adopt.new.self c.args.entry.now
    c.adopt.result a.entries a.adopts a.offers a.unlawful a.no_memory a.settled a.images a.hangs
    a.limit a.held a.cause))

pub returns-in-Err-DiskFault-clause-goes : goal.returns-in-Err-DiskFault-clause-goes
returns-in-Err-DiskFault-clause-goes g c =
    let a = c.adopt.ensures in
    let path = c.in-Err-DiskFault.is ∙ ap (λ e. Err e) c.in-Err-DiskFault.field-0-is in
    subst (λ r. Goes g.D.Disk (step_adopted tt c.args.number c.args.entry.now r) c.args.store.now
    c.adopt.new.self) path
    (goes_adopted g.D.Disk tt c.args.number c.args.store.now c.adopt.new.self c.args.entry.now
    c.adopt.result a.entries a.adopts a.offers a.unlawful a.no_memory a.settled a.images a.hangs
    a.limit a.held a.cause)

pub returns-in-Err-NoMemory-clause-goes : goal.returns-in-Err-NoMemory-clause-goes
returns-in-Err-NoMemory-clause-goes g c =
    let a = c.adopt.ensures in
    let path = c.in-Err-NoMemory.is ∙ ap (λ e. Err e) c.in-Err-NoMemory.field-0-is in
    subst (λ r. Goes g.D.Disk (step_adopted tt c.args.number c.args.entry.now r) c.args.store.now
    c.adopt.new.self) path
    (goes_adopted g.D.Disk tt c.args.number c.args.store.now c.adopt.new.self c.args.entry.now
    c.adopt.result a.entries a.adopts a.offers a.unlawful a.no_memory a.settled a.images a.hangs
    a.limit a.held a.cause)

pub returns-in-Err-Unlawful-clause-carries : goal.returns-in-Err-Unlawful-clause-carries
returns-in-Err-Unlawful-clause-carries g c =
    let same : entries_of c.adopt.new.self ≡ entries_of c.args.store.now = search rules in
    let unlawful : ¬ IsLawful (entries_of c.args.store.now) c.args.entry.now = search rules in
    (same, inl (c.bad_row.ensures, inr (c.requires.behind, unlawful)))
