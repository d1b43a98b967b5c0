use Rattle.std.proofs.Common.{◌≡◌, ◌∙◌, Err, refl, ap, subst}
use Rattle.book_words.specs.declared.act.Entry.{Entry}
use Rattle.book_core.specs.declared.types.ReplayError.{ReplayError}
use Rattle.book_core.specs.View.{ReadyEntry}
use Rattle.book_store.specs.Offers.{OffersEntry}
use Rattle.book_store.proofs.StoreFacts.{images_hold, offers_from, offers_none}
use Rattle.book_store.proofs.store.Store.adopt.Goals as goal

pub returns-in-Err-Unlawful-clause-images : goal.returns-in-Err-Unlawful-clause-images
returns-in-Err-Unlawful-clause-images g c =
    images_hold g.D.Disk g.met.D.Disk.reads_image g.met.D.Disk.only_now
    (record c.args.self.now { book = c.admit.new.self })

pub returns-in-Err-NoMemory-clause-adopts : goal.returns-in-Err-NoMemory-clause-adopts
returns-in-Err-NoMemory-clause-adopts g c =
    c.admit.ensures.no_memory (c.in-Err-NoMemory.is
    ∙ ap (λ (e : ReplayError). Err e) c.in-Err-NoMemory.field-0-is)

pub returns-in-Err-NoMemory-clause-offers : goal.returns-in-Err-NoMemory-clause-offers
returns-in-Err-NoMemory-clause-offers g c lawful has =
    offers_none g.D.Disk g.met.D.Disk.reads_image g.met.D.Disk.only_now c.args.self.now
    (record c.args.self.now { book = c.admit.new.self }) c.args.entry.now refl
    c.admit.ensures.entries lawful has

pub returns-in-Err-NoMemory-clause-images : goal.returns-in-Err-NoMemory-clause-images
returns-in-Err-NoMemory-clause-images g c =
    images_hold g.D.Disk g.met.D.Disk.reads_image g.met.D.Disk.only_now
    (record c.args.self.now { book = c.admit.new.self })

pub returns-clause-offers : goal.returns-clause-offers
returns-clause-offers g c lawful has =
    let old = c.args.self.now in
    let mid = record old { book = c.admit.new.self } in
    let same : c.in-Ok.ready.entry ≡ c.args.entry.now =
    ap (λ (r : ReadyEntry). r.entry) c.in-Ok.ensures.ok in
    offers_from g.D.Disk old mid c.enter.new.self c.args.entry.now refl c.admit.ensures.entries has
    (λ held. subst (λ (e : Entry). OffersEntry g.D.Disk e mid c.enter.new.self) same
    (c.enter.ensures.offers held))
