use Rattle.std.proofs.Common.{◌+◌, List, length, Option, ⊎_elim, refl, sym, ◌∙◌, ap, subst}
use Rattle.std.proofs.lemmas.Result.{err_from_is_err_and}
use Rattle.hall_limits.specs.declared.TheConstants.{MAX_ROWS}
use Rattle.book_words.specs.declared.act.Entry.{Entry}
use Rattle.book_words.specs.Answers.{answer, IsLawful}
use Rattle.book_core.specs.Steps.{asked_act}
use Rattle.book_store.specs.Offers.{Offers}
use Rattle.book_store.proofs.AskDecisions.{ready_is, known_is, error_gives, error_new, list_more, list_same, none_new}
use Rattle.book_store.proofs.StoreFacts.{images_hold, leaves_disk, offers_from, offers_none}
use Rattle.book_store.proofs.store.Store.ask.Goals as goal

-- the act is ready, and its entry is offered
pub enter-requires-clause-number : goal.enter-requires-clause-number
enter-requires-clause-number g c =
    let ready = ready_is c.args.self.now.book c.args.by c.args.ask.now _ c.ready.result c.in-Act.is
    c.requires.sound.most c.ready.ensures.exact _ c.in-New.ready c.in_ok-ready-in-Act.was
    c.in-New.is in
    ready.number ∙ ap (λ (es : List Entry). length es + 1) (sym c.ready.ensures.entries)

pub enter-requires-clause-lawful : goal.enter-requires-clause-lawful
enter-requires-clause-lawful g c =
    let ready = ready_is c.args.self.now.book c.args.by c.args.ask.now _ c.ready.result c.in-Act.is
    c.requires.sound.most c.ready.ensures.exact _ c.in-New.ready c.in_ok-ready-in-Act.was
    c.in-New.is in
    subst (λ (es : List Entry). IsLawful es c.in-New.ready.entry)
    (sym c.ready.ensures.entries) ready.lawful

pub returns-in-Ok-clause-answer : goal.returns-in-Ok-clause-answer
returns-in-Ok-clause-answer g c =
    let ready = ready_is c.args.self.now.book c.args.by c.args.ask.now _ c.ready.result c.in-Act.is
    c.requires.sound.most c.ready.ensures.exact _ c.in-New.ready c.in_ok-ready-in-Act.was
    c.in-New.is in
    let asked = asked_act c.in-New.ready.entry.desk c.in-New.ready.entry.request
    c.in-New.ready.entry.act in
    sym (ready.answer c.in-Ok.answered
    (c.in-Ok.ensures.answer ∙ ap (λ (es : List Entry). answer MAX_ROWS es asked)
    c.ready.ensures.entries))

pub returns-in-Ok-clause-entries : goal.returns-in-Ok-clause-entries
returns-in-Ok-clause-entries g c =
    let ready = ready_is c.args.self.now.book c.args.by c.args.ask.now _ c.ready.result c.in-Act.is
    c.requires.sound.most c.ready.ensures.exact _ c.in-New.ready c.in_ok-ready-in-Act.was
    c.in-New.is in
    list_more c.in-Ok.answered c.args.self.now.book.entries _ _ c.in-New.ready.entry ready.is
    c.in-Ok.ensures.entries c.ready.ensures.entries

pub returns-in-Ok-clause-offers : goal.returns-in-Ok-clause-offers
returns-in-Ok-clause-offers g c =
    let old = c.args.self.now in
    let ready = ready_is c.args.self.now.book c.args.by c.args.ask.now _ c.ready.result c.in-Act.is
    c.requires.sound.most c.ready.ensures.exact _ c.in-New.ready c.in_ok-ready-in-Act.was
    c.in-New.is in
    subst (λ (o : Option Entry). Offers g.D.Disk o old c.enter.new.self) (sym ready.is)
    (λ has. offers_from g.D.Disk old
    (record old { book = c.ready.new.self }) c.enter.new.self c.in-New.ready.entry refl
    c.ready.ensures.entries has c.enter.ensures.offers)

-- the disk failed
pub returns-in-Err-clause-answer : goal.returns-in-Err-clause-answer
returns-in-Err-clause-answer g c =
    let ready = ready_is c.args.self.now.book c.args.by c.args.ask.now _ c.ready.result c.in-Act.is
    c.requires.sound.most c.ready.ensures.exact _ c.in-New.ready c.in_ok-ready-in-Act.was
    c.in-New.is in
    (c.in-New.ready.entry, ready.is)

pub returns-in-Err-clause-offers : goal.returns-in-Err-clause-offers
returns-in-Err-clause-offers g c =
    let old = c.args.self.now in
    let ready = ready_is c.args.self.now.book c.args.by c.args.ask.now _ c.ready.result c.in-Act.is
    c.requires.sound.most c.ready.ensures.exact _ c.in-New.ready c.in_ok-ready-in-Act.was
    c.in-New.is in
    subst (λ (o : Option Entry). Offers g.D.Disk o old c.enter.new.self) (sym ready.is)
    (λ has. offers_from g.D.Disk old
    (record old { book = c.ready.new.self }) c.enter.new.self c.in-New.ready.entry refl
    c.ready.ensures.entries has c.enter.ensures.offers)

-- a repeat
pub returns-in-Known-clause-answer : goal.returns-in-Known-clause-answer
returns-in-Known-clause-answer g c =
    sym (known_is c.args.self.now.book c.args.by c.args.ask.now _ c.ready.result c.in-Act.is
    c.requires.sound.most c.ready.ensures.exact _ c.in-Known.answered c.in_ok-ready-in-Act.was
    c.in-Known.is).0

pub returns-in-Known-clause-entries : goal.returns-in-Known-clause-entries
returns-in-Known-clause-entries g c =
    let known = known_is c.args.self.now.book c.args.by c.args.ask.now _ c.ready.result c.in-Act.is
    c.requires.sound.most c.ready.ensures.exact _ c.in-Known.answered c.in_ok-ready-in-Act.was
    c.in-Known.is in
    list_same c.in-Known.answered c.args.self.now.book.entries _ _ known.1 c.ready.ensures.entries

pub returns-in-Known-clause-offers : goal.returns-in-Known-clause-offers
returns-in-Known-clause-offers g c =
    let old = c.args.self.now in
    let new = record old { book = c.ready.new.self } in
    let known = known_is c.args.self.now.book c.args.by c.args.ask.now _ c.ready.result c.in-Act.is
    c.requires.sound.most c.ready.ensures.exact _ c.in-Known.answered c.in_ok-ready-in-Act.was
    c.in-Known.is in
    subst (λ (o : Option Entry). Offers g.D.Disk o old new) (sym known.1)
    (leaves_disk g.D.Disk old new refl c.ready.ensures.entries)

pub returns-in-Known-clause-images : goal.returns-in-Known-clause-images
returns-in-Known-clause-images g c =
    images_hold g.D.Disk g.met.D.Disk.reads_image g.met.D.Disk.only_now
    (record c.args.self.now { book = c.ready.new.self })

pub returns-in-Known-clause-settled : goal.returns-in-Known-clause-settled
returns-in-Known-clause-settled g c some =
    let known = known_is c.args.self.now.book c.args.by c.args.ask.now _ c.ready.result c.in-Act.is
    c.requires.sound.most c.ready.ensures.exact _ c.in-Known.answered c.in_ok-ready-in-Act.was
    c.in-Known.is in
    absurd (none_new _ known.1 some)

-- an error of the book
pub returns-in_err-ready-in-Act-clause-answer : goal.returns-in_err-ready-in-Act-clause-answer
returns-in_err-ready-in-Act-clause-answer g c =
    let p = err_from_is_err_and c.from_residual.result c.from_residual.ensures.1 in
    rw (p.1, p.2)
    (error_gives c.args.self.now.book c.args.by c.args.ask.now _ c.ready.result c.in-Act.is
    c.requires.sound.most c.ready.ensures.exact _ c.in_err-ready-in-Act.was)

pub returns-in_err-ready-in-Act-clause-offers : goal.returns-in_err-ready-in-Act-clause-offers
returns-in_err-ready-in-Act-clause-offers g c =
    let old = c.args.self.now in
    let new = record old { book = c.ready.new.self } in
    ⊎_elim
    (λ none. subst (λ (o : Option Entry). Offers g.D.Disk o old new) (sym none)
    (leaves_disk g.D.Disk old new refl c.ready.ensures.entries))
    (λ lacking. subst (λ (o : Option Entry). Offers g.D.Disk o old new) (sym lacking.is)
    (λ has. offers_none g.D.Disk g.met.D.Disk.reads_image g.met.D.Disk.only_now old new
    lacking.entry refl c.ready.ensures.entries lacking.lawful has))
    (error_new c.args.self.now.book c.args.by c.args.ask.now _ c.ready.result c.in-Act.is
    c.requires.sound.most c.ready.ensures.exact _ c.in_err-ready-in-Act.was)

pub returns-in_err-ready-in-Act-clause-images : goal.returns-in_err-ready-in-Act-clause-images
returns-in_err-ready-in-Act-clause-images g c =
    images_hold g.D.Disk g.met.D.Disk.reads_image g.met.D.Disk.only_now
    (record c.args.self.now { book = c.ready.new.self })

-- a question
pub returns-in_ok-answered-in-Question-clause-images : goal.returns-in_ok-answered-in-Question-clause-images
returns-in_ok-answered-in-Question-clause-images g c =
    images_hold g.D.Disk g.met.D.Disk.reads_image g.met.D.Disk.only_now c.args.self.now

pub returns-in_err-answered-in-Question-clause-images : goal.returns-in_err-answered-in-Question-clause-images
returns-in_err-answered-in-Question-clause-images g c =
    images_hold g.D.Disk g.met.D.Disk.reads_image g.met.D.Disk.only_now c.args.self.now
