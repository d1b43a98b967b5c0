use Rattle.std.proofs.Common.{◌≡◌, ap, ◌∙◌}
use Rattle.turn_pass.specs.History.{known_of}
use Rattle.turn_pass.proofs.AgreementLemmas.{heard_agrees}
use Rattle.turn_pass.proofs.book.BookSeat.hear.Goals as goal

pub returns-clause-agrees : goal.returns-clause-agrees
returns-clause-agrees g c =
    let heard = ap (λ m. m.0) c.hear.ensures.place.1 in
    let note : c.note-note.result.me.0.known ≡ known_of c.args.pass.now =
    ap (λ m. m.0.known) c.note-note.ensures.note.1 ∙ ap known_of c.pass.view_is in
    heard_agrees c.self.inside.place.me.0 c.note-note.result.me.0 c.hear.new.place.me.0
    c.args.self.now.history c.args.self.now.list (known_of c.args.pass.now) heard
    note (ap (λ b. b.history) c.self.view_is) (ap (λ b. b.list) c.self.view_is)
    c.look.ensures.learnt
