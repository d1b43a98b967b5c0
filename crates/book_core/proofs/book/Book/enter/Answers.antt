use Rattle.std.proofs.Common.{[], ◌∷◌, ◌++◌, subst, sym, ◌∙◌, ap}
use Rattle.book_words.specs.declared.act.Entry.{Entry}
use Rattle.book_words.specs.Answers.{IsLawful, IsLegal}
use Rattle.book_words.specs.Balance.{MovesOnly}
use Rattle.book_words.proofs.LegalLemmas.{legal-push}
use Rattle.book_words.proofs.AllowedActs.{allowed}
use Rattle.book_laws.proofs.MoveLaws.{moves_only}
use Rattle.book_rules.specs.Lanes.{IsSeen}
use Rattle.book_core.specs.View.{BookView}
use Rattle.book_core.proofs.BookLemmas.{held_is, entered, entered_answer}
use Rattle.book_core.proofs.book.Book.enter.Goals as goal

pub reply_new-reply-requires-clause-free : goal.reply_new-reply-requires-clause-free
reply_new-reply-requires-clause-free c =
    allowed c.self.inside.state.entries c.entry-entry.result.now
    (subst (λ (e : Entry). IsLawful c.self.inside.state.entries e) (sym c.entry-entry.ensures)
    (held_is c.self.inside.state c.self.inside.limit c.self.inside.pending c.in-Some.field-0
    c.args.ready c.self.invariant (sym c.take.ensures.value ∙ c.in-Some.is)
    (ap (λ (b : BookView). b.pending) c.self.view_is ∙ c.requires)).lawful)

pub enter-requires-clause-room : goal.enter-requires-clause-room
enter-requires-clause-room c =
    (held_is c.self.inside.state c.self.inside.limit c.self.inside.pending c.in-Some.field-0
    c.args.ready c.self.invariant (sym c.take.ensures.value ∙ c.in-Some.is)
    (ap (λ (b : BookView). b.pending) c.self.view_is ∙ c.requires)).room

pub enter-requires-clause-lawful : goal.enter-requires-clause-lawful
enter-requires-clause-lawful c =
    subst (λ (e : Entry). IsLawful c.self.inside.state.entries e) (sym c.entry-entry.ensures)
    (held_is c.self.inside.state c.self.inside.limit c.self.inside.pending c.in-Some.field-0
    c.args.ready c.self.invariant (sym c.take.ensures.value ∙ c.in-Some.is)
    (ap (λ (b : BookView). b.pending) c.self.view_is ∙ c.requires)).lawful

pub enter-requires-clause-seen : goal.enter-requires-clause-seen
enter-requires-clause-seen c =
    subst (λ (e : Entry). IsSeen c.self.inside.state.entries e.act c.in-Some.field-0.seen)
    (sym c.entry-entry.ensures)
    (held_is c.self.inside.state c.self.inside.limit c.self.inside.pending c.in-Some.field-0
    c.args.ready c.self.invariant (sym c.take.ensures.value ∙ c.in-Some.is)
    (ap (λ (b : BookView). b.pending) c.self.view_is ∙ c.requires)).seen_is

pub invariant_of-self : goal.invariant_of-self
invariant_of-self c =
    let is = held_is c.self.inside.state c.self.inside.limit c.self.inside.pending c.in-Some.field-0
    c.args.ready c.self.invariant (sym c.take.ensures.value ∙ c.in-Some.is)
    (ap (λ (b : BookView). b.pending) c.self.view_is ∙ c.requires) in
    entered c.enter.new.self c.self.inside.state.entries c.args.ready.entry c.self.inside.limit
    c.take.new.self
    (c.enter.ensures.entries ∙ ap (λ (e : Entry). c.self.inside.state.entries ++ e ∷ [])
    c.entry-entry.ensures) c.take.ensures.after
    c.self.invariant.legal is.lawful c.self.invariant.most

pub returns-clause-lawful : goal.returns-clause-lawful
returns-clause-lawful c =
    let is = held_is c.self.inside.state c.self.inside.limit c.self.inside.pending c.in-Some.field-0
    c.args.ready c.self.invariant (sym c.take.ensures.value ∙ c.in-Some.is)
    (ap (λ (b : BookView). b.pending) c.self.view_is ∙ c.requires) in
    subst (λ (b : BookView). IsLawful b.entries c.args.ready.entry) c.self.view_is is.lawful

pub returns-clause-moves : goal.returns-clause-moves
returns-clause-moves c =
    let is = held_is c.self.inside.state c.self.inside.limit c.self.inside.pending c.in-Some.field-0
    c.args.ready c.self.invariant (sym c.take.ensures.value ∙ c.in-Some.is)
    (ap (λ (b : BookView). b.pending) c.self.view_is ∙ c.requires) in
    subst (λ (b : BookView). MovesOnly b.entries c.args.ready.entry) c.self.view_is
    (moves_only c.self.inside.state.entries c.args.ready.entry c.self.invariant.legal is.lawful)

pub returns-clause-legal : goal.returns-clause-legal
returns-clause-legal c =
    let is = held_is c.self.inside.state c.self.inside.limit c.self.inside.pending c.in-Some.field-0
    c.args.ready c.self.invariant (sym c.take.ensures.value ∙ c.in-Some.is)
    (ap (λ (b : BookView). b.pending) c.self.view_is ∙ c.requires) in
    subst IsLegal
    (sym (c.enter.ensures.entries ∙ ap
    (λ (e : Entry). c.self.inside.state.entries ++ e ∷ []) c.entry-entry.ensures))
    (legal-push c.self.inside.state.entries c.args.ready.entry c.self.invariant.legal is.lawful)

pub returns-clause-answer : goal.returns-clause-answer
returns-clause-answer c =
    let is = held_is c.self.inside.state c.self.inside.limit c.self.inside.pending c.in-Some.field-0
    c.args.ready c.self.invariant (sym c.take.ensures.value ∙ c.in-Some.is)
    (ap (λ (b : BookView). b.pending) c.self.view_is ∙ c.requires) in
    entered_answer c.self.inside.state c.args.self.now.entries c.args.ready c.in-Some.field-0.seen
    c.in-Some.field-0.drawn
    c.entry-entry.result.now c.number.result c.reply_new-reply.result is
    (ap (λ (b : BookView). b.entries) c.self.view_is) c.entry-entry.ensures c.number.ensures
    c.reply_new-reply.ensures
