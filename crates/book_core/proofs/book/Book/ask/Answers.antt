use Rattle.std.proofs.Common.{◌∙◌}
use Rattle.std.proofs.lemmas.Result.{err_from_is_err_and}
use Rattle.book_core.proofs.AskLemmas.{error_answer, error_list, ready_is, new_answer, new_list, known_is, known_answer, known_list}
use Rattle.book_core.proofs.book.Book.ask.Goals as goal

pub returns-in_err-ready-in-Act-clause-answer : goal.returns-in_err-ready-in-Act-clause-answer
returns-in_err-ready-in-Act-clause-answer c =
    let p = err_from_is_err_and c.from_residual.result c.from_residual.ensures.1 in
    rw (p.1, p.2) (error_answer c.args.self.now c.args.by c.args.ask.now _ c.ready.result _
    c.in-Act.is c.in_err-ready-in-Act.was c.ready.ensures.exact)

pub returns-in_err-ready-in-Act-clause-entries : goal.returns-in_err-ready-in-Act-clause-entries
returns-in_err-ready-in-Act-clause-entries c =
    let p = err_from_is_err_and c.from_residual.result c.from_residual.ensures.1 in
    rw (p.1, p.2) (c.ready.ensures.entries
    ∙ error_list c.args.self.now c.args.by c.args.ask.now _ c.ready.result _ c.in-Act.is
    c.in_err-ready-in-Act.was c.ready.ensures.exact)

pub returns-in-New-clause-answer : goal.returns-in-New-clause-answer
returns-in-New-clause-answer c =
    let is = ready_is c.args.self.now c.args.by c.args.ask.now _ c.ready.result _ c.in-New.ready
    c.in_ok-ready-in-Act.was c.in-New.is c.ready.ensures.exact in
    new_answer c.args.self.now c.args.by c.ready.new.self.entries c.args.ask.now _ c.in-New.ready
    c.enter.result c.in-Act.is is c.ready.ensures.entries c.enter.ensures.lawful
    c.enter.ensures.answer

pub returns-in-New-clause-entries : goal.returns-in-New-clause-entries
returns-in-New-clause-entries c =
    let is = ready_is c.args.self.now c.args.by c.args.ask.now _ c.ready.result _ c.in-New.ready
    c.in_ok-ready-in-Act.was c.in-New.is c.ready.ensures.exact in
    new_list c.args.self.now c.args.by c.enter.new.self.entries c.args.ask.now _ c.in-New.ready
    c.in-Act.is is
    (rw c.ready.ensures.entries at c.enter.ensures.entries)

pub returns-in-Known-clause-answer : goal.returns-in-Known-clause-answer
returns-in-Known-clause-answer c =
    known_answer c.args.self.now c.args.ask.now _ c.in-Known.answered c.in-Act.is
    (known_is c.args.self.now c.args.by c.args.ask.now _ c.ready.result _ c.in-Known.answered
    c.in_ok-ready-in-Act.was c.in-Known.is c.ready.ensures.exact)

pub returns-in-Known-clause-entries : goal.returns-in-Known-clause-entries
returns-in-Known-clause-entries c =
    c.ready.ensures.entries
    ∙ known_list c.args.self.now c.args.by c.args.ask.now _ c.in-Known.answered c.in-Act.is
    (known_is c.args.self.now c.args.by c.args.ask.now _ c.ready.result _ c.in-Known.answered
    c.in_ok-ready-in-Act.was c.in-Known.is c.ready.ensures.exact)
