use Rattle.std.proofs.Common.{Result, Ok, Err, ap, ◌∙◌, subst}
use Rattle.std.specs.Bool.{⊤}
use Rattle.book_words.specs.declared.caller.AskError.{AskError}
use Rattle.book_words.specs.declared.reply.Answered.{Answered}
use Rattle.book_words.specs.declared.reply.Refused.{Refused}
use Rattle.store_runs.specs.Store.{Store}
use Rattle.store_runs.specs.Stores.{book_of, BookView}
use Rattle.store_runs.specs.declared.stop.Offer.TheVariants as offering
use Rattle.store_runs.specs.declared.stop.Stop.TheVariants.{DiskFault, NoMemory}
use Rattle.store_runs.specs.Runs.{Goes}
use Rattle.store_runs.specs.Stops.{step_asked}
use Rattle.store_runs.proofs.StoreSteps.{goes_as}
use Rattle.script_events.specs.Asking.{script_caller, ask_at}
use Rattle.script_events.proofs.AskedCommands.{goes_with_command, after_refusal}
use Rattle.script_events.proofs.asking.ask_command.Goals as goal

pub returns-in-Ok-clause-goes : goal.returns-in-Ok-clause-goes
returns-in-Ok-clause-goes g c =
    let asked = c.ask.ensures in
    let done : Result Answered Refused = Ok c.in-Ok.answered in
    subst (λ (r : Result Answered AskError). Goes g.D.Disk
    (step_asked done script_caller c.ask_at-ask.result r) c.args.caller.now.store
    c.ask.new.self.store) c.in-Ok.is
    (goes_with_command g.D.Disk c.args.caller.now c.turn.new.self c.ask.new.self c.ask_at-ask.result
    c.ask.result c.turn.ensures asked.entries asked.later done c.requires.calm asked.asked
    asked.cause asked.kept)

pub returns-in-Err-Refused-clause-after : goal.returns-in-Err-Refused-clause-after
returns-in-Err-Refused-clause-after g c =
    let asked = c.ask.ensures in
    let is = c.ask_at-ask.ensures ∙ ap (λ (b : BookView). ask_at b.entries c.args.command.now)
    (c.book.ensures ∙ ap (λ (s : Store _). book_of s) c.store.ensures.store) in
    after_refusal g.D.Disk c.args.caller.now c.turn.new.self c.ask.new.self c.ask_at-ask.result
    c.ask.result c.turn.ensures asked.entries asked.later c.args.command.now
    c.in-Err-Refused.refused is asked.answer
    (c.in-Err-Refused.is ∙ ap (λ (e : AskError). Err e) c.in-Err-Refused.field-0-is)

pub returns-in-Err-Refused-clause-goes : goal.returns-in-Err-Refused-clause-goes
returns-in-Err-Refused-clause-goes g c =
    let asked = c.ask.ensures in
    let done : Result Answered Refused = Err c.in-Err-Refused.refused in
    subst (λ (r : Result Answered AskError). Goes g.D.Disk
    (step_asked done script_caller c.ask_at-ask.result r) c.args.caller.now.store
    c.ask.new.self.store) (c.in-Err-Refused.is
    ∙ ap (λ (e : AskError). Err e) c.in-Err-Refused.field-0-is)
    (goes_with_command g.D.Disk c.args.caller.now c.turn.new.self c.ask.new.self c.ask_at-ask.result
    c.ask.result c.turn.ensures asked.entries asked.later done c.requires.calm asked.asked
    asked.cause asked.kept)

pub returns-in-Err-DiskFault-clause-goes : goal.returns-in-Err-DiskFault-clause-goes
returns-in-Err-DiskFault-clause-goes g c =
    let asked = c.ask.ensures in
    let ask = c.ask_at-ask.result in
    goes_as g.D.Disk (DiskFault (offering.Asked script_caller ask)) c.args.caller.now.store
    c.ask.new.self.store
    (subst (λ (r : Result Answered AskError). Goes {T = ⊤} g.D.Disk
    (step_asked tt script_caller ask r) c.args.caller.now.store c.ask.new.self.store)
    (c.in-Err-DiskFault.is ∙ ap (λ (e : AskError). Err e) c.in-Err-DiskFault.field-0-is)
    (goes_with_command g.D.Disk c.args.caller.now c.turn.new.self c.ask.new.self ask c.ask.result
    c.turn.ensures asked.entries asked.later tt c.requires.calm asked.asked asked.cause
    asked.kept))

pub returns-in-Err-NoMemory-clause-goes : goal.returns-in-Err-NoMemory-clause-goes
returns-in-Err-NoMemory-clause-goes g c =
    let asked = c.ask.ensures in
    let ask = c.ask_at-ask.result in
    goes_as g.D.Disk NoMemory c.args.caller.now.store c.ask.new.self.store
    (subst (λ (r : Result Answered AskError). Goes {T = ⊤} g.D.Disk
    (step_asked tt script_caller ask r) c.args.caller.now.store c.ask.new.self.store)
    (c.in-Err-NoMemory.is ∙ ap (λ (e : AskError). Err e) c.in-Err-NoMemory.field-0-is)
    (goes_with_command g.D.Disk c.args.caller.now c.turn.new.self c.ask.new.self ask c.ask.result
    c.turn.ensures asked.entries asked.later tt c.requires.calm asked.asked asked.cause
    asked.kept))
