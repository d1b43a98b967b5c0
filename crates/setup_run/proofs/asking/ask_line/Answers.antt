use Rattle.std.proofs.lemmas.Result.{err_from_is_err_and}
use Rattle.store_runs.proofs.StoreSteps.{goes_as}
use Rattle.script_events.specs.Unanswered.{unanswered_stop}
use Rattle.setup_run.proofs.asking.ask_line.Goals as goal

pub returns-in_err-answer-in-Asks-clause-goes :
    goal.returns-in_err-answer-in-Asks-clause-goes
returns-in_err-answer-in-Asks-clause-goes g c =
    let p = err_from_is_err_and c.from_residual.result c.from_residual.ensures.1 in
    rw (p.1, p.2) (goes_as g.D.Disk (unanswered_stop c.in_err-answer-in-Asks.field-0.0)
    c.args.caller.now.store c.ask_command.new.caller.store
    c.in_err-answer-in-Asks.ensures.goes)
