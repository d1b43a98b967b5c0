use Rattle.std.proofs.lemmas.Result.{err_from_is_err_and}
use Rattle.script_events.specs.Unanswered.{unanswered_stop}
use Rattle.trial_run.proofs.TrialSteps.{asked_one, stopped_one}
use Rattle.trial_run.proofs.asking.ask_one.Goals as goal

pub returns-in_err-ask_command : goal.returns-in_err-ask_command
returns-in_err-ask_command g c =
    let p = err_from_is_err_and c.from_residual.result c.from_residual.ensures.1 in
    record {
      asks = rw (p.1, p.2) (stopped_one g.D.Disk (unanswered_stop c.in_err-ask_command.field-0.0)
          c.args.caller.now c.ask_command.new.caller c.args.command.now
          c.in_err-ask_command.ensures.same c.in_err-ask_command.ensures.may
          c.in_err-ask_command.ensures.goes);
    }

pub returns : goal.returns
returns g c = record {
  asks = asked_one g.D.Disk c.in_ok-ask_command.field-0 tt c.args.caller.now
      c.ask_command.new.caller c.args.command.now c.in_ok-ask_command.ensures.after
      c.in_ok-ask_command.ensures.goes c.in_ok-ask_command.ensures.calm;
}
