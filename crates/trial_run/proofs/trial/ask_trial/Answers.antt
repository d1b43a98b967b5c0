use Rattle.std.proofs.Common.{Ok, Err, ap}
use Rattle.std.proofs.lemmas.Result.{err_from_is_err_and}
use Rattle.store_runs.specs.Books.{BookState}
use Rattle.trial_run.specs.TrialScripts.{head_commands, batch_commands, batch_places, in_turn}
use Rattle.trial_run.proofs.TrialSteps.{asks_on, asks_same, asks_stopped}
use Rattle.trial_run.proofs.trial.ask_trial.Goals as goal

pub ask_batches-requires-clause-calm : goal.ask_batches-requires-clause-calm
ask_batches-requires-clause-calm g c = c.in_ok-ask_all.ensures.asks.calm

pub returns-in_err-ask_all : goal.returns-in_err-ask_all
returns-in_err-ask_all g c =
    let p = err_from_is_err_and c.from_residual.result c.from_residual.ensures.1 in
    let stop = c.in_err-ask_all.field-0.0 in
    let old = c.args.caller.now in
    let new = c.ask_all.new.caller in
    record {
      asks = rw (p.1, p.2) (asks_stopped g.D.Disk stop old new head_commands _
          (asks_same g.D.Disk (Err stop) old new _ head_commands c.head_commands.ensures
          c.in_err-ask_all.ensures.asks));
    }

pub returns : goal.returns
returns g c =
    let old = c.args.caller.now in
    let one = c.ask_all.new.caller in
    let new = c.ask_batches.new.caller in
    let result = c.ask_batches.result in
    let before = asks_same g.D.Disk (Ok tt) old one _ head_commands c.head_commands.ensures
    c.in_ok-ask_all.ensures.asks in
    record {
      asks = asks_on g.D.Disk tt result old one new head_commands _ before
          (asks_same g.D.Disk result one new _ _
          (ap (λ (b : BookState). in_turn (batch_commands c.args.number c.args.count) b
          (batch_places c.args.count)) before.answered)
          c.ask_batches.ensures.asks);
    }
