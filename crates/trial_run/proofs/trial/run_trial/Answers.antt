use Rattle.std.proofs.Common.{Err, sym, ap, subst}
use Rattle.std.specs.Bool.{⊤}
use Rattle.book_store.specs.declared.store.Store.{Store}
use Rattle.book_store.specs.Callers.{CallerView}
use Rattle.text_streams.specs.Streams.{output_at}
use Rattle.store_runs.specs.Runs.{Goes}
use Rattle.trial_run.proofs.TrialEnds.{trial_ended, trial_stopped, trial_goes}
use Rattle.trial_run.proofs.trial.run_trial.Goals as goal

pub ask_trial-requires-clause-calm : goal.ask_trial-requires-clause-calm
ask_trial-requires-clause-calm g c = ap (λ (k : CallerView _). k.faults) c.new-caller.ensures

pub returns-in-Ok-clause-explained : goal.returns-in-Ok-clause-explained
returns-in-Ok-clause-explained g c =
    trial_ended g.D.Disk c.new-caller.result c.ask_trial.new.caller c.args.store c.back.result
    c.finish.result.store c.args.number c.args.count
    (output_at g.K.Sink c.args.output.now) (output_at g.K.Sink c.finish.new.output)
    c.finish.result.stop (ap (λ (k : CallerView _). k.store) c.new-caller.ensures)
    c.requires.opened c.in-Ok.ensures.asks c.back.ensures.store c.finish.ensures.ends
    c.finish.ensures.same

pub returns-in-Ok-clause-goes : goal.returns-in-Ok-clause-goes
returns-in-Ok-clause-goes g c =
    trial_goes g.D.Disk c.new-caller.result c.ask_trial.new.caller c.args.store c.back.result
    c.finish.result.store c.finish.result.stop
    (ap (λ (k : CallerView _). k.store) c.new-caller.ensures)
    c.in-Ok.ensures.asks.goes c.back.ensures.store c.finish.ensures.goes

pub returns-in-Err-clause-explained : goal.returns-in-Err-clause-explained
returns-in-Err-clause-explained g c =
    trial_stopped g.D.Disk c.new-caller.result c.ask_trial.new.caller c.args.store
    c.back-in-Err.result c.args.number c.args.count (output_at g.K.Sink c.args.output.now)
    c.in-Err.stop (ap (λ (k : CallerView _). k.store) c.new-caller.ensures)
    c.in-Err.ensures.asks c.back-in-Err.ensures.store

pub returns-in-Err-clause-goes : goal.returns-in-Err-clause-goes
returns-in-Err-clause-goes g c =
    subst (λ (s : Store _). Goes {T = ⊤} g.D.Disk (Err c.in-Err.stop) s c.back-in-Err.result)
    (ap (λ (k : CallerView _). k.store) c.new-caller.ensures)
    (subst (λ (s : Store _). Goes {T = ⊤} g.D.Disk (Err c.in-Err.stop) c.new-caller.result.store s)
    (sym c.back-in-Err.ensures.store) c.in-Err.ensures.asks.goes)
