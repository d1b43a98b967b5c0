use Rattle.std.proofs.Common.{Err, refl, ap, ◌∙◌, subst}
use Rattle.book_store.specs.declared.store.Store.{Store}
use Rattle.book_store.specs.Stores.{entries_of, held_of}
use Rattle.text_streams.specs.Streams.{output_at}
use Rattle.text_streams.proofs.PrintedTexts.{wrote_nothing}
use Rattle.store_runs.specs.declared.stop.Stop.TheVariants.{NoMemory}
use Rattle.store_runs.specs.Runs.{RunGoes}
use Rattle.store_runs.proofs.StoreSteps.{stays_same}
use Rattle.script_session.specs.Sessions.{store_in}
use Rattle.trial_run.specs.Trials.{EndsScript}
use Rattle.trial_run.proofs.TrialEnds.{ends_as_script}
use Rattle.trial_run.proofs.trial.finish.Goals as goal

pub returns-in-Ok-clause-ends : goal.returns-in-Ok-clause-ends
returns-in-Ok-clause-ends g c =
    let before = output_at g.K.Sink c.args.output.now in
    let now = output_at g.K.Sink c.finish-end.new.output in
    let session = store_in c.in-Ok.session in
    let stop = c.finish-end.result.stop in
    subst (λ (s : Store _). EndsScript (held_of s) before now (entries_of s) stop)
    c.in-Ok.ensures.store
    (ends_as_script (held_of session) before now (entries_of session) stop
    c.finish-end.ensures.ends)

pub returns-in-Ok-clause-same : goal.returns-in-Ok-clause-same
returns-in-Ok-clause-same g c =
    c.finish-end.ensures.same ∙ ap (λ (s : Store _). entries_of s) c.in-Ok.ensures.store

pub returns-in-Ok-clause-goes : goal.returns-in-Ok-clause-goes
returns-in-Ok-clause-goes g c =
    subst (λ (s : Store _). RunGoes g.D.Disk c.finish-end.result.stop s c.finish-end.result.store)
    c.in-Ok.ensures.store c.finish-end.ensures.goes

pub returns-in-Err-clause-ends : goal.returns-in-Err-clause-ends
returns-in-Err-clause-ends g c = (wrote_nothing (output_at g.K.Sink c.args.output.now), tt)

pub returns-in-Err-clause-same : goal.returns-in-Err-clause-same
returns-in-Err-clause-same g c = ap (λ (s : Store _). entries_of s) c.in-Err.ensures.back

pub returns-in-Err-clause-goes : goal.returns-in-Err-clause-goes
returns-in-Err-clause-goes g c =
    stays_same g.D.Disk (Err NoMemory) c.args.store c.in-Err.store c.in-Err.ensures.back refl
    (λ is. absurd (cc))
