use Rattle.std.proofs.Common.{◌≡◌, ℕ, List, ◌++◌, Ok, Err, ap, ◌∙◌}
use Rattle.std.proofs.lemmas.Result.{err_from_is_err_and}
use Rattle.book_core.specs.View.{BookView}
use Rattle.book_words.specs.declared.name.Name.{Name}
use Rattle.book_store.specs.declared.store.Store.{Store}
use Rattle.book_store.specs.Stores.{book_of}
use Rattle.script_lines.specs.declared.command.Command.{Command}
use Rattle.store_runs.specs.Books.{BookState, book_state, stored_book}
use Rattle.script_events.specs.Commands.{after_commands}
use Rattle.trial_run.specs.TrialScripts.{batch_name, batch_run, in_turn, measure_commands, drawn_packs, close_commands}
use Rattle.trial_run.proofs.TrialNames.{packs_weighed, run_drawn, stop_commands}
use Rattle.trial_run.proofs.TrialSteps.{asks_same, stopped_drawn, first_of_three, second_of_three, third_of_three, all_three}
use Rattle.trial_run.proofs.batches.ask_batch.Goals as goal

-- the packs that were found behind a run are those that it drew
measured : (book filled : BookState) (run : List Command) (batch named : Name) (packs : List ℕ)
    → filled ≡ after_commands book run → batch ≡ named → packs ≡ drawn_packs filled batch
    → in_turn measure_commands filled packs
    ≡ in_turn measure_commands (after_commands book run)
    (drawn_packs (after_commands book run) named)
measured book filled run batch named packs is name told =
    ap (λ (found : List ℕ). in_turn measure_commands filled found) told
    ∙ (λ i. in_turn measure_commands (is i) (drawn_packs (is i) (name i)))

pub measure_packs-requires : goal.measure_packs-requires
measure_packs-requires g c = record { calm = c.in_ok-last.ensures.asks.calm }

pub ask_all-requires : goal.ask_all-requires
ask_all-requires g c = record { calm = c.in_ok-measure_packs.ensures.asks.calm }

pub returns-in_err-last-clause-asks : goal.returns-in_err-last-clause-asks
returns-in_err-last-clause-asks g c =
    let p = err_from_is_err_and c.from_residual.result c.from_residual.ensures.1 in
    let stop = c.in_err-last.field-0.0 in
    let old = c.args.caller.now in
    let run = batch_run c.args.number c.args.count c.args.place in
    let drawn = after_commands (stored_book old.store) run in
    let new = c.fill_batch.new.caller in
    rw (p.1, p.2) (first_of_three g.D.Disk old new new new
    run (in_turn measure_commands drawn (drawn_packs drawn (batch_name c.args.place)))
    (close_commands (batch_name c.args.place)) stop c.in_err-last.ensures.asks)

pub returns-in_err-packs-clause-asks : goal.returns-in_err-packs-clause-asks
returns-in_err-packs-clause-asks g c =
    let p = err_from_is_err_and c.from_residual-in_err-packs.result
    c.from_residual-in_err-packs.ensures.1 in
    let stop = c.in_err-packs.field-0.0 in
    let old = c.args.caller.now in
    let number = c.args.number in
    let place = c.args.place in
    let run = batch_run number c.args.count place in
    let drawn = after_commands (stored_book old.store) run in
    let new = c.fill_batch.new.caller in
    rw (p.1, p.2) (first_of_three g.D.Disk old new new new
    run (in_turn measure_commands drawn (drawn_packs drawn (batch_name place)))
    (close_commands (batch_name place)) stop
    (stopped_drawn g.D.Disk c.in_ok-last.last stop old new (batch_name place) number
    (packs_weighed number c.args.count place ++ stop_commands (batch_name place)) run
    (run_drawn number c.args.count place)
    c.in_err-packs.ensures.lacks c.in_ok-last.ensures.asks))

pub returns-in_err-measure_packs-clause-asks : goal.returns-in_err-measure_packs-clause-asks
returns-in_err-measure_packs-clause-asks g c =
    let p = err_from_is_err_and c.from_residual-in_err-measure_packs.result
    c.from_residual-in_err-measure_packs.ensures.1 in
    let stop = c.in_err-measure_packs.field-0.0 in
    let old = c.args.caller.now in
    let one = c.fill_batch.new.caller in
    let new = c.measure_packs.new.caller in
    let run = batch_run c.args.number c.args.count c.args.place in
    let drawn = after_commands (stored_book old.store) run in
    let book = c.book.ensures ∙ ap (λ (s : Store _). book_of s) c.store.ensures.store in
    let packs : c.as_slice.result.now ≡ drawn_packs (stored_book one.store) c.batch_name.result =
    c.as_slice.ensures ∙ c.in_ok-packs.ensures.packs
    ∙ ap (λ (b : BookView). drawn_packs (book_state b) c.batch_name.result) book in
    rw (p.1, p.2) (second_of_three g.D.Disk old one new new
    run (in_turn measure_commands drawn (drawn_packs drawn (batch_name c.args.place)))
    (close_commands (batch_name c.args.place)) c.in_ok-last.last stop
    c.in_ok-last.ensures.asks
    (asks_same g.D.Disk (Err stop) one new _ _
    (measured (stored_book old.store) (stored_book one.store) run _ _ _
    c.in_ok-last.ensures.asks.answered c.batch_name.ensures.name packs)
    c.in_err-measure_packs.ensures.asks))

pub returns-in_err-ask_all-clause-asks : goal.returns-in_err-ask_all-clause-asks
returns-in_err-ask_all-clause-asks g c =
    let p = err_from_is_err_and c.from_residual-in_err-ask_all.result
    c.from_residual-in_err-ask_all.ensures.1 in
    let stop = c.in_err-ask_all.field-0.0 in
    let old = c.args.caller.now in
    let one = c.fill_batch.new.caller in
    let two = c.measure_packs.new.caller in
    let new = c.ask_all.new.caller in
    let run = batch_run c.args.number c.args.count c.args.place in
    let drawn = after_commands (stored_book old.store) run in
    let book = c.book.ensures ∙ ap (λ (s : Store _). book_of s) c.store.ensures.store in
    let packs : c.as_slice.result.now ≡ drawn_packs (stored_book one.store) c.batch_name.result =
    c.as_slice.ensures ∙ c.in_ok-packs.ensures.packs
    ∙ ap (λ (b : BookView). drawn_packs (book_state b) c.batch_name.result) book in
    let closed = c.close_commands.ensures
    ∙ ap (λ (n : Name). close_commands n) c.batch_name-2.ensures.name in
    rw (p.1, p.2) (third_of_three g.D.Disk old one two new
    run (in_turn measure_commands drawn (drawn_packs drawn (batch_name c.args.place)))
    (close_commands (batch_name c.args.place)) c.in_ok-last.last tt stop
    c.in_ok-last.ensures.asks
    (asks_same g.D.Disk (Ok tt) one two _ _
    (measured (stored_book old.store) (stored_book one.store) run _ _ _
    c.in_ok-last.ensures.asks.answered c.batch_name.ensures.name packs)
    c.in_ok-measure_packs.ensures.asks)
    (asks_same g.D.Disk (Err stop) two new _ _ closed c.in_err-ask_all.ensures.asks))

pub returns-clause-asks : goal.returns-clause-asks
returns-clause-asks g c =
    let old = c.args.caller.now in
    let one = c.fill_batch.new.caller in
    let two = c.measure_packs.new.caller in
    let new = c.ask_all.new.caller in
    let run = batch_run c.args.number c.args.count c.args.place in
    let drawn = after_commands (stored_book old.store) run in
    let book = c.book.ensures ∙ ap (λ (s : Store _). book_of s) c.store.ensures.store in
    let packs : c.as_slice.result.now ≡ drawn_packs (stored_book one.store) c.batch_name.result =
    c.as_slice.ensures ∙ c.in_ok-packs.ensures.packs
    ∙ ap (λ (b : BookView). drawn_packs (book_state b) c.batch_name.result) book in
    let closed = c.close_commands.ensures
    ∙ ap (λ (n : Name). close_commands n) c.batch_name-2.ensures.name in
    all_three g.D.Disk old one two new
    run (in_turn measure_commands drawn (drawn_packs drawn (batch_name c.args.place)))
    (close_commands (batch_name c.args.place)) c.in_ok-last.last tt tt
    c.in_ok-last.last c.in_ok-last.ensures.asks
    (asks_same g.D.Disk (Ok tt) one two _ _
    (measured (stored_book old.store) (stored_book one.store) run _ _ _
    c.in_ok-last.ensures.asks.answered c.batch_name.ensures.name packs)
    c.in_ok-measure_packs.ensures.asks)
    (asks_same g.D.Disk (Ok tt) two new _ _ closed c.in_ok-ask_all.ensures.asks)
