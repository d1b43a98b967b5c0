use Rattle.std.proofs.Common.{◌≡◌, ◌*◌, Ok, Err, ap, ◌∙◌}
use Rattle.std.proofs.lemmas.Result.{err_from_is_err_and}
use Rattle.book_words.specs.declared.name.Name.{Name}
use Rattle.trial_run.specs.declared.commands.TheConstants.{BATCH_PACKS}
use Rattle.trial_run.specs.TrialScripts.{batch_name, word_behind, open_commands, weighings, packs_of_batch, end_commands}
use Rattle.trial_run.proofs.TrialSteps.{asks_same, first_of_three, second_of_three, third_of_three, all_three}
use Rattle.trial_run.proofs.batches.fill_batch.Goals as goal

pub weigh_packs-requires : goal.weigh_packs-requires
weigh_packs-requires g c = record { calm = c.in_ok-ask_all.ensures.asks.calm }

pub ask_all-requires-2 : goal.ask_all-requires-2
ask_all-requires-2 g c = record { calm = c.in_ok-last.ensures.asks.calm }

pub returns-in_err-ask_all-clause-asks : goal.returns-in_err-ask_all-clause-asks
returns-in_err-ask_all-clause-asks g c =
    let p = err_from_is_err_and c.from_residual.result c.from_residual.ensures.1 in
    let batch = c.batch_name-batch.ensures.name in
    let opening = c.open_commands.ensures ∙ ap (λ (n : Name). open_commands n) batch in
    let stop = c.in_err-ask_all.field-0.0 in
    let old = c.args.caller.now in
    let new = c.ask_all.new.caller in
    rw (p.1, p.2) (first_of_three g.D.Disk old new new new
    (open_commands (batch_name c.args.place))
    (weighings (word_behind c.args.number (c.args.place * BATCH_PACKS))
    (packs_of_batch c.args.count c.args.place))
    (end_commands c.args.number (batch_name c.args.place)) stop
    (asks_same g.D.Disk (Err stop) old new _ _ opening c.in_err-ask_all.ensures.asks))

pub returns-in_err-last-clause-asks : goal.returns-in_err-last-clause-asks
returns-in_err-last-clause-asks g c =
    let p = err_from_is_err_and c.from_residual-in_err-last.result
    c.from_residual-in_err-last.ensures.1 in
    let batch = c.batch_name-batch.ensures.name in
    let opening = c.open_commands.ensures ∙ ap (λ (n : Name). open_commands n) batch in
    let weighed : weighings c.args.word c.packs_of_batch.result
    ≡ weighings (word_behind c.args.number (c.args.place * BATCH_PACKS))
    (packs_of_batch c.args.count c.args.place) =
    λ i. weighings (c.requires.word i) (c.packs_of_batch.ensures i) in
    let stop = c.in_err-last.field-0.0 in
    let old = c.args.caller.now in
    let one = c.ask_all.new.caller in
    let new = c.weigh_packs.new.caller in
    rw (p.1, p.2) (second_of_three g.D.Disk old one new new
    (open_commands (batch_name c.args.place))
    (weighings (word_behind c.args.number (c.args.place * BATCH_PACKS))
    (packs_of_batch c.args.count c.args.place))
    (end_commands c.args.number (batch_name c.args.place)) tt stop
    (asks_same g.D.Disk (Ok tt) old one _ _ opening c.in_ok-ask_all.ensures.asks)
    (asks_same g.D.Disk (Err stop) one new _ _ weighed c.in_err-last.ensures.asks))

pub returns-in_err-ask_all-2-clause-asks : goal.returns-in_err-ask_all-2-clause-asks
returns-in_err-ask_all-2-clause-asks g c =
    let p = err_from_is_err_and c.from_residual-in_err-ask_all-2.result
    c.from_residual-in_err-ask_all-2.ensures.1 in
    let batch = c.batch_name-batch.ensures.name in
    let opening = c.open_commands.ensures ∙ ap (λ (n : Name). open_commands n) batch in
    let weighed : weighings c.args.word c.packs_of_batch.result
    ≡ weighings (word_behind c.args.number (c.args.place * BATCH_PACKS))
    (packs_of_batch c.args.count c.args.place) =
    λ i. weighings (c.requires.word i) (c.packs_of_batch.ensures i) in
    let ending = c.end_commands.ensures ∙ ap (λ (n : Name). end_commands c.args.number n) batch in
    let stop = c.in_err-ask_all-2.field-0.0 in
    let old = c.args.caller.now in
    let one = c.ask_all.new.caller in
    let two = c.weigh_packs.new.caller in
    let new = c.ask_all-2.new.caller in
    rw (p.1, p.2) (third_of_three g.D.Disk old one two new
    (open_commands (batch_name c.args.place))
    (weighings (word_behind c.args.number (c.args.place * BATCH_PACKS))
    (packs_of_batch c.args.count c.args.place))
    (end_commands c.args.number (batch_name c.args.place)) tt c.in_ok-last.last stop
    (asks_same g.D.Disk (Ok tt) old one _ _ opening c.in_ok-ask_all.ensures.asks)
    (asks_same g.D.Disk (Ok c.in_ok-last.last) one two _ _ weighed c.in_ok-last.ensures.asks)
    (asks_same g.D.Disk (Err stop) two new _ _ ending c.in_err-ask_all-2.ensures.asks))

pub returns-clause-word : goal.returns-clause-word
returns-clause-word g c =
    c.in_ok-last.ensures.word ∙ ap (word_behind c.args.word) c.packs_of_batch.ensures

pub returns-clause-asks : goal.returns-clause-asks
returns-clause-asks g c =
    let batch = c.batch_name-batch.ensures.name in
    let opening = c.open_commands.ensures ∙ ap (λ (n : Name). open_commands n) batch in
    let weighed : weighings c.args.word c.packs_of_batch.result
    ≡ weighings (word_behind c.args.number (c.args.place * BATCH_PACKS))
    (packs_of_batch c.args.count c.args.place) =
    λ i. weighings (c.requires.word i) (c.packs_of_batch.ensures i) in
    let ending = c.end_commands.ensures ∙ ap (λ (n : Name). end_commands c.args.number n) batch in
    let old = c.args.caller.now in
    let one = c.ask_all.new.caller in
    let two = c.weigh_packs.new.caller in
    let new = c.ask_all-2.new.caller in
    all_three g.D.Disk old one two new (open_commands (batch_name c.args.place))
    (weighings (word_behind c.args.number (c.args.place * BATCH_PACKS))
    (packs_of_batch c.args.count c.args.place))
    (end_commands c.args.number (batch_name c.args.place))
    tt c.in_ok-last.last tt c.in_ok-last.last
    (asks_same g.D.Disk (Ok tt) old one _ _ opening c.in_ok-ask_all.ensures.asks)
    (asks_same g.D.Disk (Ok c.in_ok-last.last) one two _ _ weighed c.in_ok-last.ensures.asks)
    (asks_same g.D.Disk (Ok tt) two new _ _ ending c.in_ok-ask_all-2.ensures.asks)
