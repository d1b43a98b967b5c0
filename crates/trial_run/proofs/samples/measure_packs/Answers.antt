use Rattle.std.proofs.Common.{take, drop, Ok, ap, take_all, arith, ◌+◌}
use Rattle.std.proofs.lemmas.List.{take_more}
use Rattle.std.proofs.lemmas.Result.{err_from_is_err_and}
use Rattle.store_runs.specs.Books.{stored_book}
use Rattle.trial_run.specs.TrialScripts.{in_turn, measure_commands}
use Rattle.trial_run.proofs.TrialNames.{list_parts}
use Rattle.trial_run.proofs.TrialSteps.{asks_nothing, asks_same, turn_on, turn_stopped}
use Rattle.trial_run.proofs.samples.measure_packs.Goals as goal

pub loop-pack-init : goal.loop-pack-init
loop-pack-init g c = asks_nothing g.D.Disk tt c.args.caller.now c.requires.calm

pub measure_pack-requires : goal.measure_pack-requires
measure_pack-requires g c = record { calm = c.loop-pack.invariant.calm }

pub returns-in_err-measure_pack : goal.returns-in_err-measure_pack
returns-in_err-measure_pack g c =
    let p = err_from_is_err_and c.from_residual.result c.from_residual.ensures.1 in
    let all = c.args.packs.now in
    let place = c.loop-pack.pack-index in
    record {
      asks = rw (p.1, p.2) (turn_stopped g.D.Disk measure_commands c.args.caller.now tt
          c.in_err-measure_pack.field-0.0 c.loop-pack.caller c.measure_pack.new.caller
          (take place all) (drop (place + 1) all) all _
          (list_parts all place 0 c.loop-pack-test.true) c.loop-pack.invariant
          c.in_err-measure_pack.ensures.asks);
    }

pub loop-pack-preserved : goal.loop-pack-preserved
loop-pack-preserved g c =
    let all = c.args.packs.now in
    let place = c.loop-pack.pack-index in
    turn_on g.D.Disk measure_commands c.args.caller.now tt tt tt c.loop-pack.caller
    c.measure_pack.new.caller (take place all) (take (place + 1) all) _
    (take_more all place 0 c.loop-pack-test.true) c.loop-pack.invariant
    c.in_ok-measure_pack.ensures.asks

pub returns : goal.returns
returns g c =
    let book = stored_book c.args.caller.now.store in
    record {
      asks = asks_same g.D.Disk (Ok tt) c.args.caller.now c.loop-pack.caller _ _
          (ap (in_turn measure_commands book)
          (take_all c.loop-pack.pack-index c.args.packs.now (omega arith)))
          c.loop-pack.invariant;
    }
