use Rattle.std.proofs.Common.{rules, ◌≡◌, ◌+◌, [], ◌∷◌, ◌++◌, get_or, ◌∙◌, take, drop, Ok, ap, sym, take_all, arith}
use Rattle.std.proofs.lemmas.List.{take_more}
use Rattle.std.proofs.lemmas.Result.{err_from_is_err_and}
use Rattle.script_lines.specs.declared.command.Command.{Command}
use Rattle.trial_run.proofs.TrialNames.{list_parts}
use Rattle.trial_run.proofs.TrialSteps.{asks_nothing, asks_on, asks_same, stopped_behind}
use Rattle.trial_run.proofs.asking.ask_all.Goals as goal

pub loop-command-init : goal.loop-command-init
loop-command-init g c = asks_nothing g.D.Disk tt c.args.caller.now c.requires.calm

pub ask_one-requires : goal.ask_one-requires
ask_one-requires g c = record { calm = c.loop-command.invariant.calm }

pub returns-in_err-ask_one : goal.returns-in_err-ask_one
returns-in_err-ask_one g c =
    let p = err_from_is_err_and c.from_residual.result c.from_residual.ensures.1 in
    let all = c.args.commands.now in
    let place = c.loop-command.command-index in
    let command = c.command-item.result in
    let here : command ≡ get_or all place command = search rules in
    record {
      asks = rw (p.1, p.2) (stopped_behind g.D.Disk tt c.in_err-ask_one.field-0.0
          c.args.caller.now c.loop-command.caller c.ask_one.new.caller (take place all)
          (command ∷ []) (drop (place + 1) all) all
          (list_parts all place command c.loop-command-test.true
          ∙ ap (λ (x : Command). (take place all ++ x ∷ []) ++ drop (place + 1) all) (sym here))
          c.loop-command.invariant c.in_err-ask_one.ensures.asks);
    }

pub loop-command-preserved : goal.loop-command-preserved
loop-command-preserved g c =
    let all = c.args.commands.now in
    let place = c.loop-command.command-index in
    let command = c.command-item.result in
    let here : command ≡ get_or all place command = search rules in
    asks_same g.D.Disk (Ok tt) c.args.caller.now c.ask_one.new.caller _ (take (place + 1) all)
    (sym (take_more all place command c.loop-command-test.true
    ∙ ap (λ (x : Command). take place all ++ x ∷ []) (sym here)))
    (asks_on g.D.Disk tt (Ok tt) c.args.caller.now c.loop-command.caller c.ask_one.new.caller
    (take place all) (command ∷ []) c.loop-command.invariant c.in_ok-ask_one.ensures.asks)

pub returns : goal.returns
returns g c = record {
  asks = asks_same g.D.Disk (Ok tt) c.args.caller.now c.loop-command.caller _
      c.args.commands.now
      (take_all c.loop-command.command-index c.args.commands.now (omega arith))
      c.loop-command.invariant;
}
