use Rattle.std.proofs.Common.{◌≡◌, ◌+◌, [], ◌∷◌, ◌++◌, drop, Ok, refl, sym, ap, ◌∙◌, arith}
use Rattle.std.proofs.lemmas.Result.{err_from_is_err_and}
use Rattle.script_lines.specs.declared.command.Command.{Command}
use Rattle.trial_run.specs.TrialScripts.{word_behind, gross_by, weighing, weighings}
use Rattle.trial_run.proofs.TrialNames.{word-next, weighings-more, weighings_parts}
use Rattle.trial_run.proofs.TrialSteps.{asks_nothing, asks_on, asks_with, asks_same, stopped_behind}
use Rattle.trial_run.proofs.batches.weigh_packs.Goals as goal

pub loop-place-init : goal.loop-place-init
loop-place-init g c = record {
  word = refl;
  asks = asks_nothing g.D.Disk tt c.args.caller.now c.requires.calm;
}

pub ask_one-requires : goal.ask_one-requires
ask_one-requires g c = record { calm = c.loop-place.invariant.asks.calm }

pub returns-in_err-ask_one-clause-asks : goal.returns-in_err-ask_one-clause-asks
returns-in_err-ask_one-clause-asks g c =
    let p = err_from_is_err_and c.from_residual.result c.from_residual.ensures.1 in
    let word = c.args.word in
    let place = c.loop-place.place in
    let next = c.following-last.ensures
    ∙ word-next word c.loop-place.last place c.loop-place.invariant.word in
    let command = c.weighing.ensures ∙ ap (λ w. weighing place (gross_by w)) next in
    rw (p.1, p.2) (stopped_behind g.D.Disk tt c.in_err-ask_one.field-0.0 c.args.caller.now
    c.loop-place.caller c.ask_one.new.caller (weighings word place) _
    (drop (place + 1) (weighings word c.args.packs)) (weighings word c.args.packs)
    (weighings_parts word c.args.packs place c.loop-place-test.true
    ∙ ap (λ (k : Command). (weighings word place ++ k ∷ [])
    ++ drop (place + 1) (weighings word c.args.packs)) (sym command))
    c.loop-place.invariant.asks c.in_err-ask_one.ensures.asks)

pub loop-place-preserved : goal.loop-place-preserved
loop-place-preserved g c =
    let word = c.args.word in
    let place = c.loop-place.place in
    let next = c.following-last.ensures
    ∙ word-next word c.loop-place.last place c.loop-place.invariant.word in
    let command = c.weighing.ensures ∙ ap (λ w. weighing place (gross_by w)) next in
    record {
      word = next;
      asks = asks_same g.D.Disk (Ok tt) c.args.caller.now c.ask_one.new.caller _
          (weighings word (place + 1))
          (ap (λ (k : Command). weighings word place ++ k ∷ []) command
          ∙ sym (weighings-more word place))
          (asks_on g.D.Disk tt (Ok tt) c.args.caller.now c.loop-place.caller
          c.ask_one.new.caller (weighings word place) _ c.loop-place.invariant.asks
          c.in_ok-ask_one.ensures.asks);
    }

pub returns-clause-word : goal.returns-clause-word
returns-clause-word g c =
    let all : c.loop-place.place ≡ c.args.packs = omega arith in
    c.loop-place.invariant.word ∙ ap (word_behind c.args.word) all

pub returns-clause-asks : goal.returns-clause-asks
returns-clause-asks g c =
    let all : c.loop-place.place ≡ c.args.packs = omega arith in
    asks_with g.D.Disk tt c.loop-place.last c.args.caller.now c.loop-place.caller _
    (asks_same g.D.Disk (Ok tt) c.args.caller.now c.loop-place.caller _ _
    (ap (weighings c.args.word) all) c.loop-place.invariant.asks)
