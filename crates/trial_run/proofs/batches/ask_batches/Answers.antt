use Rattle.std.proofs.Common.{◌≡◌, ◌+◌, ◌*◌, ◌<◌, min, Ok, ap, ◌∙◌, arith}
use Rattle.std.specs.Int.{div_ceil}
use Rattle.std.specs.List.{range_with_len}
use Rattle.std.proofs.lemmas.Result.{err_from_is_err_and}
use Rattle.store_runs.specs.Books.{stored_book}
use Rattle.trial_run.specs.declared.commands.TheConstants.{BATCH_PACKS}
use Rattle.trial_run.specs.TrialScripts.{word_behind, batch_commands, batch_places, in_turn}
use Rattle.trial_run.proofs.TrialNames.{places-more, places_parts, begun_at, word-batch}
use Rattle.trial_run.proofs.TrialSteps.{asks_nothing, asks_same, turn_on, turn_stopped}
use Rattle.trial_run.proofs.batches.ask_batches.Goals as goal

pub loop-place-init : goal.loop-place-init
loop-place-init g c =
    let none : 0 ≡ min (0 * BATCH_PACKS) c.args.count = omega arith in
    record {
      word = ap (word_behind c.args.number) none;
      asks = asks_nothing g.D.Disk tt c.args.caller.now c.requires.calm;
    }

pub ask_batch-requires-clause-calm : goal.ask_batch-requires-clause-calm
ask_batch-requires-clause-calm g c = c.loop-place.invariant.asks.calm

pub ask_batch-requires-clause-begun : goal.ask_batch-requires-clause-begun
ask_batch-requires-clause-begun g c =
    let less : c.loop-place.place < div_ceil c.args.count BATCH_PACKS =
    omega (arith, c.loop-place-test.true, c.div_ceil-place-end.ensures) in
    begun_at c.args.count c.loop-place.place less

pub ask_batch-requires-clause-word : goal.ask_batch-requires-clause-word
ask_batch-requires-clause-word g c =
    let less : c.loop-place.place < div_ceil c.args.count BATCH_PACKS =
    omega (arith, c.loop-place-test.true, c.div_ceil-place-end.ensures) in
    let begun = begun_at c.args.count c.loop-place.place less in
    let first : min (c.loop-place.place * BATCH_PACKS) c.args.count
    ≡ c.loop-place.place * BATCH_PACKS = omega (arith, begun) in
    c.loop-place.invariant.word ∙ ap (word_behind c.args.number) first

pub returns-in_err-word : goal.returns-in_err-word
returns-in_err-word g c =
    let p = err_from_is_err_and c.from_residual.result c.from_residual.ensures.1 in
    let less : c.loop-place.place < div_ceil c.args.count BATCH_PACKS =
    omega (arith, c.loop-place-test.true, c.div_ceil-place-end.ensures) in
    let place = c.loop-place.place in
    record {
      asks = rw (p.1, p.2) (turn_stopped g.D.Disk (batch_commands c.args.number c.args.count)
          c.args.caller.now tt c.in_err-word.field-0.0 c.loop-place.caller
          c.ask_batch.new.caller (range_with_len 0 place) _ (batch_places c.args.count) place
          (places_parts (div_ceil c.args.count BATCH_PACKS) place less)
          c.loop-place.invariant.asks c.in_err-word.ensures.asks);
    }

pub loop-place-preserved : goal.loop-place-preserved
loop-place-preserved g c =
    let less : c.loop-place.place < div_ceil c.args.count BATCH_PACKS =
    omega (arith, c.loop-place-test.true, c.div_ceil-place-end.ensures) in
    let place = c.loop-place.place in
    record {
      word = word-batch c.args.number c.args.count place c.loop-place.word c.in_ok-word.word
          (begun_at c.args.count place less) c.loop-place.invariant.word
          c.in_ok-word.ensures.word;
      asks = turn_on g.D.Disk (batch_commands c.args.number c.args.count) c.args.caller.now tt
          c.in_ok-word.word tt c.loop-place.caller c.ask_batch.new.caller
          (range_with_len 0 place) (range_with_len 0 (place + 1)) place (places-more place)
          c.loop-place.invariant.asks c.in_ok-word.ensures.asks;
    }

pub returns : goal.returns
returns g c =
    let all : c.loop-place.place ≡ div_ceil c.args.count BATCH_PACKS =
    omega (arith, c.div_ceil-place-end.ensures) in
    record {
      asks = asks_same g.D.Disk (Ok tt) c.args.caller.now c.loop-place.caller _ _
          (ap (λ n. in_turn (batch_commands c.args.number c.args.count)
          (stored_book c.args.caller.now.store) (range_with_len 0 n)) all)
          c.loop-place.invariant.asks;
    }
