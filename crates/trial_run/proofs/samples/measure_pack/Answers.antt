use Rattle.std.proofs.Common.{[], Option, Ok, sym, ap, ◌∙◌}
use Rattle.std.specs.List.{cons_option}
use Rattle.script_lines.specs.declared.command.Command.{Command}
use Rattle.book_core.specs.View.{BookView}
use Rattle.book_store.specs.declared.store.Store.{Store}
use Rattle.book_store.specs.Stores.{book_of}
use Rattle.store_runs.specs.Books.{stored_book}
use Rattle.trial_run.specs.TrialScripts.{measure_at, measure_commands}
use Rattle.trial_run.proofs.TrialSteps.{asks_nothing, asks_same}
use Rattle.trial_run.proofs.samples.measure_pack.Goals as goal

pub returns-in-Some : goal.returns-in-Some
returns-in-Some g c =
    let book = c.book.ensures ∙ ap (λ (s : Store _). book_of s) c.store.ensures.store in
    let is = sym (c.measure_at.ensures
    ∙ ap (λ (b : BookView). measure_at b.entries c.args.pack) book) ∙ c.in-Some.is in
    record {
      asks = asks_same g.D.Disk c.ask_one.result c.args.caller.now c.ask_one.new.caller _
          (measure_commands (stored_book c.args.caller.now.store) c.args.pack)
          (ap (λ (o : Option Command). cons_option o []) (sym is)) c.ask_one.ensures.asks;
    }

pub returns-in-None : goal.returns-in-None
returns-in-None g c =
    let book = c.book.ensures ∙ ap (λ (s : Store _). book_of s) c.store.ensures.store in
    let is = sym (c.measure_at.ensures
    ∙ ap (λ (b : BookView). measure_at b.entries c.args.pack) book) ∙ c.in-None.is in
    record {
      asks = asks_same g.D.Disk (Ok tt) c.args.caller.now c.args.caller.now []
          (measure_commands (stored_book c.args.caller.now.store) c.args.pack)
          (ap (λ (o : Option Command). cons_option o []) (sym is))
          (asks_nothing g.D.Disk tt c.args.caller.now c.requires.calm);
    }
