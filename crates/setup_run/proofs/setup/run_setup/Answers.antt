use Rattle.std.proofs.Common.{Ok, sym, ap, ◌∙◌, subst}
use Rattle.std.specs.Bool.{⊤}
use Rattle.book_store.specs.declared.store.Store.{Store}
use Rattle.book_store.specs.Callers.{CallerView}
use Rattle.book_store.specs.Stores.{entries_of}
use Rattle.script_lines.specs.Script.{commands_of}
use Rattle.store_runs.specs.Books.{BookState, stored_book}
use Rattle.store_runs.specs.Runs.{Goes}
use Rattle.script_events.proofs.CommandsInTurn.{are_answered}
use Rattle.setup_run.specs.Setups.{setup_lines, after_lines}
use Rattle.setup_run.proofs.setup.run_setup.Goals as goal

pub returns-in-Ok-clause-done : goal.returns-in-Ok-clause-done
returns-in-Ok-clause-done g c =
    let lines = setup_lines c.args.setup.now in
    record {
      good = c.in-Ok.ensures.good;
      answered = are_answered (stored_book c.args.store) (commands_of lines)
          (entries_of c.back.result)
          (ap (λ (s : Store _). entries_of s) c.back.ensures.store
          ∙ ap (λ (b : BookState). b.entries) c.in-Ok.ensures.after
          ∙ ap (λ (k : CallerView _). (after_lines (stored_book k.store) lines).entries)
          c.new-caller.ensures);
    }

pub returns-in-Ok-clause-goes : goal.returns-in-Ok-clause-goes
returns-in-Ok-clause-goes g c =
    subst (λ (s : Store _). Goes {T = ⊤} g.D.Disk (Ok tt) s c.back.result)
    (ap (λ (k : CallerView _). k.store) c.new-caller.ensures)
    (subst (λ (s : Store _). Goes {T = ⊤} g.D.Disk (Ok tt) c.new-caller.result.store s)
    (sym c.back.ensures.store) c.in-Ok.ensures.goes)
