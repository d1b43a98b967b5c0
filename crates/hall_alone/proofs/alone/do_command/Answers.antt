use Rattle.std.proofs.Common.{List, sym, subst, refl}
use Rattle.book_words.specs.declared.act.Entry.{Entry}
use Rattle.script_run.specs.Outside.{devices, outside_at, nothing_told}
use Rattle.command_line.specs.Taken.{seen}
use Rattle.store_runs.specs.Books.{stored_book}
use Rattle.hall_alone.specs.Calls.{ExplainsCommand}
use Rattle.hall_alone.proofs.OpenedBooks.{call_from}
use Rattle.hall_alone.proofs.alone.do_command.Goals as goal

pub returns-clause-done : goal.returns-clause-done
returns-clause-done g c =
    let before = devices g.S.Source c.args.input.now
    (outside_at g.K.Sink g.L.Cell g.L.Gate c.args.output.now c.args.lanes.now nothing_told) in
    let now = devices g.S.Source c.run_command-end.new.input
    (outside_at g.K.Sink g.L.Cell g.L.Gate c.run_command-end.new.output c.run_command-end.new.lanes
    c.run_command-end.result.log.told) in
    record {
      last = c.run_command-end.result.store;
      stop = c.run_command-end.result.stop;
      ending = refl;
      disk_left = c.close-disk.ensures.disk;
      rows = c.close-disk.ensures.rows;
      held = c.len-held.ensures;
      goes = c.run_command-end.ensures.goes;
      explained = subst (λ (es : List Entry). ExplainsCommand (seen c.args.wanted.now)
          (stored_book c.args.store) (call_from before now es) c.run_command-end.result.stop)
          (sym c.close-disk.ensures.rows) c.run_command-end.ensures.explained;
    }
