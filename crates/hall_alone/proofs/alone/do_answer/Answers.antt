use Rattle.std.proofs.Common.{refl, sym, ◌∙◌, None, Some, ◌≡◌}
use Rattle.command_line.specs.Taken.{seen}
use Rattle.text_streams.specs.Streams.{output_at}
use Rattle.script_run.specs.Outside.{devices, outside_at, nothing_told}
use Rattle.hall_alone.proofs.CommandLemmas.{ends_otherwise, same_wanted}
use Rattle.hall_alone.proofs.OpenedBooks.{call_from, lanes_rest}
use Rattle.hall_alone.proofs.WordsRead.{read_ok, refused_right, refused_ends}
use Rattle.hall_alone.proofs.alone.do_answer.Goals as goal

pub returns-in-Ok-clause-words : goal.returns-in-Ok-clause-words
returns-in-Ok-clause-words g c = λ asked read.
    let before = devices g.S.Source c.args.input.now
    (outside_at g.K.Sink g.L.Cell g.L.Gate c.args.output.now c.args.lanes.now nothing_told) in
    let now = devices g.S.Source c.do_wanted.new.input
    (outside_at g.K.Sink g.L.Cell g.L.Gate c.do_wanted.new.output c.do_wanted.new.lanes
    c.do_wanted.result.log.told) in (
      (λ usage. absurd (ends_otherwise g.D.Disk (seen c.in-Ok.wanted) c.args.disk
          c.do_wanted.result (call_from before now c.do_wanted.result.rows)
          c.do_wanted.ensures.ends usage)),
      (λ none. absurd (let clash : None ≡ Some (seen c.in-Ok.wanted) =
          sym none ∙ read_ok asked c.args.answer c.in-Ok.wanted read c.in-Ok.is in cc)),
    )

pub returns-in-Ok-clause-ends : goal.returns-in-Ok-clause-ends
returns-in-Ok-clause-ends g c = λ asked wanted read asks.
    let before = devices g.S.Source c.args.input.now
    (outside_at g.K.Sink g.L.Cell g.L.Gate c.args.output.now c.args.lanes.now nothing_told) in
    let now = devices g.S.Source c.do_wanted.new.input
    (outside_at g.K.Sink g.L.Cell g.L.Gate c.do_wanted.new.output c.do_wanted.new.lanes
    c.do_wanted.result.log.told) in
    same_wanted g.D.Disk asked (seen c.in-Ok.wanted) wanted c.args.disk c.do_wanted.result
    (call_from before now c.do_wanted.result.rows)
    (read_ok asked c.args.answer c.in-Ok.wanted read c.in-Ok.is) asks c.do_wanted.ensures.ends

pub returns-in-Err-clause-words : goal.returns-in-Err-clause-words
returns-in-Err-clause-words g c = λ asked read.
    refused_right asked c.args.answer c.in-Err.why c.leave_unopened.result.ending read c.in-Err.is
    (c.leave_unopened.ensures.ending ∙ c.refused_as.ensures)

pub returns-in-Err-clause-usage : goal.returns-in-Err-clause-usage
returns-in-Err-clause-usage g c = λ usage.
    let here = outside_at g.K.Sink g.L.Cell g.L.Gate c.args.output.now c.args.lanes.now
    nothing_told in
    let l = c.leave_unopened.ensures in
    record {
      ending = usage;
      same = l.disk;
      nothing = record {
        unread = refl;
        quiet = lanes_rest here (output_at g.K.Sink c.args.output.now)
            c.leave_unopened.result.log.told l.log;
        none = l.rows;
      };
      none = l.held;
    }

pub returns-in-Err-clause-ends : goal.returns-in-Err-clause-ends
returns-in-Err-clause-ends g c = λ asked wanted read asks.
    let here = outside_at g.K.Sink g.L.Cell g.L.Gate c.args.output.now c.args.lanes.now
    nothing_told in
    let before = devices g.S.Source c.args.input.now here in
    let now = devices g.S.Source c.args.input.now
    (outside_at g.K.Sink g.L.Cell g.L.Gate c.args.output.now c.args.lanes.now
    c.leave_unopened.result.log.told) in
    let l = c.leave_unopened.ensures in
    refused_ends g.D.Disk asked wanted c.args.answer c.in-Err.why c.args.disk
    c.leave_unopened.result (call_from before now c.leave_unopened.result.rows) read asks c.in-Err.is
    (l.ending ∙ c.refused_as.ensures) l.disk l.held refl
    (lanes_rest here (output_at g.K.Sink c.args.output.now) c.leave_unopened.result.log.told l.log)
    l.rows
