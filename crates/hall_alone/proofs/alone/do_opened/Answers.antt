use Rattle.std.proofs.Common.{inl, inr, refl, sym, ◌∙◌, true≢false}
use Rattle.command_line.specs.Taken.{seen}
use Rattle.hall_alone.specs.Calls.{ExplainsCommand}
use Rattle.text_streams.specs.Streams.{output_at}
use Rattle.script_run.specs.Outside.{devices, outside_at, nothing_told}
use Rattle.hall_alone.proofs.OpenedBooks.{call_from, is_opened, lanes_rest, is_unopened}
use Rattle.hall_alone.proofs.alone.do_opened.Goals as goal

pub returns-in-Ok-clause-ends : goal.returns-in-Ok-clause-ends
returns-in-Ok-clause-ends g c =
    let before = devices g.S.Source c.args.input.now
    (outside_at g.K.Sink g.L.Cell g.L.Gate c.args.output.now c.args.lanes.now nothing_told) in
    let now = devices g.S.Source c.do_command.new.input
    (outside_at g.K.Sink g.L.Cell g.L.Gate c.do_command.new.output c.do_command.new.lanes
    c.do_command.result.log.told) in
    inl (is_opened g.D.Disk g.met.D.Disk.counts_now c.args.wanted.now.limit
    (ExplainsCommand (seen c.args.wanted.now)) c.args.disk c.in-Ok.store c.do_command.result
    (call_from before now c.do_command.result.rows)
    c.in-Ok.ensures.limit c.in-Ok.ensures.count c.in-Ok.ensures.calm c.in-Ok.ensures.cause
    c.in-Ok.ensures.opened c.in-Ok.ensures.held c.in-Ok.ensures.unwritten
    c.do_command.ensures.done)

pub returns-in-Err-clause-ends : goal.returns-in-Err-clause-ends
returns-in-Err-clause-ends g c =
    let before = devices g.S.Source c.args.input.now
    (outside_at g.K.Sink g.L.Cell g.L.Gate c.args.output.now c.args.lanes.now nothing_told) in
    let here = outside_at g.K.Sink g.L.Cell g.L.Gate c.args.output.now c.args.lanes.now
    nothing_told in
    let now = devices g.S.Source c.args.input.now
    (outside_at g.K.Sink g.L.Cell g.L.Gate c.args.output.now c.args.lanes.now
    c.leave_unopened.result.log.told) in
    let l = c.leave_unopened.ensures in
    inr (inl record {
      unopened = is_unopened g.D.Disk c.args.disk c.in-Err.refused.disk c.in-Err.refused.why
          c.leave_unopened.result (call_from before now c.leave_unopened.result.rows)
          c.in-Err.ensures.cause c.in-Err.ensures.held refl
          (lanes_rest here (output_at g.K.Sink c.args.output.now)
          c.leave_unopened.result.log.told l.log) l.rows l.disk l.held l.ending;
      unaudited = λ audit. absurd (true≢false (sym audit ∙ c.requires.unaudited));
    })

pub mount-requires-clause-least : goal.mount-requires-clause-least
mount-requires-clause-least g c = c.requires.range.least

pub mount-requires-clause-most : goal.mount-requires-clause-most
mount-requires-clause-most g c = c.requires.range.most
