use Rattle.std.proofs.Common.{sym, subst}
use Rattle.text_streams.specs.Streams.{input_at}
use Rattle.serve_run.specs.Preparing.{IsUnpreparedFor}
use Rattle.serve_run.proofs.Serves.{planless}
use Rattle.serve_run.proofs.prepare.prepare.Goals as goal

pub returns-in-Err-clause-unprepared : goal.returns-in-Err-clause-unprepared
returns-in-Err-clause-unprepared g c =
    subst (λ stop. IsUnpreparedFor g.D.Disk c.args.store c.args.lanes
    (input_at g.S.Source c.args.input.now) (input_at g.S.Source c.read_whole_plan.new.input)
    (record { store = c.args.store; stop = stop })) (sym c.unplanned_stop.ensures)
    (planless g.D.Disk c.args.store c.args.lanes (input_at g.S.Source c.args.input.now)
    (input_at g.S.Source c.read_whole_plan.new.input) c.in-Err.why c.in-Err.ensures.none)
