use Rattle.std.proofs.Common.{inl, inr, refl, sym, ap, subst}
use Rattle.serve_run.specs.Works.{lane_site, door_site}
use Rattle.text_streams.specs.Streams.{input_at, output_at}
use Rattle.hall_alone.specs.Outside.{call, devices, outside_at, nothing_told, all_said}
use Rattle.serve_run.specs.Jobs.{handed_in}
use Rattle.hall_alone.specs.declared.ended.Ended.{Ended}
use Rattle.call_endings.specs.declared.ending.Ending.TheVariants.{Served}
use Rattle.hall_alone.specs.Calls.{IsUnopened, Leaves, LeavesOutcome}
use Rattle.hall_top.specs.Serving.{EndsServe}
use Rattle.call_endings.proofs.EndingLemmas.{status_named, serve_not_two}
use Rattle.hall_alone.proofs.OpenedBooks.{call_from, lanes_rest, is_unopened}
use Rattle.hall_top.proofs.ServedBooks.{is_served}
use Rattle.hall_top.proofs.serving.serve.Goals as goal

pub returns-in-Ok-clause-serves : goal.returns-in-Ok-clause-serves
unfolding EndsServe
returns-in-Ok-clause-serves g c =
    let laws = g.met.D.Disk g.world.𝓛 g.world.𝓜 g.world.𝓡 ((λ s x. x), (λ x. x), (λ x. x), λ x. x) in
    inl (is_served g.D.Disk laws.counts_now (lane_site g.L.Cell g.L.Gate)
    (door_site g.O.Source g.O.Door) c.args.limit c.args.disk c.in-Ok.store
    (input_at g.S.Source c.args.input.now) (output_at g.K.Sink c.args.output.now)
    (handed_in c.args.lanes.items c.args.doors.items)
    (input_at g.S.Source c.serve_store.new.input) (output_at g.K.Sink c.serve_store.new.output)
    c.serve_store.result c.in-Ok.ensures.limit c.in-Ok.ensures.count c.in-Ok.ensures.calm
    c.in-Ok.ensures.cause c.in-Ok.ensures.opened c.in-Ok.ensures.held c.in-Ok.ensures.unwritten
    c.serve_store.ensures.done)

pub returns-in-Ok-clause-status : goal.returns-in-Ok-clause-status
returns-in-Ok-clause-status g c =
    let done = c.serve_store.ensures.done in
    let now = output_at g.K.Sink c.serve_store.new.output in
    let ended = c.serve_store.result in (
      status_named (Served done.stop) (all_said ended.lane_ends) ended.door_ends done.said now
          ended.status done.last,
      serve_not_two done.stop (all_said ended.lane_ends) ended.door_ends done.said now
          ended.status done.last,
    )

pub returns-in-Err-clause-serves : goal.returns-in-Err-clause-serves
unfolding EndsServe Leaves
returns-in-Err-clause-serves g c =
    let outcome = c.leave_unopened-outcome.result in
    let l = c.leave_unopened-outcome.ensures in
    let here = outside_at g.K.Sink g.L.Cell g.L.Gate c.args.output.now c.args.lanes.items
    nothing_told in
    let before = devices g.S.Source c.args.input.now here in
    let now = devices g.S.Source c.args.input.now
    (outside_at g.K.Sink g.L.Cell g.L.Gate c.args.output.now c.args.lanes.items
    outcome.log.told) in
    inr (
      subst
          (λ (e : Ended _ _ _). LeavesOutcome (IsUnopened g.D.Disk c.args.disk) e
          (call g.S.Source c.args.input.now c.args.input.now here
          (outside_at g.K.Sink g.L.Cell g.L.Gate c.end_call.new.output e.lanes.items
          (all_said e.lane_ends)) e.rows)) (sym c.end_call.ensures.ended)
          (record {
            outcome = outcome;
            said = output_at g.K.Sink c.args.output.now;
            disk_left = refl;
            held = refl;
            rows = refl;
            ends = refl;
            no_doors = refl;
            holds = is_unopened g.D.Disk c.args.disk c.in-Err.refused.disk c.in-Err.refused.why
                outcome (call_from before now outcome.rows) c.in-Err.ensures.cause
                c.in-Err.ensures.held refl
                (lanes_rest here (output_at g.K.Sink c.args.output.now) outcome.log.told l.log)
                l.rows l.disk l.held l.ending;
            last = c.end_call.ensures.last;
          }),
      ap (λ (e : Ended _ _ _). e.doors) c.end_call.ensures.ended,
    )
