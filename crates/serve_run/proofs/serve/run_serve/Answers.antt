use Rattle.std.proofs.Common.{rules, ◌≡◌, List, All, length, refl, sym, ap, ◌∙◌, subst}
use Rattle.book_store.specs.declared.store.Store.{Store}
use Rattle.book_store.specs.Stores.{disk_of, entries_of}
use Rattle.hall_plan.specs.declared.types.PlannedLane.{PlannedLane}
use Rattle.hall_plan.specs.Limits.{IsNumbered}
use Rattle.session_jobs.specs.Works.{lane_site, door_site}
use Rattle.store_runs.specs.Books.{stored_book}
use Rattle.text_streams.specs.Streams.{input_at, output_at}
use Rattle.serve_run.specs.Jobs.{handed_in}
use Rattle.serve_run.specs.Keeping.{ServeGoes}
use Rattle.serve_run.specs.Plans.{end_handed}
use Rattle.serve_run.specs.Preparing.{IsPreparedFor, IsUnpreparedFor, WhyUnprepared}
use Rattle.serve_run.specs.Serving.{moment}
use Rattle.serve_run.proofs.Serves.{explains_early, explains_jobs, goes_jobs}
use Rattle.serve_run.proofs.serve.run_serve.Goals as goal

pub serve_plan-requires-clause-numbered : goal.serve_plan-requires-clause-numbered
serve_plan-requires-clause-numbered g c = λ κs _.
    let is = c.in-Ok.ensures.prepared in
    subst (λ (ps : List PlannedLane). All IsNumbered ps) (sym is.set_up.lanes) is.limits.numbered

pub returns-in-Ok : goal.returns-in-Ok
returns-in-Ok g c =
    let lane_at = lane_site g.L.Cell g.L.Gate in
    let door_at = door_site g.O.Source g.O.Door in
    let given = handed_in c.args.lanes.items c.args.doors.items in
    let before = input_at g.S.Source c.args.input.now in
    let now = input_at g.S.Source c.prepare.new.input in
    let count : c.len.result ≡ length c.args.lanes.items = search rules in
    let prepared = c.in-Ok.prepared in
    let is : IsPreparedFor g.D.Disk c.args.store (length c.args.lanes.items) before now prepared =
    subst (λ n. IsPreparedFor g.D.Disk c.args.store n before now prepared) count
    c.in-Ok.ensures.prepared in
    let out_before = output_at g.K.Sink c.args.output.now in
    let out_now = output_at g.K.Sink c.serve_plan.new.output in
    let end = c.serve_plan.result in
    record {
      explained = explains_jobs lane_at door_at g.D.Disk c.args.store given before now prepared is
          out_before out_now end end.stop c.serve_plan.ensures.ends;
      goes = goes_jobs lane_at door_at g.D.Disk c.args.store given before now prepared is
          out_before out_now end end.stop c.serve_plan.ensures.ends;
    }

pub returns-in-Err : goal.returns-in-Err
returns-in-Err g c =
    let lane_at = lane_site g.L.Cell g.L.Gate in
    let door_at = door_site g.O.Source g.O.Door in
    let given = handed_in c.args.lanes.items c.args.doors.items in
    let before = input_at g.S.Source c.args.input.now in
    let now = input_at g.S.Source c.prepare.new.input in
    let count : c.len.result ≡ length c.args.lanes.items = search rules in
    let early = c.in-Err.early in
    let is : IsUnpreparedFor g.D.Disk c.args.store (length c.args.lanes.items) before now early =
    subst (λ n. IsUnpreparedFor g.D.Disk c.args.store n before now early) count
    c.in-Err.ensures.unprepared in
    let output = output_at g.K.Sink c.args.output.now in
    let end = c.end_early.result in
    let ended = c.end_early.ensures in
    let book = stored_book c.args.store in
    let count_lanes = length c.args.lanes.items in
    let why : WhyUnprepared book count_lanes before now (entries_of end.store) end.stop =
    subst (λ (s : Store g.row.D.Denot). WhyUnprepared book count_lanes before now (entries_of s)
    end.stop) (sym ended.store)
    (subst (λ stop. WhyUnprepared book count_lanes before now (entries_of early.store) stop)
    (sym ended.stop) is.why) in
    record {
      explained = explains_early lane_at door_at book
          (moment before output (g.D.Disk.faults (disk_of c.args.store)) given)
          (moment now output (g.D.Disk.faults (disk_of end.store)) (end_handed end))
          (entries_of end.store) end.stop refl ended.handed why;
      goes = subst (λ (s : Store g.row.D.Denot). ServeGoes g.D.Disk c.args.store s end.stop)
          (sym ended.store)
          (subst (λ stop. ServeGoes g.D.Disk c.args.store early.store stop) (sym ended.stop)
          is.goes);
    }
