use Rattle.std.proofs.Common.{rules, ◌≡◌, ◌≢◌, ◌+◌, List, AllPairs, length, map, true, refl, sym, ap, ◌∙◌, subst, arith}
use Rattle.session_history.proofs.HistoryLaws.{one_history}
use Rattle.session_history.specs.Histories.{OneHistory}
use Rattle.session_jobs.specs.declared.work.Work.{Work}
use Rattle.session_jobs.specs.Runs.{HaveRun}
use Rattle.session_jobs.specs.Works.{lane_site, door_site, number_of}
use Rattle.book_store.specs.Stores.{entries_of, limit_of, spare_of}
use Rattle.text_streams.specs.Streams.{output_at}
use Rattle.serve_run.specs.Jobs.{handed_back, handed_in, jobs_of}
use Rattle.serve_run.specs.Plans.{EndsPlan}
use Rattle.serve_run.specs.Rooms.{HasRoomFor}
use Rattle.serve_run.proofs.JobLists.{jobs_apart, jobs_made, jobs_many, nothing_ended, run_many}
use Rattle.serve_run.proofs.Serves.{runs_plan}
use Rattle.serve_run.proofs.serve.serve_plan.Goals as goal

pub run_jobs-end-requires-clause-apart : goal.run_jobs-end-requires-clause-apart
run_jobs-end-requires-clause-apart g c = λ κs _.
    let L = g.row.L.Denot in
    let O = g.row.O.Denot in
    let planned = c.args.prepared.lanes in
    let lanes = c.args.lanes.items in
    let doors = c.args.doors.items in
    let made = jobs_made L O planned c.as_slice.result.now lanes doors c.in-Ok.room.jobs.items
    c.push_lanes.new.jobs.items c.push_doors.new.jobs.items c.in-Ok.ensures.room.no_jobs
    c.as_slice.ensures c.push_lanes.ensures.jobs c.push_doors.ensures.jobs in
    subst (λ (ws : List (Work L O)). AllPairs (λ (v w : Work L O). number_of v ≢ number_of w) ws)
    (sym made) (jobs_apart L O planned lanes doors c.requires.numbered c.requires.distinct)

pub run_jobs-end-requires-clause-few : goal.run_jobs-end-requires-clause-few
run_jobs-end-requires-clause-few g c = λ κs _.
    let L = g.row.L.Denot in
    let O = g.row.O.Denot in
    let planned = c.args.prepared.lanes in
    let lanes = c.args.lanes.items in
    let doors = c.args.doors.items in
    let made = jobs_made L O planned c.as_slice.result.now lanes doors c.in-Ok.room.jobs.items
    c.push_lanes.new.jobs.items c.push_doors.new.jobs.items c.in-Ok.ensures.room.no_jobs
    c.as_slice.ensures c.push_lanes.ensures.jobs c.push_doors.ensures.jobs in
    omega (
      arith,
      ap length made,
      jobs_many L O planned lanes doors c.requires.lanes,
      c.requires.few_lanes,
      c.requires.few_doors,
    )

pub finish-requires-clause-few : goal.finish-requires-clause-few
finish-requires-clause-few g c =
    let L = g.row.L.Denot in
    let O = g.row.O.Denot in
    let planned = c.args.prepared.lanes in
    let lanes = c.args.lanes.items in
    let doors = c.args.doors.items in
    let made = jobs_made L O planned c.as_slice.result.now lanes doors c.in-Ok.room.jobs.items
    c.push_lanes.new.jobs.items c.push_doors.new.jobs.items c.in-Ok.ensures.room.no_jobs
    c.as_slice.ensures c.push_lanes.ensures.jobs c.push_doors.ensures.jobs in
    let few = jobs_many L O planned lanes doors c.requires.lanes in
    let lane_at = lane_site g.L.Cell g.L.Gate in
    let door_at = door_site g.O.Source g.O.Door in
    let ended = c.run_jobs-end.ensures in
    let end = c.run_jobs-end.result in
    let store = c.args.prepared.store in
    let ran = ended.ran c.if-end.true in
    let many = run_many L O lane_at door_at (limit_of store) (spare_of store) (entries_of store)
    (entries_of end.store) end.faults c.push_doors.new.jobs.items end.jobs.items ran in
    omega (arith, many, ap length made, few, c.requires.few_lanes, c.requires.few_doors)

pub finish-requires-clause-room : goal.finish-requires-clause-room
finish-requires-clause-room g c =
    let L = g.row.L.Denot in
    let O = g.row.O.Denot in
    let planned = c.args.prepared.lanes in
    let lanes = c.args.lanes.items in
    let doors = c.args.doors.items in
    let made = jobs_made L O planned c.as_slice.result.now lanes doors c.in-Ok.room.jobs.items
    c.push_lanes.new.jobs.items c.push_doors.new.jobs.items c.in-Ok.ensures.room.no_jobs
    c.as_slice.ensures c.push_lanes.ensures.jobs c.push_doors.ensures.jobs in
    let few = jobs_many L O planned lanes doors c.requires.lanes in
    let lane_at = lane_site g.L.Cell g.L.Gate in
    let door_at = door_site g.O.Source g.O.Door in
    let ended = c.run_jobs-end.ensures in
    let end = c.run_jobs-end.result in
    let store = c.args.prepared.store in
    let ran = ended.ran c.if-end.true in
    let many = run_many L O lane_at door_at (limit_of store) (spare_of store) (entries_of store)
    (entries_of end.store) end.faults c.push_doors.new.jobs.items end.jobs.items ran in
    let lanes_len : c.len.result ≡ length lanes = search rules in
    let doors_len : c.len-2.result ≡ length doors = search rules in
    let count : c.len.result + c.len-2.result ≡ length end.jobs.items =
    omega (arith, many, ap length made, few, lanes_len, doors_len) in
    subst (λ n. HasRoomFor n c.in-Ok.room.handed) count c.in-Ok.ensures.room.handed

pub give_back-requires-clause-room : goal.give_back-requires-clause-room
give_back-requires-clause-room g c =
    let L = g.row.L.Denot in
    let O = g.row.O.Denot in
    let planned = c.args.prepared.lanes in
    let lanes = c.args.lanes.items in
    let doors = c.args.doors.items in
    let made = jobs_made L O planned c.as_slice.result.now lanes doors c.in-Ok.room.jobs.items
    c.push_lanes.new.jobs.items c.push_doors.new.jobs.items c.in-Ok.ensures.room.no_jobs
    c.as_slice.ensures c.push_lanes.ensures.jobs c.push_doors.ensures.jobs in
    let few = jobs_many L O planned lanes doors c.requires.lanes in
    let end = c.run_jobs-end.result in
    let unbegun = c.run_jobs-end.ensures.unbegun c.if-end.false in
    let same = ap (λ jobs. length jobs.items) unbegun.jobs_left in
    let lanes_len : c.len.result ≡ length lanes = search rules in
    let doors_len : c.len-2.result ≡ length doors = search rules in
    let count : c.len.result + c.len-2.result ≡ length end.jobs.items =
    omega (arith, same, ap length made, few, lanes_len, doors_len) in
    subst (λ n. HasRoomFor n c.in-Ok.room.handed) count c.in-Ok.ensures.room.handed

pub returns-then-end : goal.returns-then-end
returns-then-end g c =
    let L = g.row.L.Denot in
    let O = g.row.O.Denot in
    let planned = c.args.prepared.lanes in
    let lanes = c.args.lanes.items in
    let doors = c.args.doors.items in
    let made = jobs_made L O planned c.as_slice.result.now lanes doors c.in-Ok.room.jobs.items
    c.push_lanes.new.jobs.items c.push_doors.new.jobs.items c.in-Ok.ensures.room.no_jobs
    c.as_slice.ensures c.push_lanes.ensures.jobs c.push_doors.ensures.jobs in
    let few = jobs_many L O planned lanes doors c.requires.lanes in
    let lane_at = lane_site g.L.Cell g.L.Gate in
    let door_at = door_site g.O.Source g.O.Door in
    let ended = c.run_jobs-end.ensures in
    let end = c.run_jobs-end.result in
    let store = c.args.prepared.store in
    let ran = ended.ran c.if-end.true in
    let many = run_many L O lane_at door_at (limit_of store) (spare_of store) (entries_of store)
    (entries_of end.store) end.faults c.push_doors.new.jobs.items end.jobs.items ran in
    let apart = jobs_apart L O planned lanes doors c.requires.numbered c.requires.distinct in
    let whole : HaveRun lane_at door_at (limit_of store) (spare_of store) (entries_of store)
    (entries_of end.store) end.faults (jobs_of planned lanes doors) end.jobs.items =
    subst (λ (ws : List (Work L O)). HaveRun lane_at door_at (limit_of store) (spare_of store)
    (entries_of store) (entries_of end.store) end.faults ws end.jobs.items) made ran in
    let history : OneHistory lane_at door_at (limit_of store) (spare_of store) (entries_of store)
    (entries_of end.store) end.faults (jobs_of planned lanes doors) end.jobs.items =
    one_history g.L.Cell g.L.Gate g.O.Source g.O.Door (limit_of store)
    (spare_of store) (entries_of store) (entries_of end.store) end.faults (jobs_of planned lanes doors)
    end.jobs.items apart whole ended.sound.legal in
    let before = output_at g.K.Sink c.args.output.now in
    let now = output_at g.K.Sink c.finish.new.output in
    let fin = c.finish.ensures.ends in
    record {
      ends = subst (λ stop. EndsPlan g.D.Disk lane_at door_at store planned (handed_in lanes doors)
          before now c.finish.result stop) (sym fin.stopped)
          (runs_plan g.D.Disk lane_at door_at store planned (handed_in lanes doors) before now
          c.finish.result end ended.held fin whole history
          ended.faults ended.settled ended.limit ended.kept ended.still);
    }

pub returns : goal.returns
returns g c =
    let L = g.row.L.Denot in
    let O = g.row.O.Denot in
    let planned = c.args.prepared.lanes in
    let lanes = c.args.lanes.items in
    let doors = c.args.doors.items in
    let made = jobs_made L O planned c.as_slice.result.now lanes doors c.in-Ok.room.jobs.items
    c.push_lanes.new.jobs.items c.push_doors.new.jobs.items c.in-Ok.ensures.room.no_jobs
    c.as_slice.ensures c.push_lanes.ensures.jobs c.push_doors.ensures.jobs in
    let few = jobs_many L O planned lanes doors c.requires.lanes in
    let lane_at = lane_site g.L.Cell g.L.Gate in
    let door_at = door_site g.O.Source g.O.Door in
    let store = c.args.prepared.store in
    let unbegun = c.run_jobs-end.ensures.unbegun c.if-end.false in
    let back = c.give_back.ensures in
    let output = output_at g.K.Sink c.args.output.now in
    record {
      ends = subst (λ stop. EndsPlan g.D.Disk lane_at door_at store planned (handed_in lanes doors)
          output output c.give_back.result stop) (sym back.stop)
          (record {
            why = refl;
            store_left = back.store ∙ unbegun.store_left;
            handed = back.handed ∙ (ap (λ jobs. handed_back jobs.items) unbegun.jobs_left
                ∙ (ap handed_back made ∙ nothing_ended L O planned lanes doors c.requires.lanes));
            silent = refl;
          });
    }
