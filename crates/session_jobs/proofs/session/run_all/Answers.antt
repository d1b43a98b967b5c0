use denote.Param.Send.{sendable}
use Rattle.std.proofs.Common.{slice_index_or, subst}
use Rattle.std.proofs.Crossing as heap
use Rattle.shared_book.proofs.Crossing.{shared_sync}
use Rattle.session_jobs.specs.Jobs.{IsRun}
use Rattle.session_jobs.specs.Works.{lane_site, door_site}
use Rattle.session_jobs.proofs.RunLemmas.{zip_all}
use Rattle.session_jobs.proofs.session.run_all.Goals as goal

pub for_each_mut-requires-sync-F : goal.for_each_mut-requires-sync-F
for_each_mut-requires-sync-F g c κs =
    λ _. search (shared_sync, heap.sync, heap.crosses, sendable) depth 60 fits 20000 steps 20000000

pub returns : goal.returns
returns g c =
    let lane_at = lane_site g.L.Cell g.L.Gate in
    let door_at = door_site g.O.Source g.O.Door in
    record {
      run = zip_all (IsRun g.N.Session lane_at door_at) c.args.jobs.now c.for_each_mut.new.s
          c.for_each_mut.auto.s
          (λ i d less. let changed = (c.for_each_mut.ensures i d less).1 in
          let met : IsRun g.N.Session lane_at door_at changed.argument.now changed.after_call.now =
          changed.call in
          subst (λ j. IsRun g.N.Session lane_at door_at j (slice_index_or c.for_each_mut.new.s i d))
          changed.argument_is
          (subst (λ j. IsRun g.N.Session lane_at door_at changed.argument.now j) changed.left met));
    }
