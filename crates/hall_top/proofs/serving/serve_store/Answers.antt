use Rattle.std.proofs.Common.{List, subst}
use Rattle.lane_worker.specs.declared.ending.LaneEnd.{LaneEnd}
use Rattle.office_door.specs.declared.ending.DoorEnd.{DoorEnd}
use Rattle.text_streams.specs.Streams.{output_at}
use Rattle.hall_alone.specs.Outside.{all_said}
use Rattle.call_endings.specs.declared.ending.Ending.TheVariants.{Served}
use Rattle.call_endings.specs.Endings.{SaysLast}
use Rattle.hall_top.proofs.serving.serve_store.Goals as goal

pub returns-clause-done : goal.returns-clause-done
returns-clause-done g c =
    let end = c.run_serve-end.result in
    let said = output_at g.K.Sink c.run_serve-end.new.output in
    let now = output_at g.K.Sink c.say_last-status.new.output in
    let status = c.say_last-status.result in
    record {
      left = end.store;
      stop = end.stop;
      said = said;
      disk_left = c.close-disk.ensures.disk;
      rows = c.close-disk.ensures.rows;
      held = c.len-held.ensures;
      explained = c.run_serve-end.ensures.explained;
      goes = c.run_serve-end.ensures.goes;
      last = subst (λ (ends : List LaneEnd). SaysLast (Served end.stop) (all_said ends) end.door_ends
          said now status) c.as_slice.ensures
          (subst (λ (ends : List DoorEnd). SaysLast (Served end.stop)
          (all_said c.as_slice.result.now) ends said now status) c.as_slice-2.ensures
          c.say_last-status.ensures);
    }
