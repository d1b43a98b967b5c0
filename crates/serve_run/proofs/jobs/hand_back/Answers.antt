use Rattle.std.proofs.Common.{◌≡◌, ◌+◌, ◌∷◌, ◌++◌, List, [], length, Some, None, refl, sym, ap, ◌∙◌, subst, arith, append-nil}
use Rattle.std.specs.List.{filter_map}
use Rattle.std.specs.Vec.Iter.{into_iter_items, into_iter_len}
use Rattle.lane_worker.specs.declared.ending.LaneEnd.{LaneEnd}
use Rattle.office_door.specs.declared.ending.DoorEnd.{DoorEnd}
use Rattle.session_jobs.specs.declared.work.Work.{Work}
use Rattle.session_jobs.specs.declared.work.Work.TheVariants.{Lane, Door}
use Rattle.serve_run.specs.Jobs.{lane_of, lane_end_of, door_of, door_end_of}
use Rattle.serve_run.specs.Rooms.{HasRoomFor}
use Rattle.serve_run.proofs.MoveLemmas.{handed}
use Rattle.serve_run.proofs.jobs.hand_back.Goals as goal

pub loop-work-preserved-in-Lane : goal.loop-work-preserved-in-Lane
loop-work-preserved-in-Lane g c =
    let W : Type 0 = Work g.row.L.Denot g.row.O.Denot in
    let at = c.loop-work in
    let is = at.invariant in
    let job = c.in-Lane.job in
    let all : List W = c.args.jobs.items in
    let left : List W = into_iter_items at.rest in
    let rest : List W = into_iter_items c.next.new.self in
    let first : left ≡ Lane job ∷ rest = c.in-Some.ensures.items ∙ ap (λ (w : W). w ∷ rest) c.in-Lane.is in
    let gone : into_iter_len c.next.new.self + 1 ≡ into_iter_len at.rest = c.in-Some.ensures.len in
    let h = c.hand_lane.ensures in
    let now = c.hand_lane.new.handed in
    record {
      lanes = ap (λ (xs : List g.row.L.Denot). xs ++ filter_map lane_of rest) h.lane
          ∙ handed lane_of at.handed.lanes.items (filter_map lane_of all) left rest (Lane job)
          (Some job.lane) is.lanes first refl;
      lane_ends = ap (λ (xs : List LaneEnd). xs ++ filter_map lane_end_of rest) h.end
          ∙ handed lane_end_of at.handed.lane_ends.items (filter_map lane_end_of all) left rest
          (Lane job) job.end is.lane_ends first refl;
      doors = ap (λ (xs : List g.row.O.Denot). xs ++ filter_map door_of rest)
          (ap (λ v. v.items) h.rest.0 ∙ sym (append-nil at.handed.doors.items))
          ∙ handed door_of at.handed.doors.items (filter_map door_of all) left rest (Lane job)
          None is.doors first refl;
      door_ends = ap (λ (xs : List DoorEnd). xs ++ filter_map door_end_of rest)
          (ap (λ v. v.items) h.rest.1 ∙ sym (append-nil at.handed.door_ends.items))
          ∙ handed door_end_of at.handed.door_ends.items (filter_map door_end_of all) left rest
          (Lane job) None is.door_ends first refl;
      left = omega (arith, is.left, gone, ap length first);
      room = h.room (into_iter_len c.next.new.self)
          (subst (λ n. HasRoomFor n at.handed) (sym gone) is.room);
    }

pub loop-work-preserved : goal.loop-work-preserved
loop-work-preserved g c =
    let W : Type 0 = Work g.row.L.Denot g.row.O.Denot in
    let at = c.loop-work in
    let is = at.invariant in
    let job = c.in-Door.job in
    let all : List W = c.args.jobs.items in
    let left : List W = into_iter_items at.rest in
    let rest : List W = into_iter_items c.next.new.self in
    let first : left ≡ Door job ∷ rest = c.in-Some.ensures.items ∙ ap (λ (w : W). w ∷ rest) c.in-Door.is in
    let gone : into_iter_len c.next.new.self + 1 ≡ into_iter_len at.rest = c.in-Some.ensures.len in
    let h = c.hand_door.ensures in
    record {
      lanes = ap (λ (xs : List g.row.L.Denot). xs ++ filter_map lane_of rest)
          (ap (λ v. v.items) h.rest.0 ∙ sym (append-nil at.handed.lanes.items))
          ∙ handed lane_of at.handed.lanes.items (filter_map lane_of all) left rest (Door job)
          None is.lanes first refl;
      lane_ends = ap (λ (xs : List LaneEnd). xs ++ filter_map lane_end_of rest)
          (ap (λ v. v.items) h.rest.1 ∙ sym (append-nil at.handed.lane_ends.items))
          ∙ handed lane_end_of at.handed.lane_ends.items (filter_map lane_end_of all) left rest
          (Door job) None is.lane_ends first refl;
      doors = ap (λ (xs : List g.row.O.Denot). xs ++ filter_map door_of rest) h.door
          ∙ handed door_of at.handed.doors.items (filter_map door_of all) left rest (Door job)
          (Some job.door) is.doors first refl;
      door_ends = ap (λ (xs : List DoorEnd). xs ++ filter_map door_end_of rest) h.end
          ∙ handed door_end_of at.handed.door_ends.items (filter_map door_end_of all) left rest
          (Door job) job.end is.door_ends first refl;
      left = omega (arith, is.left, gone, ap length first);
      room = h.room (into_iter_len c.next.new.self)
          (subst (λ n. HasRoomFor n at.handed) (sym gone) is.room);
    }
