use Rattle.std.proofs.Common.{◌≡◌, ◌-◌, ◌<◌, ◌≤◌, vec_capacity}
use Rattle.office_responses.specs.declared.replies.TheConstants.{REPLY_ROOM}
use Rattle.office_door.specs.declared.limits.TheConstants.{MAX_REQUESTS}
use Rattle.office_door.specs.Doors.{site}
use Rattle.office_door.specs.Steps.{IsServing}
use Rattle.office_door.proofs.connections.serve_connection.Given as goal

-- the connection goes on since it began
abbrev pub invariant-serving : goal.invariant-serving
invariant-serving g l = record {
  room : REPLY_ROOM ≤ vec_capacity l.buffers.reply;
  known : l.buffers.held.ended ≡ g.O.Source.ended l.door;
  few : l.served < MAX_REQUESTS;
  missed : g.O.Door.missed l.door ≡ g.O.Door.missed l.fn.door;
  serving : IsServing (g.C.Caller.later l.fn.caller l.caller)
      (site g.C.Caller g.O.Source g.O.Door l.fn.caller l.fn.door)
      (site g.C.Caller g.O.Source g.O.Door l.caller l.door)
      l.buffers.held.bytes l.served;
}

-- each request is one of those that a connection may have
abbrev pub decreases-serving : goal.decreases-serving
decreases-serving g l = MAX_REQUESTS - l.served
