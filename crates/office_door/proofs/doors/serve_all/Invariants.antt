use Rattle.std.proofs.Common.{◌*◌, ◌≤◌, vec_capacity}
use Rattle.office_responses.specs.declared.replies.TheConstants.{REPLY_ROOM}
use Rattle.office_door.specs.declared.limits.TheConstants.{MAX_REQUESTS}
use Rattle.office_door.specs.Doors.{site}
use Rattle.office_door.specs.Steps.{IsOpen}
use Rattle.office_door.proofs.doors.serve_all.Given as goal

-- the door has served as many connections as turns were made
abbrev pub invariant-loop-turn : goal.invariant-loop-turn
invariant-loop-turn g l = record {
  room : REPLY_ROOM ≤ vec_capacity l.buffers.reply;
  served : l.tally.served ≤ l._turn * MAX_REQUESTS;
  links : l.tally.links ≤ l._turn;
  serves : IsOpen (g.C.Caller.later l.fn.caller l.caller)
      (site g.C.Caller g.O.Source g.O.Door l.fn.caller l.fn.door)
      (site g.C.Caller g.O.Source g.O.Door l.caller l.door) l._turn l.tally;
}
