use Rattle.std.proofs.Common.{◌≤◌, length, sym, ◌∙◌, ap, arith, length-append}
use Rattle.std.proofs.lemmas.Result.{err_from_is_err_and}
use Rattle.office_wire.specs.declared.limits.TheConstants.{REQUEST_ROOM}
use Rattle.office_door.specs.Doors.{port}
use Rattle.office_door.proofs.FrameEnds.{wants, ends_with_none}
use Rattle.office_door.proofs.HeldBytes.{reads_less}
use Rattle.office_door.proofs.HeardBytes.{heard_read}
use Rattle.office_door.proofs.finding.next_request.Goals as goal

pub returns-in-Nothing-clause-found : goal.returns-in-Nothing-clause-found
returns-in-Nothing-clause-found g c =
    ends_with_none c.reading.held.bytes c.reading.held.ended c.in-Nothing.ensures

pub read_from-requires-clause-unended : goal.read_from-requires-clause-unended
read_from-requires-clause-unended g c =
    let wanted = wants c.reading.held.bytes c.reading.held.ended c.in-More.ensures in
    sym c.reading.invariant.known ∙ wanted.unended

pub read_from-requires-clause-known : goal.read_from-requires-clause-known
read_from-requires-clause-known g c =
    let wanted = wants c.reading.held.bytes c.reading.held.ended c.in-More.ensures in
    wanted.unended

pub read_from-requires-clause-room : goal.read_from-requires-clause-room
read_from-requires-clause-room g c =
    let wanted = wants c.reading.held.bytes c.reading.held.ended c.in-More.ensures in
    wanted.room

pub returns-in_err-read_from-in-More-clause-found :
    goal.returns-in_err-read_from-in-More-clause-found
returns-in_err-read_from-in-More-clause-found g c =
    let p = err_from_is_err_and c.from_residual.result c.from_residual.ensures.1 in
    let wanted = wants c.reading.held.bytes c.reading.held.ended c.in-More.ensures in
    rw (p.1, c.in_err-read_from-in-More.ensures.unended) (wanted.more, wanted.unended)

pub returns-in_err-read_from-in-More-clause-heard :
    goal.returns-in_err-read_from-in-More-clause-heard
returns-in_err-read_from-in-More-clause-heard g c = λ start exchanges written heard.
    let wanted = wants c.reading.held.bytes c.reading.held.ended c.in-More.ensures in
    heard_read start (port g.O.Source g.O.Door c.reading.door)
    (port g.O.Source g.O.Door c.read_from.new.door) exchanges written c.reading.held
    c.read_from.new.self (sym c.reading.invariant.known ∙ wanted.unended) c.read_from.ensures.reads
    (c.reading.invariant.heard start exchanges written heard)

pub reading-preserved : goal.reading-preserved
reading-preserved g c =
    let wanted = wants c.reading.held.bytes c.reading.held.ended c.in-More.ensures in
    record {
      known = sym c.read_from.ensures.reads.ended;
      calm = c.in_ok-read_from-in-More.ensures.cause ∙ c.reading.invariant.calm;
      missed = c.read_from.ensures.missed ∙ c.reading.invariant.missed;
      heard = λ start exchanges written heard.
          heard_read start (port g.O.Source g.O.Door c.reading.door)
          (port g.O.Source g.O.Door c.read_from.new.door) exchanges written
          c.reading.held c.read_from.new.self
          (sym c.reading.invariant.known ∙ wanted.unended) c.read_from.ensures.reads
          (c.reading.invariant.heard start exchanges written heard);
    }

pub reading-smaller : goal.reading-smaller
reading-smaller g c =
    let wanted = wants c.reading.held.bytes c.reading.held.ended c.in-More.ensures in
    let reads = c.read_from.ensures.reads in
    let kept : length c.reading.held.bytes ≤ length c.read_from.new.self.bytes =
    omega (arith, ap length reads.held, length-append c.reading.held.bytes reads.bytes) in
    reads_less REQUEST_ROOM (length c.reading.held.bytes) (length c.read_from.new.self.bytes)
    c.reading.held.ended c.read_from.new.self.ended wanted.unended kept
    c.in_ok-read_from-in-More.ensures.grows wanted.room
