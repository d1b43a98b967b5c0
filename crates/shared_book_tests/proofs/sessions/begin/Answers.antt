use Rattle.std.proofs.Common.{refl, ◌∙◌}
use Rattle.shared_book.proofs.SessionLemmas.{begins_named}
use Rattle.shared_book.specs.Sessions.{session_of}
use Rattle.shared_book_tests.proofs.Opening.{first_pass, new_seat, second_pass}
use Rattle.shared_book_tests.proofs.sessions.begin.Goals as goal

pub hold-requires-clause-begins : goal.hold-requires-clause-begins
hold-requires-clause-begins g c =
    λ κs _. begins_named g.D.Disk c.in-Ok-begin.turn.table c.args.store c.requires.calm

pub hold-requires-clause-turn : goal.hold-requires-clause-turn
hold-requires-clause-turn g c = λ κs _. record {
  same_table = refl;
  behind = c.in-Ok-begin.ensures.turn ∙ c.len.ensures;
}

pub hold-requires-clause-seat : goal.hold-requires-clause-seat
hold-requires-clause-seat g c = λ κs _.
    new_seat (session_of g.D.Disk c.in-Ok-begin.turn.table c.args.store) c.in-Ok-begin.turn
    c.args.rows.parts c.args.faults.parts c.in-Ok-begin.seat c.pass-first.new.self
    c.pass-second.new.self c.in-Ok-begin.ensures.book c.pass-first.ensures.book
    c.pass-second.ensures.book refl (c.in-Ok-begin.ensures.turn ∙ c.len.ensures)
    c.requires.rows.2 c.requires.faults.2

pub hold-requires-clause-first : goal.hold-requires-clause-first
hold-requires-clause-first g c = λ κs _.
    first_pass (session_of g.D.Disk c.in-Ok-begin.turn.table c.args.store) c.in-Ok-begin.turn
    c.args.rows.parts c.args.faults.parts c.in-Ok-begin.seat c.pass-first.new.self
    c.pass-second.new.self c.in-Ok-begin.ensures.book c.pass-first.ensures.book
    c.pass-second.ensures.book refl (c.in-Ok-begin.ensures.turn ∙ c.len.ensures)
    c.pass-first.result c.pass-first.ensures.pass

pub hold-requires-clause-second : goal.hold-requires-clause-second
hold-requires-clause-second g c = λ κs _.
    second_pass (session_of g.D.Disk c.in-Ok-begin.turn.table c.args.store) c.in-Ok-begin.turn
    c.args.rows.parts c.args.faults.parts c.in-Ok-begin.seat c.pass-first.new.self
    c.pass-second.new.self c.in-Ok-begin.ensures.book c.pass-first.ensures.book
    c.pass-second.ensures.book refl (c.in-Ok-begin.ensures.turn ∙ c.len.ensures)
    c.pass-second.result c.pass-second.ensures.pass
