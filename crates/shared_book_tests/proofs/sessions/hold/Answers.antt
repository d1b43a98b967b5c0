use Rattle.shared_book.specs.Passes.{IsPassOf}
use Rattle.shared_book_tests.proofs.Opening.{all_both, two_more}
use Rattle.shared_book_tests.proofs.sessions.hold.Goals as goal

pub close-store-requires-clause-ends : goal.close-store-requires-clause-ends
close-store-requires-clause-ends g c =
    all_both c.args.seats.ends.items c.push_reserved.new.self.items
    c.push_reserved-2.new.self.items c.ask_at_once-one.result.0.0 c.ask_at_once-one.result.1.0
    c.requires.room.0 c.push_reserved.ensures.items c.push_reserved-2.ensures.items
    (IsPassOf g.N.Session) c.ask_at_once-one.ensures.first c.ask_at_once-one.ensures.second

pub close-store-requires-clause-all_rows : goal.close-store-requires-clause-all_rows
close-store-requires-clause-all_rows g c =
    two_more c.args.seats.ends.items c.push_reserved.new.self.items
    c.push_reserved-2.new.self.items c.ask_at_once-one.result.0.0 c.ask_at_once-one.result.1.0
    c.requires.room.0 c.push_reserved.ensures.items c.push_reserved-2.ensures.items
    g.A.Ledger.parts c.requires.parts.0

pub close-store-requires-clause-all_faults : goal.close-store-requires-clause-all_faults
close-store-requires-clause-all_faults g c =
    two_more c.args.seats.ends.items c.push_reserved.new.self.items
    c.push_reserved-2.new.self.items c.ask_at_once-one.result.0.0 c.ask_at_once-one.result.1.0
    c.requires.room.0 c.push_reserved.ensures.items c.push_reserved-2.ensures.items
    g.B.Ledger.parts c.requires.parts.1
