use denote.Param.Send.{sendable}
use Rattle.std.proofs.Crossing as heap
use Rattle.turn_pass.proofs.pass.PassSeat.TheSendSync as seat
use Rattle.shared_book.proofs.Crossing.{shared_sync}
use Rattle.shared_book_tests.proofs.sessions.ask_at_once.Goals as goal

pub join-requires-send-F : goal.join-requires-send-F
join-requires-send-F g c κs =
    λ _. search (shared_sync, seat.the_send, heap.crosses, sendable) depth 60 fits 20000
    steps 20000000
