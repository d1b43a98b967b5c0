use Rattle.std.proofs.Common.{refl}
use Rattle.text_streams.specs.Streams.{output_at}
use Rattle.standby_hall.proofs.PageSteps.{put_more}
use Rattle.standby_hall.proofs.page.Page.put.Goals as goal

pub returns-clause-goes : goal.returns-clause-goes
returns-clause-goes g c = λ start text put.
    let now = output_at g.K.Sink c.make_room.new.sink in
    put_more start now now c.make_room.new.self text
    (c.in_ok-make_room.ensures.goes start text put) c.push.new.self c.args.bytes.now refl
    c.push.ensures.sent c.push.ensures.waits
