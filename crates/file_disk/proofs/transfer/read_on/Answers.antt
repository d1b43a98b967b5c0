use Rattle.std.proofs.Common.{rules, ◌≡◌, ◌+◌, ◌-◌, length}
use Rattle.file_disk.proofs.BufferPieces.{read_ended}
use Rattle.file_disk.proofs.transfer.read_on.Goals as goal

pub returns-clause-end : goal.returns-clause-end
returns-clause-end g c bytes told =
    let from : c.in-Some.from ≡ c.args.place + c.args.done = search rules in
    let room : length c.read_once.new.into ≡ length c.args.into.now - c.args.done = search rules in
    read_ended c.read_once.result bytes c.args.into.now c.read_once.new.into c.in-Some.from
    c.args.place c.args.done from room (c.read_once.ensures.end bytes told)
