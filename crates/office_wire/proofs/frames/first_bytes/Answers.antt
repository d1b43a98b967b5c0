use Rattle.std.proofs.Common.{sym, take_all}
use Rattle.office_wire.specs.declared.limits.TheConstants.{MAX_HEAD}
use Rattle.office_wire.proofs.frames.first_bytes.Goals as goal

pub returns-then-buffer-le-MAX_HEAD : goal.returns-then-buffer-le-MAX_HEAD
returns-then-buffer-le-MAX_HEAD c =
    sym (take_all MAX_HEAD c.args.buffer.now c.if-buffer-le-MAX_HEAD.true)
