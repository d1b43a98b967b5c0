use Rattle.std.proofs.Common.{rules, length}
use Rattle.row_format.proofs.FieldZeros.{filled_behind}
use Rattle.row_format.proofs.buffer.RowBuffer.push.Goals as goal

-- src/buffer.rt:47:5
pub invariant_of-self : goal.invariant_of-self
invariant_of-self c =
    filled_behind c.self.inside.place
    (length c.args.field.now) c.self.inside.bytes c.copy_from_slice.new.self c.self.invariant
    (search rules) (search rules) (search rules)
