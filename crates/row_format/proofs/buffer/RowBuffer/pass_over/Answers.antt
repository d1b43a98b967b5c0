use Rattle.std.proofs.Common.{rules, ap, ◌∙◌, replicate, ◌++◌}
use Rattle.row_format.proofs.FieldZeros.{filled_further, zeros_taken}
use Rattle.row_format.proofs.buffer.RowBuffer.pass_over.Goals as goal

-- src/buffer.rt:57:5
pub invariant_of-self : goal.invariant_of-self
invariant_of-self c = filled_further c.self.inside.place c.args.count c.self.inside.bytes
    c.self.invariant (search rules)

-- src/buffer.rt:57:5
pub returns : goal.returns
returns c =
    zeros_taken c.self.inside.place c.args.count c.self.inside.bytes c.self.invariant (search rules)
    ∙ ap (λ l. l ++ replicate c.args.count 0) c.self.view_is
