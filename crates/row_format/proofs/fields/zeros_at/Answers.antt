use Rattle.std.proofs.Common.{◌+◌, ◌∙◌}
use Rattle.std.specs.List.{slice_range}
use Rattle.row_format.proofs.Loops.{zero_more, zero_wrong, zero_last}
use Rattle.row_format.proofs.fields.zeros_at.Goals as goal

pub returns-then-byte-ne0 : goal.returns-then-byte-ne0
returns-then-byte-ne0 c =
    zero_wrong c.args.place c.loop-behind.behind
    (slice_range c.args.bytes.now c.args.place (c.args.place + c.args.count))
    c.loop-behind-test.true c.if-byte-ne0.true ∙ c.loop-behind.invariant

pub loop-behind-preserved : goal.loop-behind-preserved
loop-behind-preserved c =
    zero_more c.args.place c.loop-behind.behind
    (slice_range c.args.bytes.now c.args.place (c.args.place + c.args.count))
    c.loop-behind-test.true c.if-byte-ne0.false ∙ c.loop-behind.invariant

pub returns : goal.returns
returns c =
    zero_last c.args.place c.loop-behind.behind
    (slice_range c.args.bytes.now c.args.place (c.args.place + c.args.count))
    c.loop-behind-test.false ∙ c.loop-behind.invariant
