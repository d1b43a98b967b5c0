use Rattle.std.proofs.Common.{sym, ap, ◌∙◌}
use Rattle.office_wire.specs.HeadSize.{empty_line_size}
use Rattle.office_wire.proofs.HeadSizes.{none_here}
use Rattle.office_wire.proofs.head_size.lines_size.Goals as goal

pub loop-place-preserved : goal.loop-place-preserved
loop-place-preserved c = c.loop-place.invariant
    ∙ none_here c.args.bytes.now c.loop-place.place c.loop-place-test.true
    (ap empty_line_size (sym c.split_at.ensures.back)
    ∙ sym c.empty_line_size.ensures.value ∙ c.in_default.is)
