use Rattle.std.proofs.Common.{◌∙◌, ap}
use Rattle.script_lines.specs.Lines.{has_end}
use Rattle.script_lines.proofs.FirstEnds.{no_end_before, no_end_at_all, parts_at}
use Rattle.script_lines.proofs.feed.split_line.Goals as goal

pub returns-in_default : goal.returns-in_default
returns-in_default c = no_end_at_all c.args.bytes.now c.in_default.ensures

pub returns : goal.returns
returns c =
    let found = c.in-Some.ensures in
    let bytes = c.args.bytes.now in (
      parts_at bytes _ _ c.in-Some.end found.0.high found.1 c.split_at.ensures.front c.split_at.ensures.back,
      ap has_end c.split_at.ensures.front ∙ no_end_before bytes c.in-Some.end found.0.before,
    )
