use Rattle.std.proofs.Common.{◌∙◌}
use Rattle.paper_form.proofs.PiecesBetween.{over_is}
use Rattle.paper_form.proofs.fields.is_over.Goals as goal

pub returns : goal.returns
returns c = c.is_empty.ensures ∙ over_is c.args.left.now
