use Rattle.paper_form.proofs.PiecesBetween.{first_part}
use Rattle.paper_form.proofs.fields.first_field.Goals as goal

pub returns : goal.returns
returns c = rw (c.split_at.ensures.front, c.split_at.ensures.back, c.length_of_field.ensures.value)
    (first_part c.args.text.now)
