use Rattle.std.proofs.Common.{arith}
use Rattle.paper_form.specs.Papers.{is_line_end}
use Rattle.paper_form.proofs.PiecesBetween.{split_none, split_place, behind_first}
use Rattle.paper_form.proofs.fields.split_line.Goals as goal

pub returns-in_default-clause-pieces : goal.returns-in_default-clause-pieces
returns-in_default-clause-pieces c =
    split_none is_line_end c.args.bytes.now
    (λ k within. c.in_default.ensures k (omega arith) within)

pub returns-clause-pieces : goal.returns-clause-pieces
returns-clause-pieces c =
    let bytes = c.args.bytes.now in
    let found = c.in-Some.ensures in
    rw (
      c.split_at.ensures.front,
      behind_first c.in-Some.end bytes c.split_at.result.1.now
          found.0.high c.split_at.ensures.back,
    )
    (split_place is_line_end bytes c.in-Some.end
    (λ k before. found.0.before k (omega arith) before) found.0.high found.1)
