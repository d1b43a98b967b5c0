use Rattle.std.proofs.Common.{◌∙◌, ap, w64}
use Rattle.std.proofs.lemmas.Int.{to_z-of_z}
use Rattle.book_words.specs.Refusals.{gross_range}
use Rattle.book_rules.proofs.Chains.{five_told}
use Rattle.book_rules.proofs.rules.refuse_weighing.Goals as goal

pub returns : goal.returns
returns c =
    rw (c.or-4.ensures, c.or-3.ensures, c.or-2.ensures, c.or.ensures)
    (five_told c.day_unset.ensures c.lane_number.ensures
    (c.lane_idle.ensures c.args.state.now.entries c.args.lane c.requires)
    (c.gross_range.ensures ∙ ap gross_range (to_z-of_z w64 c.args.gross c.ranges.gross))
    (c.prior_wrong.ensures c.args.state.now.entries c.args.lane c.requires))
