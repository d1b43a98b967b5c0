use Rattle.std.proofs.Common.{◌∙◌, ap, w64}
use Rattle.std.proofs.lemmas.Int.{to_z-of_z}
use Rattle.book_words.specs.Refusals.{gross_range, empty_range}
use Rattle.book_rules.proofs.Chains.{seven_told}
use Rattle.book_rules.proofs.rules.refuse_measurement.Goals as goal

pub returns : goal.returns
returns c =
    rw (c.or-6.ensures, c.or-5.ensures, c.or-4.ensures, c.or-3.ensures, c.or-2.ensures, c.or.ensures)
    (seven_told c.day_unset.ensures c.pack_state.ensures
    (c.gross_range.ensures ∙ ap gross_range (to_z-of_z w64 c.args.gross c.ranges.gross))
    (c.empty_range.ensures ∙ ap (empty_range c.args.state.now.entries c.args.pack)
    (to_z-of_z w64 c.args.empty c.ranges.empty)) c.pack_unknown.ensures c.pack_pile.ensures
    c.measured_already.ensures)
