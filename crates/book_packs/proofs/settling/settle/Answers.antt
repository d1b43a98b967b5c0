use Rattle.std.proofs.Common.{sym, ◌∙◌}
use Rattle.book_packs.proofs.AddedNumbers.{leaving_is_added}
use Rattle.book_packs.proofs.settling.settle.Goals as goal

pub shift-requires : goal.shift-requires
shift-requires c = leaving_is_added c.args.unsettled c.args.prior c.args.sums.now.packs
    c.in-Some.pack (sym c.leaving.ensures ∙ c.in-Some.is)
