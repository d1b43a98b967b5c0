use Rattle.std.proofs.Common.{sym, ◌∙◌}
use Rattle.book_packs.proofs.AddedNumbers.{picked_is_added}
use Rattle.book_packs.proofs.settling.sample_one.Goals as goal

pub shift-requires : goal.shift-requires
shift-requires c = picked_is_added c.args.batch c.args.pick c.args.sums.now.packs c.in-Some.pack
    (sym c.pick_of.ensures ∙ c.in-Some.is)
