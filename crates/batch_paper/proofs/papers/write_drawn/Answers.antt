use Rattle.batch_paper.proofs.PaperRanges.{picks_weighed}
use Rattle.batch_paper.proofs.papers.write_drawn.Goals as goal

pub write_picks-requires-clause-range : goal.write_picks-requires-clause-range
write_picks-requires-clause-range c =
    picks_weighed c.args.state.now.entries c.mode-mode.result c.as_slice.result.now c.requires.legal

pub write_picks-requires-2-clause-range : goal.write_picks-requires-2-clause-range
write_picks-requires-2-clause-range c =
    picks_weighed c.args.state.now.entries c.mode-mode.result c.second_slice.result.now
    c.requires.legal
