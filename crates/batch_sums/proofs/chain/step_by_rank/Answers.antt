use Rattle.batch_sums.proofs.chain.step_by_rank.Goals as goal

pub links_at-requires : goal.links_at-requires
links_at-requires c = (c.requires.0, (c.links_at-links.ensures c.requires.0 c.requires.1).skip)
