use Rattle.book_samples.proofs.PickCounts.{second_fits}
use Rattle.book_samples.proofs.drawing.draw_second.Goals as goal

pub draw_more-requires-clause-enough : goal.draw_more-requires-clause-enough
draw_more-requires-clause-enough c =
    rw (c.first.ensures, c.plan.ensures)
    (second_fits c.args.population.now c.args.sample.now c.requires.drawn.0 c.requires.drawn.1)
