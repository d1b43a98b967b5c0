use Rattle.std.proofs.Common.{arith}
use Rattle.paper_form.specs.Papers.{is_pick_in_range}
use Rattle.paper_form.specs.Drafts.{data_of}
use Rattle.paper_check.specs.Judging.{contents_of_pick, contents_of_picks}
use Rattle.paper_check.proofs.Lookups.{passes_at}
use Rattle.paper_check.proofs.Gathered.{gathered_more, gathered_all}
use Rattle.paper_check.proofs.contents.contents_of_picks.Goals as goal

pub contents_of_pick-requires-clause-range : goal.contents_of_pick-requires-clause-range
contents_of_pick-requires-clause-range c =
    passes_at is_pick_in_range c.args.picks.now c.loop-pick.pick-index _ c.requires.range
    c.loop-pick-test.true

pub loop-pick-preserved : goal.loop-pick-preserved
loop-pick-preserved c =
    let here = c.loop-pick in
    let paper = data_of c.args.paper.now in (
      gathered_more (contents_of_pick paper c.args.mode) c.args.picks.now here.pick-index _
          here.masses.items _ (contents_of_picks paper c.args.mode c.args.picks.now)
          c.contents_of_pick.result c.loop-pick-test.true c.contents_of_pick.ensures.value
          c.in_ok-push_mass.ensures.added here.invariant.0,
      c.in_ok-push_mass.ensures.range,
      omega (arith, c.in_ok-push_mass.ensures.few, here.invariant.2),
    )

pub returns-clause-value : goal.returns-clause-value
returns-clause-value c =
    let here = c.loop-pick in
    let paper = data_of c.args.paper.now in
    gathered_all (contents_of_pick paper c.args.mode) c.args.picks.now here.pick-index
    here.masses.items (contents_of_picks paper c.args.mode c.args.picks.now) c.loop-pick-test.false
    here.invariant.0

pub returns-clause-few : goal.returns-clause-few
returns-clause-few c = omega (arith, c.loop-pick.invariant.2, c.loop-pick.auto.pick-index-end)
