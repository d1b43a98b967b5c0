use Rattle.std.proofs.Common.{rules, ◌<◌, length, ◌∙◌, ap}
use Rattle.batch_paper.specs.Ranges.{is_pick_weighed}
use Rattle.batch_paper.proofs.picks.write_picks.Goals as goal

pub write_line-requires : goal.write_line-requires
write_line-requires c =
    let inside : c.loop-pack.pack-index < length c.args.packs.now = search rules in
    record {
      range = c.pick_line.ensures.right ∙ ap is_pick_weighed c.pick_of.ensures.value
          ∙ c.requires.range c.loop-pack.pack-index 0 inside;
    }
