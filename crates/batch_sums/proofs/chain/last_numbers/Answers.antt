use Rattle.std.proofs.Common.{◌<◌, ◌∙◌, arith}
use Rattle.batch_sums.proofs.ChainSteps.{links_read}
use Rattle.batch_sums.proofs.Pages.{more_left, step_told, last_told}
use Rattle.batch_sums.proofs.chain.last_numbers.Goals as goal

pub overflow_sub-held : goal.overflow_sub-held
overflow_sub-held c =
    let chain = c.requires.0 in
    let left : 0 < c.loop-held.reach =
    more_left c.args.packs.now chain c.args.newest c.loop-held.reach c.loop-held.numbers.items
    (c.loop-held.invariant.told chain c.requires.1)
    (omega (
      arith,
      c.requires.2,
      c.loop-held-test.true,
      c.len.ensures,
      c.loop-held.numbers.ok.0,
    )) in
    omega (arith, left)

pub loop-held-smaller : goal.loop-held-smaller
loop-held-smaller c =
    let chain = c.requires.0 in
    let left : 0 < c.loop-held.reach =
    more_left c.args.packs.now chain c.args.newest c.loop-held.reach c.loop-held.numbers.items
    (c.loop-held.invariant.told chain c.requires.1)
    (omega (
      arith,
      c.requires.2,
      c.loop-held-test.true,
      c.len.ensures,
      c.loop-held.numbers.ok.0,
    )) in
    ((links_read c.args.packs.now chain c.loop-held.reach _ left
    (c.loop-held.invariant.reach chain c.requires.1)).back left).0

pub loop-held-preserved : goal.loop-held-preserved
loop-held-preserved c =
    let chain = c.requires.0 in
    let left : 0 < c.loop-held.reach =
    more_left c.args.packs.now chain c.args.newest c.loop-held.reach c.loop-held.numbers.items
    (c.loop-held.invariant.told chain c.requires.1)
    (omega (
      arith,
      c.requires.2,
      c.loop-held-test.true,
      c.len.ensures,
      c.loop-held.numbers.ok.0,
    )) in
    record {
      few = omega (arith, c.loop-held-test.true, c.len.ensures, c.in_ok-push.ensures.len);
      reach = λ chain newest. (links_read c.args.packs.now chain c.loop-held.reach _ left
          (c.loop-held.invariant.reach chain newest)).before;
      told = λ chain newest. step_told c.args.packs.now chain c.args.newest c.loop-held.reach
          c.loop-held.numbers.items c.push.new.self.items _ left
          (c.loop-held.invariant.reach chain newest)
          (c.loop-held.invariant.told chain newest) c.in_ok-push.ensures.items;
    }

pub returns : goal.returns
returns c chain newest few =
    c.reverse.ensures.items
    ∙ last_told c.args.packs.now chain c.args.newest c.loop-held.reach c.args.count
    c.loop-held.numbers.items (c.loop-held.invariant.told chain newest)
    (omega (
      arith,
      c.loop-held.invariant.few,
      c.loop-held-test.false,
      c.len.ensures,
      c.loop-held.numbers.ok.0,
    ))
