use Rattle.std.proofs.Common.{arith}
use Rattle.std.proofs.lemmas.Bool.{and_parts}
use Rattle.paper_form.specs.declared.types.Pack as packs
use Rattle.paper_form.specs.Papers.{is_pack_in_range}
use Rattle.paper_form.specs.Drafts.{data_of}
use Rattle.paper_check.specs.Judging.{net_on, nets_of}
use Rattle.paper_check.proofs.Lookups.{passes_at}
use Rattle.paper_check.proofs.Gathered.{gathered_more, gathered_all}
use Rattle.paper_check.proofs.contents.nets_of.Goals as goal

pub net_of-requires-clause-range : goal.net_of-requires-clause-range
net_of-requires-clause-range c =
    passes_at is_pack_in_range c.args.packs.now c.loop-pack.pack-index _ c.requires.range
    c.loop-pack-test.true

pub net_of-requires-clause-gross : goal.net_of-requires-clause-gross
net_of-requires-clause-gross c =
    (and_parts _ _ (passes_at is_pack_in_range c.args.packs.now c.loop-pack.pack-index _
    c.requires.range c.loop-pack-test.true)).1

pub loop-pack-preserved : goal.loop-pack-preserved
loop-pack-preserved c =
    let here = c.loop-pack in
    let tares = (data_of c.args.paper.now).tares in (
      gathered_more (λ (pack : packs.Pack). net_on tares pack.day pack.gross) c.args.packs.now
          here.pack-index _ here.nets.items _ (nets_of tares c.args.packs.now) c.net_of.result
          c.loop-pack-test.true c.net_of.ensures.value c.in_ok-push_mass.ensures.added
          here.invariant.0,
      c.in_ok-push_mass.ensures.range,
      omega (arith, c.in_ok-push_mass.ensures.few, here.invariant.2),
    )

pub returns-clause-value : goal.returns-clause-value
returns-clause-value c =
    let here = c.loop-pack in
    let tares = (data_of c.args.paper.now).tares in
    gathered_all (λ (pack : packs.Pack). net_on tares pack.day pack.gross) c.args.packs.now
    here.pack-index here.nets.items (nets_of tares c.args.packs.now) c.loop-pack-test.false
    here.invariant.0

pub returns-clause-few : goal.returns-clause-few
returns-clause-few c = omega (arith, c.loop-pack.invariant.2, c.loop-pack.auto.pack-index-end)
