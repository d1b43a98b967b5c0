use Rattle.std.proofs.Common.{◌+◌, ap, sym, subst, ◌∙◌, take, arith}
use Rattle.batch_sums.specs.Kept.{IsReach, rank_of}
use Rattle.batch_sums.specs.Chains.{homes_in}
use Rattle.batch_sums.proofs.ChainLemmas.{rank-reach}
use Rattle.batch_sums.proofs.ChainSteps.{rank_most, reach_as}
use Rattle.batch_sums.proofs.chain.links_behind.Goals as goal
use Rattle.batch_sums.proofs.chain.links_behind.Goals.{then-are_level, else-are_level}

pub links_at-near-requires : goal.links_at-near-requires
links_at-near-requires c =
    let chain = c.requires.newest.0 in
    (chain, reach_as c.args.packs.now chain c.args.before c.requires.newest.1)

pub links_at-far-requires : goal.links_at-far-requires
links_at-far-requires c =
    let chain = c.requires.newest.0 in
    let near = c.links_at-near.ensures chain
    (reach_as c.args.packs.now chain c.args.before c.requires.newest.1) in
    (chain, near.skip)

pub links_at-further-requires : goal.links_at-further-requires
links_at-further-requires c =
    let chain = c.requires.newest.0 in
    let near = c.links_at-near.ensures chain
    (reach_as c.args.packs.now chain c.args.before c.requires.newest.1) in
    (chain, (c.links_at-far.ensures chain near.skip).skip)

pub overflow_add-result : goal.overflow_add-result
overflow_add-result c =
    let chain = c.requires.newest.0 in
    let near = c.links_at-near.ensures chain
    (reach_as c.args.packs.now chain c.args.before c.requires.newest.1) in
    omega (arith, near.rank, rank_most c.args.packs.now chain c.args.before, c.requires.few)

pub returns : goal.returns
returns c chain newest =
    let homes = homes_in c.args.packs.now chain in
    let reach = reach_as c.args.packs.now chain c.args.before newest in
    let near = c.links_at-near.ensures chain reach in
    record {
      before = newest;
      skip = elim c.if-are_level.branch [
        | then-are_level w ↦ subst (IsReach chain.batch homes) (sym w.result-is)
            (c.links_at-far.ensures chain near.skip).skip
        | else-are_level w ↦ subst (IsReach chain.batch homes) (sym w.result-is) reach
      ];
      rank = ap (λ n. n + 1) (near.rank ∙ ap (λ n. rank_of chain.batch (take n homes)) newest
          ∙ rank-reach chain.batch homes);
    }
