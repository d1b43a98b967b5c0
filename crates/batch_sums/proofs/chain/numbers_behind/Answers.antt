use Rattle.std.proofs.Common.{◌≡◌, ◌-◌, min, drop, ap, ◌∙◌, arith}
use Rattle.std.specs.Prelude.{IfOk, Result, Ok, Err}
use Rattle.batch_sums.specs.Chains.{rank_to, numbers_to}
use Rattle.batch_sums.proofs.ChainSteps.{rank_rises}
use Rattle.batch_sums.proofs.Pages.{page_made}
use Rattle.batch_sums.proofs.chain.numbers_behind.Goals as goal

if_ok : {T E : Type 0} (P Q : T → Type 0) (r : Result T E) → IfOk r P → ((x : T) → P x → Q x) → IfOk r Q
if_ok P Q (Ok x) h k = k x h
if_ok P Q (Err e) h k = tt

pub links_at-before-requires : goal.links_at-before-requires
links_at-before-requires c =
    let chain = c.requires.0 in
    (chain, (c.reach_up_to.ensures.back chain c.requires.1).reach)

pub overflow_sub-all : goal.overflow_sub-all
overflow_sub-all c =
    let chain = c.requires.0 in
    let back = c.reach_up_to.ensures.back chain c.requires.1 in
    omega (
      arith,
      (c.links_at-before.ensures chain back.reach).rank,
      (c.links_at-all.ensures chain c.requires.1).rank,
      rank_rises c.args.packs.now chain c.reach_up_to.result c.args.newest back.less,
    )

pub last_numbers-requires : goal.last_numbers-requires
last_numbers-requires c =
    let chain = c.requires.0 in
    let back = c.reach_up_to.ensures.back chain c.requires.1 in
    let before = (c.links_at-before.ensures chain back.reach).rank in
    let all = (c.links_at-all.ensures chain c.requires.1).rank in
    let rises = rank_rises c.args.packs.now chain c.reach_up_to.result c.args.newest back.less in
    let last = c.reach_of_rank-last.ensures.reach chain c.requires.1
    (omega (arith, before, all, rises, c.min-count.ensures)) in
    (chain, last.0, omega (arith, last.1))

pub returns : goal.returns
returns c chain reach =
    let packs = c.args.packs.now in
    let up = c.reach_up_to.result in
    let end = c.reach_of_rank-last.result in
    let back = c.reach_up_to.ensures.back chain reach in
    let before = (c.links_at-before.ensures chain back.reach).rank in
    let all = (c.links_at-all.ensures chain reach).rank in
    let rises = rank_rises packs chain up c.args.newest back.less in
    let last = c.reach_of_rank-last.ensures.reach chain reach
    (omega (arith, before, all, rises, c.min-count.ensures)) in
    let count : c.min-count.result
    ≡ min c.args.most (rank_to packs chain c.args.newest - rank_to packs chain up) =
    c.min-count.ensures ∙ (λ i. min c.args.most (all i - before i)) in
    if_ok _ _ c.last_numbers.result
    (c.last_numbers.ensures chain last.0 (omega (arith, last.1)))
    (λ v told. told ∙ ap (λ n. drop (rank_to packs chain end - n) (numbers_to packs chain end)) count
    ∙ page_made packs chain c.args.after c.args.most c.args.newest up end reach back
    (c.reach_up_to.ensures.up_to chain reach) c.reach_of_rank-last.ensures.less
    (omega (arith, last.1, before, count)) rises)
