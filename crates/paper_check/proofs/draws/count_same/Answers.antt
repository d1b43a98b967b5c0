use Rattle.std.proofs.Common.{rules, ◌≡◌, ◌==◌, length}
use Rattle.std.specs.List.{common_prefix_len}
use Rattle.paper_form.specs.declared.types.Pick.{Pick}
use Rattle.paper_check.proofs.Prefixes.{counted_over}
use Rattle.paper_check.proofs.draws.count_same.Goals as goal

pub returns-then-same-drawn-clause-value : goal.returns-then-same-drawn-clause-value
returns-then-same-drawn-clause-value c =
    let over : c.loop-pick.same ≡ length c.args.drawn.now = search rules in
    counted_over (λ (pick : Pick) number. pick.pack == number) c.args.picks.now c.args.drawn.now
    c.loop-pick.same
    (common_prefix_len
    (λ (pick : Pick) number. pick.pack == number) c.args.picks.now c.args.drawn.now)
    c.loop-pick.invariant.2 over
