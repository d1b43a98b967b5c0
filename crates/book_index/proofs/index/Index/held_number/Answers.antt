use Rattle.std.proofs.Common.{◌-◌, ◌+◌, ◌≤◌, ◌<◌, None, get_or, ap, ◌∙◌, arith}
use Rattle.std.proofs.lemmas.Bool.Decides.{nat_tests}
use Rattle.hall_limits.specs.declared.TheConstants.{MAX_LANE}
use Rattle.book_index.specs.Known.{Known}
use Rattle.book_index.specs.Listed.{lane_batch_number}
use Rattle.book_index.proofs.FirstNumbers.{of_number}
use Rattle.book_index.proofs.index.Index.held_number.Goals as goal

pub returns-clause-on : goal.returns-clause-on
returns-clause-on c entries is lane =
    let least : 1 ≤ c.args.lane = grind (arith, nat_tests) in
    let most : c.args.lane < MAX_LANE + 1 = grind (arith, nat_tests) in
    ap (λ (known : Known). get_or known.lanes (c.args.lane - 1) None) c.self.view_is
    ∙ ap (λ lanes. get_or lanes (c.args.lane - 1) None) is.lanes
    ∙ of_number (lane_batch_number entries) None 1 MAX_LANE c.args.lane least most
