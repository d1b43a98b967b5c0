use Rattle.std.proofs.Common.{◌-◌, ◌+◌, ◌≤◌, ◌<◌, None, get_or, ap, ◌∙◌, arith}
use Rattle.std.proofs.lemmas.Bool.Decides.{nat_tests}
use Rattle.hall_limits.specs.declared.TheConstants.{MIN_DESK, MAX_DESK}
use Rattle.book_index.specs.Known.{Known}
use Rattle.book_index.specs.Listed.{newest_row_number}
use Rattle.book_index.proofs.FirstNumbers.{of_number}
use Rattle.book_index.proofs.index.Index.desk_row.Goals as goal

pub returns-clause-row : goal.returns-clause-row
returns-clause-row c entries is desk =
    let least : MIN_DESK ≤ c.args.desk = grind (arith, nat_tests) in
    let most : c.args.desk < MAX_DESK + 1 = grind (arith, nat_tests) in
    ap (λ (known : Known). get_or known.desks (c.args.desk - MIN_DESK) None) c.self.view_is
    ∙ ap (λ desks. get_or desks (c.args.desk - MIN_DESK) None) is.desks
    ∙ of_number (newest_row_number entries) None MIN_DESK
    (MAX_DESK - MIN_DESK + 1) c.args.desk least most
