use Rattle.std.proofs.Common.{sym, ap, ◌∙◌}
use Rattle.book_index.specs.Known.{Known}
use Rattle.book_index.specs.Lanes.{lane_of_number}
use Rattle.book_index.proofs.LegalNames.{legal_named}
use Rattle.book_index.proofs.LaneLemmas.{running_is, running_none}
use Rattle.book_index.proofs.index.Index.lane_running.Goals as goal

pub returns-in-Some : goal.returns-in-Some
returns-in-Some c entries is legal =
    c.first_lane.ensures
    ∙ ap (λ (known : Known). lane_of_number c.in-Some.number 1 known.lanes) c.self.view_is
    ∙ running_is entries c.args.self.now is
    (legal_named entries legal) c.args.batch.now c.in-Some.number
    (sym (c.batch_number.ensures.number entries is) ∙ c.in-Some.is)

pub returns-in-None : goal.returns-in-None
returns-in-None c entries is legal =
    running_none entries (legal_named entries legal) c.args.batch.now
    (sym (c.batch_number.ensures.number entries is) ∙ c.in-None.is)
