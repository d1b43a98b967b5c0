use Rattle.std.proofs.Common.{⊎_elim, sym, subst}
use Rattle.book_words.specs.declared.act.Act.{Act}
use Rattle.book_state.specs.Lanes.{IsSeen}
use Rattle.book_state.proofs.state.State.seen.Goals as goal

pub returns-in-Weigh : goal.returns-in-Weigh
returns-in-Weigh c =
    let seen = λ (act : Act). IsSeen c.args.self.now.entries act c.lane_now.result in
    ⊎_elim
    (λ weighs. subst seen (sym weighs.2) c.lane_now.ensures)
    (λ stops. subst seen (sym stops.1) c.lane_now.ensures)
    c.in-Weigh.is
