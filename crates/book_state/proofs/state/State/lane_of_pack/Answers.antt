use Rattle.std.proofs.Common.{rules, ◌≡◌, ◌∙◌, None, ap}
use Rattle.std.specs.Option.{option_and_then}
use Rattle.book_words.specs.declared.act.Entry.{Entry}
use Rattle.book_state.specs.Known.{lane_weighed}
use Rattle.book_state.proofs.ReadingRows.{lane_told}
use Rattle.book_state.proofs.state.State.lane_of_pack.Goals as goal

pub returns-in_err-entry : goal.returns-in_err-entry
returns-in_err-entry c =
    let none : c.from_residual.result ≡ None = search rules in
    none ∙ ap (option_and_then (λ (e : Entry). lane_weighed e.act)) c.in_err-entry.ensures.value
    ∙ lane_told c.args.self.now.entries c.args.number

pub returns : goal.returns
returns c =
    c.lane_weighed.ensures ∙ ap (option_and_then (λ (e : Entry). lane_weighed e.act))
    c.in_ok-entry.ensures.value ∙ lane_told c.args.self.now.entries c.args.number
