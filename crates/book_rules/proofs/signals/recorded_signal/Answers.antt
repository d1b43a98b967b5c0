use Rattle.std.proofs.Common.{rules, ◌∙◌, ap, subst, ℤ, FitsSigned, w64, option_map}
use Rattle.std.proofs.lemmas.Int.{to_z-of_z}
use Rattle.book_words.specs.declared.act.Act.{Act}
use Rattle.book_words.specs.declared.act.Act.TheVariants.{Weigh}
use Rattle.book_words.specs.Acts.{lane_batch}
use Rattle.book_words.specs.Signals.{judged_signal}
use Rattle.book_verdicts.specs.Lanes.{IsSeen}
use Rattle.book_rules.proofs.SignalLemmas.{recorded}
use Rattle.book_rules.proofs.signals.recorded_signal.Goals as goal

pub judge-requires-clause-seen : goal.judge-requires-clause-seen
judge-requires-clause-seen c =
    subst (λ (act : Act). IsSeen c.args.state.now.entries act c.args.seen.now) c.in-Weigh.is
    c.requires.seen

pub returns : goal.returns
returns c =
    let fits : FitsSigned w64 c.in-Weigh.gross = search rules in
    recorded c.args.state.now.entries c.args.act.now c.in-Weigh.lane c.in-Weigh.gross
    c.in-Weigh.prior c.judge.result c.in-Weigh.is c.requires.allowed
    (c.judge.ensures
    ∙ ap (λ (gross : ℤ). option_map
    (judged_signal c.args.state.now.entries
    (Weigh c.in-Weigh.lane gross c.in-Weigh.prior) gross)
    (lane_batch c.args.state.now.entries c.in-Weigh.lane))
    (to_z-of_z w64 c.in-Weigh.gross fits))
