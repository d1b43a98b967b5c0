use Rattle.std.proofs.Common.{rules, ◌≡◌, nat_lt, FitsSigned, ◌∙◌, ap, ℤ, pos, ◌-ℤ◌, Option, None, w64}
use Rattle.std.proofs.lemmas.Int.{to_z-of_z}
use Rattle.std.specs.Option.{unwrap_or}
use Rattle.book_words.specs.Acts.{lane_batch}
use Rattle.pack_judge.specs.Judge.{signal_of}
use Rattle.book_words.specs.declared.act.Act.TheVariants.{Weigh}
use Rattle.book_rules.proofs.SignalLemmas.{judged_in, unjudged}
use Rattle.book_rules.proofs.signals.judge.Goals as goal

pub returns-in_err-met : goal.returns-in_err-met
returns-in_err-met c =
    let none : c.from_residual.result ≡ None = search rules in
    none ∙ unjudged c.args.state.now.entries
    (lane_batch c.args.state.now.entries c.args.lane) c.args.gross
    (Weigh c.args.lane c.args.gross c.args.prior) (c.in_err-met.ensures.value c.args.gross)

pub returns : goal.returns
returns c =
    let entries = c.args.state.now.entries in
    let met = c.in_ok-met.met in
    let net : FitsSigned w64 c.net_on.result = search rules in
    judged_in entries (lane_batch entries c.args.lane) c.args.gross
    (Weigh c.args.lane c.args.gross c.args.prior) met c.net_on.result c.signal.result
    (c.in_ok-met.ensures.value c.args.gross)
    (c.net_on.ensures
    ∙ ap (λ (gross : ℤ). gross -ℤ unwrap_or c.args.seen.now.tare (pos 0))
    (to_z-of_z w64 c.args.gross c.ranges.gross)
    ∙ ap (λ (tare : Option ℤ). c.args.gross -ℤ unwrap_or tare (pos 0)) c.requires.seen.tare)
    (c.signal.ensures
    ∙ ap (λ (n : ℤ). signal_of n met.limits
    (nat_lt 0 met.inadequate) met.population met.nonstandard)
    (to_z-of_z w64 c.net_on.result net))

pub net_on-requires-clause-tare : goal.net_on-requires-clause-tare
net_on-requires-clause-tare c = c.requires.seen.range
