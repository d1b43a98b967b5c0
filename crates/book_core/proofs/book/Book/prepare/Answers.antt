use Rattle.std.proofs.Common.{◌≤◌, subst, sym, ◌∙◌, ap}
use Rattle.hall_limits.specs.declared.TheConstants.{MAX_ROWS}
use Rattle.book_words.specs.Signals.{recorded_signal}
use Rattle.book_words.proofs.AllowedActs.{IsAllowed}
use Rattle.book_rules.specs.Lanes.{IsSeen}
use Rattle.book_core.specs.View.{BookView}
use Rattle.book_core.proofs.DecisionLemmas.{new_is_free}
use Rattle.book_core.proofs.BookLemmas.{new_is_lawful}
use Rattle.book_core.proofs.book.Book.prepare.Goals as goal

pub recorded_signal-requires-clause-seen : goal.recorded_signal-requires-clause-seen
recorded_signal-requires-clause-seen c =
    subst (λ (b : BookView). IsSeen b.entries c.args.act.now c.args.seen.now) (sym c.self.view_is)
    c.requires.seen

pub recorded_signal-requires-clause-allowed : goal.recorded_signal-requires-clause-allowed
recorded_signal-requires-clause-allowed c =
    subst (λ (b : BookView). IsAllowed b.entries c.args.act.now) (sym c.self.view_is)
    (new_is_free c.args.self.now.limit c.args.self.now.entries c.args.ask.now c.args.act.now
    c.requires.found)

pub hold-requires-clause-lawful : goal.hold-requires-clause-lawful
hold-requires-clause-lawful c =
    new_is_lawful c.args.self.now.limit c.args.self.now.entries c.args.by c.args.ask.now
    c.args.act.now c.recorded_signal.result
    (subst (λ (b : BookView). b.limit ≤ MAX_ROWS) c.self.view_is c.self.invariant.most) c.requires.found
    (c.recorded_signal.ensures ∙ ap
    (λ (b : BookView). recorded_signal b.entries c.args.act.now) c.self.view_is)
