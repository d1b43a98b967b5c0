use Rattle.std.proofs.Common.{◌≡◌, Option, None, Ok, subst, sym, ◌∙◌, ap}
use Rattle.hall_limits.specs.declared.TheConstants.{MAX_ROWS}
use Rattle.book_words.specs.declared.reply.Answered.{Answered}
use Rattle.book_words.specs.Signals.{recorded_signal}
use Rattle.book_words.specs.Answers.{ask_of}
use Rattle.book_words.proofs.AllowedActs.{IsAllowed}
use Rattle.book_rules.specs.Lanes.{IsSeen}
use Rattle.book_core.specs.View.{BookView}
use Rattle.book_core.specs.Steps.{decision}
use Rattle.book_core.proofs.DecisionLemmas.{new_is_free, decided_lawful}
use Rattle.book_core.proofs.book.Book.is_lawful.Goals as goal

pub recorded_signal-requires-clause-seen : goal.recorded_signal-requires-clause-seen
recorded_signal-requires-clause-seen c =
    subst (λ (b : BookView). IsSeen b.entries c.args.entry.now.act c.args.seen.now)
    (sym c.self.view_is) c.requires

pub recorded_signal-requires-clause-allowed : goal.recorded_signal-requires-clause-allowed
recorded_signal-requires-clause-allowed c =
    let entry = c.args.entry.now in
    let found : decision MAX_ROWS c.args.self.now.entries (ask_of entry) entry.act ≡ Ok None =
    sym c.decide.ensures ∙ c.in-Ok-None.is
    ∙ ap (λ (o : Option Answered). Ok o) c.in-Ok-None.field-0-is in
    subst (λ (b : BookView). IsAllowed b.entries entry.act) (sym c.self.view_is)
    (new_is_free MAX_ROWS c.args.self.now.entries (ask_of entry) entry.act found)

pub returns-in-Ok-None : goal.returns-in-Ok-None
returns-in-Ok-None c =
    let entry = c.args.entry.now in
    let found : decision MAX_ROWS c.args.self.now.entries (ask_of entry) entry.act ≡ Ok None =
    sym c.decide.ensures ∙ c.in-Ok-None.is
    ∙ ap (λ (o : Option Answered). Ok o) c.in-Ok-None.field-0-is in
    let told = c.recorded_signal.ensures
    ∙ ap (λ (b : BookView). recorded_signal b.entries entry.act) c.self.view_is in (
      λ same. decided_lawful c.args.self.now.entries entry found
          (c.is_same_signal.ensures.0 same ∙ told),
      λ lawful. c.is_same_signal.ensures.1 (lawful.signal ∙ sym told),
    )
