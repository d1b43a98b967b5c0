use Rattle.std.proofs.Common.{◌≡◌, List, [], ◌∷◌, ◌++◌, Option, Some, None, refl, subst, sym, ◌∙◌, ap}
use Rattle.book_words.specs.declared.act.Entry.{Entry}
use Rattle.book_words.specs.Answers.{IsLawful, IsLegal}
use Rattle.book_words.proofs.AllowedActs.{IsAllowed, allowed}
use Rattle.book_words.proofs.LegalLemmas.{legal-push}
use Rattle.book_rules.specs.Lanes.{IsSeen}
use Rattle.book_core.specs.declared.pending.Pending.{Pending}
use Rattle.book_core.specs.View.{BookView}
use Rattle.book_core.specs.BookInvariant.{pending_entry}
use Rattle.book_core.proofs.BookLemmas.{entered}
use Rattle.book_core.proofs.book.Book.add.Goals as goal

nothing_held : (pending : Option Pending) → pending_entry pending ≡ None → pending ≡ None
nothing_held None none = refl
nothing_held (Some held) none = absurd (cc)

pub draw-requires : goal.draw-requires
draw-requires c =
    record {
      free = subst (λ (es : List Entry). IsAllowed es c.args.entry.now.act)
          (sym (c.reserve.ensures.entries ∙ ap (λ (b : BookView). b.entries) c.self.view_is))
          (allowed c.args.self.now.entries c.args.entry.now c.requires.lawful);
    }

pub enter-requires-clause-lawful : goal.enter-requires-clause-lawful
enter-requires-clause-lawful c =
    subst (λ (es : List Entry). IsLawful es c.args.entry.now)
    (sym (c.reserve.ensures.entries ∙ ap (λ (b : BookView). b.entries) c.self.view_is))
    c.requires.lawful

pub enter-requires-clause-seen : goal.enter-requires-clause-seen
enter-requires-clause-seen c =
    subst (λ (es : List Entry). IsSeen es c.args.entry.now.act c.args.seen.now)
    (sym (c.reserve.ensures.entries ∙ ap (λ (b : BookView). b.entries) c.self.view_is))
    c.requires.seen

pub invariant_of-self-2 : goal.invariant_of-self-2
invariant_of-self-2 c =
    let entries = c.self.inside.state.entries in
    let entry = c.args.entry.now in
    let more = c.enter.ensures.entries
    ∙ ap (λ (es : List Entry). es ++ entry ∷ []) c.reserve.ensures.entries in
    entered c.enter.new.self entries entry c.self.inside.limit c.self.inside.pending more
    (nothing_held c.self.inside.pending
    (ap (λ (b : BookView). b.pending) c.self.view_is ∙ c.requires.empty)) c.self.invariant.legal
    (subst (λ (b : BookView). IsLawful b.entries entry) (sym c.self.view_is) c.requires.lawful)
    c.self.invariant.most

pub returns-clause-legal : goal.returns-clause-legal
returns-clause-legal c =
    let entries = c.self.inside.state.entries in
    let entry = c.args.entry.now in
    let more = c.enter.ensures.entries
    ∙ ap (λ (es : List Entry). es ++ entry ∷ []) c.reserve.ensures.entries in
    subst IsLegal (sym more)
    (legal-push entries entry c.self.invariant.legal
    (subst (λ (b : BookView). IsLawful b.entries entry) (sym c.self.view_is) c.requires.lawful))
