use Rattle.std.proofs.Common.{◌≡◌, ◌∙◌, ◌<◌, ◌^◌, List, [], ℕ, length, Some, None, sym, ap, subst}
use Rattle.std.specs.List.Sorted.{IsStrictlyIncreasing}
use Rattle.book_words.specs.Population.{population}
use Rattle.book_words.specs.Samples.{numbers_of, sample_by}
use Rattle.book_words.specs.Order.{batch_number}
use Rattle.book_words.proofs.SaidNames.{product_where_opened}
use Rattle.book_words.proofs.AllowedActs.{draw_tells}
use Rattle.book_state.proofs.Parts.{parts_of}
use Rattle.book_state.proofs.Batches.{number_within}
use Rattle.book_samples.specs.Kept.{drawing_at}
use Rattle.book_state.proofs.EntryFacts.{there, numbers_few, numbers_ascend}
use Rattle.book_state.proofs.state.State.draw_once.Goals as goal

pub unreachable-requires : goal.unreachable-requires
unreachable-requires c =
    let stand = parts_of c.self.inside c.args.self.now c.self.invariant c.self.view_is in
    there (batch_number c.args.self.now.entries c.args.batch.now)
    (sym (product_where_opened c.args.self.now.entries c.args.batch.now)
    ∙ (draw_tells c.args.self.now.entries c.args.batch.now c.args.mode c.args.word
    c.requires.free).known)
    (sym (c.batch_number.ensures.number c.args.self.now.entries stand.index) ∙ c.in_default.is)

pub population-requires : goal.population-requires
population-requires c =
    let stand = parts_of c.self.inside c.args.self.now c.self.invariant c.self.view_is in
    number_within c.args.self.now.entries c.self.inside.packs c.args.batch.now c.in-Some.number
    stand.packs (c.in-Some.ensures.number c.args.self.now.entries stand.index)

pub draw_first-requires-clause-ascending : goal.draw_first-requires-clause-ascending
draw_first-requires-clause-ascending c =
    let stand = parts_of c.self.inside c.args.self.now c.self.invariant c.self.view_is in
    let is = sym (c.in-Some.ensures.number c.args.self.now.entries stand.index) in
    let packs : c.deref.result.now ≡ numbers_of (population c.args.self.now.entries c.args.batch.now) =
    c.deref.ensures.value ∙ c.in_ok-packs.ensures.exact c.args.self.now.entries c.args.batch.now
    stand.packs stand.legal is in
    subst (λ (some : List ℕ). IsStrictlyIncreasing some) (sym packs)
    (numbers_ascend c.args.self.now.entries c.args.batch.now)

pub draw_first-requires-clause-few : goal.draw_first-requires-clause-few
draw_first-requires-clause-few c =
    let stand = parts_of c.self.inside c.args.self.now c.self.invariant c.self.view_is in
    let is = sym (c.in-Some.ensures.number c.args.self.now.entries stand.index) in
    let packs : c.deref.result.now ≡ numbers_of (population c.args.self.now.entries c.args.batch.now) =
    c.deref.ensures.value ∙ c.in_ok-packs.ensures.exact c.args.self.now.entries c.args.batch.now
    stand.packs stand.legal is in
    subst (λ (some : List ℕ). length some < 2 ^ 32) (sym packs)
    (numbers_few c.args.self.now.entries c.args.batch.now stand.legal)

pub returns : goal.returns
returns c =
    let stand = parts_of c.self.inside c.args.self.now c.self.invariant c.self.view_is in
    let is = sym (c.in-Some.ensures.number c.args.self.now.entries stand.index) in
    let packs : c.deref.result.now ≡ numbers_of (population c.args.self.now.entries c.args.batch.now) =
    c.deref.ensures.value ∙ c.in_ok-packs.ensures.exact c.args.self.now.entries c.args.batch.now
    stand.packs stand.legal is in
    let first : c.in_ok-first.first
    ≡ sample_by (drawing_at c.args.self.now.entries c.args.batch.now c.args.mode c.args.word)
    None =
    c.in_ok-first.ensures
    ∙ ap (λ (some : List ℕ). sample_by
    (record { mode = c.args.mode; word = c.args.word; packs = some }) None) packs in
    (λ i. record { first = Some (first i); second = [] })
