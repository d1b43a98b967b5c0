use Rattle.std.proofs.Common.{◌≡◌, ◌∙◌, List, ℕ, Some, None, Option, sym, ap, subst, option_copied, Bor}
use Rattle.std.specs.List.Sorted.{IsStrictlyIncreasing}
use Rattle.book_words.specs.Population.{population}
use Rattle.book_words.specs.Samples.{Sample, numbers_of, sample_of}
use Rattle.book_words.specs.Order.{batch_number}
use Rattle.book_words.proofs.SaidNames.{product_where_opened}
use Rattle.book_words.proofs.AllowedActs.{draw_second_tells}
use Rattle.book_state.proofs.Parts.{parts_of}
use Rattle.book_state.proofs.Batches.{number_within}
use Rattle.book_state.proofs.EntryFacts.{there, numbers_ascend, sample_there, first_drawn_by, second_made}
use Rattle.book_state.proofs.state.State.draw_again.Goals as goal

pub unreachable-requires : goal.unreachable-requires
unreachable-requires c =
    let stand = parts_of c.self.inside c.args.self.now c.self.invariant c.self.view_is in
    there (batch_number c.args.self.now.entries c.args.batch.now)
    (sym (product_where_opened c.args.self.now.entries c.args.batch.now)
    ∙ (draw_second_tells c.args.self.now.entries c.args.batch.now c.args.word
    c.requires.free).known)
    (sym (c.batch_number.ensures.number c.args.self.now.entries stand.index) ∙ c.in_default.is)

pub unreachable-requires-in_default-sample : goal.unreachable-requires-in_default-sample
unreachable-requires-in_default-sample c =
    let stand = parts_of c.self.inside c.args.self.now c.self.invariant c.self.view_is in
    let is = sym (c.in-Some.ensures.number c.args.self.now.entries stand.index) in
    sample_there c.args.self.now.entries c.args.batch.now c.args.word stand.legal c.requires.free
    (ap (λ (o : Option (Bor Sample)). option_copied o) (sym c.in_default-sample.is)
    ∙ c.sample.ensures c.args.self.now.entries c.args.batch.now stand.samples is)

pub population-requires : goal.population-requires
population-requires c =
    let stand = parts_of c.self.inside c.args.self.now c.self.invariant c.self.view_is in
    number_within c.args.self.now.entries c.self.inside.packs c.args.batch.now c.in-Some.number
    stand.packs (c.in-Some.ensures.number c.args.self.now.entries stand.index)

pub draw_second-requires-clause-ascending : goal.draw_second-requires-clause-ascending
draw_second-requires-clause-ascending c =
    let stand = parts_of c.self.inside c.args.self.now c.self.invariant c.self.view_is in
    let is = sym (c.in-Some.ensures.number c.args.self.now.entries stand.index) in
    let packs : c.deref.result.now ≡ numbers_of (population c.args.self.now.entries c.args.batch.now) =
    c.deref.ensures.value ∙ c.in_ok-packs.ensures.exact c.args.self.now.entries c.args.batch.now
    stand.packs stand.legal is in
    subst (λ (some : List ℕ). IsStrictlyIncreasing some) (sym packs)
    (numbers_ascend c.args.self.now.entries c.args.batch.now)

pub draw_second-requires-clause-drawn : goal.draw_second-requires-clause-drawn
draw_second-requires-clause-drawn c =
    let stand = parts_of c.self.inside c.args.self.now c.self.invariant c.self.view_is in
    let is = sym (c.in-Some.ensures.number c.args.self.now.entries stand.index) in
    let packs : c.deref.result.now ≡ numbers_of (population c.args.self.now.entries c.args.batch.now) =
    c.deref.ensures.value ∙ c.in_ok-packs.ensures.exact c.args.self.now.entries c.args.batch.now
    stand.packs stand.legal is in
    let sample : Some c.in-Some-sample.sample.now ≡ sample_of c.args.self.now.entries c.args.batch.now =
    c.in-Some-sample.ensures c.args.self.now.entries c.args.batch.now stand.samples is in
    let by = first_drawn_by c.args.self.now.entries c.args.batch.now c.args.word
    c.in-Some-sample.sample.now c.deref.result.now stand.legal c.requires.free sample packs in
    (by.0, by.1)

pub returns : goal.returns
returns c =
    let stand = parts_of c.self.inside c.args.self.now c.self.invariant c.self.view_is in
    let is = sym (c.in-Some.ensures.number c.args.self.now.entries stand.index) in
    let packs : c.deref.result.now ≡ numbers_of (population c.args.self.now.entries c.args.batch.now) =
    c.deref.ensures.value ∙ c.in_ok-packs.ensures.exact c.args.self.now.entries c.args.batch.now
    stand.packs stand.legal is in
    let sample : Some c.in-Some-sample.sample.now ≡ sample_of c.args.self.now.entries c.args.batch.now =
    c.in-Some-sample.ensures c.args.self.now.entries c.args.batch.now stand.samples is in
    let by = first_drawn_by c.args.self.now.entries c.args.batch.now c.args.word
    c.in-Some-sample.sample.now c.deref.result.now stand.legal c.requires.free sample packs in
    let second = c.in_ok-second.ensures by.0 by.1
    ∙ sym (second_made c.args.self.now.entries c.args.batch.now c.args.word by.0 by.2) in
    (λ i. record { first = None; second = second i })
