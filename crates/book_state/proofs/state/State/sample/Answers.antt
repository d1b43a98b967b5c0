use Rattle.std.proofs.Common.{rules, ◌≡◌, ◌∙◌, None, Option, sym, ap, option_copied, Bor}
use Rattle.book_words.specs.Samples.{Sample}
use Rattle.book_state.proofs.Parts.{parts_of}
use Rattle.book_state.proofs.Batches.{no_batch, is_batch, no_sample_of}
use Rattle.book_state.proofs.SamplePlans.{handed_out}
use Rattle.book_state.proofs.state.State.sample.Goals as goal

pub returns-in_err-number-clause-value : goal.returns-in_err-number-clause-value
returns-in_err-number-clause-value c =
    let stand = parts_of c.self.inside c.args.self.now c.self.invariant c.self.view_is in
    let none : c.from_residual.result ≡ None = search rules in
    ap (λ (o : Option (Bor Sample)). option_copied o) none
    ∙ sym (no_sample_of c.args.self.now.entries c.args.batch.now stand.legal
    (no_batch c.args.self.now.entries c.args.batch.now
    (c.in_err-number.ensures.number c.args.self.now.entries stand.index)))

pub returns-clause-drawn : goal.returns-clause-drawn
returns-clause-drawn c =
    let stand = parts_of c.self.inside c.args.self.now c.self.invariant c.self.view_is in
    let is = c.in_ok-number.ensures.number c.args.self.now.entries stand.index in
    handed_out c.args.self.now.entries c.args.batch.now c.sample.result stand.legal
    (is_batch c.args.self.now.entries c.args.batch.now c.in_ok-number.number is)
    (c.sample.ensures c.args.self.now.entries c.args.batch.now stand.samples (sym is))
