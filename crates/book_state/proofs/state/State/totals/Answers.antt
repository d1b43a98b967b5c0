use Rattle.std.proofs.Common.{rules, ◌≡◌, ◌∙◌, None, Some, sym, ap, option_map}
use Rattle.pack_groups.specs.declared.types.Totals.{Totals}
use Rattle.book_words.specs.Acts.{product_of}
use Rattle.book_packs.specs.Told.{totals_told}
use Rattle.book_state.proofs.Parts.{parts_of}
use Rattle.book_state.proofs.Batches.{no_batch, is_batch, told_of_batch, number_within}
use Rattle.book_state.proofs.PopulationLimits.{totals_few}
use Rattle.book_state.proofs.state.State.totals.Goals as goal

pub returns-in_err-number-clause-value : goal.returns-in_err-number-clause-value
returns-in_err-number-clause-value c =
    let stand = parts_of c.self.inside c.args.self.now c.self.invariant c.self.view_is in
    let none : c.from_residual.result ≡ None = search rules in
    none ∙ sym (ap (option_map (λ product. totals_told c.args.self.now.entries c.args.batch.now))
    (no_batch c.args.self.now.entries c.args.batch.now
    (c.in_err-number.ensures.number c.args.self.now.entries stand.index)))

pub totals-requires : goal.totals-requires
totals-requires c =
    let stand = parts_of c.self.inside c.args.self.now c.self.invariant c.self.view_is in
    number_within c.args.self.now.entries c.self.inside.packs c.args.batch.now c.in_ok-number.number
    stand.packs (c.in_ok-number.ensures.number c.args.self.now.entries stand.index)

pub returns-clause-value : goal.returns-clause-value
returns-clause-value c =
    let stand = parts_of c.self.inside c.args.self.now c.self.invariant c.self.view_is in
    let is = c.in_ok-number.ensures.number c.args.self.now.entries stand.index in
    ap (λ (t : Totals). Some t) (c.totals.ensures c.args.self.now.entries c.args.batch.now
    stand.packs stand.legal (sym is))
    ∙ told_of_batch (product_of c.args.self.now.entries c.args.batch.now)
    (totals_told c.args.self.now.entries c.args.batch.now)
    (is_batch c.args.self.now.entries c.args.batch.now c.in_ok-number.number is)

pub returns-clause-few : goal.returns-clause-few
returns-clause-few c =
    let stand = parts_of c.self.inside c.args.self.now c.self.invariant c.self.view_is in
    let is = c.in_ok-number.ensures.number c.args.self.now.entries stand.index in
    totals_few c.args.self.now.entries c.args.batch.now c.totals.result stand.legal
    (c.totals.ensures c.args.self.now.entries c.args.batch.now stand.packs stand.legal (sym is))
