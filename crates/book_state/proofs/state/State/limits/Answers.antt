use Rattle.std.proofs.Common.{rules, ◌≡◌, ◌∙◌, None, Some, sym, ap, option_map}
use Rattle.annex_tables.specs.declared.types.Limits.{Limits}
use Rattle.book_words.specs.Acts.{product_of}
use Rattle.book_words.specs.Classes.{density_of_batch, limits_of_batch}
use Rattle.book_packs.specs.Densities.{limits_at}
use Rattle.book_state.proofs.Parts.{parts_of}
use Rattle.book_state.proofs.Batches.{no_batch, is_batch, told_of_batch, number_within}
use Rattle.book_state.proofs.state.State.limits.Goals as goal

pub returns-in_err-number : goal.returns-in_err-number
returns-in_err-number c =
    let stand = parts_of c.self.inside c.args.self.now c.self.invariant c.self.view_is in
    let none : c.from_residual.result ≡ None = search rules in
    none ∙ sym (ap
    (option_map (λ product. limits_at
    (density_of_batch c.args.self.now.entries c.args.batch.now)
    (limits_of_batch c.args.self.now.entries c.args.batch.now)))
    (no_batch c.args.self.now.entries c.args.batch.now
    (c.in_err-number.ensures.number c.args.self.now.entries stand.index)))

pub limits-requires : goal.limits-requires
limits-requires c =
    let stand = parts_of c.self.inside c.args.self.now c.self.invariant c.self.view_is in
    number_within c.args.self.now.entries c.self.inside.packs c.args.batch.now c.in_ok-number.number
    stand.packs (c.in_ok-number.ensures.number c.args.self.now.entries stand.index)

pub returns : goal.returns
returns c =
    let stand = parts_of c.self.inside c.args.self.now c.self.invariant c.self.view_is in
    let is = c.in_ok-number.ensures.number c.args.self.now.entries stand.index in
    ap (λ (l : Limits). Some l) (c.limits.ensures c.args.self.now.entries c.args.batch.now
    stand.packs (sym is))
    ∙ told_of_batch (product_of c.args.self.now.entries c.args.batch.now)
    (limits_at (density_of_batch c.args.self.now.entries c.args.batch.now)
    (limits_of_batch c.args.self.now.entries c.args.batch.now))
    (is_batch c.args.self.now.entries c.args.batch.now c.in_ok-number.number is)
