use Rattle.std.proofs.Common.{rules, ◌≡◌, ◌∙◌, None, Some, w32, w64, sym}
use Rattle.std.proofs.lemmas.Int.{to_z-of_z}
use Rattle.book_words.specs.declared.act.Act.TheVariants.{PutTare}
use Rattle.book_words.specs.Refusals.{is_frozen}
use Rattle.book_packs.specs.Told.{frozen_told}
use Rattle.book_state.proofs.Parts.{parts_of}
use Rattle.book_state.proofs.Frost.{found_by_number, none_by_number, nothing_frozen}
use Rattle.book_state.proofs.state.State.frozen.Goals as goal

pub returns-in_err-number : goal.returns-in_err-number
returns-in_err-number c =
    let stand = parts_of c.self.inside c.args.self.now c.self.invariant c.self.view_is in
    let none : c.from_residual.result ≡ None = search rules in
    none ∙ sym (nothing_frozen c.args.self.now.entries c.args.product.now c.args.day c.args.tare
    stand.legal (c.in_err-number.ensures.number c.args.self.now.entries stand.index))

pub returns-in_err-batch : goal.returns-in_err-batch
returns-in_err-batch c =
    let stand = parts_of c.self.inside c.args.self.now c.self.invariant c.self.view_is in
    let none : c.from_residual-in_err-batch.result ≡ None = search rules in
    let told : None ≡ frozen_told c.args.self.now.entries
    (PutTare c.args.product.now c.args.day c.args.tare) =
    rw (to_z-of_z w32 c.args.day c.ranges.day, to_z-of_z w64 c.args.tare c.ranges.tare) at
    c.in_err-batch.ensures c.args.self.now.entries c.args.product.now stand.packs stand.legal
    (sym (c.in_ok-number.ensures.number c.args.self.now.entries stand.index))
    (c.closed.ensures c.args.self.now.entries stand.index) in
    none ∙ sym (none_by_number c.args.self.now.entries
    (is_frozen c.args.self.now.entries (PutTare c.args.product.now c.args.day c.args.tare))
    told)

pub returns : goal.returns
returns c =
    let stand = parts_of c.self.inside c.args.self.now c.self.invariant c.self.view_is in
    let told : Some c.in_ok-batch.batch
    ≡ frozen_told c.args.self.now.entries (PutTare c.args.product.now c.args.day c.args.tare) =
    rw (to_z-of_z w32 c.args.day c.ranges.day, to_z-of_z w64 c.args.tare c.ranges.tare) at
    c.in_ok-batch.ensures c.args.self.now.entries c.args.product.now stand.packs stand.legal
    (sym (c.in_ok-number.ensures.number c.args.self.now.entries stand.index))
    (c.closed.ensures c.args.self.now.entries stand.index) in
    c.batch_name.ensures c.args.self.now.entries stand.index
    ∙ found_by_number c.args.self.now.entries
    (is_frozen c.args.self.now.entries (PutTare c.args.product.now c.args.day c.args.tare))
    c.in_ok-batch.batch told
