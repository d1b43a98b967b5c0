use Rattle.std.proofs.Common.{◌∙◌, ℕ, List, map, filter, take, sym, ap}
use Rattle.std.specs.Prelude.{nat_lt}
use Rattle.book_words.specs.declared.act.Reading.{Reading}
use Rattle.book_words.specs.declared.views.TheConstants.{MAX_PAGE}
use Rattle.book_state.proofs.Parts.{parts_of}
use Rattle.book_state.proofs.Batches.{no_batch, no_readings, number_within}
use Rattle.book_state.proofs.state.State.packs_after.Goals as goal

pub packs_after-requires : goal.packs_after-requires
packs_after-requires c =
    let stand = parts_of c.self.inside c.args.self.now c.self.invariant c.self.view_is in
    number_within c.args.self.now.entries c.self.inside.packs c.args.batch.now c.in-Some.number
    stand.packs (c.in-Some.ensures.number c.args.self.now.entries stand.index)

pub returns-in-Some : goal.returns-in-Some
returns-in-Some c =
    let stand = parts_of c.self.inside c.args.self.now c.self.invariant c.self.view_is in
    c.packs_after.ensures c.args.self.now.entries c.args.batch.now stand.packs stand.legal
    (sym (c.in-Some.ensures.number c.args.self.now.entries stand.index))

pub returns-in-None : goal.returns-in-None
returns-in-None c =
    let stand = parts_of c.self.inside c.args.self.now c.self.invariant c.self.view_is in
    c.new.ensures.items
    ∙ sym (ap (λ (some : List Reading). take MAX_PAGE
    (filter (λ n. nat_lt c.args.after n) (map (λ (r : Reading). r.number) some)))
    (no_readings c.args.self.now.entries c.args.batch.now stand.legal
    (no_batch c.args.self.now.entries c.args.batch.now
    (c.in-None.ensures.number c.args.self.now.entries stand.index))))
