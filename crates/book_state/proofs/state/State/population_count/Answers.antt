use Rattle.std.proofs.Common.{List, length, sym, ap}
use Rattle.pack_groups.specs.declared.types.Totals.{Totals}
use Rattle.book_words.specs.declared.act.Reading.{Reading}
use Rattle.book_state.proofs.Parts.{parts_of}
use Rattle.book_state.proofs.Batches.{no_batch, no_population, number_within}
use Rattle.book_state.proofs.state.State.population_count.Goals as goal

pub totals-requires : goal.totals-requires
totals-requires c =
    let stand = parts_of c.self.inside c.args.self.now c.self.invariant c.self.view_is in
    number_within c.args.self.now.entries c.self.inside.packs c.args.batch.now c.in-Some.number
    stand.packs (c.in-Some.ensures.number c.args.self.now.entries stand.index)

pub returns-in-Some : goal.returns-in-Some
returns-in-Some c =
    let stand = parts_of c.self.inside c.args.self.now c.self.invariant c.self.view_is in
    ap (λ (t : Totals). t.population)
    (c.totals.ensures c.args.self.now.entries c.args.batch.now stand.packs stand.legal
    (sym (c.in-Some.ensures.number c.args.self.now.entries stand.index)))

pub returns-in-None : goal.returns-in-None
returns-in-None c =
    let stand = parts_of c.self.inside c.args.self.now c.self.invariant c.self.view_is in
    sym (ap (λ (some : List Reading). length some)
    (no_population c.args.self.now.entries c.args.batch.now stand.legal
    (no_batch c.args.self.now.entries c.args.batch.now
    (c.in-None.ensures.number c.args.self.now.entries stand.index))))
