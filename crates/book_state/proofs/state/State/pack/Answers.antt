use Rattle.std.proofs.Common.{sym, subst}
use Rattle.book_words.specs.Readings.{reading_of}
use Rattle.book_state.proofs.Parts.{parts_of}
use Rattle.book_state.proofs.PackFacts.{IsTold, put_is, pack_is_told}
use Rattle.book_state.proofs.state.State.pack.Goals as goal

pub returns-clause-value : goal.returns-clause-value
returns-clause-value c =
    let stand = parts_of c.self.inside c.args.self.now c.self.invariant c.self.view_is in
    let made = put_is c.args.self.now.entries c.args.number c.pack-pack.result
    c.batch_of-batch.result c.lane_of_pack.result c.signal.result c.put_together.result
    (c.pack-pack.ensures c.args.self.now.entries stand.packs) c.batch_of-batch.ensures
    c.lane_of_pack.ensures c.signal.ensures c.put_together.ensures in
    let told = subst (IsTold c.args.self.now.entries
    (reading_of c.args.self.now.entries c.args.number)) (sym made)
    (pack_is_told c.args.self.now.entries c.args.number stand.legal) in
    told.value

pub returns-clause-there : goal.returns-clause-there
returns-clause-there c =
    let stand = parts_of c.self.inside c.args.self.now c.self.invariant c.self.view_is in
    let made = put_is c.args.self.now.entries c.args.number c.pack-pack.result
    c.batch_of-batch.result c.lane_of_pack.result c.signal.result c.put_together.result
    (c.pack-pack.ensures c.args.self.now.entries stand.packs) c.batch_of-batch.ensures
    c.lane_of_pack.ensures c.signal.ensures c.put_together.ensures in
    let told = subst (IsTold c.args.self.now.entries
    (reading_of c.args.self.now.entries c.args.number)) (sym made)
    (pack_is_told c.args.self.now.entries c.args.number stand.legal) in
    told.there

pub returns-clause-batch : goal.returns-clause-batch
returns-clause-batch c =
    let stand = parts_of c.self.inside c.args.self.now c.self.invariant c.self.view_is in
    let made = put_is c.args.self.now.entries c.args.number c.pack-pack.result
    c.batch_of-batch.result c.lane_of_pack.result c.signal.result c.put_together.result
    (c.pack-pack.ensures c.args.self.now.entries stand.packs) c.batch_of-batch.ensures
    c.lane_of_pack.ensures c.signal.ensures c.put_together.ensures in
    let told = subst (IsTold c.args.self.now.entries
    (reading_of c.args.self.now.entries c.args.number)) (sym made)
    (pack_is_told c.args.self.now.entries c.args.number stand.legal) in
    told.batch

pub returns-clause-pile : goal.returns-clause-pile
returns-clause-pile c =
    let stand = parts_of c.self.inside c.args.self.now c.self.invariant c.self.view_is in
    let made = put_is c.args.self.now.entries c.args.number c.pack-pack.result
    c.batch_of-batch.result c.lane_of_pack.result c.signal.result c.put_together.result
    (c.pack-pack.ensures c.args.self.now.entries stand.packs) c.batch_of-batch.ensures
    c.lane_of_pack.ensures c.signal.ensures c.put_together.ensures in
    let told = subst (IsTold c.args.self.now.entries
    (reading_of c.args.self.now.entries c.args.number)) (sym made)
    (pack_is_told c.args.self.now.entries c.args.number stand.legal) in
    told.pile

pub returns-clause-gross : goal.returns-clause-gross
returns-clause-gross c =
    let stand = parts_of c.self.inside c.args.self.now c.self.invariant c.self.view_is in
    let made = put_is c.args.self.now.entries c.args.number c.pack-pack.result
    c.batch_of-batch.result c.lane_of_pack.result c.signal.result c.put_together.result
    (c.pack-pack.ensures c.args.self.now.entries stand.packs) c.batch_of-batch.ensures
    c.lane_of_pack.ensures c.signal.ensures c.put_together.ensures in
    let told = subst (IsTold c.args.self.now.entries
    (reading_of c.args.self.now.entries c.args.number)) (sym made)
    (pack_is_told c.args.self.now.entries c.args.number stand.legal) in
    told.gross

pub returns-clause-tare : goal.returns-clause-tare
returns-clause-tare c =
    let stand = parts_of c.self.inside c.args.self.now c.self.invariant c.self.view_is in
    let made = put_is c.args.self.now.entries c.args.number c.pack-pack.result
    c.batch_of-batch.result c.lane_of_pack.result c.signal.result c.put_together.result
    (c.pack-pack.ensures c.args.self.now.entries stand.packs) c.batch_of-batch.ensures
    c.lane_of_pack.ensures c.signal.ensures c.put_together.ensures in
    let told = subst (IsTold c.args.self.now.entries
    (reading_of c.args.self.now.entries c.args.number)) (sym made)
    (pack_is_told c.args.self.now.entries c.args.number stand.legal) in
    told.tare
