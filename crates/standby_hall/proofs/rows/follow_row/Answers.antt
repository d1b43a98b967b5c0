use Rattle.std.proofs.Common.{rules, ◌≡◌, length, take, subst, arith}
use Rattle.std.specs.Io.KnownBytes.{Consumes}
use Rattle.std.proofs.lemmas.List.{take_all}
use Rattle.book_snapshot.specs.declared.layout.TheConstants.{ROW_BYTES}
use Rattle.book_store.specs.Stores.{entries_of}
use Rattle.text_streams.specs.Streams.{input_at}
use Rattle.standby_hall.proofs.RowSteps.{slot_result}
use Rattle.standby_hall.proofs.rows.follow_row.Goals as goal

pub returns-clause-stops : goal.returns-clause-stops
returns-clause-stops g c =
    let before = input_at g.S.Source c.args.input.now in
    let now = input_at g.S.Source c.fill.new.input in
    let slot = c.fill.new.into in
    let long : length slot ≡ ROW_BYTES = search rules in
    let whole : take c.in-Ok.count slot ≡ slot =
    take_all c.in-Ok.count slot (omega (arith, long, c.if-count-lt-ROW_BYTES.false)) in
    slot_result before now (entries_of c.args.store.now) c.args.number slot c.follow_slot.result
    (subst (Consumes before.bytes now.bytes) whole c.in-Ok.ensures.taken.read)
    c.in-Ok.ensures.taken.calm long c.follow_slot.ensures.stops
