use Rattle.std.proofs.Common.{ap}
use Rattle.remote_cell.specs.declared.reading.LineEnd.TheVariants.{Whole, TooLong}
use Rattle.remote_cell.specs.Told.{port, site}
use Rattle.remote_cell.proofs.Knowing.{leaving}
use Rattle.remote_cell.proofs.Turning.{is_connected, heard_by, gives_bad, leaves, turns_line, turns_long, turns_behind}
use Rattle.remote_cell.proofs.turns.turn.Goals as goal

pub answer-requires : goal.answer-requires
answer-requires g c =
    let h = c.args.hearing.now in
    let old = port g.O.Source g.O.Door.connections g.O.Door.missed c.args.door.now in
    let mid = port g.O.Source g.O.Door.connections g.O.Door.missed c.next_line.new.door in
    let connected = is_connected h.connected Whole c.in-Whole.ensures.waits (λ is. cc) in
    let heard = heard_by old mid h c.hear-item.new.self c.next_line.new.line c.bytes.result.now
    c.hear-item.result c.bytes.ensures c.hear-item.ensures.after c.hear-item.ensures.item
    c.requires connected (c.in-Whole.ensures.reads connected) in
    heard.goes.sound

pub returns-in-Whole : goal.returns-in-Whole
returns-in-Whole g c =
    let h = c.args.hearing.now in
    let old = port g.O.Source g.O.Door.connections g.O.Door.missed c.args.door.now in
    let mid = port g.O.Source g.O.Door.connections g.O.Door.missed c.next_line.new.door in
    let new = port g.O.Source g.O.Door.connections g.O.Door.missed c.answer.new.door in
    let connected = is_connected h.connected Whole c.in-Whole.ensures.waits (λ is. cc) in
    let heard = heard_by old mid h c.hear-item.new.self c.next_line.new.line c.bytes.result.now
    c.hear-item.result c.bytes.ensures c.hear-item.ensures.after c.hear-item.ensures.item
    c.requires connected (c.in-Whole.ensures.reads connected) in
    turns_line (site old h) (site mid c.hear-item.new.self) (site new c.answer.new.hearing)
    c.hear-item.result heard c.answer.ensures

pub returns-in-TooLong : goal.returns-in-TooLong
returns-in-TooLong g c =
    let h = c.args.hearing.now in
    let old = port g.O.Source g.O.Door.connections g.O.Door.missed c.args.door.now in
    let mid = port g.O.Source g.O.Door.connections g.O.Door.missed c.next_line.new.door in
    let connected = is_connected h.connected TooLong c.in-TooLong.ensures.waits (λ is. cc) in
    gives_bad (site old h) mid h c.spoil.new.self c.spoil.result c.spoil.ensures.after
    c.spoil.ensures.item
    (turns_long old mid h c.next_line.new.line c.requires connected
    (c.in-TooLong.ensures.reads connected))

pub admit-requires-clause-ready : goal.admit-requires-clause-ready
admit-requires-clause-ready g c =
    let h = c.args.hearing.now in
    let old = port g.O.Source g.O.Door.connections g.O.Door.missed c.args.door.now in
    let mid = port g.O.Source g.O.Door.connections g.O.Door.missed c.next_line.new.door in
    let left = leaves old mid h c.next_line.new.line c.requires
    (λ is. ap (port g.O.Source g.O.Door.connections g.O.Door.missed) (c.in-Cut.ensures.waits is).1)
    c.in-Cut.ensures.reads in
    left.ready

pub returns-in-Cut : goal.returns-in-Cut
returns-in-Cut g c =
    let h = c.args.hearing.now in
    let old = port g.O.Source g.O.Door.connections g.O.Door.missed c.args.door.now in
    let mid = port g.O.Source g.O.Door.connections g.O.Door.missed c.next_line.new.door in
    let new = port g.O.Source g.O.Door.connections g.O.Door.missed c.admit.new.door in
    let left = leaves old mid h c.next_line.new.line c.requires
    (λ is. ap (port g.O.Source g.O.Door.connections g.O.Door.missed) (c.in-Cut.ensures.waits is).1)
    c.in-Cut.ensures.reads in
    turns_behind (site old h) (site mid (leaving h)) (site new c.admit.new.hearing) c.admit.result
    left c.admit.ensures
