use Rattle.std.proofs.Common.{◌≡◌, Bool, true, false, IfSome, is_some, subst, rules}
use Rattle.disk_core.specs.Doors.{Connections}
use Rattle.remote_cell.specs.Told.{port, site}
use Rattle.remote_cell.proofs.Turning.{turns_admitted, turns_ended, turns_refused, gives_bad}
use Rattle.remote_cell.proofs.turns.admit.Goals as goal

pub returns-in-Ok-true : goal.returns-in-Ok-true
returns-in-Ok-true g c =
    let old = port g.O.Source g.O.Door.connections g.O.Door.missed c.args.door.now in
    let new = port g.O.Source g.O.Door.connections g.O.Door.missed c.next.new.self in
    let admits = c.in-Ok-true.ensures.connections in
    let is_true : c.in-Ok-true.field-0 ≡ true = search rules in
    let found = subst (λ (b : Bool).
    IfSome new.connections (λ (all : Connections). b ≡ is_some all.present)) is_true admits.1 in
    turns_admitted old new c.args.hearing.now c.requires.ready c.requires.left admits.0 found
    c.in-Ok-true.ensures.begins c.in-Ok-true.ensures.cause c.in-Ok-true.ensures.missed

pub returns-in-Ok-false : goal.returns-in-Ok-false
returns-in-Ok-false g c =
    let h = c.args.hearing.now in
    let old = port g.O.Source g.O.Door.connections g.O.Door.missed c.args.door.now in
    let new = port g.O.Source g.O.Door.connections g.O.Door.missed c.next.new.self in
    let admits = c.in-Ok-false.ensures.connections in
    let is_false : c.in-Ok-false.field-0 ≡ false = search rules in
    let found = subst (λ (b : Bool).
    IfSome new.connections (λ (all : Connections). b ≡ is_some all.present)) is_false admits.1 in
    gives_bad (site old h) new h c.spoil.new.self c.spoil.result c.spoil.ensures.after
    c.spoil.ensures.item
    (turns_ended old new h c.requires.ready c.requires.left admits.0 found
    c.in-Ok-false.ensures.cause c.in-Ok-false.ensures.missed)

pub returns-in-Err : goal.returns-in-Err
returns-in-Err g c =
    let old = port g.O.Source g.O.Door.connections g.O.Door.missed c.args.door.now in
    let new = port g.O.Source g.O.Door.connections g.O.Door.missed c.next.new.self in
    turns_refused old new c.args.hearing.now c.in-Err.field-0 c.requires.ready c.requires.left
    c.in-Err.ensures.connections c.in-Err.ensures.cause c.in-Err.ensures.missed
