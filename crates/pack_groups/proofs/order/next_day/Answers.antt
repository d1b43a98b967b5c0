use Rattle.std.proofs.Common.{◌≡◌, ◌+◌, ◌*◌, ◌<◌, length, ap, sym, ◌∙◌, arith}
use Rattle.std.proofs.lemmas.Int.{ints}
use Rattle.std.proofs.lemmas.List.{length-map}
use Rattle.balanced_tree.specs.Trees.{items}
use Rattle.pack_groups.specs.Groups.{Face, face_of, faces, nth_rank}
use Rattle.pack_groups.proofs.DayEnds.{passed_from}
use Rattle.pack_groups.proofs.Faces.{face-at}
use Rattle.pack_groups.proofs.NewGroups.{All-found}
use Rattle.pack_groups.proofs.OrderLemmas.{below}
use Rattle.pack_groups.proofs.order.next_day.Goals as goal

pub overflow_add-next : goal.overflow_add-next
overflow_add-next c =
    let there = All-found (λ other. other < length (faces c.args.groups.now))
    (items c.args.order.now) c.args.place c.args.group c.requires.index.within c.requires.placed in
    let within : c.args.group < length c.args.groups.now =
    omega (arith, there, length-map c.args.groups.now face_of) in
    let face = face-at c.args.groups.now c.args.group c.index-groups-group.result within in
    let key = c.requires.index.keys c.args.group there in
    let day = ap (λ (f : Face). f.key.day) face in
    record { fits = omega (arith, ints, key.day, day) }

pub returns-clause-passed : goal.returns-clause-passed
returns-clause-passed c =
    let order = items c.args.order.now in
    let some = faces c.args.groups.now in
    let there = All-found (λ other. other < length some) order c.args.place c.args.group
    c.requires.index.within c.requires.placed in
    let within : c.args.group < length c.args.groups.now =
    omega (arith, there, length-map c.args.groups.now face_of) in
    let face = face-at c.args.groups.now c.args.group c.index-groups-group.result within in
    let next : c.place_of.result ≡ below (nth_rank some)
    (((Rattle.pack_groups.specs.Groups.nth_face some c.args.group).key.product * 4294967296
    + ((Rattle.pack_groups.specs.Groups.nth_face some c.args.group).key.day + 1))
    * 4294967296 + 0) order = c.place_of.ensures
    ∙ ap (λ (f : Face). below (nth_rank some)
    ((f.key.product * 4294967296 + (f.key.day + 1)) * 4294967296 + 0) order) (sym face) in
    passed_from some order c.args.group c.args.place c.min.result c.requires.index
    c.requires.placed (omega (arith, c.min.ensures, c.max.ensures, next))
