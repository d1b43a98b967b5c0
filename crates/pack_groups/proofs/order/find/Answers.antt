use Rattle.std.proofs.Common.{◌≡◌, ◌<◌, length, refl, ap, sym, subst, ◌∙◌, eqb, false, arith}
use Rattle.std.specs.List.{slice_get}
use Rattle.std.proofs.lemmas.List.{length-map}
use Rattle.std.proofs.lemmas.Option.{slice_get_read}
use Rattle.balanced_tree.specs.Trees.{items}
use Rattle.pack_groups.specs.Groups.{Face, face_of, faces, rank_of}
use Rattle.pack_groups.proofs.Faces.{face-at}
use Rattle.pack_groups.proofs.NewGroups.{All-found, absent_behind, absent_other}
use Rattle.pack_groups.proofs.order.find.Goals as goal

pub returns-in_default-clause-none : goal.returns-in_default-clause-none
returns-in_default-clause-none c =
    absent_behind (faces c.args.groups.now) (items c.args.order.now) c.requires.index
    (rank_of c.args.key.now)
    (ap (slice_get (items c.args.order.now)) (sym c.place_of-place.ensures) ∙ sym c.get.ensures
    ∙ c.in_default.is)

pub bounds-groups-group : goal.bounds-groups-group
bounds-groups-group c =
    let there = All-found (λ place. place < length (faces c.args.groups.now))
    (items c.args.order.now) c.place_of-place.result c.in-Some.group c.requires.index.within
    (sym c.get.ensures ∙ c.in-Some.is) in
    omega (arith, there, length-map c.args.groups.now face_of)

pub returns-then-is_same-clause-some : goal.returns-then-is_same-clause-some
returns-then-is_same-clause-some c =
    let there = All-found (λ place. place < length (faces c.args.groups.now))
    (items c.args.order.now) c.place_of-place.result c.in-Some.group c.requires.index.within
    (sym c.get.ensures ∙ c.in-Some.is) in
    let within : c.in-Some.group < length c.args.groups.now =
    omega (arith, there, length-map c.args.groups.now face_of) in (
      c.index-groups-group.result,
      slice_get_read c.args.groups.now
          (length c.args.groups.now) c.in-Some.group c.index-groups-group.result refl within
          c.index-groups-group.is,
      ap (λ g. g.key) c.index-groups-group.is
          ∙ c.is_same.ensures.same c.if-is_same.true,
    )

pub returns-else-is_same-clause-none : goal.returns-else-is_same-clause-none
returns-else-is_same-clause-none c =
    let there = All-found (λ place. place < length (faces c.args.groups.now))
    (items c.args.order.now) c.place_of-place.result c.in-Some.group c.requires.index.within
    (sym c.get.ensures ∙ c.in-Some.is) in
    let within : c.in-Some.group < length c.args.groups.now =
    omega (arith, there, length-map c.args.groups.now face_of) in
    let face = face-at c.args.groups.now c.in-Some.group c.index-groups-group.result within in
    absent_other (faces c.args.groups.now) (items c.args.order.now) c.requires.index
    (rank_of c.args.key.now) c.in-Some.group
    (ap (slice_get (items c.args.order.now)) (sym c.place_of-place.ensures) ∙ sym c.get.ensures
    ∙ c.in-Some.is)
    (subst (λ (f : Face). eqb (rank_of f.key) (rank_of c.args.key.now) ≡ false) (sym face)
    (sym c.is_same.ensures.rank ∙ c.if-is_same.false))
