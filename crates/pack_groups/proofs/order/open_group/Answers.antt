use Rattle.std.proofs.Common.{◌≡◌, [], ◌∷◌, ◌++◌, length, ap, ◌∙◌, arith, List}
use Rattle.std.proofs.lemmas.List.{length-map, map-append}
use Rattle.balanced_tree.specs.Trees.{items}
use Rattle.pack_groups.specs.declared.group.Group.{Group}
use Rattle.pack_groups.specs.Groups.{Face, face_of, faces, nth_rank, rank_of}
use Rattle.pack_groups.proofs.OrderLemmas.{below}
use Rattle.pack_groups.proofs.NewGroups.{index_made}
use Rattle.pack_groups.proofs.order.open_group.Goals as goal

pub returns-clause-index : goal.returns-clause-index
returns-clause-index c =
    let old = c.args.groups.now.items in
    let order = items c.args.order.now in
    let face : Face = record { key = c.args.key; tare = c.args.tare } in
    let own : face_of c.new.result ≡ face =
    λ i. record { key = c.new.ensures.key i; tare = c.new.ensures.tare i } in
    let pushed : c.push.new.self.items ≡ old ++ c.new.result ∷ [] = c.in-Ok.ensures.items in
    let more = ap faces pushed ∙ map-append face_of old (c.new.result ∷ [])
    ∙ ap (λ f. faces old ++ f ∷ []) own in
    let made = rw c.replace.ensures.value at c.insert.ensures.items in
    let at = c.place_of-place.ensures
    ∙ ap (λ (gs : List Group). below (nth_rank (faces gs)) (rank_of c.args.key) order)
    c.deref.ensures.value in
    let group : c.len-group.result ≡ length (faces old) =
    omega (arith, c.len-group.ensures, length-map old face_of, c.args.groups.now.ok.0) in
    index_made (faces old) (faces c.push.new.self.items) face order
    (items c.insert.result) c.place_of-place.result c.len-group.result more made at group
    c.requires.index c.requires.absent c.requires.key
