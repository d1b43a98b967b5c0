use Rattle.std.proofs.Common.{◌≡◌, ◌<◌, eqb, length, map, None, Some, option_map, refl, ap, sym, subst, ◌∙◌, arith, to_z, w32, w64}
use Rattle.std.specs.Prelude.{pos}
use Rattle.std.specs.List.{find, slice_get}
use Rattle.std.specs.Option.{option_and_then}
use Rattle.std.proofs.lemmas.Int.{ints}
use Rattle.std.proofs.lemmas.List.{length-map}
use Rattle.std.proofs.lemmas.Option.{slice_get_read, slice_get-map}
use Rattle.pack_groups.specs.Groups.{Face, face_of, faces}
use Rattle.pack_groups.specs.Index.{IsKey}
use Rattle.batch_sums.specs.Kept.{seen}
use Rattle.batch_sums.specs.Totals.{Sums}
use Rattle.batch_sums.proofs.NumberPlaces.{find-numbered}
use Rattle.batch_sums.proofs.PileMoves.{in_group, light_pack, at_group, kept_group}
use Rattle.batch_sums.proofs.Numbers.{number_at, found_by}
use Rattle.batch_sums.proofs.SoundLemmas.{face-found}
use Rattle.batch_sums.proofs.sums.BatchSums.pack.Goals as goal

pub returns-in_err-place : goal.returns-in_err-place
returns-in_err-place c =
    let sums = c.self.inside in
    let fs = faces sums.groups.items in
    let held = sums.packs.items in
    c.from_residual.ensures
    ∙ sym (ap (λ (s : Sums). find (λ pack. eqb pack.number c.args.number) s.packs) (sym c.self.view_is)
    ∙ find-numbered fs c.args.number held
    ∙ ap (option_and_then (slice_get (map (seen fs) held)))
    (sym (found_by c.deref.result.now held None c.args.number c.deref.ensures.value
    c.self.invariant.settled.rising c.in_err-place.ensures)))

pub returns : goal.returns
returns c =
    let sums = c.self.inside in
    let settled = c.self.invariant.settled in
    let bs = sums.batches.items in
    let gs = sums.groups.items in
    let fs = faces gs in
    let held = sums.packs.items in
    let h = c.index-held.result.now in
    let group = c.index-group.result.now in
    let found = number_at c.deref.result.now held c.in_ok-place.place c.args.number h
    c.deref.ensures.value settled.rising c.in_ok-place.ensures c.index-held.ensures in
    let face = face-found gs h.group group
    (at_group bs gs held settled.sound c.in_ok-place.place h c.index-held.ensures found.0 group
    c.index-group.ensures) in
    let kept = kept_group bs gs held settled.sound c.in_ok-place.place h c.index-held.ensures
    found.0 group c.index-group.ensures in
    let there : h.group < length fs =
    omega (
      arith,
      in_group bs gs held settled.sound c.in_ok-place.place h c.index-held.ensures
          found.0,
      length-map gs face_of,
    ) in
    let key = subst IsKey face (settled.index.keys h.group there) in
    let day : to_z w32 group.key.day ≡ pos group.key.day = omega (arith, ints, key.day) in
    let gross : to_z w64 h.gross ≡ pos h.gross =
    omega (
      arith,
      ints,
      light_pack bs gs held settled.sound c.in_ok-place.place h
          c.index-held.ensures found.0,
    ) in
    let tare : to_z w64 group.tare ≡ pos group.tare = omega (arith, ints, kept.tare) in
    let at : slice_get held c.in_ok-place.place ≡ Some h =
    slice_get_read held (length held) c.in_ok-place.place h refl found.0 c.index-held.ensures in
    (λ i. Some (record {
      number = sym found.1 i;
      batch = (sym face i).key.batch;
      day =
          (day ∙ ap (λ (f : Face). pos f.key.day) (sym face)) i;
      gross = gross i;
      tare =
          (tare ∙ ap (λ (f : Face). pos f.tare) (sym face)) i;
      pile = h.pile;
    }))
    ∙ sym (ap (λ (s : Sums). find (λ pack. eqb pack.number c.args.number) s.packs) (sym c.self.view_is)
    ∙ find-numbered fs c.args.number held
    ∙ ap (option_and_then (slice_get (map (seen fs) held)))
    (sym (found_by c.deref.result.now held (Some c.in_ok-place.place) c.args.number
    c.deref.ensures.value settled.rising c.in_ok-place.ensures))
    ∙ slice_get-map (seen fs) held c.in_ok-place.place ∙ ap (option_map (seen fs)) at)
