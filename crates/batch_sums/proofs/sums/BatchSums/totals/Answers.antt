use Rattle.std.proofs.Common.{◌≡◌, length, Some, refl, ap, sym, ◌∙◌, arith}
use Rattle.std.specs.List.{slice_get}
use Rattle.std.proofs.lemmas.List.{length-map}
use Rattle.std.proofs.lemmas.Option.{slice_get_read, slice_get-map}
use Rattle.pack_groups.specs.Groups.{faces}
use Rattle.batch_sums.specs.Kept.{terms_of}
use Rattle.batch_sums.specs.Totals.{Sums}
use Rattle.batch_sums.proofs.BatchTotals.{tared, bounded, told}
use Rattle.batch_sums.proofs.sums.BatchSums.totals.Goals as goal

pub totals-requires : goal.totals-requires
totals-requires c =
    let sums = c.self.inside in
    let sound = c.self.invariant.settled.sound in
    let long : length sums.batches.items ≡ length c.args.self.now.batches =
    sym (length-map sums.batches.items terms_of)
    ∙ ap (λ (s : Sums). length s.batches) c.self.view_is in
    let at : slice_get sums.batches.items c.args.batch ≡ Some c.index-batch.result.now =
    slice_get_read sums.batches.items _ c.args.batch c.index-batch.result.now refl
    (omega (arith, long, c.requires)) c.index-batch.ensures in
    bounded (faces sums.groups.items) c.args.batch c.index-batch.result.now sums.packs.items
    (sound.batch c.args.batch c.index-batch.result.now at) sound.light
    (tared sums.batches.items sums.groups.items sums.packs.items sound) sound.few

pub returns : goal.returns
returns c =
    let sums = c.self.inside in
    let sound = c.self.invariant.settled.sound in
    let long : length sums.batches.items ≡ length c.args.self.now.batches =
    sym (length-map sums.batches.items terms_of)
    ∙ ap (λ (s : Sums). length s.batches) c.self.view_is in
    let at : slice_get sums.batches.items c.args.batch ≡ Some c.index-batch.result.now =
    slice_get_read sums.batches.items _ c.args.batch c.index-batch.result.now refl
    (omega (arith, long, c.requires)) c.index-batch.ensures in
    let own = told (faces sums.groups.items) c.args.batch c.index-batch.result.now sums.packs.items
    (sound.batch c.args.batch c.index-batch.result.now at) sound.light
    (tared sums.batches.items sums.groups.items sums.packs.items sound) in
    rw (← c.self.view_is) (rw (slice_get-map terms_of sums.batches.items c.args.batch, at)
    (ap Some (own ∙ sym c.totals.ensures)))
