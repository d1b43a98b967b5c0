use Rattle.std.proofs.Common.{◌∙◌, ap}
use Rattle.book_samples.specs.Kept.{Kept, measured_in}
use Rattle.book_samples.proofs.SampleLemmas.{same_stands}
use Rattle.book_samples.proofs.samples.Samples.reserve.Goals as goal

pub returns-in_err-reserve_room-clause-kept : goal.returns-in_err-reserve_room-clause-kept
returns-in_err-reserve_room-clause-kept c =
    same_stands c.args.self.now _ (c.reserve_room.ensures.drawn
    ∙ ap (λ (k : Kept). k.samples) c.self.view_is)
    (λ pack. c.reserve_room.ensures.measured pack
    ∙ ap (λ (k : Kept). measured_in k.measured pack) c.self.view_is)

pub returns-clause-kept : goal.returns-clause-kept
returns-clause-kept c =
    same_stands c.args.self.now _ (c.reserve_room.ensures.drawn
    ∙ ap (λ (k : Kept). k.samples) c.self.view_is)
    (λ pack. c.reserve_room.ensures.measured pack
    ∙ ap (λ (k : Kept). measured_in k.measured pack) c.self.view_is)
