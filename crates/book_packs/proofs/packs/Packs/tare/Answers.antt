use Rattle.std.proofs.Common.{◌∙◌, ap, w32}
use Rattle.std.proofs.lemmas.Int.{to_z-of_z}
use Rattle.book_packs.specs.Stand.{Standing}
use Rattle.tare_register.specs.Tares.{tare_of}
use Rattle.book_packs.proofs.TareRegisters.{tare_is}
use Rattle.book_packs.proofs.packs.Packs.tare.Goals as goal

pub returns : goal.returns
returns c entries name is known =
    let day = to_z-of_z w32 c.args.day c.ranges.day in
    (rw day at c.at.ensures) ∙ ap (λ some. tare_of some c.args.product c.args.day)
    (ap (λ (s : Standing). s.tares) c.self.view_is ∙ is.tares)
    ∙ tare_is entries name c.args.product known c.args.day
