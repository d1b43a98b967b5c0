use Rattle.std.proofs.Common.{◌≡◌, ◌<◌, length, Some, sym, ◌∙◌, arith}
use Rattle.std.specs.Prelude.{slice_get}
use Rattle.remote_cell.proofs.ExchangeLaw.{is_within}
use Rattle.remote_cell.proofs.sender.Sender.say.Goals as goal

pub overflow_add-result : goal.overflow_add-result
overflow_add-result c =
    let s = c.self.inside in
    let is : slice_get s.items s.acknowledged ≡ Some c.in_ok-item.item =
    sym c.get.ensures.item ∙ c.in_ok-item.was in
    let within : s.acknowledged < length s.items =
    is_within s.items s.acknowledged c.in_ok-item.item is in
    omega (arith, within, c.get.ensures.few)
