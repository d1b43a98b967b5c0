use Rattle.std.proofs.Common.{◌≡◌, ◌↔◌, ◌∙◌, ℕ, List, Contains, IsTrue, ap, subst}
use Rattle.disk_core.specs.Streams.{next_call}
use Rattle.disk_core.specs.ListDoors.{DoorState}
use Rattle.disk_core.proofs.list_door.ListDoor.is_listed.Goals as goal

pub returns-clause-listed : goal.returns-clause-listed
returns-clause-listed c =
    let list : c.deref.result.now ≡ c.args.self.now.fails =
    c.deref.ensures.value ∙ ap (λ (d : DoorState). d.fails) c.self.view_is in
    let number : c.saturating_add-self-inside.result ≡ next_call c.args.self.now.calls =
    c.saturating_add-self-inside.ensures ∙ ap (λ (d : DoorState). next_call d.calls) c.self.view_is in
    subst (λ (n : ℕ). IsTrue c.contains.result ↔ Contains c.args.self.now.fails n) number
    (subst (λ (l : List ℕ). IsTrue c.contains.result
    ↔ Contains l c.saturating_add-self-inside.result) list c.contains.ensures)
