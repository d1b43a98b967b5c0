use Rattle.std.proofs.Common.{◌≡◌, ◌∷◌, Some, None, sym, ap, ◌∙◌, subst}
use Rattle.matchit.specs.Seek.{first}
use Rattle.matchit.specs.Params.{walk}
use Rattle.office_routes.specs.Spots.{find}
use Rattle.office_routes.specs.Rows.{office_rows}
use Rattle.office_routes.proofs.Telling.{Tells, tells, told_none, told_plain, told_part, told_parts}
use Rattle.office_routes.proofs.routes.Routes.find.Goals as goal

pub returns-in_default : goal.returns-in_default
returns-in_default c =
    let path = c.args.path.now in
    let row : first office_rows path ≡ None =
    ap (λ rows. first rows path) (sym c.self.invariant) ∙ c.in_default.ensures.missing in
    told_none path (find path)
    (subst (λ r. Tells path r (find path)) row
    (tells path c.utf8.path (λ i. (c.type_inv.path i).fits)))

pub returns-in_default-next : goal.returns-in_default-next
returns-in_default-next c =
    let path = c.args.path.now in
    let params = c.in-Ok.found.params in
    let row : first office_rows path ≡ Some _ =
    ap (λ rows. first rows path) (sym c.self.invariant) ∙ c.in-Ok.ensures.found in
    let told =
    subst (λ r. Tells path r (find path)) row
    (tells path c.utf8.path (λ i. (c.type_inv.path i).fits)) in
    told_plain path _ (find path) told
    (ap (λ p. walk params.pattern.now params.text.now p params.names.now 0 0)
    (sym c.in-Ok.ensures.path) ∙ sym c.iter-texts.ensures.value ∙ c.in_default-next.ensures.steps)

pub returns-in_default-next-2 : goal.returns-in_default-next-2
returns-in_default-next-2 c =
    let path = c.args.path.now in
    let params = c.in-Ok.found.params in
    let row : first office_rows path ≡ Some _ =
    ap (λ rows. first rows path) (sym c.self.invariant) ∙ c.in-Ok.ensures.found in
    let told =
    subst (λ r. Tells path r (find path)) row
    (tells path c.utf8.path (λ i. (c.type_inv.path i).fits)) in
    let steps = c.in-Some.ensures.steps in
    told_part path _ (find path) steps.0 c.in-Some.text.now told
    (ap (λ p. walk params.pattern.now params.text.now p params.names.now 0 0)
    (sym c.in-Ok.ensures.path) ∙ sym c.iter-texts.ensures.value ∙ steps.1
    ∙ ap (λ others. steps.0 ∷ others) c.in_default-next-2.ensures.steps) steps.3

pub returns : goal.returns
returns c =
    let path = c.args.path.now in
    let params = c.in-Ok.found.params in
    let row : first office_rows path ≡ Some _ =
    ap (λ rows. first rows path) (sym c.self.invariant) ∙ c.in-Ok.ensures.found in
    let told =
    subst (λ r. Tells path r (find path)) row
    (tells path c.utf8.path (λ i. (c.type_inv.path i).fits)) in
    let steps = c.in-Some.ensures.steps in
    let next = c.in-Some-next.ensures.steps in
    told_parts path _ (find path) steps.0 next.0 _ c.in-Some.text.now c.in-Some-next.more.now told
    (ap (λ p. walk params.pattern.now params.text.now p params.names.now 0 0)
    (sym c.in-Ok.ensures.path) ∙ sym c.iter-texts.ensures.value ∙ steps.1
    ∙ ap (λ others. steps.0 ∷ others) next.1) steps.3 next.3
