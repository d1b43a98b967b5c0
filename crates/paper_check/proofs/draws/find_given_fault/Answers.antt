use Rattle.std.proofs.Common.{rules, ◌≡◌, ◌∙◌, ap, sym, Bool, true, ℕ, Option, None, is_none, if◌then◌else◌}
use Rattle.std.specs.List.{position_from}
use Rattle.paper_form.specs.declared.types.Pick.{Pick}
use Rattle.paper_form.specs.Drafts.{data_of}
use Rattle.paper_check.specs.Faults.{second_line, stray_line, earlier_line, unmeasured_line}
use Rattle.paper_check.proofs.Lookups.{position-from}
use Rattle.paper_check.proofs.draws.find_given_fault.Goals as goal

pub returns : goal.returns
returns c =
    let paper = data_of c.args.paper.now in
    let strays : Option ℕ = stray_line (second_line paper) c.args.drawn.now paper.second in
    let first : c.find_stray-strays.result ≡ strays = search rules in
    let counted : c.find_unmeasured.result
    ≡ position_from
    (λ (pick : Pick). is_none pick.weighed) (second_line paper) paper.second = search rules in
    let told : c.find_unmeasured.result ≡ unmeasured_line paper =
    counted ∙ position-from
    (λ (pick : Pick). is_none pick.weighed) (second_line paper) paper.second in
    let needed : c.args.needed ≡ true = search rules in
    c.earlier_line.ensures
    ∙ ap (λ (o : Option ℕ). earlier_line o c.find_unmeasured.result) first
    ∙ ap (earlier_line strays) told
    ∙ sym (ap
    (λ (b : Bool). earlier_line strays (if b then unmeasured_line paper else None)) needed)
