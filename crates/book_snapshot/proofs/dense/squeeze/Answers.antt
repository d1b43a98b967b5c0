use Rattle.std.proofs.Common.{◌≡◌, ◌≤◌, ◌++◌, ◌∙◌, ap, subst, List, ℕ, length, take}
use Rattle.std.proofs.lemmas.List.{take_rest}
use Rattle.book_snapshot.specs.declared.layout.TheConstants.{FIELDS_PLACE}
use Rattle.book_snapshot.specs.DenseRows.{trimmed, dense}
use Rattle.book_snapshot.proofs.DenseLemmas.{form_put}
use Rattle.book_snapshot.proofs.dense.squeeze.Goals as goal

appended : (old seen text form now : List ℕ) → now ≡ old ++ text → old ≡ seen → text ≡ form
    → now ≡ seen ++ form
appended old seen text form now is as_seen as_form = is ∙ ap (λ (l : List ℕ). l ++ text) as_seen
    ∙ ap (λ (l : List ℕ). seen ++ l) as_form

pub returns-clause-ok : goal.returns-clause-ok
returns-clause-ok g c =
    let row = c.args.row.now in
    let end = c.end_of-end.result in
    let all = take_rest row FIELDS_PLACE in
    let trims = subst (λ (l : List ℕ). take end l ≡ trimmed l) all c.end_of-end.ensures.trimmed in
    let within = subst (λ (l : List ℕ). end ≤ length l) all c.end_of-end.ensures.within in
    appended _ c.args.to.now _ (dense row) _ c.in_ok-push_bytes.ensures.appended c.to.view_is
    (form_put row c.copy_from_slice.new.self row end
    (c.copy_from_slice.ensures.after ∙ ap (λ (l : List ℕ). take end l) all) trims within
    c.requires.kind)
