use Rattle.std.proofs.Common.{rules, ◌≡◌, [], ◌∷◌, ◌++◌, List, ℕ, length, refl, sym, ap, ◌∙◌, subst, arith, append_assoc, append-nil}
use Rattle.std.specs.List.{AllByRecursion}
use Rattle.book_words.specs.declared.views.ActView.{ActView}
use Rattle.book_words.specs.Ranges.{IsLawfulSomewhere}
use Rattle.batch_reports.specs.Texts.{row_of, rows_of}
use Rattle.batch_reports.proofs.pages.push_rows.Goals as goal

pub push_row-requires-clause-room : goal.push_row-requires-clause-room
push_row-requires-clause-room c =
    let here = c.loop-view in
    let parts : here.rest.now ≡ c.in-Some.view.now ∷ c.in-Some.behind.now = search rules in
    omega (arith, here.invariant.long, here.invariant.capacity, c.requires.room, ap length parts)

pub push_row-requires-clause-lawful : goal.push_row-requires-clause-lawful
push_row-requires-clause-lawful c =
    let here = c.loop-view in
    let parts : here.rest.now ≡ c.in-Some.view.now ∷ c.in-Some.behind.now = search rules in
    (subst (AllByRecursion IsLawfulSomewhere) parts here.invariant.lawful).0

pub loop-view-preserved : goal.loop-view-preserved
loop-view-preserved c =
    let here = c.loop-view in
    let view = c.in-Some.view.now in
    let behind = c.in-Some.behind.now in
    let parts : here.rest.now ≡ view ∷ behind = search rules in
    record {
      items = ap (λ (l : List ℕ). l ++ rows_of behind) c.push_row.ensures.items
          ∙ append_assoc here.to.items (row_of view) (rows_of behind)
          ∙ ap (λ (vs : List ActView). here.to.items ++ rows_of vs) (sym parts)
          ∙ here.invariant.items;
      lawful = (subst (AllByRecursion IsLawfulSomewhere) parts here.invariant.lawful).1;
      long = omega (arith, here.invariant.long, c.push_row.ensures.longest, ap length parts);
      capacity = c.push_row.ensures.capacity ∙ here.invariant.capacity;
    }

nothing : (views : List ActView) → length views ≡ 0 → views ≡ []
nothing [] h = refl
nothing (view ∷ views) h = absurd (omega (arith, h))

pub returns : goal.returns
returns c =
    let here = c.loop-view in
    let none : length here.rest.now ≡ 0 = search rules in
    record {
      items = sym (append-nil here.to.items)
          ∙ ap (λ (vs : List ActView). here.to.items ++ rows_of vs) (sym (nothing here.rest.now none))
          ∙ here.invariant.items;
      longest = omega (arith, here.invariant.long);
      capacity = here.invariant.capacity;
    }
