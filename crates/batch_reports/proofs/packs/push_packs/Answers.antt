use Rattle.std.proofs.Common.{rules, ◌≡◌, [], ◌∷◌, ◌++◌, List, ℕ, length, refl, sym, ap, ◌∙◌, subst, arith, append_assoc, append-nil}
use Rattle.std.specs.List.{AllByRecursion}
use Rattle.book_words.specs.declared.views.PackView.{PackView}
use Rattle.book_words.specs.Ranges.{IsPackInRange}
use Rattle.batch_reports.specs.Texts.{pack_text, pack_lines}
use Rattle.batch_reports.proofs.packs.push_packs.Goals as goal

pub push_pack-requires-clause-room : goal.push_pack-requires-clause-room
push_pack-requires-clause-room c =
    let here = c.loop-view in
    let parts : here.rest.now ≡ c.in-Some.view.now ∷ c.in-Some.behind.now = search rules in
    omega (arith, here.invariant.long, here.invariant.capacity, c.requires.room, ap length parts)

pub push_pack-requires-clause-range : goal.push_pack-requires-clause-range
push_pack-requires-clause-range c =
    let here = c.loop-view in
    let parts : here.rest.now ≡ c.in-Some.view.now ∷ c.in-Some.behind.now = search rules in
    (subst (AllByRecursion IsPackInRange) parts here.invariant.range).0

pub loop-view-preserved : goal.loop-view-preserved
loop-view-preserved c =
    let here = c.loop-view in
    let view = c.in-Some.view.now in
    let behind = c.in-Some.behind.now in
    let parts : here.rest.now ≡ view ∷ behind = search rules in
    record {
      items = ap (λ (l : List ℕ). l ++ pack_lines behind) c.push_pack.ensures.items
          ∙ append_assoc here.to.items (pack_text view) (pack_lines behind)
          ∙ ap (λ (vs : List PackView). here.to.items ++ pack_lines vs) (sym parts)
          ∙ here.invariant.items;
      range = (subst (AllByRecursion IsPackInRange) parts here.invariant.range).1;
      long = omega (arith, here.invariant.long, c.push_pack.ensures.longest, ap length parts);
      capacity = c.push_pack.ensures.capacity ∙ here.invariant.capacity;
    }

nothing : (views : List PackView) → length views ≡ 0 → views ≡ []
nothing [] h = refl
nothing (view ∷ views) h = absurd (omega (arith, h))

pub returns : goal.returns
returns c =
    let here = c.loop-view in
    let none : length here.rest.now ≡ 0 = search rules in
    record {
      items = sym (append-nil here.to.items)
          ∙ ap (λ (vs : List PackView). here.to.items ++ pack_lines vs) (sym (nothing here.rest.now none))
          ∙ here.invariant.items;
      longest = omega (arith, here.invariant.long);
      capacity = here.invariant.capacity;
    }
