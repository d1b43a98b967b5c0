use Rattle.std.proofs.Common.{rules, ◌≡◌, [], ◌∷◌, ◌++◌, List, ℕ, length, refl, sym, ap, ◌∙◌, arith, append_assoc, append-nil, Option, Some, None}
use Rattle.std.specs.List.{cons_option, filter_map}
use Rattle.book_words.specs.declared.views.PackView.{PackView}
use Rattle.book_words.specs.Views.{pack_view}
use Rattle.book_views.proofs.packs.copy_packs.Goals as goal

-- one that is there, or none, and others
before_others : (some : List PackView) (o : Option PackView) (others : List PackView)
    → (some ++ cons_option o []) ++ others ≡ some ++ cons_option o others
before_others some None others = ap (λ (l : List PackView). l ++ others) (append-nil some)
before_others some (Some view) others = append_assoc some (view ∷ []) others

pub loop-number-preserved : goal.loop-number-preserved
loop-number-preserved c =
    let here = c.loop-number in
    let view = pack_view c.args.state.now.entries in
    let number = c.in-Some.number.now in
    let behind = c.in-Some.behind.now in
    let parts : here.rest.now ≡ number ∷ behind = search rules in
    ap (λ (l : List PackView). l ++ filter_map view behind) c.in_ok-add_pack.ensures
    ∙ before_others here.packs.items (view number) (filter_map view behind)
    ∙ ap (λ (ns : List ℕ). here.packs.items ++ filter_map view ns) (sym parts)
    ∙ here.invariant

nothing : (numbers : List ℕ) → length numbers ≡ 0 → numbers ≡ []
nothing [] h = refl
nothing (number ∷ numbers) h = absurd (omega (arith, h))

pub returns : goal.returns
returns c =
    let here = c.loop-number in
    let view = pack_view c.args.state.now.entries in
    let none : length here.rest.now ≡ 0 = search rules in
    sym (append-nil here.packs.items)
    ∙ ap (λ (ns : List ℕ). here.packs.items ++ filter_map view ns) (sym (nothing here.rest.now none))
    ∙ here.invariant
