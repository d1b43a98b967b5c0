use Rattle.std.proofs.Common.{◌≡◌, ◌<◌, ◌∙◌, sym, true, false, length, arith, refl}
use Rattle.std.proofs.lemmas.Option.{slice_get_read}
use Rattle.balanced_tree.proofs.Heights.{count_is}
use Rattle.name_table.specs.Search.{precedes}
use Rattle.name_table.proofs.Finding.{precedes_is}
use Rattle.name_table.proofs.Sides.{few_on_sides, all_left, at_root, all_right, falls_left, falls_right, count_left, count_right}
use Rattle.name_table.proofs.search.+count_before.Goals as goal

pub bounds-names-root : goal.bounds-names-root
bounds-names-root t c = at_root c.in-Some.ensures.some
    (λ number. number < length c.args.names.now) c.requires.within

pub count_before-requires : goal.count_before-requires
count_before-requires t c =
    let root = c.in-Some.ensures.some in
    let few = few_on_sides root in (
      omega (arith, root.height, c.decreases),
      (
        root.balanced_right,
        (
          falls_right root (precedes c.args.names.now c.args.name.now) c.requires.falls,
          (
            all_right root (λ number. number < length c.args.names.now) c.requires.within,
            omega (arith, few, c.requires.few),
          ),
        ),
      ),
    )

pub count_before-requires-else-is_before : goal.count_before-requires-else-is_before
count_before-requires-else-is_before t c =
    let root = c.in-Some.ensures.some in
    let few = few_on_sides root in (
      omega (arith, root.height, c.decreases),
      (
        root.balanced_left,
        (
          falls_left root (precedes c.args.names.now c.args.name.now) c.requires.falls,
          (
            all_left root (λ number. number < length c.args.names.now) c.requires.within,
            omega (arith, few, c.requires.few),
          ),
        ),
      ),
    )

pub returns-then-is_before : goal.returns-then-is_before
returns-then-is_before t c =
    let root = c.in-Some.ensures.some in
    let names = c.args.names.now in
    let name = c.args.name.now in
    let within = at_root root (λ number. number < length names) c.requires.within in
    let at = slice_get_read names (length names) c.in-Some.root.now.item
    c.index-names-root.result refl within c.index-names-root.is in
    let holds : precedes names name c.in-Some.root.now.item ≡ true =
    precedes_is names name c.in-Some.root.now.item c.index-names-root.result at
    ∙ sym c.is_before.ensures ∙ c.if-is_before.true in
    let counted = count_is c.in-Some.root.now.left root.balanced_left in
    let there = count_right root (precedes names name) c.requires.falls holds in
    omega (arith, there, counted, c.count.ensures, c.count_before.ensures)

pub returns-else-is_before : goal.returns-else-is_before
returns-else-is_before t c =
    let root = c.in-Some.ensures.some in
    let names = c.args.names.now in
    let name = c.args.name.now in
    let within = at_root root (λ number. number < length names) c.requires.within in
    let at = slice_get_read names (length names) c.in-Some.root.now.item
    c.index-names-root.result refl within c.index-names-root.is in
    let fails : precedes names name c.in-Some.root.now.item ≡ false =
    precedes_is names name c.in-Some.root.now.item c.index-names-root.result at
    ∙ sym c.is_before.ensures ∙ c.if-is_before.false in
    c.count_before-else-is_before.ensures
    ∙ count_left root (precedes names name) c.requires.falls fails
