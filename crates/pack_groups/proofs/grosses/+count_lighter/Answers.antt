use Rattle.std.proofs.Common.{rules, arith, ◌∙◌, sym}
use Rattle.pack_groups.specs.Rising.{mass_of}
use Rattle.balanced_tree.proofs.Heights.{count_is}
use Rattle.pack_groups.proofs.Descents.{rising_left, rising_right, few_on_sides, below_right, below_left}
use Rattle.pack_groups.proofs.grosses.+count_lighter.Goals as goal

pub count_lighter-requires : goal.count_lighter-requires
count_lighter-requires g t c κs within =
    let root = c.in-Some.ensures.some in
    let up = rising_right mass_of root c.requires.rising in
    let few = few_on_sides root in (
      omega (arith, root.height, c.decreases),
      (search rules, (root.balanced_right, (up, omega (arith, few, c.requires.few)))),
    )

pub count_lighter-requires-else-less : goal.count_lighter-requires-else-less
count_lighter-requires-else-less g t c κs within =
    let root = c.in-Some.ensures.some in
    let up = rising_left mass_of root c.requires.rising in
    let few = few_on_sides root in (
      omega (arith, root.height, c.decreases),
      (search rules, (root.balanced_left, (up, omega (arith, few, c.requires.few)))),
    )

pub returns-then-less-clause-value : goal.returns-then-less-clause-value
returns-then-less-clause-value g t c =
    let root = c.in-Some.ensures.some in
    let counted = count_is c.in-Some.root.now.left root.balanced_left in
    let there = below_right mass_of c.args.limit root c.requires.rising
    (sym c.less.ensures.value ∙ c.if-less.true) in
    omega (arith, there, counted, c.count.ensures, c.count_lighter.ensures.value)

pub returns-else-less-clause-value : goal.returns-else-less-clause-value
returns-else-less-clause-value g t c =
    let root = c.in-Some.ensures.some in
    c.count_lighter-else-less.ensures.value
    ∙ below_left mass_of c.args.limit root c.requires.rising
    (sym c.less.ensures.value ∙ c.if-less.false)
