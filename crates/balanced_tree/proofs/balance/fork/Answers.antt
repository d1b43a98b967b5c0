use Rattle.std.proofs.Common.{arith}
use Rattle.balanced_tree.proofs.Heights.{count_is, lower_than_47}
use Rattle.balanced_tree.proofs.balance.fork.Goals as goal

pub overflow_add-height : goal.overflow_add-height
overflow_add-height g c =
    let few = c.requires.few in
    let on_left = lower_than_47 c.args.left c.requires.balanced_left (omega (arith, few)) in
    let on_right = lower_than_47 c.args.right c.requires.balanced_right (omega (arith, few)) in
    omega (
      arith,
      on_left,
      on_right,
      c.height.ensures,
      c.height-2.ensures,
      c.max-height.ensures,
    )

pub overflow_add-count-2 : goal.overflow_add-count-2
overflow_add-count-2 g c =
    let on_left = count_is c.args.left c.requires.balanced_left in
    let on_right = count_is c.args.right c.requires.balanced_right in
    omega (arith, on_left, on_right, c.count.ensures, c.count-2.ensures, c.requires.few)

pub returns-clause-balanced : goal.returns-clause-balanced
returns-clause-balanced g c =
    let on_left = count_is c.args.left c.requires.balanced_left in
    let on_right = count_is c.args.right c.requires.balanced_right in (
      c.requires.balanced_left,
      c.requires.balanced_right,
      omega (arith, on_left, on_right, c.count.ensures, c.count-2.ensures),
      omega (arith, c.height.ensures, c.height-2.ensures, c.max-height.ensures),
      c.requires.differ,
    )
