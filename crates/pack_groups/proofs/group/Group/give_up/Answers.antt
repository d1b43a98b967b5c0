use Rattle.std.proofs.Common.{ltb, arith}
use Rattle.pack_groups.proofs.group.Group.give_up.Goals as goal

pub overflow_sub-self : goal.overflow_sub-self
overflow_sub-self c =
    let first = c.remove-node.ensures (λ mass. ltb mass c.least_grosses-least.result.standard) in
    grind (
      arith,
      first,
      c.count_one.ensures,
      c.requires.judged.nonstandard,
      c.least_grosses-least.ensures.standard,
    )

pub overflow_sub-self-2 : goal.overflow_sub-self-2
overflow_sub-self-2 c =
    let second = c.remove-node.ensures (λ mass. ltb mass c.least_grosses-least.result.adequate) in
    grind (
      arith,
      second,
      c.count_one-2.ensures,
      c.requires.judged.inadequate,
      c.least_grosses-least.ensures.adequate,
    )

pub returns-clause-judged : goal.returns-clause-judged
returns-clause-judged c =
    let first = c.remove-node.ensures (λ mass. ltb mass c.least_grosses-least.result.standard) in
    let second = c.remove-node.ensures (λ mass. ltb mass c.least_grosses-least.result.adequate) in
    record {
      nonstandard = grind (
        arith,
        first,
        c.count_one.ensures,
        c.requires.judged.nonstandard,
        c.least_grosses-least.ensures.standard,
      );
      inadequate =
          grind (
            arith,
            second,
            c.count_one-2.ensures,
            c.requires.judged.inadequate,
            c.least_grosses-least.ensures.adequate,
          );
    }
