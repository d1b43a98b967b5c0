use Rattle.std.proofs.Common.{ltb, arith}
use Rattle.pack_groups.proofs.group.Group.take_in.Goals as goal

pub returns-clause-judged : goal.returns-clause-judged
returns-clause-judged c =
    let first = c.insert.ensures (λ mass. ltb mass c.least_grosses-least.result.standard) in
    let second = c.insert.ensures (λ mass. ltb mass c.least_grosses-least.result.adequate) in
    record {
      nonstandard = grind (
        arith,
        first,
        c.count_one.ensures,
        c.requires.judged.nonstandard,
        c.least_grosses-least.ensures.standard,
      );
      inadequate =
          grind (
            arith,
            second,
            c.count_one-2.ensures,
            c.requires.judged.inadequate,
            c.least_grosses-least.ensures.adequate,
          );
    }
