use Rattle.std.proofs.Common.{◌-◌, arith}
use Rattle.row_format.proofs.Loops.{wrong_within}
use Rattle.row_format.proofs.fields.checked.Goals as goal

pub overflow_add-result : goal.overflow_add-result
overflow_add-result c =
    let within = wrong_within c.args.numbers.now c.args.number 1 0 (c.args.size - 1) in
    record { fits = omega (arith, within, c.right_bytes.ensures, c.requires.size.1) }
