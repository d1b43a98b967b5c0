use Rattle.std.proofs.Common.{◌<◌, ◌^◌, ◌-◌, arith}
use Rattle.hall_units.proofs.ReadBack.{bounded_number-decimal}
use Rattle.hall_units.proofs.decimal.push_number.Goals as goal

pub returns-in_err-push_bytes-clause-read_back : goal.returns-in_err-push_bytes-clause-read_back
returns-in_err-push_bytes-clause-read_back c =
    let small : c.args.value < 2 ^ 64 = c.ranges.value.fits in
    bounded_number-decimal 20 (2 ^ 64 - 1) c.args.value
    (omega arith) (omega arith) (omega arith) (omega arith)

pub returns-clause-read_back : goal.returns-clause-read_back
returns-clause-read_back c =
    let small : c.args.value < 2 ^ 64 = c.ranges.value.fits in
    bounded_number-decimal 20 (2 ^ 64 - 1) c.args.value
    (omega arith) (omega arith) (omega arith) (omega arith)
