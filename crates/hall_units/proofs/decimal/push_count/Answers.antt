use Rattle.std.proofs.Common.{◌<◌, ◌^◌, ◌-◌, arith}
use Rattle.hall_units.proofs.ReadBack.{bounded_number-decimal}
use Rattle.hall_units.proofs.decimal.push_count.Goals as goal

pub returns-in_err-push_bytes-clause-read_back : goal.returns-in_err-push_bytes-clause-read_back
returns-in_err-push_bytes-clause-read_back c =
    let small : c.args.count < 2 ^ 32 = c.ranges.count.fits in
    bounded_number-decimal 10 (2 ^ 32 - 1) c.args.count
    (omega arith) (omega arith) (omega arith) (omega arith)

pub returns-clause-read_back : goal.returns-clause-read_back
returns-clause-read_back c =
    let small : c.args.count < 2 ^ 32 = c.ranges.count.fits in
    bounded_number-decimal 10 (2 ^ 32 - 1) c.args.count
    (omega arith) (omega arith) (omega arith) (omega arith)
