use Rattle.std.proofs.Common.{◌-◌, ◌≤◌, length, drop, arith}
use Rattle.std.specs.Fmt.{decimal}
use Rattle.std.proofs.lemmas.Fmt.{length-decimal-le}
use Rattle.std.proofs.lemmas.List.{length-take, length-drop}
use Rattle.remote_cell.proofs.acknowledging.send_acknowledgement.Goals as goal

pub write_digits-digits-requires : goal.write_digits-digits-requires
write_digits-digits-requires g c =
    let few : length (decimal c.from.result) ≤ 10 = length-decimal-le 10 c.from.result (omega arith) (omega (arith, c.from.ensures, c.ranges.taken.fits)) (omega (arith, c.from.ensures, c.ranges.taken.fits)) in
    (omega (arith, few), omega arith)

pub overflow_sub-begin : goal.overflow_sub-begin
overflow_sub-begin g c =
    let few : length (decimal c.from.result) ≤ 10 = length-decimal-le 10 c.from.result (omega arith) (omega (arith, c.from.ensures, c.ranges.taken.fits)) (omega (arith, c.from.ensures, c.ranges.taken.fits)) in
    omega (arith, few, c.write_digits-digits.ensures.start)

pub copy_from_slice-requires : goal.copy_from_slice-requires
copy_from_slice-requires g c =
    let d = c.write_digits-digits.result in
    let few : length (decimal c.from.result) ≤ 10 = length-decimal-le 10 c.from.result (omega arith) (omega (arith, c.from.ensures, c.ranges.taken.fits)) (omega (arith, c.from.ensures, c.ranges.taken.fits)) in
    omega (arith, few, c.write_digits-digits.ensures.start, c.write_digits-digits.auto.buf, length-drop (d - 4) c.write_digits-digits.new.buf, length-take (d - (d - 4)) (drop (d - 4) c.write_digits-digits.new.buf))
