use Rattle.std.proofs.Common.{◌≡◌, ◌+◌, ◌-◌, ◌*◌, ◌%◌, ◌<◌, true, false, sym, ap, ◌∙◌, arith}
use Rattle.std.proofs.lemmas.Nat.{mod_below}
use Rattle.row_format.specs.Reading.{can_begin}
use Rattle.row_format.proofs.Powers.{power_more, power_bounds}
use Rattle.row_format.proofs.Loops.{right_more, wrong_next, wrong_last}
use Rattle.row_format.proofs.fields.right_bytes.Goals as goal

pub overflow_mul-modulus : goal.overflow_mul-modulus
overflow_mul-modulus c =
    let power = power_bounds c.loop-count.count 6 (omega (arith, c.requires.size.1)) in
    record { fits = omega (arith, c.loop-count.invariant.power, power.most) }

pub nonzero_rem-number : goal.nonzero_rem-number
nonzero_rem-number c =
    let power = power_bounds c.loop-count.count 6 (omega (arith, c.requires.size.1)) in
    omega (arith, c.loop-count.invariant.power, power.positive)

pub can_begin-requires-clause-low : goal.can_begin-requires-clause-low
can_begin-requires-clause-low c =
    let power = power_bounds c.loop-count.count 6 (omega (arith, c.requires.size.1)) in
    let positive : 0 < c.loop-count.modulus * 256 =
    omega (arith, c.loop-count.invariant.power, power.positive) in
    mod_below c.args.number (c.loop-count.modulus * 256) positive

pub can_begin-requires-clause-modulus : goal.can_begin-requires-clause-modulus
can_begin-requires-clause-modulus c =
    let power = power_bounds c.loop-count.count 6 (omega (arith, c.requires.size.1)) in
    omega (arith, c.loop-count.invariant.power, power.most)

pub returns-then-not-can_begin : goal.returns-then-not-can_begin
returns-then-not-can_begin c =
    let numbers = c.args.numbers.now in
    let modulus = c.loop-count.modulus in
    let count = c.loop-count.count in
    let rest = c.args.size - 1 - (count + 1) in
    let wrong : can_begin numbers (c.args.number % (modulus * 256)) (modulus * 256) ≡ false = cc in
    wrong_next numbers c.args.number modulus count (c.args.size - 1 - count) rest
    (omega arith) wrong ∙ c.loop-count.invariant.same

pub loop-count-preserved : goal.loop-count-preserved
loop-count-preserved c =
    let numbers = c.args.numbers.now in
    let modulus = c.loop-count.modulus in
    let count = c.loop-count.count in
    let rest = c.args.size - 1 - (count + 1) in
    let right : can_begin numbers (c.args.number % (modulus * 256)) (modulus * 256) ≡ true = cc in
    record {
      power = ap (λ n. n * 256) c.loop-count.invariant.power ∙ sym (power_more count);
      same = right_more numbers c.args.number modulus count (c.args.size - 1 - count) rest
          (omega arith) right ∙ c.loop-count.invariant.same;
    }

pub returns : goal.returns
returns c =
    let ends : c.loop-count.count ≡ c.args.size - 1 = omega arith in
    sym ends ∙ wrong_last c.args.numbers.now c.args.number c.loop-count.modulus c.loop-count.count
    (c.args.size - 1 - c.loop-count.count) (omega arith) ∙ c.loop-count.invariant.same
