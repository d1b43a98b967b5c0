use Rattle.std.proofs.Common.{get_or, arith}
use Rattle.std.proofs.lemmas.Str.Parse.{digit_at}
use Rattle.std.proofs.lemmas.Str.{digit_value_digit}
use Rattle.std.proofs.lemmas.Int.Digits.{digits_value_more}
use Rattle.hall_units.proofs.Digits.{next_digit_below, digit_fits}
use Rattle.hall_units.proofs.number.value_of_digits.Goals as goal

pub overflow_mul-value : goal.overflow_mul-value
overflow_mul-value c =
    record {
      fits =
          omega (
            arith,
            digit_fits c.loop-byte.byte-index c.loop-byte.value 0
                (omega arith) c.loop-byte.invariant.1 (omega arith),
          );
    }

pub overflow_sub-byte : goal.overflow_sub-byte
overflow_sub-byte c =
    (digit_at c.args.text.now c.loop-byte.byte-index c.requires.digits (omega arith)).0

pub overflow_add-value : goal.overflow_add-value
overflow_add-value c =
    let digit = digit_at c.args.text.now c.loop-byte.byte-index c.requires.digits (omega arith) in
    record {
      fits = digit_fits c.loop-byte.byte-index c.loop-byte.value c.from.result
          (omega arith) c.loop-byte.invariant.1 (omega arith);
    }

pub loop-byte-preserved : goal.loop-byte-preserved
loop-byte-preserved c =
    let i = c.loop-byte.byte-index in
    let text = c.args.text.now in
    let digit = digit_at text i c.requires.digits (omega arith) in
    let is = digit_value_digit (get_or text i 0) digit in
    let step = digits_value_more 10 text i (omega arith) in (
      omega (arith, step, is),
      next_digit_below i c.loop-byte.value c.from.result
          c.loop-byte.invariant.1 (omega arith),
    )
