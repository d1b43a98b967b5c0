use Rattle.std.proofs.Common.{◌≡◌, ◌-◌, ◌+◌, ◌<◌, length, take, drop, take_all, ◌∙◌, ap, inl, inr, arith}
use Rattle.std.specs.List.{prefix_len}
use Rattle.std.specs.Char.{is_ascii_digit}
use Rattle.std.proofs.lemmas.List.{length-drop}
use Rattle.std.proofs.lemmas.List.Sums.{prefix_len-le-length}
use Rattle.hall_units.proofs.Fronts.{spelled_to_digits, spelled_to_places}
use Rattle.hall_units.proofs.grams.spelled_length.Goals as goal
use Rattle.hall_units.proofs.grams.spelled_length.Goals.{then-whole-eq0-via-then-whole-eq0, then-whole-eq0-via-else-whole-eq0+then-whole-gt-GRAM_DIGITS, then-whole-eq0-via-else-whole-eq0+else-whole-gt-GRAM_DIGITS+then-whole-text, then-whole-eq0-via-else-whole-eq0+else-whole-gt-GRAM_DIGITS+else-whole-text+then-text-whole-ne46}

pub bounds-text-whole : goal.bounds-text-whole
bounds-text-whole c = omega (arith, prefix_len-le-length is_ascii_digit c.args.text.now, c.requires)

pub returns-then-whole-eq0 : goal.returns-then-whole-eq0
returns-then-whole-eq0 c =
    rw c.min.ensures (spelled_to_digits c.args.text.now c.args.whole c.requires
    (elim c.then-whole-eq0.branch [
      | then-whole-eq0-via-then-whole-eq0 w ↦ inl w.if-whole-eq0.true
      | then-whole-eq0-via-else-whole-eq0+then-whole-gt-GRAM_DIGITS w ↦
          inr (inl w.if-whole-gt-GRAM_DIGITS.true)
      | then-whole-eq0-via-else-whole-eq0+else-whole-gt-GRAM_DIGITS+then-whole-text w ↦
          inr (inr (inl w.if-whole-text.true))
      | then-whole-eq0-via-else-whole-eq0+else-whole-gt-GRAM_DIGITS+else-whole-text+then-text-whole-ne46 w ↦ inr (inr (inr w.if-text-whole-ne46.true))
    ]))

pub returns : goal.returns
returns c =
    let some : 0 < c.args.whole = omega arith in
    let behind : c.args.whole < length c.args.text.now =
    omega (arith, prefix_len-le-length is_ascii_digit c.args.text.now, c.requires) in
    let cut : take (length c.args.text.now - (c.args.whole + 1))
    (drop (c.args.whole + 1) c.args.text.now) ≡ drop (c.args.whole + 1) c.args.text.now =
    take_all (length c.args.text.now - (c.args.whole + 1)) (drop (c.args.whole + 1) c.args.text.now)
    (omega (arith, length-drop (c.args.whole + 1) c.args.text.now)) in
    rw c.min-2.ensures (spelled_to_places c.args.text.now c.args.whole c.count_digits-places.result
    c.requires some c.if-whole-gt-GRAM_DIGITS.false behind
    c.if-text-whole-ne46.false (c.count_digits-places.ensures.value
    ∙ ap (prefix_len is_ascii_digit) cut))
