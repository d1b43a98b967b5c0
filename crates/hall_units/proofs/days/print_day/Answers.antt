use Rattle.std.proofs.Common.{◌≡◌, ℕ, List, length, FitsSigned, w32, ap, ◌∙◌, subst}
use Rattle.std.proofs.lemmas.Int.{to_z-of_z}
use Rattle.hall_units.specs.Printing.{Prints}
use Rattle.hall_units.proofs.Calendar.{jiff_text-day, length-day_text}
use Rattle.hall_units.proofs.DayTexts.{day_of-day_text}
use Rattle.hall_units.proofs.days.print_day.Goals as goal

pub returns-clause-prints : goal.returns-clause-prints
returns-clause-prints c =
    let fits : FitsSigned w32 c.args.day = c.ranges.day in
    let text = c.as_bytes.ensures.value ∙ c.deref.ensures.0 ∙ c.date_text-text.ensures
    ∙ jiff_text-day c.date_of.result c.args.day c.requires
    (simp to_z-of_z at c.date_of.ensures) in
    let ten : length c.as_bytes.result.now ≡ 10 = ap length text ∙ length-day_text c.args.day in
    subst (λ (t : List ℕ). Prints c.args.to.now c.push_bytes.new.to c.push_bytes.result t 10) text
    (subst (λ (n : ℕ). Prints c.args.to.now c.push_bytes.new.to c.push_bytes.result
    c.as_bytes.result.now n) ten c.push_bytes.ensures)

pub returns-clause-read_back : goal.returns-clause-read_back
returns-clause-read_back c = day_of-day_text c.args.day c.requires

pub returns-clause-calendar : goal.returns-clause-calendar
returns-clause-calendar c date = jiff_text-day date c.args.day c.requires
