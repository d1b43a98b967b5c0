use Rattle.std.proofs.Common.{◌≡◌, rules}
use Rattle.std.specs.Result.{result_ok}
use Rattle.hall_units.specs.Days.{day_of, day_text, IsDay}
use Rattle.hall_units.proofs.DayTexts.{IfOk-result_ok, IsDay-day_of, day_text-day_of}
use Rattle.hall_units.proofs.days.read_day.Goals as goal

pub returns-then-not-has_date_form : goal.returns-then-not-has_date_form
unfolding day_of
returns-then-not-has_date_form c = search rules

value : (c : goal.After-ok_or) → result_ok c.ok_or.result ≡ day_of c.args.text.now
unfolding day_of
value c = search rules

pub returns-clause-value : goal.returns-clause-value
returns-clause-value c = value c

pub returns-clause-range : goal.returns-clause-range
returns-clause-range c = IfOk-result_ok IsDay c.ok_or.result (day_of c.args.text.now) (value c)
    (IsDay-day_of c.args.text.now)

pub returns-clause-spelled : goal.returns-clause-spelled
returns-clause-spelled c =
    IfOk-result_ok (λ day. c.args.text.now ≡ day_text day) c.ok_or.result (day_of c.args.text.now)
    (value c) (day_text-day_of c.args.text.now)
