-- What a legal list tells is in range.
use Rattle.std.proofs.Common.{◌≡◌, ℤ, pos, suc, List, [], ◌∷◌, Option, Some, None, IfSome, true, arith}
use Rattle.std.specs.List.{last_or, cons_option}
use Rattle.hall_limits.specs.declared.TheConstants.{MAX_DAY}
use Rattle.hall_units.specs.Days.{IsDay}
use Rattle.book_words.specs.declared.act.Act.{Act}
use Rattle.book_words.specs.declared.act.Act.TheVariants.{NewDay}
use Rattle.book_words.specs.declared.act.Entry.{Entry}
use Rattle.book_words.specs.Acts.{said, day_set, newest_day}
use Rattle.book_words.specs.Answers.{IsLegal}
use Rattle.book_words.specs.Ranges.{is_act_in_range, AllInRange}
use Rattle.book_words.proofs.LegalLemmas.{legal_in_range}
use Rattle.book_laws.proofs.RangeLaws.{within_limits}

day_fits : (act : Act) → is_act_in_range act ≡ true → IfSome (day_set act) IsDay
day_fits (NewDay day) h = within_limits (pos 0) MAX_DAY day h
day_fits act h = tt

-- the last of some days
last_fits : (known : Option ℤ) (entries : List Entry) → IfSome known IsDay → AllInRange entries
    → IfSome (last_or known (said day_set entries)) IsDay
last_fits known [] h all = h
last_fits known (e ∷ es) h all =
    each (day_set e.act) (day_fits e.act (all 0 e (omega arith)))
    (λ last fits. last_fits last es fits (λ k d inside. all (suc k) d (omega arith)))
  where
    each : (o : Option ℤ) → IfSome o IsDay
        → ((last : Option ℤ) → IfSome last IsDay
        → IfSome (last_or last (said day_set es)) IsDay)
        → IfSome (last_or known (cons_option o (said day_set es))) IsDay
    each None fits on = on known h
    each (Some day) fits on = on (Some day) fits

-- the newest day is one
pub newest_is_day : (entries : List Entry) → IsLegal entries → IfSome (newest_day entries) IsDay
newest_is_day entries legal = last_fits None entries tt (legal_in_range entries legal)
