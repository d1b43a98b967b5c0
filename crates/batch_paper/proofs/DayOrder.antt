-- The days of the readings of a legal list don't fall.
use Rattle.std.proofs.Common.{◌≡◌, ℤ, pos, ◌≤ℤ◌, Bool, true, false, cond, List, [], ◌∷◌, ◌++◌, length, map, ◌+◌, Option, Some, None, refl, sym, ap, subst, arith}
use Rattle.std.proofs.lemmas.Int.{ints}
use Rattle.std.proofs.lemmas.List.Elements.{All-nil, All-cons, All-append, All-map}
use Rattle.std.specs.List.{All, filter, cons_option}
use Rattle.std.specs.Option.{option_or, unwrap_or}
use Rattle.book_words.specs.declared.act.Act.{Act}
use Rattle.book_words.specs.declared.act.Act.TheVariants.{NewDay, Weigh}
use Rattle.book_words.specs.declared.act.Entry.{Entry}
use Rattle.book_words.specs.declared.act.Reading.{Reading}
use Rattle.book_words.specs.Acts.{day_set, newest_day}
use Rattle.book_words.specs.Readings.{weighed_reading, readings}
use Rattle.book_words.specs.Refusals.{is_within}
use Rattle.book_words.specs.Answers.{IsLawful, IsLegal}
use Rattle.hall_limits.specs.declared.TheConstants.{MAX_DAY, MAX_GROSS}
use Rattle.book_words.proofs.AllowedActs.{IsAllowed, allowed, AllowsNewDay, new_day_tells, weigh_tells}
use Rattle.book_laws.proofs.RangeLaws.{within_limits}
use Rattle.book_words.proofs.LastSaid.{last_said-push}
use Rattle.book_words.proofs.LegalLemmas.{legal_steps}
use Rattle.book_words.proofs.OneMoreEntry.{advance, own_reading, readings-push}

-- the day of a reading
abbrev pub day_on : Reading → ℤ
day_on reading = unwrap_or reading.day (pos 0)

-- some days don't fall, and are from a first one to a last one
abbrev pub RiseWithin : ℤ → ℤ → List Reading → Type 0
RiseWithin least most [] = least ≤ℤ most
RiseWithin least most (reading ∷ some) =
    (least ≤ℤ day_on reading) × RiseWithin (day_on reading) most some

pub span : (least most : ℤ) (some : List Reading) → RiseWithin least most some → least ≤ℤ most
span least most [] h = h
span least most (reading ∷ some) h =
    let rest = span (day_on reading) most some h.1 in grind (arith, ints, h.0, rest)

pub lower : (least below most : ℤ) (some : List Reading) → below ≤ℤ least
    → RiseWithin least most some
    → RiseWithin below most some
lower least below most [] low h = grind (arith, ints, low, h)
lower least below most (reading ∷ some) low h = (grind (arith, ints, low, h.0), h.1)

higher : (least most above : ℤ) (some : List Reading) → most ≤ℤ above → RiseWithin least most some
    → RiseWithin least above some
higher least most above [] high h = grind (arith, ints, high, h)
higher least most above (reading ∷ some) high h =
    (h.0, higher (day_on reading) most above some high h.1)

-- those that pass a test don't fall either
pub rise-filter : (test : Reading → Bool) (least most : ℤ) (some : List Reading)
    → RiseWithin least most some → RiseWithin least most (filter test some)
rise-filter test least most [] h = h
rise-filter test least most (reading ∷ some) h =
    either (test reading) (rise-filter test (day_on reading) most some h.1)
  where
    either : (b : Bool) → RiseWithin (day_on reading) most (filter test some)
        → RiseWithin least most (cond b (reading ∷ filter test some) (filter test some))
    either true rest = (h.0, rest)
    either false rest = lower (day_on reading) least most (filter test some) h.0 rest

rise-advance : (act : Act) (least most : ℤ) (some : List Reading) → RiseWithin least most some
    → RiseWithin least most (map (advance act) some)
rise-advance act least most [] h = h
rise-advance act least most (reading ∷ some) h =
    (h.0, rise-advance act (day_on reading) most some h.1)

rise-append : (least mid most : ℤ) (some more : List Reading) → RiseWithin least mid some
    → RiseWithin mid most more → RiseWithin least most (some ++ more)
rise-append least mid most [] more h k = lower mid least most more h k
rise-append least mid most (reading ∷ some) more h k =
    (h.0, rise-append (day_on reading) mid most some more h.1 k)

-- the newest day, or that of no day
abbrev pub last_day : List Entry → ℤ
last_day entries = unwrap_or (newest_day entries) (pos 0)

-- the readings of a list up to its newest day
abbrev pub DaysRise : List Entry → Type 0
DaysRise entries = (pos 0 ≤ℤ last_day entries) × RiseWithin (pos 0) (last_day entries)
    (readings entries)

later_day : (entries : List Entry) (act : Act) → IsAllowed entries act → (pos 0 ≤ℤ last_day entries)
    → last_day entries ≤ℤ unwrap_or (option_or (day_set act) (newest_day entries)) (pos 0)
later_day entries (NewDay day) h least = either (newest_day entries) refl
  where
    tells : AllowsNewDay entries day
    tells = new_day_tells entries day h

    either : (o : Option ℤ) → newest_day entries ≡ o → unwrap_or o (pos 0) ≤ℤ day
    either None is = (within_limits (pos 0) MAX_DAY day tells.range).0
    either (Some last) is = let before = tells.later last is in grind (arith, ints, before)
later_day entries act h least = grind (arith, ints)

own_rises : (entries : List Entry) (entry : Entry) (act : Act) (most : ℤ) → last_day entries ≤ℤ most
    → RiseWithin (last_day entries) most
    (cons_option (weighed_reading (length entries + 1) entries act entry.signal []) [])
own_rises entries entry (Weigh lane gross prior) most h = (grind (arith, ints), h)
own_rises entries entry act most h = h

rise-push : (entries : List Entry) (entry : Entry) → IsLegal entries → IsLawful entries entry
    → DaysRise entries → DaysRise (entries ++ entry ∷ [])
rise-push entries entry legal lawful rise =
    let now : last_day (entries ++ entry ∷ [])
    ≡ unwrap_or (option_or (day_set entry.act) (newest_day entries)) (pos 0) =
    ap (λ o. unwrap_or o (pos 0)) (last_said-push day_set entries entry) in
    let later : last_day entries ≤ℤ last_day (entries ++ entry ∷ []) =
    subst (λ (d : ℤ). last_day entries ≤ℤ d) (sym now)
    (later_day entries entry.act (allowed entries entry lawful) rise.0) in (
      grind (arith, ints, rise.0, later),
      subst (RiseWithin (pos 0) (last_day (entries ++ entry ∷ [])))
          (sym (readings-push entries entry))
          (rise-append (pos 0) (last_day entries) (last_day (entries ++ entry ∷ []))
          (map (advance entry.act) (readings entries)) (cons_option (own_reading entries entry) [])
          (rise-advance entry.act (pos 0) (last_day entries) (readings entries) rise.1)
          (own_rises entries entry entry.act (last_day (entries ++ entry ∷ [])) later)),
    )

-- in a legal list the days of the readings don't fall
pub days_rise : (entries : List Entry) → IsLegal entries → DaysRise entries
days_rise = legal_steps DaysRise (grind (arith, ints), grind (arith, ints)) rise-push

-- ---- days and grosses are in range

-- a reading has a day and a gross within the limits
abbrev pub IsFit : Reading → Type 0
IsFit reading = (is_within (pos 0) MAX_DAY (day_on reading) ≡ true)
    × (is_within (pos 0) MAX_GROSS reading.gross ≡ true)

-- the newest day is within the limits, and the readings are
abbrev AreFit : List Entry → Type 0
AreFit entries = (is_within (pos 0) MAX_DAY (last_day entries) ≡ true) × All IsFit
    (readings entries)

day_fits : (entries : List Entry) (act : Act) → IsAllowed entries act
    → is_within (pos 0) MAX_DAY (last_day entries) ≡ true
    → is_within (pos 0) MAX_DAY (unwrap_or (option_or (day_set act) (newest_day entries)) (pos 0))
    ≡ true
day_fits entries (NewDay day) h before = (new_day_tells entries day h).range
day_fits entries act h before = before

own_fits : (entries : List Entry) (entry : Entry) (act : Act) → IsAllowed entries act
    → is_within (pos 0) MAX_DAY (last_day entries) ≡ true
    → All IsFit (cons_option (weighed_reading (length entries + 1) entries act entry.signal []) [])
own_fits entries entry (Weigh lane gross prior) h before =
    All-cons IsFit _ [] (before, (weigh_tells entries lane gross prior h).range) (All-nil IsFit)
own_fits entries entry act h before = All-nil IsFit

fit-push : (entries : List Entry) (entry : Entry) → IsLegal entries → IsLawful entries entry
    → AreFit entries → AreFit (entries ++ entry ∷ [])
fit-push entries entry legal lawful fit =
    let h = allowed entries entry lawful in (
      subst (λ (d : ℤ). is_within (pos 0) MAX_DAY d ≡ true)
          (sym (ap (λ o. unwrap_or o (pos 0)) (last_said-push day_set entries entry)))
          (day_fits entries entry.act h fit.0),
      subst (All IsFit) (sym (readings-push entries entry))
          (All-append IsFit (map (advance entry.act) (readings entries))
          (cons_option (own_reading entries entry) [])
          (All-map IsFit (advance entry.act) (readings entries) fit.1)
          (own_fits entries entry entry.act h fit.0)),
    )

-- in a legal list each reading is so
pub each_fits : (entries : List Entry) → IsLegal entries → All IsFit (readings entries)
each_fits entries legal =
    (legal_steps AreFit (refl, All-nil IsFit) fit-push entries legal).1
