-- The words of the book: for signals, classes, piles, states, modes, units and verdicts.
use Rattle.std.specs.Prelude.{ℕ, Bool, List, [], ◌++◌, if◌then◌else◌, codes}
use Rattle.annex_tables.specs.declared.types.Mode.{Mode}
use Rattle.annex_tables.specs.declared.types.Mode.TheVariants.{Keep, Destroy}
use Rattle.pack_judge.specs.declared.types.Class.{Class}
use Rattle.pack_judge.specs.declared.types.Class.TheVariants as classes
use Rattle.pack_judge.specs.declared.types.Signal.{Signal}
use Rattle.pack_judge.specs.declared.types.Signal.TheVariants.{Pass, Reject}
use Rattle.pack_judge.specs.declared.types.Cause.{Cause}
use Rattle.pack_judge.specs.declared.types.Cause.TheVariants.{Held, Full, Inadequate, Allowance}
use Rattle.pack_judge.specs.declared.types.Pile.{Pile}
use Rattle.pack_judge.specs.declared.types.Pile.TheVariants.{Passed, Rejected, Sampled, Voided}
use Rattle.book_words.specs.declared.act.Unit as units
use Rattle.book_words.specs.declared.act.Unit.TheVariants.{Mass, Volume}
use Rattle.book_words.specs.declared.act.BatchState as states
use Rattle.book_words.specs.declared.act.BatchState.TheVariants.{Running, Ended, Drawn, Closed}
use Rattle.book_words.specs.declared.views.Fails.{Fails}
use Rattle.book_words.specs.declared.views.Verdict.{Verdict}
use Rattle.book_words.specs.declared.views.Verdict.TheVariants.{Empty, Released, Withheld}

-- the word for a cause
abbrev pub cause_text : Cause → List ℕ
cause_text Held = codes "held"
cause_text Full = codes "full"
cause_text Inadequate = codes "inadequate"
cause_text Allowance = codes "allowance"

-- the words for a signal
abbrev pub signal_text : Signal → List ℕ
signal_text Pass = codes "pass"
signal_text (Reject cause) = codes "reject " ++ cause_text cause

-- the word for a class
abbrev pub class_text : Class → List ℕ
class_text classes.Standard = codes "standard"
class_text classes.NonStandard = codes "nonstandard"
class_text classes.Inadequate = codes "inadequate"

-- the word for a pile
abbrev pub pile_text : Pile → List ℕ
pile_text Passed = codes "passed"
pile_text Rejected = codes "rejected"
pile_text Sampled = codes "sampled"
pile_text Voided = codes "voided"

-- the word for a state
abbrev pub state_text : states.BatchState → List ℕ
state_text Running = codes "running"
state_text Ended = codes "ended"
state_text Drawn = codes "drawn"
state_text Closed = codes "closed"

-- the word for a mode
abbrev pub mode_text : Mode → List ℕ
mode_text Keep = codes "keep"
mode_text Destroy = codes "destroy"

-- some words, where a part of the test fails
abbrev pub part_text : Bool → List ℕ → List ℕ
part_text fails words = if fails then words else []

-- the words for the parts that fail, each behind a blank
abbrev pub fails_text : Fails → List ℕ
fails_text fails =
    part_text fails.contents (codes " contents") ++ part_text fails.mean (codes " mean")
    ++ part_text fails.average (codes " average") ++ part_text fails.allowance (codes " allowance")
    ++ part_text fails.inadequate (codes " inadequate")

-- the words for a verdict
abbrev pub verdict_text : Verdict → List ℕ
verdict_text Empty = codes "empty"
verdict_text Released = codes "released"
verdict_text (Withheld fails) = codes "withheld" ++ fails_text fails

-- what stands behind a quantity: nothing by mass, in grams, and `ml` by volume, in millilitres
abbrev pub unit_text : units.Unit → List ℕ
unit_text Mass = []
unit_text Volume = codes " ml"
