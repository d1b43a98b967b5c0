-- What a net is by the two limits, and the signal that a pack gets. All masses are milligrams.
use Rattle.std.specs.Prelude.{ℕ, ℤ, ◌*◌, Bool, if◌then◌else◌, nat_lt, ◌==◌, int_lt}
use Rattle.annex_tables.specs.declared.TheConstants.{MAX_POPULATION}
use Rattle.annex_tables.specs.declared.types.Limits.{Limits}
use Rattle.pack_judge.specs.declared.types.Class.{Class}
use Rattle.pack_judge.specs.declared.types.Class.TheVariants as classes
use Rattle.pack_judge.specs.declared.types.Cause.TheVariants as cause
use Rattle.pack_judge.specs.declared.types.Signal.{Signal}
use Rattle.pack_judge.specs.declared.types.Signal.TheVariants.{Pass, Reject}

-- inadequate below two errors under the nominal quantity, non-standard below one, else standard
abbrev pub class_of : ℤ → Limits → Class
class_of net limits =
    if int_lt net limits.t2 then classes.Inadequate else
    (if int_lt net limits.t1 then classes.NonStandard else classes.Standard)

-- the signal of a class in a batch that isn't held and has room
abbrev pub class_signal : Class → ℕ → ℕ → Signal
class_signal classes.Inadequate population nonstandard = Reject cause.Inadequate
class_signal classes.NonStandard population nonstandard =
    if nat_lt population (40 * nonstandard) then Reject cause.Allowance else Pass
class_signal classes.Standard population nonstandard = Pass

-- the signal of a class in a batch: the first line that holds
abbrev pub signal_by_class : Class → Bool → ℕ → ℕ → Signal
signal_by_class class held population nonstandard =
    if held then Reject cause.Held else
    (if population == MAX_POPULATION then Reject cause.Full else
    class_signal class population nonstandard)

-- the signal of a new net in a batch
abbrev pub signal_of : ℤ → Limits → Bool → ℕ → ℕ → Signal
signal_of net limits held population nonstandard =
    signal_by_class (class_of net limits) held population nonstandard
