-- What is lawful behind some list may stand in a row.
use Rattle.std.proofs.Common.{◌≡◌, inl, inr, ℕ, ℤ, pos, ◌≤◌, ◌==◌, true, not, ◌&&◌, nat_le, List, Option, Some, None, IsSome, is_some, option_map, int_le, length, refl, sym, subst, arith, length-take}
use Rattle.std.proofs.lemmas.Int.{ints}
use Rattle.std.proofs.lemmas.Bool.{and_parts}
use Rattle.std.proofs.lemmas.Bool.Decides.{nat_tests}
use Rattle.std.specs.Option.{option_and_then}
use Rattle.annex_tables.specs.declared.TheConstants.{MIN_NOMINAL, MAX_NOMINAL}
use Rattle.hall_limits.specs.declared.TheConstants.{MAX_GROSS, MAX_TARE, MAX_DAY, MAX_LANE, MIN_DENSITY, MAX_DENSITY, NAME_BYTES}
use Rattle.pack_judge.specs.declared.types.Signal.{Signal}
use Rattle.book_words.specs.declared.name.Name.{Name}
use Rattle.book_words.specs.declared.act.Unit as units
use Rattle.book_words.specs.declared.act.Unit.TheVariants.{Mass, Volume}
use Rattle.book_words.specs.declared.act.Act.{Act}
use Rattle.book_words.specs.declared.act.Act.TheVariants.{NewDay, PutProduct, PutTare, OpenBatch, StartLane, Weigh, StopLane, Void, EndRun, Draw, Measure, DrawSecond, Close}
use Rattle.book_words.specs.declared.act.Entry.{Entry}
use Rattle.book_words.specs.declared.refusal.Refusal.TheVariants as why
use Rattle.book_words.specs.NamePlaces.{is_name_length}
use Rattle.book_words.specs.Acts.{unit_of, last_batch}
use Rattle.book_words.specs.Signals.{judged_signal, recorded_signal}
use Rattle.book_words.specs.Ranges.{IsBetween, is_act_in_range}
use Rattle.book_words.specs.Refusals.{refused_if, suits_unit, is_within}
use Rattle.book_words.proofs.RefusalLemmas.{not_refused, rules_in_range}
use Rattle.book_words.proofs.AllowedActs.{IsAllowed, allowed, open_batch_tells, start_lane_tells, weigh_tells, stop_lane_tells}
use Rattle.book_words.proofs.SaidTogether.{unit_known, was_started}
use Rattle.row_format.specs.Allowed.{IsShort, IsLane, IsDensity, IsActAllowed, HasSignal, IsAllowedWhereLawful}

short : (name : Name) → IsShort NAME_BYTES name
short name =
    let whole = and_parts (is_name_length name.len && (length name.places == NAME_BYTES)) _
    name.padded in
    let parts = and_parts (is_name_length name.len) (length name.places == NAME_BYTES) whole.0 in
    let ends = and_parts (nat_le 1 name.len) (nat_le name.len NAME_BYTES) parts.0 in
    let most : name.len ≤ NAME_BYTES = grind (arith, nat_tests) in
    omega (arith, most, length-take name.len name.places)

between : (least greatest x : ℤ) → is_within least greatest x ≡ true → IsBetween least greatest x
between least greatest x h = let parts = and_parts (int_le least x) (int_le x greatest) h in
    (grind (arith, ints), grind (arith, ints))

lane_stands : (lane : ℕ) → (nat_le 1 lane && nat_le lane MAX_LANE) ≡ true → IsLane lane
lane_stands lane h =
    let parts = and_parts (nat_le 1 lane) (nat_le lane MAX_LANE) h in
    (grind (arith, nat_tests), grind (arith, nat_tests))

suits : (unit : units.Unit) (density : ℕ) → suits_unit unit density ≡ true → IsDensity density
suits Mass density h = inl (grind (arith, nat_tests))
suits Volume density h =
    let parts = and_parts (nat_le MIN_DENSITY density) (nat_le density MAX_DENSITY) h in
    inr (grind (arith, nat_tests), grind (arith, nat_tests))

density_stands : (o : Option units.Unit) (density : ℕ) → is_some o ≡ true
    → option_and_then (λ unit. refused_if (not (suits_unit unit density)) why.DensityRange) o ≡ None
    → IsDensity density
density_stands None density known h = absurd (cc)
density_stands (Some unit) density known h =
    suits unit density (not_refused (suits_unit unit density) why.DensityRange h)

act_stands : (entries : List Entry) (act : Act) → IsAllowed entries act → is_act_in_range act ≡ true
    → IsActAllowed NAME_BYTES act
act_stands entries (NewDay day) h range = between (pos 0) MAX_DAY day range
act_stands entries (PutProduct name nominal unit) h range =
    (short name, between MIN_NOMINAL MAX_NOMINAL nominal range)
act_stands entries (PutTare product day tare) h range =
    let parts = and_parts (is_within (pos 0) MAX_DAY day) (is_within (pos 0) MAX_TARE tare) range in
    (short product, between (pos 0) MAX_DAY day parts.0, between (pos 0) MAX_TARE tare parts.1)
act_stands entries (OpenBatch batch product density) h range =
    let tells = open_batch_tells entries batch product density h in (
      short batch,
      short product,
      density_stands (unit_of entries product) density
          (unit_known entries product tells.known) tells.suits,
    )
act_stands entries (StartLane lane batch) h range =
    (lane_stands lane (start_lane_tells entries lane batch h).number, short batch)
act_stands entries (Weigh lane gross prior) h range = (
  lane_stands lane (weigh_tells entries lane gross prior h).number,
  between (pos 0) MAX_GROSS gross range,
)
act_stands entries (StopLane lane prior) h range =
    lane_stands lane (stop_lane_tells entries lane prior h).number
act_stands entries (Void pack) h range = tt
act_stands entries (EndRun batch) h range = short batch
act_stands entries (Draw batch mode word) h range = short batch
act_stands entries (Measure pack gross empty) h range =
    let parts = and_parts (is_within (pos 0) MAX_GROSS gross) (is_within (pos 0) MAX_TARE empty) range in
    (between (pos 0) MAX_GROSS gross parts.0, between (pos 0) MAX_TARE empty parts.1)
act_stands entries (DrawSecond batch word) h range = short batch
act_stands entries (Close batch) h range = short batch

mapped : {A B : Type 0} (f : A → B) (o : Option A) → is_some o ≡ true → IsSome (option_map f o)
mapped f None h = absurd (cc)
mapped f (Some x) h = refl

-- a weighing gets a signal, and nothing else does
signal_stands : (entries : List Entry) (act : Act) → IsAllowed entries act
    → HasSignal act (recorded_signal entries act)
signal_stands entries (Weigh lane gross prior) h =
    mapped (judged_signal entries (Weigh lane gross prior) gross) (last_batch entries lane)
    (was_started entries lane (weigh_tells entries lane gross prior h).runs)
signal_stands entries act h = refl

pub allowed_where_lawful : IsAllowedWhereLawful
allowed_where_lawful entries entry lawful =
    let passes = allowed entries entry lawful in
    record {
      act = act_stands entries entry.act passes (rules_in_range entries entry.act passes);
      signal = subst (λ (o : Option Signal). HasSignal entry.act o) (sym lawful.signal)
          (signal_stands entries entry.act passes);
    }
