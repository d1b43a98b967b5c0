-- The reading of a number, and the entry of its row.
use Rattle.std.proofs.Common.{◌≡◌, ℕ, pos, zero, suc, ◌+◌, ◌-◌, ◌≤◌, Bool, true, false, cond, List, [], ◌∷◌, ◌++◌, take, drop, length, slice_get, Option, Some, None, option_map, is_some, inl, inr, refl, sym, ◌∙◌, ap, subst, arith}
use Rattle.std.specs.Option.{option_and_then}
use Rattle.std.proofs.lemmas.Bool.{le-leb}
use Rattle.std.proofs.lemmas.Bool.Decides.{leb_tells}
use Rattle.std.proofs.lemmas.Option.{slice_get_past}
use Rattle.hall_limits.specs.declared.TheConstants.{MAX_GROSS}
use Rattle.pack_judge.specs.declared.types.Signal.{Signal}
use Rattle.book_words.specs.declared.name.Name.{Name}
use Rattle.book_words.specs.declared.act.Act.{Act}
use Rattle.book_words.specs.declared.act.Act.TheVariants.{Weigh}
use Rattle.book_words.specs.declared.act.Entry.{Entry}
use Rattle.book_words.specs.declared.act.Reading.{Reading}
use Rattle.book_words.specs.Acts.{last_batch}
use Rattle.book_words.specs.Readings.{weighed_reading, reading_of}
use Rattle.book_words.specs.Signals.{judged_signal, recorded_signal}
use Rattle.book_words.specs.Ranges.{IsBetween, is_act_in_range}
use Rattle.book_words.specs.Answers.{ask_of, IsLegal}
use Rattle.book_words.proofs.RefusalLemmas.{act_rules, rules_in_range}
use Rattle.book_laws.proofs.RangeLaws.{within_limits}
use Rattle.book_laws.proofs.ReadingLaws.{none_at_zero, none_beyond, reading_of-at}
use Rattle.book_state.specs.Known.{entry_numbered, lane_weighed}

-- the reading that an entry of a number gives
abbrev pub reading_in : List Entry → ℕ → Entry → Option Reading
reading_in entries number e = weighed_reading (number - 1 + 1)
    (take (number - 1) entries) e.act e.signal (drop (number - 1 + 1) entries)

at_least : (entries : List Entry) (number : ℕ) → 1 ≤ number
    → slice_get entries (number - 1) ≡ entry_numbered entries number
at_least entries number h = sym
    (ap (λ b. cond b (slice_get entries (number - 1)) None) (le-leb 1 number h))

-- the reading of a number is the one that the entry of the number gives
pub reading_is : (entries : List Entry) (number : ℕ)
    → reading_of entries number ≡ option_and_then (reading_in entries number)
    (entry_numbered entries number)
reading_is entries zero = none_at_zero entries
reading_is entries (suc place) =
    let number : ℕ = suc place in
    let least : 1 ≤ number = omega arith in
    let same : number - 1 + 1 ≡ number = omega arith in
    ap (reading_of entries) (sym same)
    ∙ elim (leb_tells (suc (number - 1)) (length entries)) [
      | inl within ↦ (let inside = within.1 in
          reading_of-at entries (number - 1) (omega (arith, inside)))
      | inr past ↦
          let beyond = past.1 in
          none_beyond entries (number - 1 + 1) (omega (arith, beyond))
          ∙ sym (ap (option_and_then (reading_in entries number))
          (slice_get_past entries (number - 1) (omega (arith, beyond))))
    ]
    ∙ ap (option_and_then (reading_in entries number)) (at_least entries number least)

lane_from : (number : ℕ) (before : List Entry) (act : Act) (signal : Option Signal)
    (after : List Entry) → option_map (λ (r : Reading). r.lane)
    (weighed_reading number before act signal after) ≡ lane_weighed act
lane_from number before (Weigh lane gross prior) signal after = refl
lane_from number before act signal after = refl

-- its lane
pub lane_told : (entries : List Entry) (number : ℕ)
    → option_and_then (λ (e : Entry). lane_weighed e.act) (entry_numbered entries number)
    ≡ option_map (λ (r : Reading). r.lane) (reading_of entries number)
lane_told entries number =
    each (entry_numbered entries number)
    ∙ sym (ap (option_map (λ (r : Reading). r.lane)) (reading_is entries number))
  where
    each : (o : Option Entry) → option_and_then (λ (e : Entry). lane_weighed e.act) o
        ≡ option_map (λ (r : Reading). r.lane) (option_and_then (reading_in entries number) o)
    each None = refl
    each (Some e) =
        sym (lane_from (number - 1 + 1) (take (number - 1) entries) e.act e.signal
        (drop (number - 1 + 1) entries))

-- the list is parted at an entry of it
parts_at : (entries : List Entry) (place : ℕ) (e : Entry) → slice_get entries place ≡ Some e
    → (after : List Entry) × (entries ≡ take place entries ++ e ∷ after)
parts_at [] place e h = absurd (let clash : None ≡ Some e = h in cc)
parts_at (x ∷ xs) zero e h = (xs, ap (λ y. y ∷ xs) (let same : x ≡ e = some_is x e h in same))
  where
    some_is : (a b : Entry) → Some a ≡ Some b → a ≡ b
    some_is a b k = cc
parts_at (x ∷ xs) (suc place) e h = let rest = parts_at xs place e h in
    (rest.0, ap (λ ys. x ∷ ys) rest.1)

-- what the entry of a reading's number tells of it: the signal, which there is, and a gross within
-- its limits
pub record IsSeen (signal : Option Signal) (reading : Reading) : Type 0 where
  pub same : signal ≡ reading.signal
  pub told : is_some reading.signal ≡ true
  pub range : IsBetween (pos 0) MAX_GROSS reading.gross

seen_from : (number : ℕ) (before : List Entry) (act : Act) (signal : Option Signal)
    (after : List Entry) (reading : Reading) (batch : Name)
    → signal ≡ recorded_signal before act → is_act_in_range act ≡ true → reading.batch ≡ Some batch
    → weighed_reading number before act signal after ≡ Some reading → IsSeen signal reading
seen_from number before (Weigh lane gross prior) signal after reading batch is range of_batch h =
    let own = some_reading _ reading h in
    let same : signal ≡ reading.signal = ap (λ (r : Reading). r.signal) own in
    let named : last_batch before lane ≡ Some batch = ap (λ (r : Reading). r.batch) own ∙ of_batch in
    record {
      same = same;
      told = ap is_some (sym same ∙ is
          ∙ ap (option_map (judged_signal before (Weigh lane gross prior) gross)) named);
      range = subst (IsBetween (pos 0) MAX_GROSS) (ap (λ (r : Reading). r.gross) own)
          (within_limits (pos 0) MAX_GROSS gross range);
    }
  where
    some_reading : (a b : Reading) → Some a ≡ Some b → a ≡ b
    some_reading a b k = cc
seen_from number before act signal after reading batch is range of_batch h = absurd (cc)

pub seen : (entries : List Entry) (number : ℕ) (reading : Reading) (batch : Name) → IsLegal entries
    → reading.batch ≡ Some batch → reading_of entries number ≡ Some reading
    → IsSeen (option_and_then (λ (e : Entry). e.signal) (entry_numbered entries number)) reading
seen entries number reading batch legal of_batch is =
    each (entry_numbered entries number) refl (sym (reading_is entries number) ∙ is)
  where
    there : (b : Bool) (o : Option Entry) (e : Entry) → cond b o None ≡ Some e → o ≡ Some e
    there true o e h = h
    there false o e h = absurd (let clash : None ≡ Some e = h in cc)

    each : (o : Option Entry) → entry_numbered entries number ≡ o
        → option_and_then (reading_in entries number) o ≡ Some reading
        → IsSeen (option_and_then (λ (e : Entry). e.signal) o) reading
    each None at h = absurd (let clash : None ≡ Some reading = h in cc)
    each (Some e) at h =
        let place = there _ (slice_get entries (number - 1)) e at in
        let parts = parts_at entries (number - 1) e place in
        let lawful = legal (take (number - 1) entries) e parts.0 parts.1 in
        seen_from (number - 1 + 1) (take (number - 1) entries) e.act e.signal
        (drop (number - 1 + 1) entries) reading batch lawful.signal
        (rules_in_range (take (number - 1) entries) e.act
        (act_rules (take (number - 1) entries) (ask_of e) e.act lawful.rules)) of_batch h
