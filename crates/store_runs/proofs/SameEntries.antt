-- Two entries are equal exactly where the code finds them so.
use Rattle.std.proofs.Common.{◌≡◌, ◌≢◌, true, false, Option, Some, None, refl, sym, ◌∙◌, ap}
use Rattle.std.specs.Option.{option_eq}
use Rattle.std.proofs.lemmas.Bool.{and_parts, eqb-true}
use Rattle.pack_judge.specs.declared.types.Cause.TheVariants.{Held, Full, Inadequate, Allowance}
use Rattle.pack_judge.specs.declared.types.Signal.{Signal}
use Rattle.pack_judge.specs.declared.types.Signal.TheVariants.{Pass, Reject}
use Rattle.pack_judge.specs.contracts.types.SignalPartialEq.TheImpl as signals
use Rattle.book_words.specs.declared.act.Entry.{Entry}
use Rattle.book_words.specs.contracts.act.EntryPartialEq.TheImpl as entries
use Rattle.book_words.specs.contracts.act.EntryEq.TheImpl.Laws.{laws-law}
use Rattle.book_store.proofs.SameActs.{act_eq, same_act_is}

signal_is : (s t : Option Signal) → option_eq signals.ghosts.eq s t ≡ true → s ≡ t
signal_is None None is = refl
signal_is (Some Pass) (Some Pass) is = refl
signal_is (Some (Reject Held)) (Some (Reject Held)) is = refl
signal_is (Some (Reject Full)) (Some (Reject Full)) is = refl
signal_is (Some (Reject Inadequate)) (Some (Reject Inadequate)) is = refl
signal_is (Some (Reject Allowance)) (Some (Reject Allowance)) is = refl
signal_is s t is = absurd cc

-- entries that are found equal are
pub found_equal : (a b : Entry) → entries.ghosts.eq a b ≡ true → a ≡ b
found_equal a b is =
    let first = and_parts _ _ is in
    let second = and_parts _ _ first.1 in
    let third = and_parts _ _ second.1 in
    let last = and_parts _ _ third.1 in
    let by : a.by ≡ b.by = eqb-true a.by b.by first.0 in
    let desk : a.desk ≡ b.desk = eqb-true a.desk b.desk second.0 in
    let request : a.request ≡ b.request = eqb-true a.request b.request third.0 in
    let act : a.act ≡ b.act = same_act_is a.act b.act (sym (act_eq a.act b.act) ∙ last.0) in
    let signal : a.signal ≡ b.signal = signal_is a.signal b.signal last.1 in
    λ i. record { by = by i; desk = desk i; request = request i; act = act i; signal = signal i }

-- and others aren't
pub found_other : (a b : Entry) → entries.ghosts.eq a b ≡ false → a ≢ b
found_other a b isnt same =
    let never : true ≡ false = sym (laws-law.refl a) ∙ ap (entries.ghosts.eq a) same ∙ isnt in
    absurd cc
