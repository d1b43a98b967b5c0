-- What a row was told is told again, and what a new act is told.
use Rattle.std.proofs.Common.{◌≡◌, ℕ, ◌+◌, ◌-◌, Bool, true, false, cond, ◌==◌, nat_lt, List, ◌∷◌, ◌++◌, length, take, Option, Some, None, refl, sym, ◌∙◌, ap}
use Rattle.std.proofs.lemmas.Bool.{and_parts}
use Rattle.std.proofs.lemmas.Option.{same_Some}
use Rattle.std.specs.Option.{option_and_then}
use Rattle.pack_judge.specs.declared.types.Signal.{Signal}
use Rattle.book_words.specs.declared.act.Act.{Act}
use Rattle.book_words.specs.declared.act.Act.TheVariants.{Close}
use Rattle.book_words.specs.declared.act.Ask.{Ask}
use Rattle.book_words.specs.declared.act.Entry.{Entry}
use Rattle.book_words.specs.declared.reply.Reply.TheVariants.{Closed}
use Rattle.book_words.specs.Desks.{Row, newest_row, is_row_of, same_act, repeated_row}
use Rattle.book_words.specs.Signals.{recorded_signal}
use Rattle.book_words.specs.Verdicts.{verdict_of}
use Rattle.book_words.specs.Answers.{judged_or_done, reply_behind, IsLegal}
use Rattle.book_verdicts.specs.Known.{entry_numbered}
use Rattle.book_rules.specs.Replying.{reply_with}
use Rattle.book_rules.proofs.SameActs.{same_act_is}
use Rattle.book_rules.proofs.NewestRows.{newest_is_row}
use Rattle.book_verdicts.proofs.ClosingLemmas.{close_keeps}
use Rattle.book_verdicts.proofs.HeldClosings.{parts_at, verdict_then}
pub use Rattle.book_verdicts.proofs.HeldClosings.{HoldsAct, held_known}

-- nothing isn't something
not_there : {A : Type 0} (x : A) → None ≡ Some x → ⊥
not_there x h = cc

-- an act that the rules allow is told over the list as it stands
pub told_new : (entries : List Entry) (act : Act)
    → reply_with entries (length entries + 1) act (recorded_signal entries act)
    ≡ reply_behind entries act
told_new entries (Close batch) =
    ap (λ v. Closed (length entries + 1) v)
    (sym (close_keeps entries (record
    { by = 0; desk = 0; request = 0; act = Close batch; signal = None }) batch refl batch))
told_new entries act = refl

-- a row that is repeated holds the act
pub repeated_holds : (entries : List Entry) (ask : Ask) (act : Act) (row : ℕ)
    → repeated_row entries ask act ≡ Some row → HoldsAct entries row act
repeated_holds entries ask act row h = by_request (nat_lt 0 ask.request) h
  where
    by_test : (r : Row) → newest_row entries ask.desk ≡ Some r → (b : Bool)
        → is_row_of ask act r ≡ b → cond b (Some r.number) None ≡ Some row
        → HoldsAct entries row act
    by_test r is true test k =
        let number : r.number ≡ row = same_Some r.number row k in
        record {
          entry = r.entry;
          numbered = ap (entry_numbered entries) (sym number) ∙ newest_is_row entries ask.desk r is;
          same = same_act_is r.entry.act act
              (and_parts (r.entry.request == ask.request) (same_act r.entry.act act) test).1;
        }
    by_test r is false test k = absurd (not_there row k)

    by_row : (o : Option Row) → newest_row entries ask.desk ≡ o
        → option_and_then (λ (r : Row). cond (is_row_of ask act r) (Some r.number) None) o
        ≡ Some row → HoldsAct entries row act
    by_row None is k = absurd (not_there row k)
    by_row (Some r) is k = by_test r is (is_row_of ask act r) refl k

    by_request : (b : Bool) → cond b
        (option_and_then (λ (r : Row). cond (is_row_of ask act r) (Some r.number) None)
        (newest_row entries ask.desk)) None ≡ Some row → HoldsAct entries row act
    by_request true k = by_row (newest_row entries ask.desk) refl k
    by_request false k = absurd (not_there row k)

-- an act whose row a legal list holds is told what its row was told
pub told_again_as : (entries : List Entry) (row : ℕ) (act : Act) (entry : Entry) → IsLegal entries
    → HoldsAct entries row act → entry_numbered entries row ≡ Some entry
    → reply_with entries row act entry.signal ≡ reply_behind (take (row - 1) entries) act
told_again_as entries row act entry legal holds numbered =
    let at = parts_at entries row holds.entry holds.numbered in
    let before = take (row - 1) entries in
    let lawful = legal before holds.entry at.after at.parts in
    let own : entry ≡ holds.entry = same_Some entry holds.entry (sym numbered ∙ holds.numbered) in
    let signal : entry.signal ≡ recorded_signal before act = ap (λ (e : Entry). e.signal) own
    ∙ lawful.signal ∙ ap (recorded_signal before) holds.same in
    each act at.after at.parts at.count holds.same signal
  where
    each : (a : Act) (after : List Entry) → entries ≡ take (row - 1) entries ++ holds.entry ∷ after
        → length (take (row - 1) entries) + 1 ≡ row → holds.entry.act ≡ a
        → entry.signal ≡ recorded_signal (take (row - 1) entries) a
        → reply_with entries row a entry.signal ≡ reply_behind (take (row - 1) entries) a
    each (Close batch) after parts count same signal =
        let before = take (row - 1) entries in
        ap (λ n. Closed n (verdict_of entries batch)) (sym count)
        ∙ ap (λ v. Closed (length before + 1) v)
        (verdict_then entries row holds.entry batch legal
        (record { after = after; parts = parts; count = count }) same)
    each a after parts count same signal =
        ap (λ n. judged_or_done n entry.signal) (sym count)
        ∙ ap (λ (s : Option Signal). judged_or_done (length (take (row - 1) entries) + 1) s)
        signal
