-- A verdict that was told of a batch is its verdict over all rows.
use Rattle.std.proofs.Common.{◌≡◌, ℕ, suc, ◌-◌, Bool, true, false, cond, nat_le, List, ◌∷◌, ◌++◌, take, drop, slice_get, All, Option, Some, None, Result, Ok, Err, refl, sym, ◌∙◌, ap, append_assoc}
use Rattle.std.proofs.lemmas.List.Elements.{All-weaker}
use Rattle.std.specs.List.{cons_option}
use Rattle.book_words.specs.declared.act.Act.TheVariants.{Close}
use Rattle.book_words.specs.declared.act.Ask.{Ask}
use Rattle.book_words.specs.declared.act.Entry.{Entry}
use Rattle.book_words.specs.declared.act.Want.{Want}
use Rattle.book_words.specs.declared.act.Want.TheVariants as want
use Rattle.book_words.specs.declared.caller.AskError.{AskError}
use Rattle.book_words.specs.declared.name.Name.{Name}
use Rattle.book_words.specs.declared.refusal.Refusal.{Refusal}
use Rattle.book_words.specs.declared.reply.Answered.{Answered}
use Rattle.book_words.specs.declared.reply.Refused.{Refused}
use Rattle.book_words.specs.declared.reply.Reply.{Reply}
use Rattle.book_words.specs.declared.reply.Reply.TheVariants.{Closed}
use Rattle.book_words.specs.declared.views.Verdict.{Verdict}
use Rattle.book_words.specs.Answers.{desk_answer, entry_for, entry_unless, want_added, want_answer}
use Rattle.book_words.specs.Balance.{VerdictsStay}
use Rattle.book_words.specs.Desks.{desk_number, repeated_row}
use Rattle.book_words.specs.Refusals.{refusal_of}
use Rattle.book_words.specs.Signals.{with_act}
use Rattle.book_words.specs.Verdicts.{verdict_of}
use Rattle.book_rules.proofs.ClosingLemmas.{close_keeps}
use Rattle.book_rules.proofs.ReplyLemmas.{HoldsAct, repeated_holds}
use Rattle.book_state.specs.Known.{entry_numbered}
use Rattle.office_door.specs.Exchanges.{Exchange, IsAnswered, IsAnsweredIn}
use Rattle.office_wire.specs.declared.types.OfficeAsk.{OfficeAsk}
use Rattle.office_wire.specs.declared.types.OfficeAsk.TheVariants as office
use Rattle.session_history.proofs.OwnRows.{parted}
use Rattle.session_history.specs.Replies.{IsVerdictIn, TellsVerdict}

parted_at : (entries : List Entry) (row : ℕ) (entry : Entry)
    → entry_numbered entries row ≡ Some entry
    → entries ≡ take (row - 1) entries ++ entry ∷ drop (suc (row - 1)) entries
parted_at entries row entry is = by (nat_le 1 row) is
  where
    by : (b : Bool) → cond b (slice_get entries (row - 1)) None ≡ Some entry
        → entries ≡ take (row - 1) entries ++ entry ∷ drop (suc (row - 1)) entries
    by true k = parted entries (row - 1) entry k
    by false k = absurd (cc)

-- the reply in an answer, and the verdict in a reply
abbrev reply_in : Result Answered Refused → Reply → Reply
reply_in (Ok answered) other = answered.reply
reply_in (Err refused) other = other

abbrev verdict_in : Reply → Verdict → Verdict
verdict_in (Closed row verdict) other = verdict
verdict_in reply other = other

module _ (rows : List Entry) (stay : VerdictsStay rows) (batch : Name) where
  -- the verdict that a closing is told behind some entries is that over all rows
  closed_stays : (before after : List Entry) (entry : Entry) → rows ≡ before ++ entry ∷ after
      → entry.act ≡ Close batch
      → verdict_of (with_act before (Close batch)) batch ≡ verdict_of rows batch
  closed_stays before after entry parts same =
      close_keeps before (record
      { by = 0; desk = 0; request = 0; act = Close batch; signal = None }) batch refl batch
      ∙ (sym (close_keeps before entry batch same batch)
      ∙ stay before entry after batch parts same)

  module _ (limit by : ℕ) (before after : List Entry) (ask : Ask) (answered : Answered)
      (row : ℕ) (verdict : Verdict) (told : answered.reply ≡ Closed row verdict) where
    -- so it is of what is told
    verdict_told : (given : Reply) → given ≡ answered.reply
        → verdict_in given verdict ≡ verdict_of rows batch → verdict ≡ verdict_of rows batch
    verdict_told given same is =
        sym (ap (λ (r : Reply). verdict_in r verdict) (same ∙ told)) ∙ is

    by_desk : (wrong refused : Option Refusal) (again : Option ℕ) (entry : Entry)
        → entry.act ≡ Close batch → repeated_row before ask (Close batch) ≡ again
        → rows ≡ before ++ cons_option (entry_unless again refused entry) after
        → desk_answer before (Close batch) wrong again refused ≡ Ok answered
        → verdict ≡ verdict_of rows batch
    by_desk (Some wrong) refused again entry same is parts given = absurd (cc)
    by_desk None refused (Some old) entry same is parts given =
        let holds : HoldsAct before old (Close batch) =
        repeated_holds before ask (Close batch) old is in
        let own = parted_at before old holds.entry holds.numbered in
        let all : rows ≡ take (old - 1) before
        ++ holds.entry ∷ (drop (suc (old - 1)) before ++ after) =
        parts ∙ (ap (λ (es : List Entry). es ++ after) own
        ∙ append_assoc (take (old - 1) before)
        (holds.entry ∷ drop (suc (old - 1)) before) after) in
        verdict_told _ (ap (λ (r : Result Answered Refused). reply_in r answered.reply) given)
        (closed_stays (take (old - 1) before) (drop (suc (old - 1)) before ++ after) holds.entry all
        holds.same)
    by_desk None (Some refused) None entry same is parts given = absurd (cc)
    by_desk None None None entry same is parts given =
        verdict_told _ (ap (λ (r : Result Answered Refused). reply_in r answered.reply) given)
        (closed_stays before after entry parts same)

module _ (limit by : ℕ) (rows : List Entry) (stay : VerdictsStay rows) where
  told_of : (ask : Ask) (answered : Answered) (before after : List Entry) (wanted : Want)
      → rows ≡ before ++ cons_option (want_added limit before by ask wanted) after
      → want_answer limit before ask wanted ≡ Ok answered → (reply : Reply)
      → answered.reply ≡ reply → IsVerdictIn rows wanted reply
  told_of ask answered before after (want.Act (Close batch)) parts given (Closed row verdict) told =
      by_desk rows stay batch limit by before after ask answered row verdict told
      (desk_number ask (Close batch)) (refusal_of limit before ask (Close batch))
      (repeated_row before ask (Close batch)) (entry_for before by ask (Close batch)) refl refl parts
      given
  told_of ask answered before after wanted parts given reply told = tt

  -- each verdict that was told at exchanges is that over all rows
  one_told : (told : OfficeAsk) (given : Option (Result Answered AskError)) (x : Exchange)
      → IsAnswered limit by rows told given x.row → TellsVerdict rows told given
  one_told (office.Ask ask) (Some (Ok answered)) x is =
      told_of ask answered is.right.before is.right.after ask.want is.right.parts is.right.answered
      answered.reply refl
  one_told told given x is = tt

  pub all_told : (exchanges : List Exchange) → All (IsAnsweredIn limit by rows) exchanges
      → All (λ (x : Exchange). TellsVerdict rows x.told x.given) exchanges
  all_told exchanges right = All-weaker (IsAnsweredIn limit by rows)
      (λ (x : Exchange). TellsVerdict rows x.told x.given)
      (λ x is. one_told x.told x.given x is) exchanges right
