-- What an answer to the ask of a worker tells.
use Rattle.std.proofs.Common.{◌≡◌, ℕ, ◌+◌, List, ◌∷◌, length, ℤ, cond, Option, Some, None, Result, Ok, Err, refl, sym, ◌∙◌, ap}
use Rattle.std.proofs.lemmas.Option.{none-some, same_Some}
use Rattle.pack_judge.specs.declared.types.Signal.{Signal}
use Rattle.pack_judge.specs.declared.types.Signal.TheVariants.{Pass, Reject}
use Rattle.book_words.specs.declared.act.Act.{Act}
use Rattle.book_words.specs.declared.act.Act.TheVariants.{Weigh}
use Rattle.book_words.specs.declared.act.Prior.{Prior}
use Rattle.book_words.specs.declared.act.Entry.{Entry}
use Rattle.book_words.specs.declared.refusal.Refusal.{Refusal}
use Rattle.book_words.specs.declared.reply.Answered.{Answered}
use Rattle.book_words.specs.declared.reply.Refused.{Refused}
use Rattle.book_words.specs.declared.reply.Reply.TheVariants.{LaneIs}
use Rattle.std.specs.Option.{option_or}
use Rattle.book_words.specs.Desks.{Row, desk_number, request_old, request_reused, request_gap}
use Rattle.book_words.specs.Population.{is_pass}
use Rattle.book_words.specs.Refusals.{first_refusal, book_full, refusals_of, refusal_of, lane_number}
use Rattle.book_words.specs.Signals.{recorded_signal}
use Rattle.book_words.specs.Views.{lane_view, refused_or}
use Rattle.book_words.specs.Answers.{answer, accepted, desk_answer, question_answer, entry_unless, entry_for, added, judged_or_done, reply_behind}
use Rattle.lane_worker.specs.Asks.{act_ask, lane_ask, passed_pack}
use Rattle.lane_worker.specs.Replies.{pack_told}

abbrev ok_or : {T E : Type 0} → T → Result T E → T
ok_or other (Ok x) = x
ok_or other (Err e) = other

-- an act that is answered is taken down
taken_by : (entries : List Entry) (act : Act) (entry : Entry) (by_desk by_rule : Option Refusal) (answered : Answered) → desk_answer entries act by_desk None by_rule ≡ Ok answered
    → (entry_unless None by_rule entry ≡ Some entry) × (accepted entries act ≡ answered)
taken_by entries act entry (Some refusal) by_rule answered h = absurd (cc)
taken_by entries act entry None (Some refusal) answered h = absurd (cc)
taken_by entries act entry None None answered h = (refl, ap (ok_or (accepted entries act)) h)

pub act_taken : (limit by : ℕ) (entries : List Entry) (act : Act) (answered : Answered) → answer limit entries (act_ask act) ≡ Ok answered
    → (added limit entries by (act_ask act) ≡ Some (entry_for entries by (act_ask act) act)) × (accepted entries act ≡ answered)
act_taken limit by entries act answered h =
    taken_by entries act (entry_for entries by (act_ask act) act) (desk_number (act_ask act) act) (refusal_of limit entries (act_ask act) act) answered h

-- an act that is refused isn't
refused_by : (entries : List Entry) (act : Act) (entry : Entry) (by_desk others : Option Refusal) (refused : Refused) → desk_answer entries act by_desk None (option_or by_desk others) ≡ Err refused
    → entry_unless None (option_or by_desk others) entry ≡ None
refused_by entries act entry (Some refusal) others refused h = refl
refused_by entries act entry None (Some refusal) refused h = refl
refused_by entries act entry None None refused h = absurd (cc)

pub act_refused : (limit by : ℕ) (entries : List Entry) (act : Act) (refused : Refused) → answer limit entries (act_ask act) ≡ Err refused → added limit entries by (act_ask act) ≡ None
act_refused limit by entries act refused h =
    let ask = act_ask act in
    refused_by entries act (entry_for entries by ask act) (desk_number ask act)
    (first_refusal (request_old entries ask ∷ request_reused entries ask act ∷ request_gap entries ask ∷ book_full limit entries ∷ refusals_of entries act)) refused h

-- the question what a lane does is answered so
lane_by : (entries : List Entry) (lane : ℕ) (refusal : Option Refusal) (answered : Answered) → question_answer entries (refused_or refusal (LaneIs (lane_view entries lane))) ≡ Ok answered
    → answered.reply ≡ LaneIs (lane_view entries lane)
lane_by entries lane (Some refusal) answered h = absurd (cc)
lane_by entries lane None answered h = sym (ap (λ (r : Result Answered Refused). (ok_or answered r).reply) h)

pub lane_told : (limit : ℕ) (entries : List Entry) (lane : ℕ) (answered : Answered) → answer limit entries (lane_ask lane) ≡ Ok answered
    → answered.reply ≡ LaneIs (lane_view entries lane)
lane_told limit entries lane answered h = lane_by entries lane (lane_number lane) answered h

-- a weighing is told that its pack passed where its signal says so
pack_by : (row : Row) (signal : Option Signal) → row.entry.signal ≡ signal → pack_told (judged_or_done row.number signal) ≡ passed_pack row
pack_by row None is = rw is refl
pack_by row (Some Pass) is = rw is refl
pack_by row (Some (Reject cause)) is = rw is refl

pub weighing_told : (entries : List Entry) (lane : ℕ) (gross : ℤ) (prior : Prior) (row : Row) → row.number ≡ length entries + 1 → row.entry.signal ≡ recorded_signal entries (Weigh lane gross prior)
    → pack_told (reply_behind entries (Weigh lane gross prior)) ≡ passed_pack row
weighing_told entries lane gross prior row number signal =
    sym (ap (λ (n : ℕ). pack_told (judged_or_done n (recorded_signal entries (Weigh lane gross prior)))) number)
    ∙ pack_by row (recorded_signal entries (Weigh lane gross prior)) signal

-- where a pack passed at a row, the row's signal says so and its number is the pack's
pub passed_row : (row : Row) (pack : ℕ) → passed_pack row ≡ Some pack → (row.entry.signal ≡ Some Pass) × (row.number ≡ pack)
passed_row row pack h = by_signal row.entry.signal refl
  where
    by_signal : (signal : Option Signal) → row.entry.signal ≡ signal → (row.entry.signal ≡ Some Pass) × (row.number ≡ pack)
    by_signal None is = absurd (none-some pack (sym (ap (λ (s : Option Signal). cond (is_pass s) (Some row.number) None) is) ∙ h))
    by_signal (Some (Reject cause)) is = absurd (none-some pack (sym (ap (λ (s : Option Signal). cond (is_pass s) (Some row.number) None) is) ∙ h))
    by_signal (Some Pass) is = (is, same_Some row.number pack (sym (ap (λ (s : Option Signal). cond (is_pass s) (Some row.number) None) is) ∙ h))
