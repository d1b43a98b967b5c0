-- No answer of the book changes with who brought the entries.
use Rattle.std.proofs.Common.{◌≡◌, ℕ, ◌+◌, ◌-◌, ◌<◌, false, List, [], ◌∷◌, ◌++◌, length, take, Option, Some, None, Result, Ok, Err, refl, sym, ap, subst, ◌∙◌}
use Rattle.std.proofs.lemmas.List.{take-map}
use Rattle.hall_limits.specs.declared.TheConstants.{MAX_ROWS}
use Rattle.book_words.specs.declared.act.Act.{Act}
use Rattle.book_words.specs.declared.act.Act.TheVariants.{Close}
use Rattle.book_words.specs.declared.act.Ask.{Ask}
use Rattle.book_words.specs.declared.act.Want.{Want}
use Rattle.book_words.specs.declared.act.Want.TheVariants as want
use Rattle.book_words.specs.declared.act.Entry.{Entry}
use Rattle.book_words.specs.declared.reply.Reply.{Reply}
use Rattle.book_words.specs.declared.reply.Reply.TheVariants.{Closed}
use Rattle.book_words.specs.declared.refusal.Refusal.{Refusal}
use Rattle.book_words.specs.Desks.{desk_number, repeated_row}
use Rattle.book_words.specs.Refusals.{refusal_by_rule, refusal_of}
use Rattle.book_words.specs.Signals.{recorded_signal}
use Rattle.book_words.specs.Views.{question_told}
use Rattle.book_words.specs.Answers.{judged_or_done, reply_behind, accepted, told_again, refused_at, desk_answer, question_answer, want_answer, answer, ask_of, IsLawful}
use Rattle.caller_laws.specs.Alike.{unnamed, all_unnamed, shows_callers, AreSameButBy, AreAnsweredAlike, AreLegalAlike}
use Rattle.caller_laws.proofs.Readings.{length_same}
use Rattle.caller_laws.proofs.Verdicts.{told_verdict_same}
use Rattle.caller_laws.proofs.Signals.{signal_same}
use Rattle.caller_laws.proofs.Desks.{repeated_same}
use Rattle.caller_laws.proofs.Refusals.{by_rule_same, refusal_same}
use Rattle.caller_laws.proofs.Views.{question_same}

pub reply_same : (entries : List Entry) (act : Act)
    → reply_behind (all_unnamed entries) act ≡ reply_behind entries act
reply_same entries (Close batch) =
    λ i. Closed (length_same entries i + 1) (told_verdict_same entries (Close batch) batch i)
reply_same entries act =
    λ i. judged_or_done (length_same entries i + 1) (signal_same entries act i)

accepted_same : (entries : List Entry) (act : Act)
    → accepted (all_unnamed entries) act ≡ accepted entries act
accepted_same entries act =
    λ i. record { at = length_same entries i + 1; reply = reply_same entries act i }

told_again_same : (entries : List Entry) (row : ℕ) (act : Act)
    → told_again (all_unnamed entries) row act ≡ told_again entries row act
told_again_same entries row act =
    λ i. record {
      at = length_same entries i;
      reply = (ap (λ es. reply_behind es act) (take-map unnamed (row - 1) entries)
          ∙ reply_same (take (row - 1) entries) act) i;
    }

refused_same : (entries : List Entry) (refusal : Refusal)
    → refused_at (all_unnamed entries) refusal ≡ refused_at entries refusal
refused_same entries refusal = λ i. record { at = length_same entries i; refusal = refusal }

by_parts_same : (entries : List Entry) (act : Act) (by_desk : Option Refusal) (row : Option ℕ)
    (by_rule : Option Refusal)
    → desk_answer (all_unnamed entries) act by_desk row by_rule
    ≡ desk_answer entries act by_desk row by_rule
by_parts_same entries act (Some refusal) row by_rule = ap Err (refused_same entries refusal)
by_parts_same entries act None (Some row) by_rule = ap Ok (told_again_same entries row act)
by_parts_same entries act None None (Some refusal) = ap Err (refused_same entries refusal)
by_parts_same entries act None None None = ap Ok (accepted_same entries act)

told_same : (entries : List Entry) (told : Result Reply Refusal)
    → question_answer (all_unnamed entries) told ≡ question_answer entries told
told_same entries (Ok reply) = λ i. Ok (record { at = length_same entries i; reply = reply })
told_same entries (Err refusal) = ap Err (refused_same entries refusal)

wanted_same : (limit : ℕ) (entries : List Entry) (ask : Ask) (wanted : Want)
    → shows_callers wanted ≡ false
    → want_answer limit (all_unnamed entries) ask wanted ≡ want_answer limit entries ask wanted
wanted_same limit entries ask (want.Act act) hides =
    (λ i. desk_answer (all_unnamed entries) act (desk_number ask act)
    (repeated_same entries ask act i) (refusal_same entries limit ask act i))
    ∙ by_parts_same entries act (desk_number ask act) (repeated_row entries ask act)
    (refusal_of limit entries ask act)
wanted_same limit entries ask (want.Question question) hides =
    ap (question_answer (all_unnamed entries)) (question_same entries question hides)
    ∙ told_same entries (question_told entries question)

-- a list is answered as the same list that a script would have brought
pub answer_same : (limit : ℕ) (entries : List Entry) (ask : Ask) → shows_callers ask.want ≡ false
    → answer limit (all_unnamed entries) ask ≡ answer limit entries ask
answer_same limit entries ask hides = wanted_same limit entries ask ask.want hides

pub answered_alike : AreAnsweredAlike
answered_alike some other same limit ask hides =
    sym (answer_same limit some ask hides) ∙ ap (λ es. answer limit es ask) same
    ∙ answer_same limit other ask hides

-- ---- legal lists

-- an entry is lawful behind both or behind neither
pub lawful_alike : (some other : List Entry) (entry like : Entry) → AreSameButBy some other
    → unnamed entry ≡ unnamed like → IsLawful some entry → IsLawful other like
lawful_alike some other entry like same one lawful =
    record {
      room = subst (λ n. n < MAX_ROWS)
          (sym (length_same some) ∙ ap length same ∙ length_same other) lawful.room;
      new = to_like (λ es e. repeated_row es (ask_of e) e.act)
          (λ es e. repeated_same es (ask_of e) e.act) ∙ lawful.new;
      rules = to_like (λ es e. refusal_by_rule es (ask_of e) e.act)
          (λ es e. by_rule_same es (ask_of e) e.act) ∙ lawful.rules;
      signal = ap (λ e. e.signal) (sym one) ∙ lawful.signal
          ∙ sym (to_like (λ es e. recorded_signal es e.act) (λ es e. signal_same es e.act));
    }
  where
    to_like : {A : Type 0} (told : List Entry → Entry → A)
        → ((es : List Entry) (e : Entry) → told (all_unnamed es) (unnamed e) ≡ told es e)
        → told other like ≡ told some entry
    to_like told alike =
        sym (alike other like) ∙ (λ i. told (sym same i) (sym one i)) ∙ alike some entry

-- a list with an entry, as the same list with a like entry, in parts
record HasLike (some before : List Entry) (entry : Entry) : Type 0 where
  first : List Entry
  like : Entry
  rest : List Entry
  parts : some ≡ first ++ like ∷ rest
  same : AreSameButBy first before
  one : unnamed like ≡ unnamed entry

like_of : (some before : List Entry) (entry : Entry) (after : List Entry)
    → all_unnamed some ≡ all_unnamed (before ++ entry ∷ after) → HasLike some before entry
like_of [] [] entry after h = absurd (cc)
like_of [] (b ∷ before) entry after h = absurd (cc)
like_of (e ∷ some) [] entry after h =
    record { first = []; like = e; rest = some; parts = refl; same = refl; one = first_of h }
  where
    first_of : unnamed e ∷ all_unnamed some ≡ unnamed entry ∷ all_unnamed after
        → unnamed e ≡ unnamed entry
    first_of h = cc
like_of (e ∷ some) (b ∷ before) entry after h = longer (cc) (like_of some before entry after (cc))
  where
    longer : unnamed e ≡ unnamed b → HasLike some before entry
        → HasLike (e ∷ some) (b ∷ before) entry
    longer heads has =
        record {
          first = e ∷ has.first;
          like = has.like;
          rest = has.rest;
          parts = ap (λ es. e ∷ es) has.parts;
          same = λ i. heads i ∷ has.same i;
          one = has.one;
        }

pub legal_alike : AreLegalAlike
legal_alike some other same legal before entry after parts =
    let has = like_of some before entry after (same ∙ ap all_unnamed parts) in
    lawful_alike has.first before has.like entry has.same has.one
    (legal has.first has.like has.rest has.parts)
