-- What follows from an answer that is right in a list: it stays right when the list grows, and it
-- names the entries before it and its own.
use Rattle.std.proofs.Common.{◌≡◌, ℕ, ◌+◌, List, [], ◌∷◌, ◌++◌, length, Option, Some, None, Result, Ok, Err, refl, sym, ◌∙◌, ap, append_assoc, append-nil, length-append}
use Rattle.std.specs.List.{cons_option}
use Rattle.std.specs.Option.{option_or}
use Rattle.book_words.specs.declared.act.Act.{Act}
use Rattle.book_words.specs.declared.act.Ask.{Ask}
use Rattle.book_words.specs.declared.act.Want.{Want}
use Rattle.book_words.specs.declared.act.Want.TheVariants as want
use Rattle.book_words.specs.declared.act.Entry.{Entry}
use Rattle.book_words.specs.declared.reply.Answered.{Answered}
use Rattle.book_words.specs.declared.reply.Refused.{Refused}
use Rattle.book_words.specs.declared.refusal.Refusal.{Refusal}
use Rattle.book_words.specs.declared.reply.Reply.{Reply}
use Rattle.book_words.specs.Desks.{desk_number, request_old, request_reused, request_gap, repeated_row}
use Rattle.book_words.specs.Refusals.{first_refusal, book_full, refusals_of}
use Rattle.book_words.specs.Views.{question_told}
use Rattle.book_words.specs.Answers.{answer, desk_answer, question_answer, want_answer, entry_for, entry_unless, added, want_added, entries_after}
use Rattle.book_words.specs.Callers.{number_named, IsRight}

then_more : (new : Option Entry) (after more : List Entry)
    → cons_option new after ++ more ≡ cons_option new (after ++ more)
then_more None after more = refl
then_more (Some entry) after more = refl

-- an answer that is right in a list is right in every list that begins with it
pub right_in_longer : (limit by : ℕ) (entries more : List Entry) (ask : Ask)
    (given : Result Answered Refused) → IsRight limit by entries ask given
    → IsRight limit by (entries ++ more) ask given
right_in_longer limit by entries more ask given right =
    let new = added limit right.before by ask in
    record {
      before = right.before;
      after = right.after ++ more;
      parts =
          ap (λ (all : List Entry). all ++ more) right.parts
          ∙ append_assoc right.before (cons_option new right.after) more
          ∙ ap (λ (rest : List Entry). right.before ++ rest) (then_more new right.after more);
      answered = right.answered;
    }

none_added : (entries : List Entry) → length entries ≡ length (entries ++ [])
none_added entries = ap length (sym (append-nil entries))

one_added : (entries : List Entry) (entry : Entry) → length entries + 1 ≡ length (entries ++ entry ∷ [])
one_added entries entry = sym (length-append entries (entry ∷ []))

act_names : (entries : List Entry) (act : Act) (entry : Entry) (by_desk : Option Refusal)
    (row : Option ℕ) (by_rule : Option Refusal)
    → number_named (desk_answer entries act by_desk row (option_or by_desk by_rule))
    ≡ length (entries ++ cons_option (entry_unless row (option_or by_desk by_rule) entry) [])
act_names entries act entry (Some refusal) None by_rule = none_added entries
act_names entries act entry (Some refusal) (Some row) by_rule = none_added entries
act_names entries act entry None (Some row) by_rule = none_added entries
act_names entries act entry None None (Some refusal) = none_added entries
act_names entries act entry None None None = one_added entries entry

question_names : (entries : List Entry) (told : Result Reply Refusal)
    → number_named (question_answer entries told) ≡ length (entries ++ [])
question_names entries (Ok reply) = none_added entries
question_names entries (Err refusal) = none_added entries

want_names : (limit by : ℕ) (entries : List Entry) (ask : Ask) (w : Want)
    → number_named (want_answer limit entries ask w)
    ≡ length (entries ++ cons_option (want_added limit entries by ask w) [])
want_names limit by entries ask (want.Act act) =
    act_names entries act (entry_for entries by ask act) (desk_number ask act)
    (repeated_row entries ask act)
    (first_refusal (request_old entries ask ∷ request_reused entries ask act
    ∷ request_gap entries ask ∷ book_full limit entries ∷ refusals_of entries act))
want_names limit by entries ask (want.Question question) =
    question_names entries (question_told entries question)

-- an answer names how many entries there are behind its ask: those before it, and the one that it
-- adds, if any
pub answer_names : (limit by : ℕ) (entries : List Entry) (ask : Ask)
    → number_named (answer limit entries ask) ≡ length (entries_after limit entries by ask)
answer_names limit by entries ask = want_names limit by entries ask ask.want

-- so does one that is right in a list
pub right_names : (limit by : ℕ) (entries : List Entry) (ask : Ask)
    (given : Result Answered Refused) (right : IsRight limit by entries ask given)
    → number_named given ≡ length (entries_after limit right.before by ask)
right_names limit by entries ask given right =
    ap number_named (sym right.answered) ∙ answer_names limit by right.before ask
