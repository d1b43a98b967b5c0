-- A pass that was answered went on.
use Rattle.std.proofs.Common.{◌≡◌, ℕ, ◌+◌, ◌≤◌, List, [], ◌∷◌, ◌++◌, length, All, Option, Some, None, option_map, Result, Ok, Err, refl, sym, ◌∙◌, ap, subst, arith, append_assoc, append-nil, length-append}
use Rattle.std.proofs.lemmas.List.Elements.{All-append, All-cons, All-nil, All-weaker}
use Rattle.std.specs.List.{cons_option}
use Rattle.book_words.specs.declared.act.Ask.{Ask}
use Rattle.book_words.specs.declared.act.Entry.{Entry}
use Rattle.book_words.specs.declared.caller.AskError.{AskError}
use Rattle.book_words.specs.declared.caller.AskError.TheVariants as error
use Rattle.book_words.specs.declared.reply.Answered.{Answered}
use Rattle.book_words.specs.declared.reply.Refused.{Refused}
use Rattle.book_words.specs.Answers.{added}
use Rattle.book_words.specs.Callers.{HasAnswer, HasNoAnswer, IsAsked, Known, Says, row_added}
use Rattle.book_words.specs.Desks.{Row}
use Rattle.shared_book.specs.Passes.{HasAsked, HasMet, HasUsedRoom}

module _ (old new : Known) (ask : Ask) where
  -- the row that an ask adds stands in what is seen behind it
  added_within : (before after : List Entry) (o : Option Entry)
      → new.seen ≡ before ++ cons_option o after
      → All (λ (row : Row). row.number ≤ length new.seen)
      (cons_option
      (option_map (λ entry. record { number = length before + 1; entry = entry }) o) [])
  added_within before after None parts = All-nil (λ (row : Row). row.number ≤ length new.seen)
  added_within before after (Some entry) parts =
      All-cons (λ (row : Row). row.number ≤ length new.seen)
      (record { number = length before + 1; entry = entry }) []
      (omega (arith, ap length parts, length-append before (entry ∷ after)))
      (All-nil (λ (row : Row). row.number ≤ length new.seen))

  met_answer : (given : Result Answered Refused) → HasAnswer old new ask given → HasMet old new
  met_answer given has =
      let right = has.right in
      let new_entry = added old.limit right.before old.by ask in
      record {
        seen = (
          has.unseen ++ cons_option new_entry right.after,
          right.parts
              ∙ (ap (λ (es : List Entry). es ++ cons_option new_entry right.after) has.grows
              ∙ append_assoc old.seen has.unseen (cons_option new_entry right.after)),
        );
        added = cons_option (row_added old.limit right.before old.by ask) [];
        mine = has.mine;
        within = added_within right.before right.after new_entry right.parts;
      }

  met_nothing : HasNoAnswer old new → HasMet old new
  met_nothing has =
      record {
        seen = (has.unseen, has.grows);
        added = [];
        mine = has.mine ∙ sym (append-nil old.mine);
        within = All-nil (λ (row : Row). row.number ≤ length new.seen);
      }

  met_by : (given : Result Answered AskError) → Says old new ask given → HasMet old new
  met_by (Ok answered) says = met_answer (Ok answered) says
  met_by (Err (error.Refused refused)) says = met_answer (Err refused) says
  met_by (Err error.DiskFault) says = met_nothing says.0
  met_by (Err error.NoMemory) says = met_nothing says.0

  pub asked_met : (given : Result Answered AskError) → IsAsked old new ask given → HasMet old new
  asked_met given asked = met_by given asked.says

-- ---- a pass that was asked for goes on

met_itself : (known : Known) → HasMet known known
met_itself known =
    record {
      seen = ([], sym (append-nil known.seen));
      added = [];
      mine = sym (append-nil known.mine);
      within = All-nil (λ (row : Row). row.number ≤ length known.seen);
    }

met_on : (first between last : Known) → HasMet first between → HasMet between last
    → HasMet first last
met_on first between last one two =
    let longer : length between.seen ≤ length last.seen =
    omega (arith, ap length two.seen.1, length-append between.seen two.seen.0) in
    record {
      seen = (
        one.seen.0 ++ two.seen.0,
        two.seen.1 ∙ (ap (λ (es : List Entry). es ++ two.seen.0) one.seen.1
            ∙ append_assoc first.seen one.seen.0 two.seen.0),
      );
      added = one.added ++ two.added;
      mine = two.mine ∙ (ap (λ (rows : List Row). rows ++ two.added) one.mine
          ∙ append_assoc first.mine one.added two.added);
      within = All-append (λ (row : Row). row.number ≤ length last.seen) one.added two.added
          (All-weaker (λ (row : Row). row.number ≤ length between.seen)
          (λ (row : Row). row.number ≤ length last.seen)
          (λ row least. omega (arith, least, longer)) one.added one.within)
          two.within;
    }

-- by whatever asks
pub met_by_asks : (room : ℕ) (first last : Known) (asks : List Ask) → HasAsked room first asks last
    → HasMet first last
met_by_asks room first last [] same = subst (HasMet first) (sym same) (met_itself first)
met_by_asks room first last (ask ∷ asks) asked =
    met_on first asked.0 last asked.1 (met_by_asks room asked.0 last asks asked.3)

-- by one ask
pub used_by_ask : (room : ℕ) (first last : Known) (ask : Ask)
    → HasAsked room first (ask ∷ []) last → HasUsedRoom room first last ask
used_by_ask room first last ask asked =
    subst (λ (k : Known). HasUsedRoom room first k ask) (sym asked.3) asked.2
