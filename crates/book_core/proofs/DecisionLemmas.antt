-- What follows from the decision on an act.
use Rattle.std.proofs.Common.{◌≡◌, Bool, ℕ, ◌<◌, nat_le, true, false, List, [], ◌∷◌, ◌++◌, length, Option, Some, None, Result, Ok, Err, refl, sym, ◌∙◌, ap, arith}
use Rattle.std.proofs.lemmas.Bool.Decides.{nat_tests}
use Rattle.std.specs.Option.{option_or}
use Rattle.hall_limits.specs.declared.TheConstants.{MAX_ROWS}
use Rattle.book_words.specs.declared.act.Act.{Act}
use Rattle.book_words.specs.declared.act.Ask.{Ask}
use Rattle.book_words.specs.declared.act.Entry.{Entry}
use Rattle.book_words.specs.declared.reply.Answered.{Answered}
use Rattle.book_words.specs.declared.reply.Refused.{Refused}
use Rattle.book_words.specs.declared.refusal.Refusal.{Refusal}
use Rattle.book_words.specs.declared.refusal.Refusal.TheVariants.{BookFull}
use Rattle.book_words.specs.Numbers.{refusal_number, EachFrom}
use Rattle.book_words.specs.Desks.{desk_number, request_old, request_reused, request_gap, repeated_row}
use Rattle.book_words.specs.Refusals.{refused_if, book_full, first_refusal, desk_refusals, refusals_of, refusal_of, refusal_by_rule}
use Rattle.book_words.specs.Signals.{recorded_signal}
use Rattle.book_words.specs.Answers.{refused_at, told_again, accepted, entry_for, entry_unless, desk_answer, act_answer, ask_of, IsLawful}
use Rattle.book_words.proofs.RefusalLemmas.{none_of_two, none_of_parts, least_refusal}
use Rattle.book_core.specs.declared.types.BookError.{BookError}
use Rattle.book_core.specs.declared.types.BookError.TheVariants as error
use Rattle.book_core.specs.Steps.{told_unless_new, decision, handed_on}

-- a repeat is told again, any other act that isn't refused is new
abbrev pub repeat_decision :
    List Entry → Act → Option ℕ → Option Refusal → Result (Option Answered) BookError
repeat_decision entries act (Some row) refusal = Ok (Some (told_again entries row act))
repeat_decision entries act None (Some refusal) = Err (error.Refused (refused_at entries refusal))
repeat_decision entries act None None = Ok None

-- a wrong desk is refused before anything else is looked at
abbrev pub desk_decision :
    List Entry → Act → Option Refusal → Option ℕ → Option Refusal
    → Result (Option Answered) BookError
desk_decision entries act (Some by_desk) row by_rule =
    Err (error.Refused (refused_at entries by_desk))
desk_decision entries act None row by_rule = repeat_decision entries act row by_rule

decision_parts : (entries : List Entry) (act : Act) (entry : Entry) (by_desk : Option Refusal)
    (row : Option ℕ) (by_rule : Option Refusal)
    → told_unless_new (entry_unless row (option_or by_desk by_rule) entry)
    (desk_answer entries act by_desk row (option_or by_desk by_rule))
    ≡ desk_decision entries act by_desk row (option_or by_desk by_rule)
decision_parts entries act entry (Some refusal) None by_rule = refl
decision_parts entries act entry (Some refusal) (Some row) by_rule = refl
decision_parts entries act entry None (Some row) by_rule = refl
decision_parts entries act entry None None (Some refusal) = refl
decision_parts entries act entry None None None = refl

-- the decision by its parts: a wrong desk, the row that is repeated, the first refusal
pub decision_is : (limit : ℕ) (entries : List Entry) (ask : Ask) (act : Act)
    → decision limit entries ask act
    ≡ desk_decision entries act (desk_number ask act) (repeated_row entries ask act)
    (refusal_of limit entries ask act)
decision_is limit entries ask act =
    decision_parts entries act (entry_for entries 0 ask act) (desk_number ask act)
    (repeated_row entries ask act)
    (first_refusal (request_old entries ask ∷ request_reused entries ask act
    ∷ request_gap entries ask ∷ book_full limit entries ∷ refusals_of entries act))

-- an act that is neither refused nor known
pub record IsFree (limit : ℕ) (entries : List Entry) (ask : Ask) (act : Act) : Type 0 where
  pub desk : desk_number ask act ≡ None
  pub new : repeated_row entries ask act ≡ None
  pub free : refusal_of limit entries ask act ≡ None

nothing : (entries : List Entry) (act : Act) (by_desk : Option Refusal) (row : Option ℕ)
    (by_rule : Option Refusal)
    → desk_decision entries act by_desk row by_rule ≡ Ok None → (by_desk ≡ None) × (row ≡ None)
    × (by_rule ≡ None)
nothing entries act (Some d) row by_rule h = absurd (cc)
nothing entries act None (Some row) by_rule h = absurd (cc)
nothing entries act None None (Some f) h = absurd (cc)
nothing entries act None None None h = (refl, refl, refl)

pub is_free : (limit : ℕ) (entries : List Entry) (ask : Ask) (act : Act)
    → decision limit entries ask act ≡ Ok None → IsFree limit entries ask act
is_free limit entries ask act h =
    let parts = nothing entries act (desk_number ask act) (repeated_row entries ask act)
    (refusal_of limit entries ask act) (sym (decision_is limit entries ask act) ∙ h) in
    record { desk = parts.0; new = parts.1; free = parts.2 }

-- such an act is decided to be new
pub free_decides : (limit : ℕ) (entries : List Entry) (ask : Ask) (act : Act)
    → IsFree limit entries ask act → decision limit entries ask act ≡ Ok None
free_decides limit entries ask act free = decision_is limit entries ask act
    ∙ (λ i. desk_decision entries act (free.desk i) (free.new i) (free.free i))

-- there is room in the book for it
pub has_room : (limit : ℕ) (entries : List Entry) (ask : Ask) (act : Act)
    → refusal_of limit entries ask act ≡ None → length entries < limit
has_room limit entries ask act h =
    let parts = none_of_parts (desk_refusals entries ask act)
    (book_full limit entries ∷ refusals_of entries act) h in
    let full = (none_of_two (book_full limit entries)
    (first_refusal (refusals_of entries act)) parts.1).0 in
    let less = isnt (nat_le limit (length entries)) full in
    grind (arith, nat_tests)
  where
    isnt : (test : Bool) → refused_if test (BookFull limit) ≡ None → test ≡ false
    isnt false h = refl
    isnt true h = absurd (cc)

-- its own rules don't refuse it
pub own_rules : (limit : ℕ) (entries : List Entry) (ask : Ask) (act : Act)
    → refusal_of limit entries ask act ≡ None → first_refusal (refusals_of entries act) ≡ None
own_rules limit entries ask act h =
    (none_of_two (book_full limit entries) (first_refusal (refusals_of entries act))
    (none_of_parts (desk_refusals entries ask act)
    (book_full limit entries ∷ refusals_of entries act) h).1).1

-- so its own rules don't refuse what is decided to be new
pub new_is_free : (limit : ℕ) (entries : List Entry) (ask : Ask) (act : Act)
    → decision limit entries ask act ≡ Ok None → first_refusal (refusals_of entries act) ≡ None
new_is_free limit entries ask act found =
    own_rules limit entries ask act (is_free limit entries ask act found).free

none_in_both : (a b : List (Option Refusal)) → first_refusal a ≡ None → first_refusal b ≡ None
    → first_refusal (a ++ b) ≡ None
none_in_both [] b h k = k
none_in_both (None ∷ os) b h k = none_in_both os b h k
none_in_both (Some refusal ∷ os) b h k = absurd (cc)

-- nor do all rules together
pub all_rules : (limit : ℕ) (entries : List Entry) (ask : Ask) (act : Act)
    → refusal_of limit entries ask act ≡ None → refusal_by_rule entries ask act ≡ None
all_rules limit entries ask act h =
    none_in_both (desk_refusals entries ask act) (refusals_of entries act)
    (none_of_parts (desk_refusals entries ask act)
    (book_full limit entries ∷ refusals_of entries act) h).0
    (own_rules limit entries ask act h)

not_full : (test : Bool) (refusal : Refusal) → test ≡ false → refused_if test refusal ≡ None
not_full test refusal h = ap (λ b. refused_if b refusal) h

-- a lawful entry is neither refused nor known in a book of the most rows
pub lawful_free : (entries : List Entry) (entry : Entry) → IsLawful entries entry
    → IsFree MAX_ROWS entries (ask_of entry) entry.act
lawful_free entries entry lawful =
    let ask = ask_of entry in
    let act = entry.act in
    let room = lawful.room in
    let less : nat_le MAX_ROWS (length entries) ≡ false = grind (arith, nat_tests) in
    let parts = none_of_parts (desk_refusals entries ask act) (refusals_of entries act) lawful.rules in
    record {
      desk = (none_of_two (desk_number ask act) _ parts.0).0;
      new = lawful.new;
      free = none_in_both (desk_refusals entries ask act)
          (book_full MAX_ROWS entries ∷ refusals_of entries act) parts.0
          (ap (λ o. option_or o (first_refusal (refusals_of entries act)))
          (not_full _ (BookFull MAX_ROWS) less) ∙ parts.1);
    }

-- so it is decided to be new there
pub lawful_decides : (entries : List Entry) (entry : Entry) → IsLawful entries entry
    → decision MAX_ROWS entries (ask_of entry) entry.act ≡ Ok None
lawful_decides entries entry lawful =
    free_decides MAX_ROWS entries (ask_of entry) entry.act (lawful_free entries entry lawful)

-- and an entry is lawful that is decided to be new there and has its signal
pub decided_lawful : (entries : List Entry) (entry : Entry)
    → decision MAX_ROWS entries (ask_of entry) entry.act ≡ Ok None
    → entry.signal ≡ recorded_signal entries entry.act
    → IsLawful entries entry
decided_lawful entries entry h signal =
    let free = is_free MAX_ROWS entries (ask_of entry) entry.act h in
    record {
      room = has_room MAX_ROWS entries (ask_of entry) entry.act free.free;
      new = free.new;
      rules = all_rules MAX_ROWS entries (ask_of entry) entry.act free.free;
      signal = signal;
    }

refused_is : {some other : Refused} {A : Type 0}
    → ◌≡◌ {A = Result A BookError} (Err (error.Refused some)) (Err (error.Refused other))
    → some ≡ other
refused_is h = cc

same_refusal : (entries : List Entry) (refusal : Refusal) (refused : Refused)
    → refused_at entries refusal ≡ refused → refusal ≡ refused.refusal
same_refusal entries refusal refused h = ap (λ (r : Refused). r.refusal) h

least_by : (limit : ℕ) (entries : List Entry) (ask : Ask) (act : Act) (refused : Refused)
    (by_desk : Option Refusal) (row : Option ℕ) (by_rule : Option Refusal)
    → desk_number ask act ≡ by_desk → refusal_of limit entries ask act ≡ by_rule
    → desk_decision entries act by_desk row by_rule ≡ Err (error.Refused refused)
    → EachFrom (refusal_number refused.refusal)
    (desk_refusals entries ask act ++ book_full limit entries ∷ refusals_of entries act)
least_by limit entries ask act refused (Some d) row by_rule desk rule h =
    let told : refusal_of limit entries ask act ≡ Some d =
    ap (λ o. option_or o (first_refusal
    (request_old entries ask ∷ request_reused entries ask act ∷ request_gap entries ask
    ∷ book_full limit entries ∷ refusals_of entries act))) desk in
    let same : d ≡ refused.refusal = same_refusal entries d refused (refused_is h) in
    least_refusal limit entries ask act refused.refusal (told ∙ ap Some same)
least_by limit entries ask act refused None (Some row) by_rule desk rule h = absurd (cc)
least_by limit entries ask act refused None None (Some f) desk rule h =
    least_refusal limit entries ask act refused.refusal
    (rule ∙ ap Some (same_refusal entries f refused (refused_is h)))
least_by limit entries ask act refused None None None desk rule h = absurd (cc)

-- a refusal that is decided has the least number of all that hold
pub least_told : (limit : ℕ) (entries : List Entry) (ask : Ask) (act : Act) (refused : Refused)
    → decision limit entries ask act ≡ Err (error.Refused refused)
    → EachFrom (refusal_number refused.refusal)
    (desk_refusals entries ask act ++ book_full limit entries ∷ refusals_of entries act)
least_told limit entries ask act refused h =
    least_by limit entries ask act refused (desk_number ask act) (repeated_row entries ask act)
    (refusal_of limit entries ask act) refl refl (sym (decision_is limit entries ask act) ∙ h)

-- want of memory is never decided
pub never_lacks : (limit : ℕ) (entries : List Entry) (ask : Ask) (act : Act)
    → decision limit entries ask act ≡ Err error.NoMemory → ⊥
never_lacks limit entries ask act h =
    by_parts (desk_number ask act) (repeated_row entries ask act) (refusal_of limit entries ask act)
    (sym (decision_is limit entries ask act) ∙ h)
  where
    by_parts : (d : Option Refusal) (row : Option ℕ) (f : Option Refusal)
        → desk_decision entries act d row f ≡ Err error.NoMemory → ⊥
    by_parts (Some d) row f h = cc
    by_parts None (Some row) f h = cc
    by_parts None None (Some f) h = cc
    by_parts None None None h = cc

-- what is answered, by what is decided
abbrev pub answered_by : Answered → Result (Option Answered) BookError → Result Answered BookError
answered_by new (Err refused) = Err refused
answered_by new (Ok (Some known)) = Ok known
answered_by new (Ok None) = Ok new

answer_parts : (entries : List Entry) (act : Act) (d : Option Refusal) (row : Option ℕ)
    (f : Option Refusal)
    → handed_on (desk_answer entries act d row f)
    ≡ answered_by (accepted entries act) (desk_decision entries act d row f)
answer_parts entries act (Some d) row f = refl
answer_parts entries act None (Some row) f = refl
answer_parts entries act None None (Some f) = refl
answer_parts entries act None None None = refl

pub answer_is : (limit : ℕ) (entries : List Entry) (ask : Ask) (act : Act)
    → handed_on (act_answer limit entries ask act)
    ≡ answered_by (accepted entries act) (decision limit entries ask act)
answer_is limit entries ask act =
    answer_parts entries act (desk_number ask act) (repeated_row entries ask act)
    (refusal_of limit entries ask act)
    ∙ ap (answered_by (accepted entries act)) (sym (decision_is limit entries ask act))

-- what is decided to be new is accepted
pub new_is_accepted : (limit : ℕ) (entries : List Entry) (ask : Ask) (act : Act)
    → IsFree limit entries ask act → act_answer limit entries ask act ≡ Ok (accepted entries act)
new_is_accepted limit entries ask act free =
    λ i. desk_answer entries act (free.desk i) (free.new i) (free.free i)

-- so is a lawful entry in a book of the most rows
pub lawful_answer : (entries : List Entry) (entry : Entry) → IsLawful entries entry
    → act_answer MAX_ROWS entries (ask_of entry) entry.act ≡ Ok (accepted entries entry.act)
lawful_answer entries entry lawful =
    new_is_accepted MAX_ROWS entries (ask_of entry) entry.act (lawful_free entries entry lawful)
