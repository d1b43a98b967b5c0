-- What an ask is answered, by what making its act ready gives.
use Rattle.std.proofs.Common.{◌≡◌, ◌⊎◌, inl, inr, Bool, true, false, ℕ, ◌+◌, ◌≤◌, nat_le, List, [], ◌∷◌, ◌++◌, length, Option, Some, None, IsSome, Result, Ok, Err, refl, sym, ◌∙◌, ap, subst, arith}
use Rattle.std.proofs.lemmas.Bool.Decides.{nat_tests}
use Rattle.std.specs.Option.{option_or}
use Rattle.hall_limits.specs.declared.TheConstants.{MAX_ROWS}
use Rattle.book_words.specs.declared.act.Act.{Act}
use Rattle.book_words.specs.declared.act.Ask.{Ask}
use Rattle.book_words.specs.declared.act.Want.{Want}
use Rattle.book_words.specs.declared.act.Want.TheVariants as want
use Rattle.book_words.specs.declared.act.Entry.{Entry}
use Rattle.book_words.specs.declared.reply.Answered.{Answered}
use Rattle.book_words.specs.declared.reply.Refused.{Refused}
use Rattle.book_words.specs.declared.refusal.Refusal.{Refusal}
use Rattle.book_words.specs.declared.refusal.Refusal.TheVariants.{BookFull}
use Rattle.book_words.specs.Desks.{desk_number, request_old, request_reused, request_gap, repeated_row}
use Rattle.book_words.specs.Refusals.{refused_if, first_refusal, book_full, desk_refusals, refusals_of, refusal_of}
use Rattle.book_words.specs.Answers.{accepted, answer, desk_answer, want_answer, entry_for, entry_unless, added, want_added, IsLawful}
use Rattle.book_words.proofs.RefusalLemmas.{none_of_two, none_of_parts}
use Rattle.book_store.specs.Offers.{GivesAnswer, list_behind}
use Rattle.book_core.specs.declared.types.Step.{Step}
use Rattle.book_core.specs.declared.types.Step.TheVariants.{New, Known}
use Rattle.book_core.specs.declared.types.BookError.{BookError}
use Rattle.book_core.specs.declared.types.BookError.TheVariants as error
use Rattle.book_core.specs.AskErrors.{ask_error}
use Rattle.book_core.specs.View.{ReadyEntry, BookView}
use Rattle.book_core.specs.Steps.{asked_act, numbered_entry, decided_step, step_for, made_ready, GivesUnlessNoMemory, HasNoRoom, MayLackMemory}
use Rattle.book_core.proofs.DecisionLemmas.{desk_decision, decision_is}

isnt_full : (limit : ℕ) (test : Bool) → refused_if test (BookFull limit) ≡ None → test ≡ false
isnt_full limit false h = refl
isnt_full limit true h = absurd (cc)

none_in_both : (a b : List (Option Refusal)) → first_refusal a ≡ None → first_refusal b ≡ None
    → first_refusal (a ++ b) ≡ None
none_in_both [] b h k = k
none_in_both (None ∷ os) b h k = none_in_both os b h k
none_in_both (Some refusal ∷ os) b h k = absurd (cc)

-- an act that nothing refuses and that is no repeat is lawful as the entry that it will be
lawful_if : (limit by : ℕ) (entries : List Entry) (ask : Ask) (act : Act) → limit ≤ MAX_ROWS
    → repeated_row entries ask act ≡ None → refusal_of limit entries ask act ≡ None
    → IsLawful entries (entry_for entries by ask act)
lawful_if limit by entries ask act most new free =
    let parts = none_of_parts (desk_refusals entries ask act)
    (book_full limit entries ∷ refusals_of entries act) free in
    let own = none_of_two (book_full limit entries) (first_refusal (refusals_of entries act)) parts.1 in
    let full : nat_le limit (length entries) ≡ false =
    isnt_full limit (nat_le limit (length entries)) own.0 in
    record {
      room = grind (arith, nat_tests);
      new = new;
      rules = none_in_both (desk_refusals entries ask act) (refusals_of entries act) parts.0 own.1;
      signal = refl;
    }

-- there is a new entry, and it is lawful
pub record IsLawfulNew (entries : List Entry) (new : Option Entry) : Type 0 where
  pub entry : Entry
  pub is : new ≡ Some entry
  pub lawful : IsLawful entries entry

-- what is ready is the next entry, which is lawful, and it is answered as was asked
pub record IsReady (entries : List Entry) (new : Option Entry) (told : Result Answered Refused)
    (ready : ReadyEntry) : Type 0 where
  pub number : ready.number ≡ length entries + 1
  pub is : new ≡ Some ready.entry
  pub lawful : IsLawful entries ready.entry
  pub answer : (answered : Answered)
      → Ok answered ≡ answer MAX_ROWS entries
      (asked_act ready.entry.desk ready.entry.request ready.entry.act)
      → told ≡ Ok answered

-- what a step says of the entry that an ask adds, and of its answer
abbrev pub Decides : BookView → Act → Option Entry → Result Answered Refused → Result Step BookError
    → Type 0
Decides book act new told (Err error.NoMemory) = HasNoRoom book act × IsLawfulNew book.entries new
Decides book act new told (Err (error.Refused refused)) = (told ≡ Err refused) × (new ≡ None)
Decides book act new told (Ok (Known answered)) = (told ≡ Ok answered) × (new ≡ None)
Decides book act new told (Ok (New ready)) = IsReady book.entries new told ready

-- a step that is given in place of the one that is wanted
given_for : (book : BookView) (act : Act) (new : Option Entry) (told : Result Answered Refused)
    (given wanted : Result Step BookError)
    → GivesUnlessNoMemory book act given wanted → Decides book act new told wanted
    → (IsSome (made_ready wanted) → IsLawfulNew book.entries new)
    → Decides book act new told given
given_for book act new told (Err error.NoMemory) wanted gives decides lacks = (gives.1, lacks gives.0)
given_for book act new told (Err (error.Refused refused)) wanted gives decides lacks =
    subst (Decides book act new told) (sym gives) decides
given_for book act new told (Ok (Known answered)) wanted gives decides lacks =
    subst (Decides book act new told) (sym gives) decides
given_for book act new told (Ok (New ready)) wanted gives decides lacks =
    subst (Decides book act new told) (sym gives) decides

unless_refused : (row : Option ℕ) (refusal : Refusal) (entry : Entry)
    → entry_unless row (Some refusal) entry ≡ None
unless_refused None refusal entry = refl
unless_refused (Some row) refusal entry = refl

-- an accepted act is answered by nothing else
accepted_only : (entries : List Entry) (act : Act) (answered : Answered) (d : Option Refusal)
    (row : Option ℕ) (f : Option Refusal) → d ≡ None → row ≡ None
    → Ok answered ≡ desk_answer entries act d row f
    → Ok (accepted entries act) ≡ desk_answer entries act None None None
    → ◌≡◌ {A = Result Answered Refused} (Ok (accepted entries act)) (Ok answered)
accepted_only entries act answered (Some x) row f desk new told is = absurd (cc)
accepted_only entries act answered None (Some row) f desk new told is = absurd (cc)
accepted_only entries act answered None None (Some x) desk new told is = absurd (cc)
accepted_only entries act answered None None None desk new told is = sym told

none_made : false ≡ true → ⊥
none_made h = cc

decides_by : (book : BookView) (by : ℕ) (ask : Ask) (act : Act) (given : Result Step BookError)
    (d : Option Refusal) (row : Option ℕ) (f : Option Refusal) → book.limit ≤ MAX_ROWS
    → desk_number ask act ≡ d → repeated_row book.entries ask act ≡ row
    → refusal_of book.limit book.entries ask act ≡ f
    → GivesUnlessNoMemory book act given
    (decided_step (numbered_entry book.entries by ask act)
    (desk_decision book.entries act d row f))
    → Decides book act (entry_unless row f (entry_for book.entries by ask act))
    (desk_answer book.entries act d row f) given
decides_by book by ask act given (Some x) row f most desk new free gives =
    let told : refusal_of book.limit book.entries ask act ≡ Some x =
    ap (λ o. option_or o (first_refusal
    (request_old book.entries ask ∷ request_reused book.entries ask act
    ∷ request_gap book.entries ask ∷ book_full book.limit book.entries
    ∷ refusals_of book.entries act))) desk in
    let none : entry_unless row f (entry_for book.entries by ask act) ≡ None =
    ap (λ o. entry_unless row o (entry_for book.entries by ask act)) (sym free ∙ told)
    ∙ unless_refused row x (entry_for book.entries by ask act) in
    given_for book act (entry_unless row f (entry_for book.entries by ask act))
    (desk_answer book.entries act (Some x) row f) given _ gives (refl, none)
    (λ made. absurd (none_made made))
decides_by book by ask act given None (Some row) f most desk new free gives =
    given_for book act None (desk_answer book.entries act None (Some row) f) given _ gives
    (refl, refl) (λ made. absurd (none_made made))
decides_by book by ask act given None None (Some x) most desk new free gives =
    given_for book act None (desk_answer book.entries act None None (Some x)) given _ gives
    (refl, refl) (λ made. absurd (none_made made))
decides_by book by ask act given None None None most desk new free gives =
    let entry = entry_for book.entries by ask act in
    let lawful = lawful_if book.limit by book.entries ask act most new free in
    given_for book act (Some entry) (desk_answer book.entries act None None None) given _ gives
    (record {
      number = refl;
      is = refl;
      lawful = lawful;
      answer = λ answered told. accepted_only book.entries act answered (desk_number ask act)
          (repeated_row book.entries ask act)
          (refusal_of MAX_ROWS book.entries ask act) desk new told refl;
    })
    (λ made. record { entry = entry; is = refl; lawful = lawful })

-- what making an act ready says of the ask
decides : (book : BookView) (by : ℕ) (ask : Ask) (act : Act) (given : Result Step BookError)
    → ask.want ≡ want.Act act → book.limit ≤ MAX_ROWS
    → GivesUnlessNoMemory book act given (step_for book by ask act)
    → Decides book act (added book.limit book.entries by ask) (answer book.limit book.entries ask) given
decides book by ask act given wants most gives =
    subst (λ (w : Want). Decides book act (want_added book.limit book.entries by ask w)
    (want_answer book.limit book.entries ask w) given) (sym wants)
    (decides_by book by ask act given (desk_number ask act) (repeated_row book.entries ask act)
    (refusal_of book.limit book.entries ask act) most refl refl refl
    (subst (λ (d : Result (Option Answered) BookError). GivesUnlessNoMemory book act given
    (decided_step (numbered_entry book.entries by ask act) d))
    (decision_is book.limit book.entries ask act) gives))

-- what a step says, case by case
module _ (book : BookView) (by : ℕ) (ask : Ask) (act : Act) (given : Result Step BookError)
    (wants : ask.want ≡ want.Act act) (most : book.limit ≤ MAX_ROWS)
    (gives : GivesUnlessNoMemory book act given (step_for book by ask act)) where
  abbrev Says : Result Step BookError → Type 0
  Says step = Decides book act (added book.limit book.entries by ask)
      (answer book.limit book.entries ask) step

  pub ready_is : (step : Step) (ready : ReadyEntry) → given ≡ Ok step → step ≡ New ready
      → IsReady book.entries (added book.limit book.entries by ask)
      (answer book.limit book.entries ask) ready
  ready_is step ready is step_is =
      subst Says (is ∙ ap (λ (s : Step). Ok s) step_is)
      (decides book by ask act given wants most gives)

  pub known_is : (step : Step) (answered : Answered) → given ≡ Ok step → step ≡ Known answered
      → (answer book.limit book.entries ask ≡ Ok answered)
      × (added book.limit book.entries by ask ≡ None)
  known_is step answered is step_is =
      subst Says (is ∙ ap (λ (s : Step). Ok s) step_is)
      (decides book by ask act given wants most gives)

  -- an error is told as the caller's, which is right
  pub error_gives : (e : BookError) → given ≡ Err e
      → GivesAnswer book by ask (added book.limit book.entries by ask) (Err (ask_error e))
      (answer book.limit book.entries ask)
  error_gives e is = each e (subst Says is (decides book by ask act given wants most gives))
    where
      each : (e : BookError) → Says (Err e)
          → GivesAnswer book by ask (added book.limit book.entries by ask) (Err (ask_error e))
          (answer book.limit book.entries ask)
      each (error.Refused refused) says = sym says.0
      each error.NoMemory says =
          subst (λ (w : Want). MayLackMemory book by ask w) (sym wants)
          (subst (λ (o : Option Entry). IsSome o) (sym says.1.is) refl, says.0)

  -- behind it there is nothing new, or what is new is lawful
  pub error_new : (e : BookError) → given ≡ Err e
      → (added book.limit book.entries by ask ≡ None)
      ⊎ IsLawfulNew book.entries (added book.limit book.entries by ask)
  error_new e is = each e (subst Says is (decides book by ask act given wants most gives))
    where
      each : (e : BookError) → Says (Err e)
          → (added book.limit book.entries by ask ≡ None)
          ⊎ IsLawfulNew book.entries (added book.limit book.entries by ask)
      each (error.Refused refused) says = inl says.1
      each error.NoMemory says = inr says.1

-- the list behind an act that is entered, and behind one that isn't
pub list_more : (answered : Answered) (entries same list : List Entry) (entry : Entry)
    → {new : Option Entry} → new ≡ Some entry → list ≡ same ++ entry ∷ [] → same ≡ entries
    → list ≡ list_behind (Ok answered) entries new
list_more answered entries same list entry is entered equal =
    entered ∙ ap (λ (es : List Entry). es ++ entry ∷ []) equal
    ∙ ap (λ (o : Option Entry). list_behind (Ok answered) entries o) (sym is)

pub list_same : (answered : Answered) (entries list : List Entry) (new : Option Entry) → new ≡ None
    → list ≡ entries → list ≡ list_behind (Ok answered) entries new
list_same answered entries list new is equal = equal
    ∙ ap (λ (o : Option Entry). list_behind (Ok answered) entries o) (sym is)

pub none_new : (new : Option Entry) → new ≡ None → IsSome new → ⊥
none_new None is some = none_made some
none_new (Some entry) is some = absurd (cc)
