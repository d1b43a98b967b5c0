-- What an ask is answered, by what making its act ready gives.
use Rattle.std.proofs.Common.{◌≡◌, true, false, ℕ, List, [], ◌∷◌, ◌++◌, Option, Some, None, IsSome, Result, Ok, Err, refl, sym, ◌∙◌, ap, subst, append-nil}
use Rattle.std.specs.List.{cons_option}
use Rattle.std.specs.Option.{option_or}
use Rattle.hall_limits.specs.declared.TheConstants.{MAX_ROWS}
use Rattle.book_words.specs.declared.act.Act.{Act}
use Rattle.book_words.specs.declared.act.Ask.{Ask}
use Rattle.book_words.specs.declared.act.Want.{Want}
use Rattle.book_words.specs.declared.act.Want.TheVariants as want
use Rattle.book_words.specs.declared.act.Entry.{Entry}
use Rattle.book_words.specs.declared.reply.Answered.{Answered}
use Rattle.book_words.specs.declared.reply.Refused.{Refused}
use Rattle.book_words.specs.declared.refusal.Refusal.{Refusal}
use Rattle.book_words.specs.Desks.{desk_number, request_old, request_reused, request_gap, repeated_row}
use Rattle.book_words.specs.Refusals.{first_refusal, book_full, refusals_of, refusal_of}
use Rattle.book_words.specs.Answers.{accepted, answer, want_answer, entry_for, entry_unless, added, want_added, IsLawful}
use Rattle.book_core.specs.declared.types.Step.{Step}
use Rattle.book_core.specs.declared.types.Step.TheVariants.{New, Known}
use Rattle.book_core.specs.declared.types.BookError.{BookError}
use Rattle.book_core.specs.declared.types.BookError.TheVariants as error
use Rattle.book_core.specs.View.{ReadyEntry, BookView}
use Rattle.book_core.specs.Steps.{asked_act, numbered_entry, decided_step, step_for, decision, GivesUnlessNoMemory, HasNoRoom, MayLackMemory, handed_on, GivesAnswer, TellsLeast, list_behind}
use Rattle.book_core.proofs.DecisionLemmas.{desk_decision, decision_is, answered_by, answer_is, never_lacks, least_told, lawful_answer}

-- the entry that a decision adds
abbrev added_by : Entry → Result (Option Answered) BookError → Option Entry
added_by entry (Ok None) = Some entry
added_by entry _ = None

unless_refused : (row : Option ℕ) (refusal : Refusal) (entry : Entry)
    → entry_unless row (Some refusal) entry ≡ None
unless_refused None refusal entry = refl
unless_refused (Some row) refusal entry = refl

added_parts : (limit by : ℕ) (entries : List Entry) (ask : Ask) (act : Act) (entry : Entry)
    (d : Option Refusal) (row : Option ℕ) (f : Option Refusal)
    → desk_number ask act ≡ d → refusal_of limit entries ask act ≡ f
    → entry_unless row f entry ≡ added_by entry (desk_decision entries act d row f)
added_parts limit by entries ask act entry (Some x) row f desk rule =
    let told : refusal_of limit entries ask act ≡ Some x =
    ap (λ o. option_or o (first_refusal
    (request_old entries ask ∷ request_reused entries ask act ∷ request_gap entries ask
    ∷ book_full limit entries ∷ refusals_of entries act))) desk in
    ap (λ o. entry_unless row o entry) (sym rule ∙ told) ∙ unless_refused row x entry
added_parts limit by entries ask act entry None (Some row) f desk rule = refl
added_parts limit by entries ask act entry None None (Some x) desk rule = refl
added_parts limit by entries ask act entry None None None desk rule = refl

-- an act adds its entry where it is decided that it is new
added_is : (limit by : ℕ) (entries : List Entry) (ask : Ask) (act : Act) → ask.want ≡ want.Act act
    → added limit entries by ask ≡ added_by (entry_for entries by ask act)
    (decision limit entries ask act)
added_is limit by entries ask act wants =
    ap (λ (w : Want). want_added limit entries by ask w) wants
    ∙ added_parts limit by entries ask act (entry_for entries by ask act) (desk_number ask act)
    (repeated_row entries ask act) (refusal_of limit entries ask act) refl refl
    ∙ ap (added_by (entry_for entries by ask act)) (sym (decision_is limit entries ask act))

-- it is answered by what is decided
told_is : (limit : ℕ) (entries : List Entry) (ask : Ask) (act : Act) → ask.want ≡ want.Act act
    → handed_on (answer limit entries ask)
    ≡ answered_by (accepted entries act) (decision limit entries ask act)
told_is limit entries ask act wants =
    ap (λ (w : Want). handed_on (want_answer limit entries ask w)) wants
    ∙ answer_is limit entries ask act

abbrev step_error : BookError → Result Step BookError
step_error e = Err e

error_injective : (a b : BookError) → step_error a ≡ step_error b → a ≡ b
error_injective a b h = cc

-- what an error says of a decision
abbrev ErrorSays : Type 0 → Answered → BookError → Result (Option Answered) BookError → Type 0
ErrorSays may_lack new error.NoMemory d = may_lack
ErrorSays may_lack new (error.Refused refused) d =
    ◌≡◌ {A = Result Answered BookError} (Err (error.Refused refused)) (answered_by new d)

not_so : false ≡ true → ⊥
not_so h = cc

error_by : (book : BookView) (act : Act) (ready : ReadyEntry) (entry : Entry) (new : Answered)
    (d : Result (Option Answered) BookError) (e : BookError)
    → GivesUnlessNoMemory book act (Err e) (decided_step ready d)
    → ErrorSays (IsSome (added_by entry d) × HasNoRoom book act) new e d
error_by book act ready entry new (Ok None) error.NoMemory h = (refl, h.1)
error_by book act ready entry new (Ok None) (error.Refused refused) h = absurd (cc)
error_by book act ready entry new (Ok (Some known)) error.NoMemory h = absurd (not_so h.0)
error_by book act ready entry new (Ok (Some known)) (error.Refused refused) h = absurd (cc)
error_by book act ready entry new (Err other) error.NoMemory h = absurd (not_so h.0)
error_by book act ready entry new (Err other) (error.Refused refused) h =
    ap (λ (e : BookError). Err e) (error_injective _ _ h)

gives_error : (may_lack : Type 0) (new : Answered) (e : BookError)
    (wanted : Result Answered Refused) (d : Result (Option Answered) BookError)
    → handed_on wanted ≡ answered_by new d → ErrorSays may_lack new e d
    → GivesAnswer may_lack (Err e) wanted
gives_error may_lack new error.NoMemory wanted d told says = says
gives_error may_lack new (error.Refused refused) wanted d told says = says ∙ sym told

-- an act that isn't ready is refused, or there is no memory for its entry
pub error_answer : (book : BookView) (by : ℕ) (ask : Ask) (act : Act) (step : Result Step BookError)
    (e : BookError) → ask.want ≡ want.Act act → step ≡ Err e
    → GivesUnlessNoMemory book act step (step_for book by ask act)
    → GivesAnswer (MayLackMemory book by ask ask.want) (Err e) (answer book.limit book.entries ask)
error_answer book by ask act step e wants is exact =
    let d = decision book.limit book.entries ask act in
    let ready = numbered_entry book.entries by ask act in
    let entry = entry_for book.entries by ask act in
    let given = subst (λ (s : Result Step BookError). GivesUnlessNoMemory book act s
    (decided_step ready d)) is exact in
    let says = error_by book act ready entry (accepted book.entries act) d e given in
    let may = subst (λ (o : Option Entry). ErrorSays (IsSome o × HasNoRoom book act)
    (accepted book.entries act) e d)
    (sym (added_is book.limit by book.entries ask act wants)) says in
    gives_error (MayLackMemory book by ask ask.want) (accepted book.entries act) e
    (answer book.limit book.entries ask) d (told_is book.limit book.entries ask act wants)
    (subst (λ (w : Want). ErrorSays (MayLackMemory book by ask w) (accepted book.entries act) e d)
    (sym wants) may)

error_list_by : (book : BookView) (act : Act) (entries : List Entry) (ready : ReadyEntry)
    (entry : Entry) (d : Result (Option Answered) BookError) (e : BookError)
    → GivesUnlessNoMemory book act (Err e) (decided_step ready d)
    → entries ≡ list_behind (Err e) entries (added_by entry d)
error_list_by book act entries ready entry (Ok None) error.NoMemory h = refl
error_list_by book act entries ready entry (Ok None) (error.Refused refused) h = absurd (cc)
error_list_by book act entries ready entry (Ok (Some known)) error.NoMemory h = refl
error_list_by book act entries ready entry (Ok (Some known)) (error.Refused refused) h = absurd (cc)
error_list_by book act entries ready entry (Err other) error.NoMemory h = refl
error_list_by book act entries ready entry (Err other) (error.Refused refused) h =
    sym (append-nil entries)

-- so the list stays as it is
pub error_list : (book : BookView) (by : ℕ) (ask : Ask) (act : Act) (step : Result Step BookError)
    (e : BookError) → ask.want ≡ want.Act act → step ≡ Err e
    → GivesUnlessNoMemory book act step (step_for book by ask act)
    → book.entries ≡ list_behind (Err e) book.entries (added book.limit book.entries by ask)
error_list book by ask act step e wants is exact =
    let d = decision book.limit book.entries ask act in
    let ready = numbered_entry book.entries by ask act in
    let given = subst (λ (s : Result Step BookError). GivesUnlessNoMemory book act s
    (decided_step ready d)) is exact in
    error_list_by book act book.entries ready (entry_for book.entries by ask act) d e given
    ∙ ap (λ (o : Option Entry). list_behind (Err e) book.entries o)
    (sym (added_is book.limit by book.entries ask act wants))

abbrev new_step : ReadyEntry → Result Step BookError
new_step r = Ok (New r)

new_injective : (a b : ReadyEntry) → new_step a ≡ new_step b → a ≡ b
new_injective a b h = cc

new_by : (book : BookView) (act : Act) (ready given : ReadyEntry)
    (d : Result (Option Answered) BookError)
    → GivesUnlessNoMemory book act (Ok (New given)) (decided_step ready d) → (d ≡ Ok None)
    × (given ≡ ready)
new_by book act ready given (Ok None) h = (refl, new_injective given ready h)
new_by book act ready given (Ok (Some known)) h = absurd (cc)
new_by book act ready given (Err other) h = absurd (cc)

-- what is ready is the entry of the act, which is decided to be new
pub ready_is : (book : BookView) (by : ℕ) (ask : Ask) (act : Act) (step : Result Step BookError)
    (new : Step) (given : ReadyEntry) → step ≡ Ok new → new ≡ New given
    → GivesUnlessNoMemory book act step (step_for book by ask act)
    → (decision book.limit book.entries ask act ≡ Ok None)
    × (given ≡ numbered_entry book.entries by ask act)
ready_is book by ask act step new given is is_new exact =
    let d = decision book.limit book.entries ask act in
    let ready = numbered_entry book.entries by ask act in
    let whole : step ≡ Ok (New given) = is ∙ ap (λ (s : Step). Ok s) is_new in
    new_by book act ready given d (subst
    (λ (s : Result Step BookError). GivesUnlessNoMemory book act s (decided_step ready d)) whole
    exact)

-- what was entered is answered as the ask: what a book of the most rows answers a lawful entry, this
-- book answers too
pub new_answer : (book : BookView) (by : ℕ) (entries : List Entry) (ask : Ask) (act : Act)
    (given : ReadyEntry) (answered : Answered) → ask.want ≡ want.Act act
    → (decision book.limit book.entries ask act ≡ Ok None)
    × (given ≡ numbered_entry book.entries by ask act) → entries ≡ book.entries
    → IsLawful entries given.entry
    → Ok answered ≡ answer MAX_ROWS entries
    (asked_act given.entry.desk given.entry.request given.entry.act)
    → Ok answered ≡ handed_on (answer book.limit book.entries ask)
new_answer book by entries ask act given answered wants is same lawful told =
    ap handed_on (told ∙ lawful_answer entries given.entry lawful)
    ∙ ap (λ (r : ReadyEntry). Ok (accepted entries r.entry.act)) is.1
    ∙ ap (λ (es : List Entry). Ok (accepted es act)) same
    ∙ ap (answered_by (accepted book.entries act)) (sym is.0)
    ∙ sym (told_is book.limit book.entries ask act wants)

-- and its entry is the one that the ask adds
pub new_list : (book : BookView) (by : ℕ) (list : List Entry) (ask : Ask) (act : Act)
    (given : ReadyEntry) → ask.want ≡ want.Act act
    → (decision book.limit book.entries ask act ≡ Ok None)
    × (given ≡ numbered_entry book.entries by ask act) → list ≡ book.entries ++ given.entry ∷ []
    → list ≡ book.entries ++ cons_option (added book.limit book.entries by ask) []
new_list book by list ask act given wants is entered =
    entered ∙ ap (λ (r : ReadyEntry). book.entries ++ r.entry ∷ []) is.1
    ∙ ap (λ (d : Result (Option Answered) BookError). book.entries
    ++ cons_option (added_by (entry_for book.entries by ask act) d) []) (sym is.0)
    ∙ ap (λ (o : Option Entry). book.entries ++ cons_option o [])
    (sym (added_is book.limit by book.entries ask act wants))

known_by : (book : BookView) (act : Act) (ready : ReadyEntry) (answered : Answered)
    (d : Result (Option Answered) BookError)
    → GivesUnlessNoMemory book act (Ok (Known answered)) (decided_step ready d) → d ≡ Ok (Some answered)
known_by book act ready answered (Ok None) h = absurd (cc)
known_by book act ready answered (Ok (Some known)) h =
    ap (λ (a : Answered). Ok (Some a)) (sym (same answered known h))
  where
    same : (a b : Answered) → ◌≡◌ {A = Result Step BookError} (Ok (Known a)) (Ok (Known b)) → a ≡ b
    same a b h = cc
known_by book act ready answered (Err other) h = absurd (cc)

-- what is known is decided
pub known_is : (book : BookView) (by : ℕ) (ask : Ask) (act : Act) (step : Result Step BookError)
    (known : Step) (answered : Answered) → step ≡ Ok known → known ≡ Known answered
    → GivesUnlessNoMemory book act step (step_for book by ask act)
    → decision book.limit book.entries ask act ≡ Ok (Some answered)
known_is book by ask act step known answered is is_known exact =
    let d = decision book.limit book.entries ask act in
    let ready = numbered_entry book.entries by ask act in
    let whole : step ≡ Ok (Known answered) = is ∙ ap (λ (s : Step). Ok s) is_known in
    known_by book act ready answered d
    (subst (λ (s : Result Step BookError). GivesUnlessNoMemory book act s
    (decided_step ready d)) whole exact)

-- a repeat is answered so
pub known_answer : (book : BookView) (ask : Ask) (act : Act) (answered : Answered)
    → ask.want ≡ want.Act act → decision book.limit book.entries ask act ≡ Ok (Some answered)
    → Ok answered ≡ handed_on (answer book.limit book.entries ask)
known_answer book ask act answered wants is =
    ap (answered_by (accepted book.entries act)) (sym is)
    ∙ sym (told_is book.limit book.entries ask act wants)

-- and adds nothing
pub known_list : (book : BookView) (by : ℕ) (ask : Ask) (act : Act) (answered : Answered)
    → ask.want ≡ want.Act act → decision book.limit book.entries ask act ≡ Ok (Some answered)
    → book.entries ≡ book.entries ++ cons_option (added book.limit book.entries by ask) []
known_list book by ask act answered wants is =
    sym (append-nil book.entries)
    ∙ ap (λ (d : Result (Option Answered) BookError). book.entries
    ++ cons_option (added_by (entry_for book.entries by ask act) d) []) (sym is)
    ∙ ap (λ (o : Option Entry). book.entries ++ cons_option o [])
    (sym (added_is book.limit by book.entries ask act wants))

-- an error that is decided is what making ready gives
pub error_gives : (book : BookView) (by : ℕ) (ask : Ask) (act : Act) (e : BookError)
    → ◌≡◌ {A = Result (Option Answered) BookError} (Err e)
    (decision book.limit book.entries ask act)
    → GivesUnlessNoMemory book act (Err e) (step_for book by ask act)
error_gives book by ask act error.NoMemory is =
    absurd (never_lacks book.limit book.entries ask act (sym is))
error_gives book by ask act (error.Refused refused) is =
    ap (decided_step (numbered_entry book.entries by ask act)) is

-- and has the least number of all that hold
pub error_least : (book : BookView) (ask : Ask) (act : Act) (e : BookError)
    → ◌≡◌ {A = Result (Option Answered) BookError} (Err e)
    (decision book.limit book.entries ask act)
    → TellsLeast book.limit book.entries ask act (Err e)
error_least book ask act error.NoMemory is = tt
error_least book ask act (error.Refused refused) is =
    least_told book.limit book.entries ask act refused (sym is)
