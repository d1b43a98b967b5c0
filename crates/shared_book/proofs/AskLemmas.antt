-- What an ask under the lock makes of the book seat, and of what is known of the pass that asked.
use Rattle.std.proofs.Common.{◌≡◌, ◌⊎◌, ⊎_elim, ℕ, ◌+◌, ◌-◌, ◌<◌, ◌≤◌, nat_le, true, min, List, [], ◌∷◌, ◌++◌, length, map, slice_get, All}
use Rattle.std.proofs.Common.{Option, Some, None, option_map, IfSome, IsSome, Result, Ok, Err, refl, sym, ap, ◌∙◌, subst, arith, append_assoc, append-nil, length-append}
use Rattle.std.specs.List.{cons_option}
use Rattle.std.proofs.lemmas.Bool.Decides.{nat_tests}
use Rattle.std.proofs.lemmas.List.{map-append, length-map}
use Rattle.std.proofs.lemmas.Bool.{cases_lt}
use Rattle.std.proofs.lemmas.List.Elements.{All-nil, All-push}
use mathlib.Core.List.{IsPrefix}
use Rattle.hall_limits.specs.declared.TheConstants.{MAX_ROWS}
use Rattle.device_facts.specs.Count.{Counted}
use Rattle.device_facts.specs.Prefix.{IsPrefixOf}
use Rattle.disk_core.specs.declared.disk.Disk as disk
use Rattle.turn_pass.specs.declared.entries.Appended.{Appended}
use Rattle.turn_pass.specs.History.{BookState, PassState, appended, own}
use Rattle.book_words.specs.declared.act.Ask.{Ask}
use Rattle.book_words.specs.declared.act.Entry.{Entry}
use Rattle.book_words.specs.declared.act.Question.TheVariants as question
use Rattle.book_words.specs.declared.act.Want.{Want}
use Rattle.book_words.specs.declared.act.Want.TheVariants as want
use Rattle.book_words.specs.declared.caller.AskError.{AskError}
use Rattle.book_words.specs.declared.caller.AskError.TheVariants as error
use Rattle.book_words.specs.declared.reply.Answered.{Answered}
use Rattle.book_words.specs.declared.reply.Refused.{Refused}
use Rattle.book_words.specs.Answers.{answer, added, IsLegal}
use Rattle.book_words.specs.Callers.{Known, FAULTS_END, faults_told, HasAnswer, HasNoAnswer, MayFindNoMemory, entry_offered, Says, IsAsked}
use Rattle.book_words.specs.Desks.{Row}
use Rattle.book_words.proofs.RowLemmas.{at_last}
use Rattle.book_core.specs.View.{BookView}
use Rattle.book_core.specs.Steps.{MayLackMemory}
use Rattle.book_state.specs.Known.{entry_numbered}
use Rattle.book_store.specs.declared.store.Store.{Store}
use Rattle.book_store.specs.Stores.{disk_of, entries_of, Hangs}
use Rattle.book_store.specs.Offers.{GivesAnswer, list_behind, CountsDiskFault}
use Rattle.book_store.proofs.CallerSteps.{refused_adds, added_by}
use Rattle.shared_book.specs.declared.session.Session as session
use Rattle.shared_book.specs.Sessions.{Begins, weighs}
use Rattle.shared_book.specs.Closing.{IsCalm}
use Rattle.shared_book.specs.Locked.{IsNewSeat, KeepsSeat, next_row, seat_behind, pass_behind}
use Rattle.shared_book.specs.Passes.{entries_in, noted, row_of, known_of, HasUsedRoom, IsPassOf}

-- ---- the entry that an ask added

-- what was added: only an answer adds
abbrev pub added_behind : Result Answered AskError → Option Entry → Option Entry
added_behind (Ok answered) offered = offered
added_behind (Err why) offered = None

none_behind : (entries : List Entry) → slice_get entries (length entries) ≡ None
none_behind [] = refl
none_behind (e ∷ es) = none_behind es

numbered : (entries : List Entry) (count : ℕ)
    → entry_numbered entries (count + 1) ≡ slice_get entries count
numbered entries count =
    let least : nat_le 1 (count + 1) ≡ true = grind (arith, nat_tests) in
    let place : (count + 1) - 1 ≡ count = omega arith in
    rw (least, place) refl

-- behind an ask the next row is what was added
pub found_behind : (result : Result Answered AskError) (entries next : List Entry)
    (offered : Option Entry) → next ≡ list_behind result entries offered
    → entry_numbered next (length entries + 1) ≡ added_behind result offered
found_behind (Ok answered) entries next (Some entry) is =
    numbered next (length entries)
    ∙ (ap (λ (es : List Entry). slice_get es (length entries)) is ∙ at_last entries entry)
found_behind (Ok answered) entries next None is =
    numbered next (length entries)
    ∙ (ap (λ (es : List Entry). slice_get es (length entries)) is ∙ none_behind entries)
found_behind (Err why) entries next (Some entry) is =
    numbered next (length entries)
    ∙ (ap (λ (es : List Entry). slice_get es (length entries)) is ∙ none_behind entries)
found_behind (Err why) entries next None is =
    numbered next (length entries)
    ∙ (ap (λ (es : List Entry). slice_get es (length entries)) is ∙ none_behind entries)

same_list : (why : AskError) (entries next : List Entry) (offered : Option Entry)
    → next ≡ list_behind (Err why) entries offered → next ≡ entries
same_list why entries next None is = is
same_list why entries next (Some entry) is = is

-- ---- lines and entries

entries_more : (list : List (Appended Entry)) (by : ℕ) (entry : Entry)
    → entries_in (list ++ appended by entry ∷ []) ≡ entries_in list ++ entry ∷ []
entries_more list by entry =
    map-append (λ (line : Appended Entry). line.entry) list (appended by entry ∷ [])

-- one entry more behind the rows before and those of the list
rows_more : (before rows : List Entry) (list : List (Appended Entry)) (by : ℕ) (entry : Entry)
    → rows ≡ before ++ entries_in list
    → rows ++ entry ∷ [] ≡ before ++ entries_in (list ++ appended by entry ∷ [])
rows_more before rows list by entry is =
    ap (λ (es : List Entry). es ++ entry ∷ []) is
    ∙ (append_assoc before (entries_in list) (entry ∷ [])
    ∙ ap (λ (es : List Entry). before ++ es) (sym (entries_more list by entry)))

-- what a pass has seen begins the rows
pub seen_begins : (before rows : List Entry) (list seen : List (Appended Entry))
    → rows ≡ before ++ entries_in list → (front : IsPrefix seen list)
    → rows ≡ (before ++ entries_in seen) ++ entries_in front.0
seen_begins before rows list seen is front =
    is ∙ (ap (λ (ls : List (Appended Entry)). before ++ entries_in ls) (sym front.1)
    ∙ (ap (λ (es : List Entry). before ++ es)
    (map-append (λ (line : Appended Entry). line.entry) seen front.0)
    ∙ sym (append_assoc before (entries_in seen) (entries_in front.0))))

-- the number of the next row is one more than there are rows
pub next_is : (before rows : List Entry) (seat : BookState Entry)
    → rows ≡ before ++ entries_in seat.list → seat.history ≡ length before
    → next_row seat ≡ length rows + 1
next_is before rows seat is behind =
    omega (
      arith,
      ap length is,
      length-append before (entries_in seat.list),
      length-map seat.list (λ (line : Appended Entry). line.entry),
      behind,
    )

-- ---- faults

first_more : (before old new : ℕ) → old ≡ before → Counted old new 1 → Counted before new (0 + 1)
first_more before old new same more = omega (arith, same, more)

one_more : (before old new booked : ℕ) → Counted before old booked → Counted old new 1
    → Counted before new (booked + 1)
one_more before old new booked was more = omega (arith, was, more)

told_more : (faults told : ℕ) → min (faults + told) FAULTS_END
    ≡ min (min faults FAULTS_END + told) FAULTS_END
told_more faults told = omega arith

none_told : (faults : ℕ) → min faults FAULTS_END ≡ min (min faults FAULTS_END + 0) FAULTS_END
none_told faults = omega arith

module _ {D N : Type 0} (g : disk.Ghosts D) (s : session.Ghosts N) (old new : Store D)
    (seat : BookState Entry) (ask : Ask) (by : ℕ) (kept : KeepsSeat g s old seat) where
  counted_on : g.faults (disk_of new) ≡ g.faults (disk_of old) → 0 < seat.faults + 0
      → Counted s.faults (g.faults (disk_of new)) (seat.faults + 0)
  counted_on same some = omega (arith, kept.faults (omega (arith, some)), same)

  counted_more : (result : Result Answered AskError)
      → CountsDiskFault (g.faults (disk_of old)) (g.faults (disk_of new)) result
      → 0 < seat.faults + faults_told result
      → Counted s.faults (g.faults (disk_of new)) (seat.faults + faults_told result)
  counted_more (Ok answered) cause some = counted_on cause some
  counted_more (Err (error.Refused why)) cause some = counted_on cause some
  counted_more (Err error.NoMemory) cause some = counted_on cause some
  counted_more (Err error.DiskFault) cause some = ⊎_elim
      (λ was. one_more _ _ _ _ (kept.faults was) cause)
      (λ none. let zero : seat.faults ≡ 0 = omega (arith, none) in
      subst (λ (n : ℕ). Counted s.faults (g.faults (disk_of new)) (n + 1)) (sym zero)
      (first_more _ _ _ (kept.calm zero).faults cause))
      (cases_lt 0 seat.faults)

  -- where an ask adds no row, the disk failed at it, or wasn't touched
  abbrev IsStill : Result Answered AskError → Type 0
  IsStill result = length (entries_of new) ≤ length (entries_of old)
      → (result ≡ Err error.DiskFault) ⊎ (disk_of new ≡ disk_of old)

  -- what was read stays, where no row was added since the session began
  reads_on : IsPrefixOf (entries_of old) (entries_of new)
      → (length (entries_of new) ≤ length (entries_of old) → disk_of new ≡ disk_of old)
      → seat.faults ≡ 0 → length (entries_of new) ≤ length s.before
      → g.reads (disk_of new) ≡ s.reads
  reads_on begins same none few =
      let all : length (entries_of old) ≡ length s.before + length (entries_in seat.list) =
      ap length kept.rows ∙ length-append s.before (entries_in seat.list) in
      let more : length (entries_of new) ≡ length (entries_of old) + length begins.0 =
      ap length begins.1 ∙ length-append (entries_of old) begins.0 in
      ap g.reads (same (omega (arith, all, few)))
      ∙ (kept.calm none).still (omega (arith, more, few))

  calm_on : g.faults (disk_of new) ≡ g.faults (disk_of old) → (Hangs new → Hangs old)
      → IsPrefixOf (entries_of old) (entries_of new)
      → (length (entries_of new) ≤ length (entries_of old) → disk_of new ≡ disk_of old)
      → seat.faults ≡ 0 → IsCalm g s new
  calm_on same hangs begins stays none =
      let calm = kept.calm none in
      record {
        faults = same ∙ calm.faults;
        settled = λ hung. calm.settled (hangs hung);
        still = reads_on begins stays none;
      }

  calm_more : (result : Result Answered AskError)
      → CountsDiskFault (g.faults (disk_of old)) (g.faults (disk_of new)) result
      → (Hangs new → (result ≡ Err error.DiskFault) ⊎ Hangs old)
      → IsPrefixOf (entries_of old) (entries_of new) → IsStill result
      → seat.faults + faults_told result ≡ 0 → IsCalm g s new
  calm_more (Ok answered) cause hangs begins still none =
      calm_on cause (λ hung. ⊎_elim (λ is. absurd (cc)) (λ was. was) (hangs hung)) begins
      (λ few. ⊎_elim (λ is. absurd (cc)) (λ same. same) (still few)) (omega (arith, none))
  calm_more (Err (error.Refused why)) cause hangs begins still none =
      calm_on cause (λ hung. ⊎_elim (λ is. absurd (cc)) (λ was. was) (hangs hung)) begins
      (λ few. ⊎_elim (λ is. absurd (cc)) (λ same. same) (still few)) (omega (arith, none))
  calm_more (Err error.NoMemory) cause hangs begins still none =
      calm_on cause (λ hung. ⊎_elim (λ is. absurd (cc)) (λ was. was) (hangs hung)) begins
      (λ few. ⊎_elim (λ is. absurd (cc)) (λ same. same) (still few)) (omega (arith, none))
  calm_more (Err error.DiskFault) cause hangs begins still none = absurd (omega (arith, none))

  -- ---- the seat

  -- nothing was added
  seat_stays : (result : Result Answered AskError) → entries_of new ≡ entries_of old
      → CountsDiskFault (g.faults (disk_of old)) (g.faults (disk_of new)) result
      → (Hangs new → (result ≡ Err error.DiskFault) ⊎ Hangs old) → IsStill result
      → KeepsSeat g s new (seat_behind by None (faults_told result) seat)
  seat_stays result same cause hangs still =
      record {
        same_table = kept.same_table;
        behind = kept.behind;
        parts = kept.parts;
        rows = same ∙ kept.rows;
        marked = kept.marked;
        faults = counted_more result cause;
        calm = calm_more result cause hangs ([], same ∙ sym (append-nil (entries_of old))) still;
      }

  -- an entry was added
  seat_grows : (answered : Answered) (entry : Entry) → entry.by ≡ by
      → entries_of new ≡ entries_of old ++ entry ∷ []
      → g.faults (disk_of new) ≡ g.faults (disk_of old)
      → (Hangs new → (Ok answered ≡ Err error.DiskFault) ⊎ Hangs old) → IsStill (Ok answered)
      → KeepsSeat g s new (seat_behind by (Some entry) 0 seat)
  seat_grows answered entry own same cause hangs still =
      record {
        same_table = kept.same_table;
        behind = kept.behind;
        parts = kept.parts;
        rows = same ∙ rows_more s.before (entries_of old) seat.list by entry kept.rows;
        marked = All-push (λ (line : Appended Entry). line.by ≡ line.entry.by) seat.list
            (appended by entry) kept.marked (sym own);
        faults = λ some. omega (arith, kept.faults some, cause);
        calm = calm_on cause
            (λ hung. ⊎_elim (λ is. absurd (cc)) (λ was. was) (hangs hung)) (entry ∷ [], same)
            (λ few. ⊎_elim (λ is. absurd (cc)) (λ stays. stays) (still few));
      }

  seat_cases : (result : Result Answered AskError) (offered : Option Entry)
      → ((entry : Entry) → offered ≡ Some entry → entry.by ≡ by)
      → entries_of new ≡ list_behind result (entries_of old) offered
      → CountsDiskFault (g.faults (disk_of old)) (g.faults (disk_of new)) result
      → (Hangs new → (result ≡ Err error.DiskFault) ⊎ Hangs old) → IsStill result
      → KeepsSeat g s new (seat_behind by (added_behind result offered) (faults_told result) seat)
  seat_cases (Ok answered) (Some entry) own is cause hangs still =
      seat_grows answered entry (own entry refl) is cause hangs still
  seat_cases (Ok answered) None own is cause hangs still =
      seat_stays (Ok answered) is cause hangs still
  seat_cases (Err why) offered own is cause hangs still =
      seat_stays (Err why) (same_list why (entries_of old) (entries_of new) offered is) cause hangs
      still

  -- the seat behind an ask
  pub seat_kept : (result : Result Answered AskError) (found : Option Entry)
      → found ≡ entry_numbered (entries_of new) (length (entries_of old) + 1)
      → entries_of new ≡ list_behind result (entries_of old)
      (added s.limit (entries_of old) by ask)
      → CountsDiskFault (g.faults (disk_of old)) (g.faults (disk_of new)) result
      → (Hangs new → (result ≡ Err error.DiskFault) ⊎ Hangs old) → IsStill result
      → KeepsSeat g s new (seat_behind by found (faults_told result) seat)
  seat_kept result found at is cause hangs still =
      let offered = added s.limit (entries_of old) by ask in
      subst (λ (o : Option Entry). KeepsSeat g s new (seat_behind by o (faults_told result) seat))
      (sym (at ∙ found_behind result (entries_of old) (entries_of new) offered is))
      (seat_cases result offered (added_by s.limit by (entries_of old) ask) is cause hangs still)

-- the seat of a session that begins
pub seat_begins : {D N : Type 0} (g : disk.Ghosts D) (s : session.Ghosts N) (store : Store D)
    (seat : BookState Entry) → Begins g s store → IsNewSeat s seat → KeepsSeat g s store seat
seat_begins g s store seat begins new =
    record {
      same_table = new.same_table;
      behind = new.behind;
      parts = new.parts;
      rows = sym begins.rows
          ∙ (sym (append-nil s.before)
          ∙ ap (λ (ls : List (Appended Entry)). s.before ++ entries_in ls) (sym new.appended));
      marked = subst (λ (ls : List (Appended Entry)).
          All (λ (line : Appended Entry). line.by ≡ line.entry.by) ls) (sym new.appended)
          (All-nil (λ (line : Appended Entry). line.by ≡ line.entry.by));
      faults = λ some. absurd (omega (arith, some, new.booked));
      calm = λ none. record {
        faults = sym begins.faults;
        settled = begins.calm;
        still = λ few. sym begins.reads;
      };
    }

-- ---- the pass

-- nothing isn't something
no_entry : {A : Type 0} (o : Option Entry) → o ≡ None → IsSome o → A
no_entry None is some = absurd (cc)
no_entry (Some entry) is some = absurd (cc)

-- there was room for what was taken down
pub room_found : (before rows next : List Entry) (seat : BookState Entry)
    → rows ≡ before ++ entries_in seat.list → seat.history ≡ length before
    → length next ≤ MAX_ROWS → (result : Result Answered AskError) (offered : Option Entry)
    → next ≡ list_behind result rows offered
    → IfSome (added_behind result offered) (λ (entry : Entry).
    seat.history + length seat.list < MAX_ROWS)
room_found before rows next seat is behind few (Ok answered) (Some entry) grows =
    let all = next_is before rows seat is behind in
    omega (arith, all, few, ap length grows, length-append rows (entry ∷ []))
room_found before rows next seat is behind few (Ok answered) None grows = tt
room_found before rows next seat is behind few (Err why) offered grows = tt

-- what may find no memory in the book may find none for the caller
lacks_memory : (book : BookView) (by : ℕ) (ask : Ask) (w : Want) (offered : Option Entry)
    → added book.limit book.entries by ask ≡ offered → MayLackMemory book by ask w
    → MayFindNoMemory w offered
lacks_memory book by ask (want.Act act) offered same may =
    subst (λ (o : Option Entry). IsSome o) same may.0
lacks_memory book by ask (want.Question question) offered same may = may

module _ {N : Type 0} (s : session.Ghosts N) (book : BookView) (seat : BookState Entry)
    (pass : PassState Entry) (ask : Ask) (limit : book.limit ≡ s.limit)
    (rows : book.entries ≡ s.before ++ entries_in seat.list)
    (behind : seat.history ≡ length s.before) (front : IsPrefix pass.seen seat.list) where
  -- what the ask would add behind all rows
  abbrev offer : Option Entry
  offer = added s.limit book.entries pass.by ask

  -- what is known of the pass behind an answer
  abbrev known_behind : Option Entry → ℕ → Known
  known_behind found told = known_of s (pass_behind found told seat pass)

  abbrev row_in : Option Entry → Option Row
  row_in o = option_map
      (λ (entry : Entry). record { number = length book.entries + 1; entry = entry }) o

  -- a new row: the pass has seen it, and it is its own
  answered_new : (answered : Answered) (entry : Entry) → Some entry ≡ offer
      → answer s.limit book.entries ask ≡ Ok answered
      → HasAnswer (known_of s pass) (known_behind (Some entry) 0) ask (Ok answered)
  answered_new answered entry is gives =
      record {
        right = record {
          before = book.entries;
          after = [];
          parts = subst (λ (o : Option Entry). s.before
              ++ entries_in (seat.list ++ appended pass.by entry ∷ [])
              ≡ book.entries ++ cons_option o []) is
              (sym (rows_more s.before book.entries seat.list pass.by entry rows));
          answered = gives;
        };
        unseen = entries_in front.0;
        grows = seen_begins s.before book.entries seat.list pass.seen rows front;
        mine = subst (λ (o : Option Entry).
            map row_of (pass.mine ++ own (next_row seat) entry ∷ []) ≡ map row_of pass.mine
            ++ cons_option (row_in o) []) is
            (map-append row_of pass.mine (own (next_row seat) entry ∷ [])
            ∙ ap (λ (n : ℕ). map row_of pass.mine ++ record { number = n; entry = entry } ∷ [])
            (next_is s.before book.entries seat rows behind));
      }

  -- an answer that adds nothing
  answered_old : (given : Result Answered Refused) → None ≡ offer
      → answer s.limit book.entries ask ≡ given
      → HasAnswer (known_of s pass) (known_behind None 0) ask given
  answered_old given is gives =
      record {
        right = record {
          before = book.entries;
          after = [];
          parts = subst (λ (o : Option Entry). s.before ++ entries_in seat.list
              ≡ book.entries ++ cons_option o []) is
              (sym rows ∙ sym (append-nil book.entries));
          answered = gives;
        };
        unseen = entries_in front.0;
        grows = seen_begins s.before book.entries seat.list pass.seen rows front;
        mine = subst (λ (o : Option Entry). map row_of pass.mine ≡ map row_of pass.mine
            ++ cons_option (row_in o) []) is (sym (append-nil (map row_of pass.mine)));
      }

  not_answered : (told : ℕ) → HasNoAnswer (known_of s pass) (known_behind None told)
  not_answered told =
      record {
        unseen = entries_in front.0;
        grows = sym rows ∙ seen_begins s.before book.entries seat.list pass.seen rows front;
        mine = refl;
      }

  -- what the ask would add behind what the pass then has seen
  offered_same : (told : ℕ) → entry_offered (known_behind None told) ask ≡ offer
  offered_same told = ap (λ (es : List Entry). added s.limit es pass.by ask) (sym rows)

  -- where nothing would be added
  nothing_offered : {A : Type 0} (told : ℕ) → offer ≡ None
      → IsSome (entry_offered (known_behind None told) ask) → A
  nothing_offered told none some =
      no_entry (entry_offered (known_behind None told) ask) (offered_same told ∙ none) some

  says_cases : (result : Result Answered AskError) (offered : Option Entry) → offered ≡ offer
      → GivesAnswer book pass.by ask offered result (answer s.limit book.entries ask)
      → Says (known_of s pass)
      (known_behind (added_behind result offered) (faults_told result)) ask result
  says_cases (Ok answered) (Some entry) is gives = answered_new answered entry is (sym gives)
  says_cases (Ok answered) None is gives = answered_old (Ok answered) is (sym gives)
  says_cases (Err (error.Refused why)) offered is gives =
      answered_old (Err why)
      (sym (refused_adds (record book { limit = s.limit }) pass.by ask (Err (error.Refused why)) why
      gives refl)) (sym gives)
  says_cases (Err error.DiskFault) offered is gives = (
    not_answered 1,
    subst (λ (o : Option Entry). IsSome o) (sym gives.1 ∙ (is ∙ sym (offered_same 1))) refl,
  )
  says_cases (Err error.NoMemory) offered is gives = (
    not_answered 0,
    lacks_memory book pass.by ask ask.want (entry_offered (known_behind None 0) ask)
        (ap (λ (n : ℕ). added n book.entries pass.by ask) limit ∙ sym (offered_same 0)) gives,
  )

  -- each fault is told
  faults_cases : (result : Result Answered AskError) (offered : Option Entry)
      → (known_behind (added_behind result offered) (faults_told result)).faults
      ≡ min (min pass.faults FAULTS_END + faults_told result) FAULTS_END
  faults_cases (Ok answered) (Some entry) = none_told pass.faults
  faults_cases (Ok answered) None = told_more pass.faults 0
  faults_cases (Err why) offered = told_more pass.faults (faults_told (Err why))

  -- all that is seen is the list behind the ask
  seen_cases : (result : Result Answered AskError) (offered : Option Entry) (next : List Entry)
      → next ≡ list_behind result book.entries offered
      → next ≡ (known_behind (added_behind result offered) (faults_told result)).seen
  seen_cases (Ok answered) (Some entry) next is =
      is ∙ rows_more s.before book.entries seat.list pass.by entry rows
  seen_cases (Ok answered) None next is = is ∙ rows
  seen_cases (Err why) offered next is = same_list why book.entries next offered is ∙ rows

  kept_cases : (result : Result Answered AskError) (offered : Option Entry)
      → (known_behind (added_behind result offered) (faults_told result)).limit ≡ s.limit
  kept_cases (Ok answered) (Some entry) = refl
  kept_cases (Ok answered) None = refl
  kept_cases (Err why) offered = refl

  by_cases : (result : Result Answered AskError) (offered : Option Entry)
      → (known_behind (added_behind result offered) (faults_told result)).by ≡ pass.by
  by_cases (Ok answered) (Some entry) = refl
  by_cases (Ok answered) None = refl
  by_cases (Err why) offered = refl

  asked_cases : (result : Result Answered AskError) (next : List Entry)
      → GivesAnswer book pass.by ask offer result (answer s.limit book.entries ask)
      → next ≡ list_behind result book.entries offer → IsLegal next
      → IsAsked (known_of s pass) (known_behind (added_behind result offer) (faults_told result))
      ask result
  asked_cases result next gives is legal =
      record {
        says = says_cases result offer refl gives;
        legal = subst IsLegal (seen_cases result offer next is) legal;
        faults = faults_cases result offer;
        limit = kept_cases result offer;
        by = by_cases result offer;
      }

  found_is : (result : Result Answered AskError) (found : Option Entry) (next : List Entry)
      → found ≡ entry_numbered next (length book.entries + 1)
      → next ≡ list_behind result book.entries offer → added_behind result offer ≡ found
  found_is result found next at is = sym (at ∙ found_behind result book.entries next offer is)

  -- what is known of the pass behind an ask
  pub pass_asked : (result : Result Answered AskError) (found : Option Entry) (next : List Entry)
      → found ≡ entry_numbered next (length book.entries + 1)
      → GivesAnswer book pass.by ask offer result (answer s.limit book.entries ask)
      → next ≡ list_behind result book.entries offer → IsLegal next
      → IsAsked (known_of s pass) (known_behind found (faults_told result)) ask result
  pass_asked result found next at gives is legal =
      subst (λ (o : Option Entry).
      IsAsked (known_of s pass) (known_behind o (faults_told result)) ask result)
      (found_is result found next at is) (asked_cases result next gives is legal)

  -- what was seen behind an ask is at least all rows before it
  pub pass_sees : (found : Option Entry) (told : ℕ)
      → length book.entries ≤ length (known_behind found told).seen
  pass_sees (Some entry) told =
      omega (
        arith,
        ap length (rows_more s.before book.entries seat.list pass.by entry rows),
        length-append book.entries (entry ∷ []),
      )
  pass_sees None told = omega (arith, ap length rows)

  -- an ask that shows that it found no memory found none
  used_cases : (room : ℕ) (result : Result Answered AskError) (offered : Option Entry)
      → offered ≡ offer
      → GivesAnswer book pass.by ask offered result (answer s.limit book.entries ask)
      → (result ≡ Err error.NoMemory → weighs ask.want ≡ true → room ≤ length book.entries)
      → HasUsedRoom room (known_of s pass)
      (known_behind (added_behind result offered) (faults_told result)) ask
  used_cases room (Ok answered) (Some entry) is gives lacks found weighing = absurd (omega (
    arith,
    ap length found.mine,
    length-map (pass.mine ++ own (next_row seat) entry ∷ []) row_of,
    length-append pass.mine (own (next_row seat) entry ∷ []),
    length-map pass.mine row_of,
  ))
  used_cases room (Ok answered) None is gives lacks found weighing =
      nothing_offered 0 (sym is) found.offered
  used_cases room (Err (error.Refused why)) offered is gives lacks found weighing =
      nothing_offered 0 (refused_adds (record book { limit = s.limit }) pass.by ask
      (Err (error.Refused why)) why
      (subst (λ (o : Option Entry). GivesAnswer book pass.by ask o (Err (error.Refused why))
      (answer s.limit book.entries ask)) is gives) refl) found.offered
  used_cases room (Err error.DiskFault) offered is gives lacks found weighing =
      absurd (let same : min (pass.faults + 1) FAULTS_END ≡ min pass.faults FAULTS_END =
      found.faults in let few : min (pass.faults + 1) FAULTS_END < FAULTS_END = found.counted in
      omega (arith, same, few))
  used_cases room (Err error.NoMemory) offered is gives lacks found weighing =
      let all : length (s.before ++ entries_in seat.list) ≡ length book.entries =
      ap length (sym rows) in
      omega (arith, lacks refl weighing, all)

  pub pass_uses : (room : ℕ) (result : Result Answered AskError) (found : Option Entry)
      (next : List Entry) → found ≡ entry_numbered next (length book.entries + 1)
      → GivesAnswer book pass.by ask offer result (answer s.limit book.entries ask)
      → next ≡ list_behind result book.entries offer
      → (result ≡ Err error.NoMemory → weighs ask.want ≡ true → room ≤ length book.entries)
      → HasUsedRoom room (known_of s pass) (known_behind found (faults_told result)) ask
  pass_uses room result found next at gives is lacks =
      subst (λ (o : Option Entry).
      HasUsedRoom room (known_of s pass) (known_behind o (faults_told result)) ask)
      (found_is result found next at is) (used_cases room result offer refl gives lacks)

  -- one note more was taken in
  pub pass_noted : (found : Option Entry) (told : ℕ)
      → (pass_behind found told seat pass).notes ≡ noted pass.notes 1
  pass_noted (Some entry) told = refl
  pass_noted None told = refl

  booked_cases : (result : Result Answered AskError) (offered : Option Entry)
      → (pass_behind (added_behind result offered) (faults_told result) seat pass).faults
      ≡ pass.faults + faults_told result
  booked_cases (Ok answered) (Some entry) = omega arith
  booked_cases (Ok answered) None = refl
  booked_cases (Err why) offered = refl

  -- each fault that is told is booked
  pub pass_booked : (result : Result Answered AskError) (found : Option Entry) (next : List Entry)
      → found ≡ entry_numbered next (length book.entries + 1)
      → next ≡ list_behind result book.entries offer
      → (pass_behind found (faults_told result) seat pass).faults
      ≡ pass.faults + faults_told result
  pass_booked result found next at is =
      subst (λ (o : Option Entry). (pass_behind o (faults_told result) seat pass).faults
      ≡ pass.faults + faults_told result) (found_is result found next at is)
      (booked_cases result offer)

-- a pass of the session stays one
pub pass_stays : {N : Type 0} (s : session.Ghosts N) (seat : BookState Entry)
    (pass : PassState Entry) (found : Option Entry) (told : ℕ) → IsPassOf s pass
    → IsPassOf s (pass_behind found told seat pass)
pass_stays s seat pass (Some entry) told is =
    record {
      same_table = is.same_table;
      behind = is.behind;
      booked = omega (arith, is.booked, length-append pass.mine (own (next_row seat) entry ∷ []));
    }
pass_stays s seat pass None told is =
    record { same_table = is.same_table; behind = is.behind; booked = is.booked }
