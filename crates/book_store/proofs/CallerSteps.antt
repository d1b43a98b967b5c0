-- What an ask makes of a caller that has a store for itself.
use Rattle.std.proofs.Common.{◌≡◌, ◌⊎◌, inl, inr, ⊎_elim, ℕ, ◌+◌, ◌≤◌, min, true, ◌==◌, List, [], ◌∷◌, ◌++◌, length, Option, Some, None, option_map, IsSome, Result, Ok, Err, OnOk, refl, sym, ap, ◌∙◌, subst, arith, append-nil, length-append}
use Rattle.std.specs.List.{cons_option, filter}
use Rattle.std.proofs.lemmas.Bool.Decides.{nat_tests}
use Rattle.std.specs.Option.{option_or}
use Rattle.std.proofs.lemmas.List.Elements.{filter-append}
use Rattle.device_facts.specs.Count.{Rose, Calm}
use Rattle.device_facts.specs.Prefix.{IsPrefixOf}
use Rattle.disk_core.specs.Disk.{WhereTold}
use Rattle.disk_core.specs.declared.disk.Disk as disk
use Rattle.book_words.specs.declared.act.Act.{Act}
use Rattle.book_words.specs.declared.act.Ask.{Ask}
use Rattle.book_words.specs.declared.act.Entry.{Entry}
use Rattle.book_words.specs.declared.act.Question.TheVariants as question
use Rattle.book_words.specs.declared.act.Want.{Want}
use Rattle.book_words.specs.declared.act.Want.TheVariants as want
use Rattle.book_words.specs.declared.caller.AskError.{AskError}
use Rattle.book_words.specs.declared.caller.AskError.TheVariants as error
use Rattle.book_words.specs.declared.refusal.Refusal.{Refusal}
use Rattle.book_words.specs.declared.reply.Answered.{Answered}
use Rattle.book_words.specs.declared.reply.Refused.{Refused}
use Rattle.book_words.specs.Answers.{answer, desk_answer, want_answer, entry_for, entry_unless, added, want_added, IsLawful, IsLegal}
use Rattle.book_words.specs.Callers.{Known, FAULTS_END, faults_told, row_added, HasAnswer, HasNoAnswer, MayFindNoMemory, entry_offered, Says, IsAsked}
use Rattle.book_words.specs.Desks.{Row, rows_of, desk_number, request_old, request_reused, request_gap, repeated_row}
use Rattle.book_words.specs.Refusals.{first_refusal, book_full, refusals_of}
use Rattle.book_words.proofs.RowLemmas.{rows_push}
use Rattle.book_core.specs.View.{BookView}
use Rattle.book_core.specs.Steps.{MayLackMemory}
use Rattle.book_store.specs.Stores.{disk_of, book_of, entries_of, limit_of, held_of, Hangs, HasBook, HoldsOrHangs}
use Rattle.book_store.specs.Offers.{Offers, OffersEntry, LeavesDisk, GivesAnswer, list_behind, CountsDiskFault}
use Rattle.book_store.specs.Callers.{CallerView, own_rows, known_of, failed_behind, MayStandBehind, LeavesRows, KeepsRows, FailsAlike, KeepsFailed, IsReachedBy}
use Rattle.book_store.proofs.StoreFacts.{images_hold}
use Rattle.book_store.proofs.KeptLemmas.{same_begins, asked_begins}

-- ---- what isn't answered adds nothing

act_refused : (entries : List Entry) (act : Act) (entry : Entry) (refused : Refused)
    (by_desk : Option Refusal) (row : Option ℕ) (by_rule : Option Refusal)
    → Err refused ≡ desk_answer entries act by_desk row (option_or by_desk by_rule)
    → entry_unless row (option_or by_desk by_rule) entry ≡ None
act_refused entries act entry refused (Some why) None by_rule is = refl
act_refused entries act entry refused (Some why) (Some row) by_rule is = refl
act_refused entries act entry refused None (Some row) by_rule is = refl
act_refused entries act entry refused None None (Some why) is = refl
act_refused entries act entry refused None None None is = absurd (cc)

want_refused : (limit by : ℕ) (entries : List Entry) (ask : Ask) (w : Want) (refused : Refused)
    → Err refused ≡ want_answer limit entries ask w → want_added limit entries by ask w ≡ None
want_refused limit by entries ask (want.Act act) refused is =
    act_refused entries act (entry_for entries by ask act) refused (desk_number ask act)
    (repeated_row entries ask act)
    (first_refusal (request_old entries ask ∷ request_reused entries ask act
    ∷ request_gap entries ask ∷ book_full limit entries ∷ refusals_of entries act)) is
want_refused limit by entries ask (want.Question question) refused is = refl

-- a refused ask adds no entry
pub refused_adds : (book : BookView) (by : ℕ) (ask : Ask) (result : Result Answered AskError)
    (refused : Refused)
    → GivesAnswer book by ask (added book.limit book.entries by ask) result
    (answer book.limit book.entries ask) → result ≡ Err (error.Refused refused)
    → added book.limit book.entries by ask ≡ None
refused_adds book by ask (Err (error.Refused why)) refused gives is =
    want_refused book.limit by book.entries ask ask.want why gives
refused_adds book by ask (Ok answered) refused gives is = absurd (cc)
refused_adds book by ask (Err error.DiskFault) refused gives is = absurd (cc)
refused_adds book by ask (Err error.NoMemory) refused gives is = absurd (cc)

-- the disk fails only where there is an entry to add
pub failed_adds : (book : BookView) (by : ℕ) (ask : Ask) (new : Option Entry)
    (result : Result Answered AskError) (wanted : Result Answered Refused)
    → GivesAnswer book by ask new result wanted → result ≡ Err error.DiskFault → IsSome new
failed_adds book by ask new (Err error.DiskFault) wanted gives is =
    subst (λ (o : Option Entry). IsSome o) (sym gives.1) refl
failed_adds book by ask new (Err (error.Refused why)) wanted gives is = absurd (cc)
failed_adds book by ask new (Ok answered) wanted gives is = absurd (cc)
failed_adds book by ask new (Err error.NoMemory) wanted gives is = absurd (cc)

-- ---- what is known of a caller

-- an entry of a caller's is one more of its rows
own_more : (by : ℕ) (entries : List Entry) (entry : Entry) → (entry.by == by) ≡ true
    → own_rows by (entries ++ entry ∷ []) ≡ own_rows by entries
    ++ record { number = length entries + 1; entry = entry } ∷ []
own_more by entries entry own =
    ap (filter (λ (row : Row). row.entry.by == by)) (rows_push entries entry)
    ∙ filter-append (λ (row : Row). row.entry.by == by) (rows_of entries)
    (record { number = length entries + 1; entry = entry } ∷ [])
    ∙ ap (λ (rows : List Row). own_rows by entries ++ rows) (rw own refl)

-- what an ask adds bears the number of who asks
unless_by : (row : Option ℕ) (rule : Option Refusal) (mine entry : Entry) (by : ℕ) → mine.by ≡ by
    → entry_unless row rule mine ≡ Some entry → entry.by ≡ by
unless_by None None mine entry by is added = let same : mine ≡ entry = cc in
    ap (λ (e : Entry). e.by) (sym same) ∙ is
unless_by None (Some rule) mine entry by is added = absurd (cc)
unless_by (Some row) rule mine entry by is added = absurd (cc)

want_by : (limit by : ℕ) (entries : List Entry) (ask : Ask) (w : Want) (entry : Entry)
    → want_added limit entries by ask w ≡ Some entry → entry.by ≡ by
want_by limit by entries ask (want.Act act) entry is =
    unless_by _ _ (entry_for entries by ask act) entry by refl is
want_by limit by entries ask (want.Question question) entry is = absurd (cc)

pub added_by : (limit by : ℕ) (entries : List Entry) (ask : Ask) (entry : Entry)
    → added limit entries by ask ≡ Some entry → entry.by ≡ by
added_by limit by entries ask entry is = want_by limit by entries ask ask.want entry is

same_by : (a b : ℕ) → a ≡ b → (a == b) ≡ true
same_by a b same = grind (arith, nat_tests)

-- a list with the entry of an ask behind it, if any, and its caller's rows
seen_more : (answered : Answered) (entries next : List Entry) (new : Option Entry)
    → next ≡ list_behind (Ok answered) entries new → next ≡ entries ++ cons_option new []
seen_more answered entries next None is = is ∙ sym (append-nil entries)
seen_more answered entries next (Some entry) is = is

seen_same : (entries next : List Entry) (new : Option Entry) → next ≡ entries → new ≡ None
    → next ≡ entries ++ cons_option new []
seen_same entries next None is none = is ∙ sym (append-nil entries)
seen_same entries next (Some entry) is none = absurd (cc)

list_stays : (why : AskError) (entries next : List Entry) (new : Option Entry)
    → next ≡ list_behind (Err why) entries new → next ≡ entries
list_stays why entries next None is = is
list_stays why entries next (Some entry) is = is

own_step : (by : ℕ) (entries next : List Entry) (new : Option Entry)
    → ((entry : Entry) → new ≡ Some entry → entry.by ≡ by) → next ≡ entries ++ cons_option new []
    → own_rows by next ≡ own_rows by entries
    ++ cons_option
    (option_map (λ (entry : Entry). record { number = length entries + 1; entry = entry }) new)
    []
own_step by entries next None owns is = ap (own_rows by) (is ∙ append-nil entries)
    ∙ sym (append-nil (own_rows by entries))
own_step by entries next (Some entry) owns is = ap (own_rows by) is
    ∙ own_more by entries entry (same_by entry.by by (owns entry refl))

alone_step : (by : ℕ) (entries next : List Entry) (new : Option Entry)
    → ((entry : Entry) → new ≡ Some entry → entry.by ≡ by) → next ≡ entries ++ cons_option new []
    → length next + length (own_rows by entries) ≡ length entries + length (own_rows by next)
alone_step by entries next None owns is =
    let same = is ∙ append-nil entries in
    omega (arith, ap length same, ap (λ (es : List Entry). length (own_rows by es)) same)
alone_step by entries next (Some entry) owns is =
    let row : Row = record { number = length entries + 1; entry = entry } in
    let own = ap length (own_step by entries next (Some entry) owns is) in
    omega (
      arith,
      ap length is,
      length-append entries (entry ∷ []),
      own,
      length-append (own_rows by entries) (row ∷ []),
    )

-- an answer over all that was seen before
answered_over : (was now : Known) (ask : Ask) (given : Result Answered Refused)
    → now.seen ≡ was.seen ++ cons_option (added was.limit was.seen was.by ask) []
    → now.mine ≡ was.mine ++ cons_option (row_added was.limit was.seen was.by ask) []
    → answer was.limit was.seen ask ≡ given → HasAnswer was now ask given
answered_over was now ask given seen mine is =
    record {
      right = record { before = was.seen; after = []; parts = seen; answered = is };
      unseen = [];
      grows = sym (append-nil was.seen);
      mine = mine;
    }

-- what may find no memory in the book may find none for the caller
lacks_memory : (book : BookView) (by : ℕ) (ask : Ask) (w : Want) (new : Option Entry)
    → new ≡ added book.limit book.entries by ask → MayLackMemory book by ask w
    → MayFindNoMemory w new
lacks_memory book by ask (want.Act act) new same may =
    subst (λ (o : Option Entry). IsSome o) (sym same) may.0
lacks_memory book by ask (want.Question question) new same may = may

module _ {D : Type 0} (old new : CallerView D) (ask : Ask)
    (limit : limit_of new.store ≡ limit_of old.store) (by : new.by ≡ old.by) where
  -- what the ask would add, before it and behind it
  offered_same : entries_of new.store ≡ entries_of old.store
      → entry_offered (known_of new) ask
      ≡ added (limit_of old.store) (entries_of old.store) old.by ask
  offered_same same =
      ap (λ (n : ℕ). added n (entries_of new.store) new.by ask) limit
      ∙ ap (λ (es : List Entry). added (limit_of old.store) es new.by ask) same
      ∙ ap (λ (n : ℕ). added (limit_of old.store) (entries_of old.store) n ask) by

  answered_asked : (given : Result Answered Refused)
      → entries_of new.store ≡ entries_of old.store
      ++ cons_option (added (limit_of old.store) (entries_of old.store) old.by ask) []
      → answer (limit_of old.store) (entries_of old.store) ask ≡ given
      → HasAnswer (known_of old) (known_of new) ask given
  answered_asked given seen is =
      answered_over (known_of old) (known_of new) ask given seen
      (ap (λ (n : ℕ). own_rows n (entries_of new.store)) by
      ∙ own_step old.by (entries_of old.store) (entries_of new.store)
      (added (limit_of old.store) (entries_of old.store) old.by ask)
      (added_by (limit_of old.store) old.by (entries_of old.store) ask) seen)
      is

  not_answered : entries_of new.store ≡ entries_of old.store → HasNoAnswer (known_of old) (known_of new)
  not_answered same =
      record {
        unseen = [];
        grows = same ∙ sym (append-nil (entries_of old.store));
        mine = ap (λ (n : ℕ). own_rows n (entries_of new.store)) by ∙ ap (own_rows old.by) same;
      }

  says_asked : (result : Result Answered AskError)
      → entries_of new.store ≡ list_behind result (entries_of old.store)
      (added (limit_of old.store) (entries_of old.store) old.by ask)
      → GivesAnswer (book_of old.store) old.by ask
      (added (limit_of old.store) (entries_of old.store) old.by ask) result
      (answer (limit_of old.store) (entries_of old.store) ask)
      → Says (known_of old) (known_of new) ask result
  says_asked (Ok answered) is gives =
      answered_asked (Ok answered) (seen_more answered (entries_of old.store) (entries_of new.store)
      (added (limit_of old.store) (entries_of old.store) old.by ask) is) (sym gives)
  says_asked (Err (error.Refused why)) is gives =
      answered_asked (Err why)
      (seen_same (entries_of old.store) (entries_of new.store)
      (added (limit_of old.store) (entries_of old.store) old.by ask)
      (list_stays (error.Refused why) (entries_of old.store) (entries_of new.store)
      (added (limit_of old.store) (entries_of old.store) old.by ask) is)
      (want_refused (limit_of old.store) old.by (entries_of old.store) ask ask.want why gives))
      (sym gives)
  says_asked (Err error.DiskFault) is gives =
      let same = list_stays error.DiskFault (entries_of old.store) (entries_of new.store)
      (added (limit_of old.store) (entries_of old.store) old.by ask) is in (
        not_answered same,
        subst (λ (o : Option Entry). IsSome o)
            (sym (offered_same same ∙ gives.1)) refl,
      )
  says_asked (Err error.NoMemory) is gives =
      let same = list_stays error.NoMemory (entries_of old.store) (entries_of new.store)
      (added (limit_of old.store) (entries_of old.store) old.by ask) is in (
        not_answered same,
        lacks_memory (book_of old.store) old.by ask ask.want
            (entry_offered (known_of new) ask) (offered_same same) gives,
      )

  pub is_asked : (result : Result Answered AskError)
      → entries_of new.store ≡ list_behind result (entries_of old.store)
      (added (limit_of old.store) (entries_of old.store) old.by ask)
      → GivesAnswer (book_of old.store) old.by ask
      (added (limit_of old.store) (entries_of old.store) old.by ask) result
      (answer (limit_of old.store) (entries_of old.store) ask)
      → IsLegal (entries_of new.store)
      → new.faults ≡ min (old.faults + faults_told result) FAULTS_END
      → IsAsked (known_of old) (known_of new) ask result
  is_asked result is gives legal faults =
      record {
        says = says_asked result is gives;
        legal = legal;
        faults = faults;
        limit = limit;
        by = by;
      }

-- ---- what an ask makes of the store

-- a fault that is told is counted
fault_rose : (old new : ℕ) → new ≡ min (old + 1) FAULTS_END → Rose old new
fault_rose old new is = omega (arith, is)

none_counted : (old new : ℕ) → old ≤ FAULTS_END → new ≡ min (old + 0) FAULTS_END → new ≡ old
none_counted old new range is = omega (arith, range, is)

module _ {D : Type 0} (g : disk.Ghosts D) (old new : CallerView D) (ask : Ask)
    (by : new.by ≡ old.by) where
  -- the entry of the ask, where the caller was answered a fault
  stands_asked : (entry : Entry)
      → added (limit_of old.store) (entries_of old.store) old.by ask ≡ Some entry
      → IsLawful (entries_of old.store) entry → Rose old.faults new.faults
      → MayStandBehind g old new (ask ∷ []) (entries_of old.store) entry
  stands_asked entry adds lawful rose =
      inl (
        rose,
        record {
          before = [];
          ask = ask;
          after = [];
          parts = refl;
          adds = adds;
          lawful =
              lawful;
        },
      )

  holds_old : IsPrefixOf (entries_of old.store) (entries_of new.store) → (c : List ℕ)
      → HoldsOrHangs g old.store c → LeavesRows g old new (ask ∷ []) c
  holds_old begins c (inl holds) =
      record {
        rows = entries_of old.store;
        least = same_begins _ _ refl;
        most = begins;
        holds =
            inl holds;
      }
  holds_old begins c (inr hangs) =
      record {
        rows = entries_of old.store;
        least = same_begins _ _ refl;
        most = begins;
        holds =
            inr (hangs.0, inr (hangs.1, refl), hangs.2);
      }

  keeps_still : entries_of new.store ≡ entries_of old.store → LeavesDisk g old.store new.store
      → HasBook g old.store → KeepsRows g old new (ask ∷ [])
  keeps_still same leaves has =
      let time : g.time (disk_of new.store) ≡ g.time (disk_of old.store) =
      ap (λ (d : D). g.time d) leaves.same in
      record {
        has = leaves.has has;
        hung = λ entry hangs. inr (leaves.hung entry hangs, same);
        later = omega (arith, time);
        moments = λ t c le was. inl (subst (λ (d : D). g.since d t c) leaves.same was);
      }

  keeps_added : (entry : Entry) → entries_of new.store ≡ entries_of old.store ++ entry ∷ []
      → ¬ Hangs new.store → OffersEntry g entry old.store new.store → KeepsRows g old new (ask ∷ [])
  keeps_added entry is calm offer =
      record {
        has = offer.has;
        hung = λ other hangs. absurd (calm hangs.row.hangs);
        later = offer.moments.later;
        moments = λ t c le was. ⊎_elim
            (λ past. inl past)
            (λ left. inr (⊎_elim
            (λ before. holds_old (entry ∷ [], is) c before)
            (λ added. record {
              rows = entries_of old.store ++ entry ∷ [];
              least =
                  (entry ∷ [], refl);
              most = same_begins _ _ is;
              holds = inl added;
            })
            left))
            (offer.moments.before t c le was);
      }

  keeps_failed : (entry : Entry)
      → added (limit_of old.store) (entries_of old.store) old.by ask ≡ Some entry
      → entries_of new.store ≡ entries_of old.store → Rose old.faults new.faults
      → OffersEntry g entry old.store new.store → KeepsRows g old new (ask ∷ [])
  keeps_failed entry adds same rose offer =
      let stands = stands_asked entry adds offer.lawful rose in
      record {
        has = offer.has;
        hung = λ other hangs. ⊎_elim
            (λ is. subst (λ (es : List Entry). MayStandBehind g old new (ask ∷ []) es other)
            (sym same) (subst (λ (e : Entry). MayStandBehind g old new (ask ∷ [])
            (entries_of old.store) e) (sym is) stands))
            (λ was. inr (was, same))
            (offer.hung other hangs);
        later = offer.moments.later;
        moments = λ t c le was. ⊎_elim
            (λ past. inl past)
            (λ left. inr (⊎_elim
            (λ before. holds_old (same_begins _ _ same) c before)
            (λ added. record {
              rows = entries_of old.store;
              least = same_begins _ _ refl;
              most =
                  same_begins _ _ same;
              holds = inr (entry, stands, added);
            })
            left))
            (offer.moments.before t c le was);
      }

  -- by what was offered
  keeps_asked : (result : Result Answered AskError) (offered : Option Entry)
      → added (limit_of old.store) (entries_of old.store) old.by ask ≡ offered
      → entries_of new.store ≡ list_behind result (entries_of old.store) offered
      → Offers g offered old.store new.store
      → ((refused : Refused) → result ≡ Err (error.Refused refused) → offered ≡ None)
      → (result ≡ Err error.DiskFault → IsSome offered)
      → (result ≡ Err error.NoMemory → LeavesDisk g old.store new.store)
      → (IsSome offered → OnOk result (¬ Hangs new.store))
      → (result ≡ Err error.DiskFault → Rose old.faults new.faults)
      → HasBook g old.store → KeepsRows g old new (ask ∷ [])
  keeps_asked (Ok answered) None adds is offers refused failed lacks settled rose has =
      keeps_still is offers has
  keeps_asked (Ok answered) (Some entry) adds is offers refused failed lacks settled rose has =
      keeps_added entry is (settled refl) (offers has)
  keeps_asked (Err (error.Refused why)) None adds is offers refused failed lacks settled rose has =
      keeps_still is offers has
  keeps_asked (Err (error.Refused why))
      (Some entry) adds is offers refused failed lacks settled rose has =
      absurd (let none : Some entry ≡ None = refused why refl in cc)
  keeps_asked (Err error.DiskFault) None adds is offers refused failed lacks settled rose has =
      absurd (cc (failed refl))
  keeps_asked (Err error.DiskFault)
      (Some entry) adds is offers refused failed lacks settled rose has =
      keeps_failed entry adds is (rose refl) (offers has)
  keeps_asked (Err error.NoMemory) None adds is offers refused failed lacks settled rose has =
      keeps_still is (lacks refl) has
  keeps_asked (Err error.NoMemory)
      (Some entry) adds is offers refused failed lacks settled rose has =
      keeps_still is (lacks refl) has

  still_asked : (result : Result Answered AskError) (offered : Option Entry)
      → entries_of new.store ≡ list_behind result (entries_of old.store) offered
      → Offers g offered old.store new.store
      → ((refused : Refused) → result ≡ Err (error.Refused refused) → offered ≡ None)
      → (result ≡ Err error.NoMemory → LeavesDisk g old.store new.store)
      → (result ≡ Err error.DiskFault → Rose old.faults new.faults)
      → length (entries_of new.store) ≤ length (entries_of old.store) → Calm old.faults new.faults
      → disk_of new.store ≡ disk_of old.store
  still_asked (Ok answered) None is offers refused lacks rose few calm = offers.same
  still_asked (Ok answered) (Some entry) is offers refused lacks rose few calm =
      absurd (omega (arith, few, ap length is, length-append (entries_of old.store) (entry ∷ [])))
  still_asked (Err (error.Refused why)) None is offers refused lacks rose few calm = offers.same
  still_asked (Err (error.Refused why)) (Some entry) is offers refused lacks rose few calm =
      absurd (let none : Some entry ≡ None = refused why refl in cc)
  still_asked (Err error.DiskFault) offered is offers refused lacks rose few calm =
      absurd (let more : Rose old.faults new.faults = rose refl in omega (arith, calm, more))
  still_asked (Err error.NoMemory) offered is offers refused lacks rose few calm = (lacks refl).same

  alike_asked : (result : Result Answered AskError)
      → CountsDiskFault (g.faults (disk_of old.store)) (g.faults (disk_of new.store)) result
      → old.faults ≤ FAULTS_END → new.faults ≡ min (old.faults + faults_told result) FAULTS_END
      → FailsAlike g old new
  alike_asked (Ok answered) cause range is = inl (cause, none_counted old.faults new.faults range is)
  alike_asked (Err (error.Refused why)) cause range is =
      inl (cause, none_counted old.faults new.faults range is)
  alike_asked (Err error.DiskFault) cause range is =
      inr (1, omega arith, cause, is)
  alike_asked (Err error.NoMemory) cause range is =
      inl (cause, none_counted old.faults new.faults range is)

  failed_asked : (result : Result Answered AskError) → old.faults ≤ FAULTS_END
      → new.faults ≡ min (old.faults + faults_told result) FAULTS_END
      → new.failed ≡ failed_behind result ask old.failed → KeepsFailed old new (ask ∷ [])
  failed_asked (Ok answered) range is failed =
      inl (none_counted old.faults new.faults range is, failed)
  failed_asked (Err (error.Refused why)) range is failed =
      inl (none_counted old.faults new.faults range is, failed)
  failed_asked (Err error.DiskFault) range is failed =
      inr (fault_rose old.faults new.faults is, ask, (0, omega arith, refl), failed)
  failed_asked (Err error.NoMemory) range is failed =
      inl (none_counted old.faults new.faults range is, failed)

  -- the list grows by an entry of the caller's, or stays
  alone_asked : (result : Result Answered AskError) (offered : Option Entry)
      → ((entry : Entry) → offered ≡ Some entry → entry.by ≡ old.by)
      → entries_of new.store ≡ list_behind result (entries_of old.store) offered
      → length (entries_of new.store) + length (own_rows old.by (entries_of old.store))
      ≡ length (entries_of old.store) + length (own_rows old.by (entries_of new.store))
  alone_asked (Ok answered) offered owns is =
      alone_step old.by (entries_of old.store) (entries_of new.store) offered owns
      (seen_more answered (entries_of old.store) (entries_of new.store) offered is)
  alone_asked (Err why) offered owns is =
      let same = list_stays why (entries_of old.store) (entries_of new.store) offered is in
      omega (arith, ap length same, ap (λ (es : List Entry). length (own_rows old.by es)) same)

  -- an ask, from what the store promises of it
  pub reached_by_ask : (result : Result Answered AskError)
      → entries_of new.store ≡ list_behind result (entries_of old.store)
      (added (limit_of old.store) (entries_of old.store) old.by ask)
      → GivesAnswer (book_of old.store) old.by ask
      (added (limit_of old.store) (entries_of old.store) old.by ask) result
      (answer (limit_of old.store) (entries_of old.store) ask)
      → Offers g (added (limit_of old.store) (entries_of old.store) old.by ask) old.store new.store
      → (result ≡ Err error.NoMemory → LeavesDisk g old.store new.store)
      → (Hangs new.store → (result ≡ Err error.DiskFault) ⊎ Hangs old.store)
      → (IsSome (added (limit_of old.store) (entries_of old.store) old.by ask)
      → OnOk result (¬ Hangs new.store))
      → limit_of new.store ≡ limit_of old.store → held_of new.store ≡ held_of old.store
      → CountsDiskFault (g.faults (disk_of old.store)) (g.faults (disk_of new.store)) result
      → old.faults ≤ FAULTS_END → new.faults ≡ min (old.faults + faults_told result) FAULTS_END
      → new.failed ≡ failed_behind result ask old.failed
      → IsReachedBy g old new (ask ∷ [])
  reached_by_ask result is gives offers lacks hangs settled limit held cause range faults failing =
      let offered = added (limit_of old.store) (entries_of old.store) old.by ask in
      let refused = refused_adds (book_of old.store) old.by ask result in
      let failed = failed_adds (book_of old.store) old.by ask offered result
      (answer (limit_of old.store) (entries_of old.store) ask) gives in
      let rose : result ≡ Err error.DiskFault → Rose old.faults new.faults =
      λ told. fault_rose old.faults new.faults
      (subst (λ (r : Result Answered AskError). new.faults
      ≡ min (old.faults + faults_told r) FAULTS_END) told faults) in
      record {
        begins = asked_begins result (entries_of old.store) (entries_of new.store) offered is;
        limit = limit;
        held = held;
        by = by;
        alone = alone_asked result offered
            (added_by (limit_of old.store) old.by (entries_of old.store) ask) is;
        counted = omega (arith, range, faults);
        alike = alike_asked result cause range faults;
        failed = failed_asked result range faults failing;
        hangs = λ hung. ⊎_elim (λ told. inr (rose told)) (λ was. inl was) (hangs hung);
        still = still_asked result offered is offers (λ why told. refused why gives told) lacks rose;
        keeps = keeps_asked result offered refl is offers
            (λ why told. refused why gives told) failed lacks settled rose;
      }

-- a crash between two states of a caller leaves rows of its own
pub crash_between : {D : Type 0} (g : disk.Ghosts D) → ((d : D) → WhereTold (g.reads d) (g.image d))
    → ((d : D) (c : List ℕ) → g.since d (g.time d) c → g.image d c)
    → (old new : CallerView D) (asks : List Ask) → IsReachedBy g old new asks → HasBook g old.store
    → (c : List ℕ) → g.since (disk_of new.store) (g.time (disk_of old.store)) c
    → LeavesRows g old new asks c
crash_between g reads_image only_now old new asks reached has c was = ⊎_elim
    (λ past. begun (images_hold g reads_image only_now old.store has c
    (only_now (disk_of old.store) c past)))
    (λ left. left)
    ((reached.keeps has).moments (g.time (disk_of old.store)) c (omega arith) was)
  where
    begun : HoldsOrHangs g old.store c → LeavesRows g old new asks c
    begun (inl holds) = record {
      rows = entries_of old.store;
      least = same_begins _ _ refl;
      most =
          reached.begins;
      holds = inl holds;
    }
    begun (inr hangs) = record {
      rows = entries_of old.store;
      least = same_begins _ _ refl;
      most =
          reached.begins;
      holds = inr (hangs.0, inr (hangs.1, refl), hangs.2);
    }
