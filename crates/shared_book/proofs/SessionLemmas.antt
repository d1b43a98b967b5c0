-- What is kept of a store in a session: as it begins, with each ask, and at its end.
use Rattle.std.proofs.Common.{◌≡◌, ◌⊎◌, inl, inr, ⊎_elim, ℕ, ◌+◌, ◌≤◌, List, [], ◌∷◌, ◌++◌, length, take}
use Rattle.std.proofs.Common.{true, false, Bool, Option, Some, None, IsSome, IfSome, Result, Ok, Err, OnOk, refl, sym, ap, ◌∙◌}
use Rattle.std.proofs.Common.{subst, arith, append_assoc, append-nil, length-append}
use Rattle.std.proofs.Math.Seq.{take-append_seam}
use Rattle.std.proofs.lemmas.List.{take-append-le}
use Rattle.device_facts.specs.Count.{Counted, Rose}
use Rattle.device_facts.specs.Prefix.{IsPrefixOf}
use Rattle.disk_core.specs.Devices.{LeavesOnly}
use Rattle.disk_core.specs.declared.disk.Disk as disk
use Rattle.book_words.specs.declared.act.Ask.{Ask}
use Rattle.book_words.specs.declared.act.Entry.{Entry}
use Rattle.book_words.specs.declared.act.Want.{Want}
use Rattle.book_words.specs.declared.act.Want.TheVariants as want
use Rattle.book_words.specs.declared.caller.AskError.{AskError}
use Rattle.book_words.specs.declared.caller.AskError.TheVariants as error
use Rattle.book_words.specs.declared.reply.Answered.{Answered}
use Rattle.book_words.specs.declared.reply.Refused.{Refused}
use Rattle.book_words.specs.Answers.{added, answer, IsLawful}
use Rattle.book_words.proofs.PlainLemmas.{in_both}
use Rattle.row_format.specs.Spelling.{new_layout, row_bytes}
use Rattle.row_format.specs.Rows.{CanBeSpelled}
use Rattle.row_format.proofs.OneEntry.{one_entry}
use Rattle.book_store.specs.Steps.{MayLackMemory}
use Rattle.book_store.specs.Stores.{BookView}
use Rattle.book_journal.specs.Mounting.{KeepsFromSync}
use Rattle.book_store.specs.declared.store.Store.{Store}
use Rattle.book_store.specs.Images.{HoldsBook}
use Rattle.book_store.specs.Kept.{with_offered}
use Rattle.book_store.proofs.CallerSteps.{refused_adds}
use Rattle.book_store.proofs.StoreFacts.{one_row}
use Rattle.book_laws.proofs.MoveLaws.{balanced}
use Rattle.book_store.specs.Stores.{disk_of, book_of, KeepsBook, entries_of, limit_of, spare_of, held_of}
use Rattle.book_store.specs.Stores.{Hangs, HasBook, HangsWith, HoldsOrHangs}
use Rattle.book_store.specs.Stores.{ImagesHoldBook, IsSound}
use Rattle.book_store.specs.Offers.{Offers, OffersEntry, LeavesDisk, CountsDiskFault, GivesAnswer}
use Rattle.book_store.specs.Offers.{list_behind}
use Rattle.book_store.proofs.KeptLemmas.{synced_on}
use Rattle.shared_book.specs.declared.session.Session as session
use Rattle.shared_book.specs.Sessions.{HoldsOrOneMore, IsOffered, LeavesFrom, LeavesAtEnd}
use Rattle.shared_book.specs.Sessions.{RestsOnDisk, Begins}
use Rattle.shared_book.specs.Sessions.{HasBookSince, IsKeptSince, KeepsRun, session_of, weighs}
use Rattle.turn_pass.specs.History.{TableId}

-- ---- lists that go on

begins_same : (a b : List Entry) → b ≡ a → IsPrefixOf a b
begins_same a b same = ([], same ∙ sym (append-nil a))

begins_on : (a b c : List Entry) → IsPrefixOf a b → IsPrefixOf b c → IsPrefixOf a c
begins_on a b c first second = (
  first.0 ++ second.0,
  second.1 ∙ (ap (λ (es : List Entry). es ++ second.0) first.1 ∙ append_assoc a first.0 second.0),
)

begins_short : (a b : List Entry) → IsPrefixOf a b → length a ≤ length b
begins_short a b begins = omega (arith, ap length begins.1, length-append a begins.0)

-- what a list behind an ask begins with
pub asked_begins : (result : Result Answered AskError) (entries next : List Entry)
    (new : Option Entry) → next ≡ list_behind result entries new → IsPrefixOf entries next
asked_begins (Ok answered) entries next (Some entry) is = (entry ∷ [], is)
asked_begins (Ok answered) entries next None is = begins_same entries next is
asked_begins (Err why) entries next (Some entry) is = begins_same entries next is
asked_begins (Err why) entries next None is = begins_same entries next is

-- ---- what a crash leaves

-- of fewer rows a crash leaves what it may leave of more
leaves_of_more : (before rows next : List Entry) (c : List ℕ) → IsPrefixOf rows next
    → LeavesFrom before rows c → LeavesFrom before next c
leaves_of_more before rows next c begins left =
    record {
      count = left.count;
      least = left.least;
      most = omega (arith, left.most, begins_short rows next begins);
      holds = subst (λ (es : List Entry). HoldsOrOneMore es c)
          (sym (ap (take left.count) begins.1 ∙
          take-append-le left.count rows begins.0 left.most)) left.holds;
    }

-- the rows that a list begins with are among what it may leave
leaves_front : (before rows next : List Entry) (c : List ℕ) → IsPrefixOf before rows
    → IsPrefixOf rows next → HoldsOrOneMore rows c → LeavesFrom before next c
leaves_front before rows next c opened begins holds =
    record {
      count = length rows;
      least = begins_short before rows opened;
      most = begins_short rows next begins;
      holds = subst (λ (es : List Entry). HoldsOrOneMore es c)
          (sym (ap (take (length rows)) begins.1 ∙ take-append_seam rows begins.0)) holds;
    }

-- from the rows of a session a crash leaves at least those that were there before
leaves_earlier : (held before rows : List Entry) (c : List ℕ) → IsPrefixOf held before
    → LeavesFrom before rows c → LeavesFrom held rows c
leaves_earlier held before rows c begins left =
    record {
      count = left.count;
      least = omega (arith, left.least, begins_short held before begins);
      most = left.most;
      holds = left.holds;
    }

-- a count that stayed or rose, and then rose
rose_behind : (a b c : ℕ) → (b ≡ a) ⊎ Rose a b → Rose b c → Rose a c
rose_behind a b c (inl same) rose = omega arith
rose_behind a b c (inr first) rose = omega arith

-- ---- where no row was added

-- where an ask adds no row, the disk failed at it, or wasn't touched
pub still_asked : {D : Type 0} (g : disk.Ghosts D) (old new : Store D) (by : ℕ) (ask : Ask)
    (result : Result Answered AskError) (offered : Option Entry)
    → added (limit_of old) (entries_of old) by ask ≡ offered
    → entries_of new ≡ list_behind result (entries_of old) offered
    → Offers g offered old new → (result ≡ Err error.NoMemory → LeavesDisk g old new)
    → GivesAnswer (book_of old) by ask (added (limit_of old) (entries_of old) by ask) result
    (answer (limit_of old) (entries_of old) ask)
    → length (entries_of new) ≤ length (entries_of old)
    → (result ≡ Err error.DiskFault) ⊎ (disk_of new ≡ disk_of old)
still_asked g old new by ask (Ok answered) (Some entry) adds is offers no_memory gives few =
    absurd (omega (arith, ap length is, length-append (entries_of old) (entry ∷ []), few))
still_asked g old new by ask (Ok answered) None adds is offers no_memory gives few =
    inr offers.same
still_asked g old new by ask (Err error.DiskFault) offered adds is offers no_memory gives few =
    inl refl
still_asked g old new by ask (Err error.NoMemory) offered adds is offers no_memory gives few =
    inr (no_memory refl).same
still_asked g old new by ask (Err (error.Refused why)) None adds is offers no_memory gives few =
    inr offers.same
still_asked g old new by ask (Err (error.Refused why)) (Some entry) adds is offers no_memory gives
    few = absurd (let never : None ≡ Some entry =
    sym (refused_adds (book_of old) by ask (Err (error.Refused why)) why gives refl) ∙ adds in cc)

-- two entries with one row's bytes are one
one_entry_of : (number : ℕ) (entry other : Entry) → CanBeSpelled new_layout entry
    → CanBeSpelled new_layout other
    → row_bytes new_layout number entry ≡ row_bytes new_layout number other → entry ≡ other
one_entry_of number entry other can could same =
    one_entry (row_bytes new_layout number other) number entry other
    (record { row = sym same; can = can }) (record { row = refl; can = could })

module _ {D : Type 0} (g : disk.Ghosts D) where
  -- a session begins with the store that it is named after
  pub begins_named : {N : Type 0} (table : TableId) (store : Store D) → ¬ Hangs store
      → Begins g (session_of {N = N} g table store) store
  begins_named table store calm =
      record {
        rows = refl;
        limit = refl;
        spare = refl;
        held = refl;
        start = refl;
        faults = refl;
        reads = refl;
        past = λ t c. ((λ was. was), (λ was. was));
        rests = ((λ rests. rests), (λ rests. rests));
        calm = calm;
      }

  -- ---- what hangs

  rose_on : (start old new : ℕ) → Counted old new 1 → (old ≡ start) ⊎ Rose start old
      → Rose start new
  rose_on start old new more (inl same) = omega arith
  rose_on start old new more (inr rose) = omega arith

  -- nothing hangs and the disk has failed as often as then, or it failed since
  abbrev FailedSince : ℕ → Store D → Type 0
  FailedSince then store = (¬ Hangs store × (g.faults (disk_of store) ≡ then))
      ⊎ Rose then (g.faults (disk_of store))

  fault_now : (then : ℕ) (old new : Store D)
      → Counted (g.faults (disk_of old)) (g.faults (disk_of new)) 1 → FailedSince then old
      → FailedSince then new
  fault_now then old new more fault =
      inr (rose_on then (g.faults (disk_of old)) (g.faults (disk_of new)) more
      (⊎_elim (λ calm. inl calm.1) (λ rose. inr rose) fault))

  no_fault : (then : ℕ) (old new : Store D) → (Hangs new → Hangs old)
      → g.faults (disk_of new) ≡ g.faults (disk_of old) → FailedSince then old
      → FailedSince then new
  no_fault then old new hangs same (inl calm) =
      inl ((λ hung. calm.0 (hangs hung)), same ∙ calm.1)
  no_fault then old new hangs same (inr rose) = inr (subst (Rose then) (sym same) rose)

  fault_asked : (then : ℕ) (old new : Store D) (result : Result Answered AskError)
      → (Hangs new → (result ≡ Err error.DiskFault) ⊎ Hangs old)
      → CountsDiskFault (g.faults (disk_of old)) (g.faults (disk_of new)) result
      → FailedSince then old → FailedSince then new
  fault_asked then old new (Err error.DiskFault) hangs cause fault =
      fault_now then old new cause fault
  fault_asked then old new (Ok answered) hangs cause fault =
      no_fault then old new (λ hung. ⊎_elim (λ is. absurd (cc)) (λ was. was) (hangs hung)) cause
      fault
  fault_asked then old new (Err error.NoMemory) hangs cause fault =
      no_fault then old new (λ hung. ⊎_elim (λ is. absurd (cc)) (λ was. was) (hangs hung)) cause
      fault
  fault_asked then old new (Err (error.Refused refused)) hangs cause fault =
      no_fault then old new (λ hung. ⊎_elim (λ is. absurd (cc)) (λ was. was) (hangs hung)) cause
      fault

  -- ---- what a crash leaves at the end

  -- what hangs is an ask's entry, and the disk failed since the start
  abbrev HungRight : D → Store D → Type 0
  HungRight start last = (entry : Entry) → HangsWith g last entry
      → Rose (g.faults start) (g.faults (disk_of last))
      × IsOffered (limit_of last) (entries_of last) entry

  -- a store hangs with one entry
  one_hangs : (store : Store D) (entry other : Entry) → HangsWith g store entry
      → HangsWith g store other → entry ≡ other
  one_hangs store entry other is at =
      one_entry_of (length (entries_of store) + 1) entry other is.can at.can
      (one_row g store.journal _ _ is.row at.row)

  -- every image holds all rows, or all and the entry that hangs
  at_end : (start : D) (last : Store D) → HasBook g last → HungRight start last
      → ((c : List ℕ) → g.image (disk_of last) c → HoldsOrHangs g last c)
      → LeavesAtEnd g (limit_of last) (entries_of last) start (disk_of last)
  at_end start last has hung images = in_both last.journal.hanging
      (λ is. let one = has.hung is in
      record {
        hanging = Some one.0;
        cause = hung one.0 one.1;
        images = λ c image. ⊎_elim
            (λ holds. inl holds)
            (λ other. inr (subst (λ (e : Entry). HoldsBook (entries_of last ++ e ∷ []) c)
            (one_hangs last other.0 one.0 other.1 one.1) other.2))
            (images c image);
      })
      (λ is. record {
        hanging = None;
        cause = tt;
        images = λ c image. ⊎_elim
            (λ holds. inl holds)
            (λ other. absurd (let never : false ≡ true = sym is ∙ other.1.row.hangs in cc))
            (images c image);
      })

  module _ {N : Type 0} (s : session.Ghosts N) where
    -- what hangs with a book, or stands behind it, is lawful
    holds_lawful : (store : Store D) (c : List ℕ) → HasBookSince g s store
        → HoldsOrHangs g store c → HoldsOrOneMore (entries_of store) c
    holds_lawful store c book (inl holds) = inl holds
    holds_lawful store c book (inr hangs) =
        inr (hangs.0, (book.hung hangs.0 hangs.1).lawful, hangs.2)

    -- a call over which a crash leaves the rows, or one lawful entry more
    book_on : (old new : Store D) (Q : List ℕ → Type 0)
        → IsPrefixOf s.before (entries_of old)
        → IsPrefixOf (entries_of old) (entries_of new) → HasBookSince g s old → HasBook g new
        → ((entry : Entry) → HangsWith g new entry → IsOffered s.limit (entries_of new) entry)
        → ((c : List ℕ) → Q c → HoldsOrOneMore (entries_of old) c)
        → LeavesOnly g (disk_of old) (disk_of new) Q → ImagesHoldBook g new → HasBookSince g s new
    book_on old new Q opened begins book has hung lawful leaves images =
        let on : (t : ℕ) (c : List ℕ) → t ≤ s.start → g.since (disk_of new) t c
        → g.since (disk_of old) t c ⊎ LeavesFrom s.before (entries_of new) c =
        λ t c le was. ⊎_elim (λ past. inl past)
        (λ is. inr (leaves_front s.before (entries_of old) (entries_of new) c opened begins
        (lawful c is)))
        (leaves.before t c (omega (arith, le, book.later)) was) in
        let more : (c : List ℕ) → LeavesFrom s.before (entries_of old) c
        → LeavesFrom s.before (entries_of new) c =
        λ c is. leaves_of_more s.before (entries_of old) (entries_of new) c begins is in
        record {
          has = has;
          later = omega (arith, book.later, leaves.later);
          hung = hung;
          images = images has;
          each = λ c was. ⊎_elim (λ past. more c (book.each c past)) (λ is. is)
              (on s.start c (omega arith) was);
          earlier = λ t c le was. ⊎_elim
              (λ past. ⊎_elim (λ is. inl is) (λ is. inr (more c is)) (book.earlier t c le past))
              (λ is. inr is) (on t c le was);
        }

    -- a call that leaves disk and list as they were
    book_still : (old new : Store D) → entries_of new ≡ entries_of old → LeavesDisk g old new
        → ImagesHoldBook g new → HasBookSince g s old → HasBookSince g s new
    book_still old new same leaves images book =
        record {
          has = leaves.has book.has;
          later = omega (arith, book.later, ap g.time leaves.same);
          hung = λ entry hangs. subst (λ (es : List Entry). IsOffered s.limit es entry) (sym same)
              (book.hung entry (leaves.hung entry hangs));
          images = images (leaves.has book.has);
          each = subst (λ (x : D × List Entry). (c : List ℕ) → g.since x.0 s.start c
              → LeavesFrom s.before x.1 c) (λ i. (sym leaves.same i, sym same i)) book.each;
          earlier = subst (λ (x : D × List Entry). (t : ℕ) (c : List ℕ) → t ≤ s.start
              → g.since x.0 t c → s.past t c ⊎ LeavesFrom s.before x.1 c)
              (λ i. (sym leaves.same i, sym same i)) book.earlier;
        }

    -- a call that offered an ask's entry: it hangs only where it wasn't added
    book_offer : (entry : Entry) (by : ℕ) (ask : Ask) (old new : Store D)
        → added s.limit (entries_of old) by ask ≡ Some entry
        → IsPrefixOf s.before (entries_of old) → IsPrefixOf (entries_of old) (entries_of new)
        → HasBookSince g s old → OffersEntry g entry old new
        → (Hangs new → entries_of new ≡ entries_of old) → ImagesHoldBook g new
        → HasBookSince g s new
    book_offer entry by ask old new adds opened begins book offer unless images =
        book_on old new
        (λ c. HoldsOrHangs g old c ⊎ HoldsBook (entries_of old ++ entry ∷ []) c)
        opened begins book offer.has
        (λ hung hangs. subst (λ (es : List Entry). IsOffered s.limit es hung)
        (sym (unless hangs.row.hangs))
        (⊎_elim (λ is. subst (IsOffered s.limit (entries_of old)) (sym is)
        (record { by = by; ask = ask; adds = adds; lawful = offer.lawful }))
        (λ is. book.hung hung is) (offer.hung hung hangs)))
        (λ c is. ⊎_elim (λ was. holds_lawful old c book was)
        (λ stands. inr (entry, offer.lawful, stands)) is)
        offer.moments images

    -- an ask, by what it offers
    book_asked : (by : ℕ) (ask : Ask) (old new : Store D) (result : Result Answered AskError)
        (offered : Option Entry) → added s.limit (entries_of old) by ask ≡ offered
        → IsPrefixOf s.before (entries_of old)
        → entries_of new ≡ list_behind result (entries_of old) offered → Offers g offered old new
        → (IsSome offered → OnOk result (¬ Hangs new)) → ImagesHoldBook g new
        → HasBookSince g s old → HasBookSince g s new
    book_asked by ask old new (Ok answered) None adds opened is offers settled images book =
        book_still old new is offers images book
    book_asked by ask old new (Err why) None adds opened is offers settled images book =
        book_still old new is offers images book
    book_asked by ask old new (Ok answered) (Some entry) adds opened is offers settled images book =
        book_offer entry by ask old new adds opened (entry ∷ [], is) book (offers book.has)
        (λ hangs. absurd (settled refl hangs)) images
    book_asked by ask old new (Err why) (Some entry) adds opened is offers settled images book =
        book_offer entry by ask old new adds opened (begins_same (entries_of old) (entries_of new) is)
        book (offers book.has) (λ hangs. is) images

    -- a store as its session begins
    pub kept_first : ((d : D) (c : List ℕ) → g.since d (g.time d) c → g.image d c)
        → (store : Store D) → IsSound g store → Begins g s store → IsKeptSince g s store
    kept_first only_now store sound first =
        record {
          sound = sound;
          balanced = balanced (entries_of store);
          begins = begins_same s.before (entries_of store) (sym first.rows);
          limit = sym first.limit;
          held = sym first.held;
          room = omega (arith, first.spare, ap length first.rows);
          fault = inl (first.calm, sym first.faults);
          book = λ rests.
              let it = first.rests.0 rests in record {
                has = it.has;
                later = omega (arith, first.start);
                hung = λ entry hangs. absurd (first.calm hangs.row.hangs);
                images = λ c image. inl (it.images c image);
                each = λ c was. leaves_front s.before (entries_of store) (entries_of store) c
                    (begins_same s.before (entries_of store) (sym first.rows))
                    (begins_same (entries_of store) (entries_of store) refl)
                    (inl (it.images c (only_now (disk_of store) c
                    (subst (λ (t : ℕ). g.since (disk_of store) t c) first.start was))));
                earlier = λ t c le was. inl ((first.past t c).1 was);
              };
        }

    -- a weighing finds no memory only where the session has used its room
    pub used_room : (old : Store D) (by : ℕ) (ask : Ask) (w : Want) → IsKeptSince g s old
        → MayLackMemory (book_of old) by ask w → weighs w ≡ true
        → s.spare + length s.before ≤ length (entries_of old)
    used_room old by ask (want.Act act) kept lacks is =
        omega (arith, kept.room, lacks.1 is)
    used_room old by ask (want.Question question) kept lacks is = absurd (cc)

    pub no_memory : (old : Store D) (by : ℕ) (ask : Ask) (new : Option Entry)
        (result : Result Answered AskError) (wanted : Result Answered Refused)
        → IsKeptSince g s old → GivesAnswer (book_of old) by ask new result wanted
        → result ≡ Err error.NoMemory → weighs ask.want ≡ true
        → s.spare + length s.before ≤ length (entries_of old)
    no_memory old by ask new (Err error.NoMemory) wanted kept gives is weighed =
        used_room old by ask ask.want kept gives weighed
    no_memory old by ask new (Err error.DiskFault) wanted kept gives is weighed = absurd (cc)
    no_memory old by ask new (Err (error.Refused why)) wanted kept gives is weighed = absurd (cc)
    no_memory old by ask new (Ok answered) wanted kept gives is weighed = absurd (cc)

    -- a store behind an ask
    pub kept_asked : (by : ℕ) (ask : Ask) (old new : Store D) (result : Result Answered AskError)
        (offered : Option Entry) → added (limit_of old) (entries_of old) by ask ≡ offered
        → entries_of new ≡ list_behind result (entries_of old) offered
        → Offers g offered old new → (IsSome offered → OnOk result (¬ Hangs new))
        → ImagesHoldBook g new → (Hangs new → (result ≡ Err error.DiskFault) ⊎ Hangs old)
        → CountsDiskFault (g.faults (disk_of old)) (g.faults (disk_of new)) result
        → limit_of new ≡ limit_of old → held_of new ≡ held_of old
        → spare_of old + length (entries_of old) ≤ spare_of new + length (entries_of new)
        → IsSound g new → IsKeptSince g s old → IsKeptSince g s new
    kept_asked by ask old new result offered adds is offers settled images hangs cause limit held
        spare sound kept =
        record {
          sound = sound;
          balanced = balanced (entries_of new);
          limit = limit ∙ kept.limit;
          held = held ∙ kept.held;
          room = omega (arith, kept.room, spare);
          begins = begins_on s.before (entries_of old) (entries_of new) kept.begins
              (asked_begins result (entries_of old) (entries_of new) offered is);
          fault = fault_asked s.faults old new result hangs cause kept.fault;
          book = λ rests. book_asked by ask old new result offered
              (subst (λ (n : ℕ). added n (entries_of old) by ask ≡ offered) kept.limit adds)
              kept.begins is offers settled images (kept.book rests);
        }

    -- what a crash leaves of the book of a session is what it may leave of the whole run, whose
    -- moments before the session were told as it began
    moments_on : (held : List Entry) (start : D) (first last : Store D)
        → s.before ≡ entries_of first → s.start ≡ g.time (disk_of first)
        → ((t : ℕ) (c : List ℕ) → s.past t c → g.since (disk_of first) t c)
        → KeepsRun g held start first → IsPrefixOf s.before (entries_of last)
        → HasBookSince g s last
        → KeepsFromSync g start (disk_of last) (LeavesFrom held (entries_of last))
    moments_on held start first last rows began past run begins book =
        let opened : IsPrefixOf held s.before = subst (IsPrefixOf held) (sym rows) run.begins in
        let front : IsPrefixOf (entries_of first) (entries_of last) =
        subst (λ (es : List Entry). IsPrefixOf es (entries_of last)) rows begins in
        let more : (c : List ℕ) → LeavesFrom held (entries_of first) c
        → LeavesFrom held (entries_of last) c =
        λ c is. leaves_of_more held (entries_of first) (entries_of last) c front is in
        let on : (t : ℕ) (c : List ℕ) → t ≤ g.time (disk_of first) → g.since (disk_of last) t c
        → g.since (disk_of first) t c ⊎ LeavesFrom held (entries_of last) c =
        λ t c le was. ⊎_elim (λ is. inl (past t c is))
        (λ is. inr (leaves_earlier held s.before (entries_of last) c opened is))
        (book.earlier t c (omega (arith, le, began)) was) in
        let was_synced = run.moments in
        record {
          synced = was_synced.synced;
          after = was_synced.after;
          before = omega (arith, was_synced.before, began, book.later);
          each = λ c was. ⊎_elim (λ is. more c (was_synced.each c is)) (λ is. is)
              (on was_synced.synced c was_synced.before was);
          handed_in = λ c was. ⊎_elim
              (λ is. ⊎_elim (λ image. inl image) (λ left. inr (more c left))
              (was_synced.handed_in c is))
              (λ is. inr is)
              (on (g.time start) c (omega (arith, was_synced.after, was_synced.before)) was);
          earlier = λ t c le was. ⊎_elim
              (λ is. ⊎_elim (λ told. inl told) (λ left. inr (more c left))
              (was_synced.earlier t c le is))
              (λ is. inr is)
              (on t c (omega (arith, le, was_synced.after, was_synced.before)) was);
        }

    -- what hangs at the end is an ask's entry, and the disk failed
    hung_on : (start : D) (last : Store D) (entry : Entry)
        → (s.faults ≡ g.faults start) ⊎ Rose (g.faults start) s.faults
        → FailedSince s.faults last → HasBookSince g s last → HangsWith g last entry
        → Rose (g.faults start) (g.faults (disk_of last))
        × IsOffered s.limit (entries_of last) entry
    hung_on start last entry before (inl calm) book hangs = absurd (calm.0 hangs.row.hangs)
    hung_on start last entry before (inr rose) book hangs = (
      rose_behind (g.faults start) s.faults (g.faults (disk_of last)) before rose,
      book.hung entry hangs,
    )

    -- the disk's count stayed, or it rose, with the session
    faults_on : (start : D) (last : Store D)
        → (s.faults ≡ g.faults start) ⊎ Rose (g.faults start) s.faults
        → FailedSince s.faults last
        → (g.faults (disk_of last) ≡ g.faults start)
        ⊎ Rose (g.faults start) (g.faults (disk_of last))
    faults_on start last before (inr rose) =
        inr (rose_behind (g.faults start) s.faults (g.faults (disk_of last)) before rose)
    faults_on start last (inl same) (inl calm) = inl (calm.1 ∙ same)
    faults_on start last (inr rose) (inl calm) =
        inr (subst (Rose (g.faults start)) (sym calm.1) rose)

    -- the whole run with a session, from what is kept at its end
    pub run_on : (held : List Entry) (start : D) (first last : Store D) → Begins g s first
        → RestsOnDisk g first → IsKeptSince g s last → KeepsRun g held start first
        → KeepsRun g held start last
    run_on held start first last names rests kept run =
        let rows = names.rows in
        let began = names.start in
        let faults = names.faults in
        let past : (t : ℕ) (c : List ℕ) → s.past t c → g.since (disk_of first) t c =
        λ t c was. (names.past t c).0 was in
        let book = kept.book (names.rests.1 rests) in
        let before : (s.faults ≡ g.faults start) ⊎ Rose (g.faults start) s.faults =
        subst (λ (n : ℕ). (n ≡ g.faults start) ⊎ Rose (g.faults start) n) (sym faults) run.faults in
        let hung : HungRight start last =
        λ entry hangs. subst (λ (n : ℕ). Rose (g.faults start) (g.faults (disk_of last))
        × IsOffered n (entries_of last) entry) (sym kept.limit)
        (hung_on start last entry before kept.fault book hangs) in
        record {
          has = book.has;
          begins = begins_on held s.before (entries_of last)
              (subst (IsPrefixOf held) (sym rows) run.begins) kept.begins;
          faults = faults_on start last before kept.fault;
          hung = hung;
          moments = moments_on held start first last rows began past run kept.begins book;
          end = at_end start last book.has hung book.images;
        }

  -- ---- a snapshot behind a session

  -- a whole run goes on over it
  pub run_rested : (held : List Entry) (start : D) (old new : Store D)
      → book_of new ≡ book_of old → (HasBook g old → KeepsBook g old new)
      → ImagesHoldBook g new
      → (g.faults (disk_of new) ≡ g.faults (disk_of old))
      ⊎ Counted (g.faults (disk_of old)) (g.faults (disk_of new)) 1
      → KeepsRun g held start old → KeepsRun g held start new
  run_rested held start old new same keeps images counted run =
      let rested = keeps run.has in
      let entries : entries_of new ≡ entries_of old = ap (λ (b : BookView). b.entries) same in
      let front = begins_same (entries_of old) (entries_of new) entries in
      let rises : Rose (g.faults start) (g.faults (disk_of old))
      → Rose (g.faults start) (g.faults (disk_of new)) =
      λ rose. ⊎_elim (λ is. subst (Rose (g.faults start)) (sym is) rose)
      (λ more. rose_on (g.faults start) (g.faults (disk_of old)) (g.faults (disk_of new)) more
      (inr rose))
      counted in
      let hung : HungRight start new =
      λ entry hangs. let was = run.hung entry (rested.hung entry hangs) in (
        rises was.0,
        subst (λ (b : BookView). IsOffered b.limit b.entries entry) (sym same) was.1,
      ) in
      record {
        has = rested.has;
        begins = subst (IsPrefixOf held) (sym entries) run.begins;
        faults = ⊎_elim
            (λ is. ⊎_elim (λ stayed. inl (is ∙ stayed)) (λ rose. inr (rises rose)) run.faults)
            (λ more. inr (rose_on (g.faults start) (g.faults (disk_of old))
            (g.faults (disk_of new)) more run.faults))
            counted;
        hung = hung;
        moments = synced_on g start (disk_of old) (disk_of new) (LeavesFrom held (entries_of old))
            (HoldsOrHangs g old) (LeavesFrom held (entries_of new))
            (λ c left. leaves_of_more held (entries_of old) (entries_of new) c front left)
            (λ c was. leaves_front held (entries_of old) (entries_of new) c run.begins front
            (⊎_elim (λ holds. inl holds)
            (λ hangs. inr (hangs.0, (run.hung hangs.0 hangs.1).1.lawful, hangs.2)) was))
            run.moments rested.moments;
        end = at_end start new rested.has hung (images rested.has);
      }
