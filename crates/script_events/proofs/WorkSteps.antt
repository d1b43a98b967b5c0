-- What the work of a lane makes of the book of a caller that has it for itself.
use Rattle.std.proofs.Common.{◌≡◌, ◌⊎◌, inl, inr, ⊎_elim, ℕ, zero, suc, ◌+◌, ◌≤◌, min, List, [], ◌∷◌, ◌++◌, length, map, drop, Option, Some, None, option_map, IsSome, Result, Ok, Err, OnOk, Contains, refl, sym, ◌∙◌, ap, subst, arith, append-nil, length-append}
use Rattle.std.specs.Bool.{⊤}
use Rattle.std.specs.List.{cons_option, AllByRecursion}
use Rattle.device_facts.specs.Prefix.{IsPrefixOf}
use Rattle.disk_core.specs.Disk.{WhereTold}
use Rattle.disk_core.specs.declared.disk.Disk as disk
use Rattle.book_words.specs.declared.name.Name.{Name}
use Rattle.book_words.specs.declared.act.Ask.{Ask}
use Rattle.book_words.specs.declared.act.Entry.{Entry}
use Rattle.book_words.specs.declared.caller.AskError.{AskError}
use Rattle.book_words.specs.declared.caller.AskError.TheVariants as error
use Rattle.book_words.specs.Answers.{answer, added}
use Rattle.book_words.specs.declared.reply.Refused.{Refused}
use Rattle.book_words.specs.Callers.{Known, FAULTS_END, HasAnswer, MayFindNoMemory, IsAsked, row_added}
use Rattle.book_words.specs.Desks.{Row}
use Rattle.store_runs.specs.Callers.{CallerView, own_rows, known_of, IsReachedBy}
use Rattle.store_runs.specs.CallerLaws.{is_reached}
use Rattle.store_runs.specs.Stores.{book_of, entries_of, limit_of}
use Rattle.store_runs.proofs.CallerSteps.{refused_adds}
use Rattle.lane_worker.specs.declared.ending.WeighingEnd.{WeighingEnd}
use Rattle.lane_worker.specs.declared.ending.WeighingEnd.TheVariants as ends
use Rattle.lane_worker.specs.declared.ending.LaneStop.{LaneStop}
use Rattle.lane_worker.specs.declared.ending.LaneEnd.{LaneEnd}
use Rattle.lane_worker.specs.Endings.{weighing_stop, ask_stop, faults_at}
use Rattle.lane_worker.specs.Works.{Site, HasAdded, BreaksOff, asks_of_work, IsWork}
use Rattle.store_runs.specs.declared.stop.Stop.{Stop}
use Rattle.store_runs.specs.declared.stop.Stop.TheVariants.{NoMemory}
use Rattle.store_runs.specs.Books.{BookState, stored_book}
use Rattle.store_runs.specs.Runs.{Goes}
use Rattle.store_runs.proofs.StoreSteps.{goes_on, goes_with}
use Rattle.store_runs.proofs.CallerGoes.{same_list, goes_reached, goes_failed}
use Rattle.script_events.specs.LaneWorks.{LaneState, AreNumbered, book_behind, step_behind, MayHaveError, IsFinished, IsBrokenOff, IsWorked}
use Rattle.script_events.proofs.FilledRows.{have_room, are_numbered, are_own, are_all, goes_by}

-- a caller was answered some asks, and then an error to the next
pub record Broke {D : Type 0} (g : disk.Ghosts D) (old new : CallerView D) (answered : List Ask)
    (next : Ask) (why : AskError) : Type 0 where
  pub between : CallerView D
  pub before : IsReachedBy g old between answered
  pub later : IsReachedBy g between new (next ∷ [])
  pub answer : IsAsked (known_of between) (known_of new) next (Err why)

-- ---- the rows

module _ {D : Type 0} (g : disk.Ghosts D) (old new : CallerView D) (asks : List Ask)
    (reached : IsReachedBy g old new asks) (asked : List Entry) (rows : List Row)
    (added_rows : HasAdded (known_of old) (known_of new) asked rows) where
  -- the list grew by as many rows as were added
  grew : length (entries_of new.store) ≡ length (entries_of old.store) + length rows
  grew =
      let own : own_rows old.by (entries_of new.store)
      ≡ own_rows old.by (entries_of old.store) ++ rows =
      ap (λ (n : ℕ). own_rows n (entries_of new.store)) (sym reached.by) ∙ added_rows.mine in
      omega (
        arith,
        reached.alone,
        ap length own,
        length-append (own_rows old.by (entries_of old.store)) rows,
      )

  pub asked_is : asked ≡ entries_of old.store
  asked_is =
      let short = prefix_short asked (entries_of new.store) added_rows.after in
      let room = have_room (entries_of new.store) old.by (length asked) rows short added_rows.stand in
      same_list (entries_of old.store) asked added_rows.before (omega (arith, room, grew))
    where
      prefix_short : (a b : List Entry) → IsPrefixOf a b → length a ≤ length b
      prefix_short a b begins = omega (arith, ap length begins.1, length-append a begins.0)

  fills : length asked + length rows ≡ length (entries_of new.store)
  fills = omega (arith, ap length asked_is, grew)

  pub numbers : AreNumbered (length (entries_of old.store)) rows
  numbers = subst (λ (n : ℕ). AreNumbered n rows) (ap length asked_is)
      (are_numbered (entries_of new.store) old.by (length asked) rows added_rows.stand fills)

  pub own : AllByRecursion (λ row. row.entry.by ≡ old.by) rows
  own = are_own (entries_of new.store) old.by (length asked) rows added_rows.stand

  pub entries_left : entries_of new.store ≡ entries_of old.store ++ map (λ row. row.entry) rows
  entries_left = goes_by (entries_of old.store) (entries_of new.store) reached.begins
      ∙ ap (λ (es : List Entry). entries_of old.store ++ es)
      (ap (λ (es : List Entry). drop (length es) (entries_of new.store)) (sym asked_is)
      ∙ are_all (entries_of new.store) old.by (length asked) rows added_rows.stand fills)

  pub book_left : stored_book new.store ≡ book_behind (stored_book old.store) rows
  book_left = λ i. record { limit = reached.limit i; entries = entries_left i }

-- ---- an ask that has an error

-- a step that adds no row of the caller's adds none
none_more : {D : Type 0} (g : disk.Ghosts D) (mid new : CallerView D) (asks : List Ask)
    → IsReachedBy g mid new asks → (known_of new).mine ≡ (known_of mid).mine
    → entries_of new.store ≡ entries_of mid.store
none_more g mid new asks reached mine =
    let own : own_rows mid.by (entries_of new.store) ≡ own_rows mid.by (entries_of mid.store) =
    ap (λ (n : ℕ). own_rows n (entries_of new.store)) (sym reached.by) ∙ mine in
    same_list (entries_of mid.store) (entries_of new.store) reached.begins
    (omega (arith, reached.alone, ap length own))

module _ {D : Type 0} (g : disk.Ghosts D) (mid new : CallerView D) (next : Ask)
    (later : IsReachedBy g mid new (next ∷ [])) where
  -- a refused ask is refused at the book that is left
  refused_at : (refused : Refused) → HasAnswer (known_of mid) (known_of new) next (Err refused)
      → answer (limit_of new.store) (entries_of new.store) next ≡ Err refused
  refused_at refused has =
      let before = has.right.before in
      let none : added (limit_of mid.store) before mid.by next ≡ None =
      refused_adds (record (book_of mid.store) { entries = before }) mid.by next
      (Err (error.Refused refused)) refused (sym has.right.answered) refl in
      let row : row_added (limit_of mid.store) before mid.by next ≡ None =
      ap (option_map (λ entry. record { number = length before + 1; entry = entry })) none in
      let mine : (known_of new).mine ≡ (known_of mid).mine = has.mine
      ∙ ap (λ (o : Option Row). (known_of mid).mine ++ cons_option o []) row
      ∙ append-nil (known_of mid).mine in
      let same = none_more g mid new (next ∷ []) later mine in
      let parts : entries_of new.store ≡ before ++ has.right.after = has.right.parts
      ∙ ap (λ (o : Option Entry). before ++ cons_option o has.right.after) none in
      let all : entries_of new.store ≡ before =
      same_list before (entries_of new.store) (has.right.after, parts)
      (omega (
        arith,
        ap length same,
        ap length has.grows,
        length-append (entries_of mid.store) has.unseen,
      )) in
      (λ i. answer (later.limit i) (all i) next) ∙ has.right.answered

  pub cause_of : (lane : ℕ) → mid.by ≡ lane → (why : AskError)
      → IsAsked (known_of mid) (known_of new) next (Err why)
      → MayHaveError (stored_book new.store) lane next why
  cause_of lane by (error.Refused refused) asked = refused_at refused asked.says
  cause_of lane by error.DiskFault asked =
      subst (λ (n : ℕ). IsSome (added (limit_of new.store) (entries_of new.store) n next))
      (later.by ∙ by) asked.says.1
  cause_of lane by error.NoMemory asked =
      subst (λ (n : ℕ). MayFindNoMemory next.want
      (added (limit_of new.store) (entries_of new.store) n next)) (later.by ∙ by) asked.says.1

  -- the ask at which the disk failed is this one
  pub failed_is : (why : AskError) → IsAsked (known_of mid) (known_of new) next (Err why)
      → new.faults ≤ 1 → why ≡ error.DiskFault → new.failed ≡ Some next
  failed_is error.DiskFault asked few is = ⊎_elim
      (λ stays. absurd (omega (arith, stays.0, asked.faults, few)))
      (λ rose. rose.3 ∙ ap (λ (a : Ask). Some a) (sym (only rose.1 rose.2)))
      later.failed
    where
      only : (ask : Ask) → Contains (next ∷ []) ask → next ≡ ask
      only ask (zero, less, at) = at
      only ask (suc k, less, at) = absurd (omega (arith, less))
  failed_is (error.Refused refused) asked few is = absurd (cc)
  failed_is error.NoMemory asked few is = absurd (cc)

-- ---- the store

module _ {D : Type 0} (g : disk.Ghosts D) (reads_image : (d : D) → WhereTold (g.reads d) (g.image d))
    (only_now : (d : D) (c : List ℕ) → g.since d (g.time d) c → g.image d c)
    (old new : CallerView D) (calm : old.faults ≡ 0) where
  pub goes_finished : (asks : List Ask) → IsReachedBy g old new asks → new.faults ≡ 0
      → Goes {T = ⊤} g (Ok tt) old.store new.store
  goes_finished asks reached calm_now =
      goes_reached g reads_image only_now old new asks reached calm calm_now tt

  both_asked : (answered : List Ask) (next : Ask) (why : AskError) → Broke g old new answered next why
      → IsReachedBy g old new (answered ++ next ∷ [])
  both_asked answered next why broke = (is_reached {g = g}).by_both old broke.between new answered
      (next ∷ []) broke.before broke.later

  pub goes_broken : (lane : ℕ) → old.by ≡ lane → (answered : List Ask) (next : Ask) (why : AskError)
      → Broke g old new answered next why
      → new.faults ≡ min (old.faults + faults_at (ask_stop why)) FAULTS_END
      → Goes g (step_behind lane next why) old.store new.store
  goes_broken lane by answered next (error.Refused refused) broke faults =
      goes_finished (answered ++ next ∷ []) (both_asked answered next (error.Refused refused) broke)
      (omega (arith, calm, faults))
  goes_broken lane by answered next error.NoMemory broke faults =
      let goes = goes_finished (answered ++ next ∷ [])
      (both_asked answered next error.NoMemory broke) (omega (arith, calm, faults)) in
      goes_with {T = ⊤} g tt (Err NoMemory) old.store new.store goes goes.cause (λ is. absurd (cc))
  goes_broken lane by answered next error.DiskFault broke faults =
      let mid = broke.between in
      let one : new.faults ≡ 1 = omega (arith, calm, faults) in
      let none : mid.faults ≡ 0 = omega (arith, broke.answer.faults, one) in
      let same = none_more g mid new (next ∷ []) broke.later broke.answer.says.0.mine in
      goes_on {T = ⊤} g tt (step_behind lane next error.DiskFault) old.store mid.store new.store
      (goes_reached g reads_image only_now old mid answered broke.before calm none tt)
      (goes_failed g reads_image only_now mid new next broke.later none one same lane
      (broke.before.by ∙ by))

-- ---- the whole work

-- what a break says may be said in other words
pub with_broke : {Reached : List Ask → Type 0} {One Other : List Ask → Ask → AskError → Type 0}
    (was now : Site) (lane : ℕ) (batch : Name) (end : LaneEnd)
    → ((answered : List Ask) (next : Ask) (why : AskError) → One answered next why
    → Other answered next why)
    → IsWork Reached One was now lane batch end → IsWork Reached Other was now lane batch end
with_broke was now lane batch end said is =
    record {
      work = is.work;
      added = is.added;
      legal = is.legal;
      faults = is.faults;
      given = is.given;
      opened = is.opened;
      count = is.count;
      places = is.places;
      accepted = is.accepted;
      done = is.done;
      stops = ⊎_elim
          (λ done. inl done)
          (λ broke. inr (record {
            next = broke.next;
            why = broke.why;
            told = broke.told;
            first = broke.first;
            broke = said is.work.answered broke.next broke.why broke.broke;
          }))
          is.stops;
    }

abbrev pub site_with : Known → LaneState → Site
site_with known lane =
    record {
      caller = known;
      feed = lane.feed;
      cell_faults = lane.cell_faults;
      opened = lane.opened;
      gate_faults = lane.gate_faults;
    }

module _ {D : Type 0} (g : disk.Ghosts D) (reads_image : (d : D) → WhereTold (g.reads d) (g.image d))
    (only_now : (d : D) (c : List ℕ) → g.since d (g.time d) c → g.image d c)
    (old new : CallerView D) (was now : LaneState) (lane : ℕ) (batch : Name) (end : LaneEnd)
    (step : Result ⊤ Stop) (calm : old.faults ≡ 0) (by : old.by ≡ lane)
    (is : IsWork (IsReachedBy g old new) (Broke g old new) (site_with (known_of old) was)
    (site_with (known_of new) now) lane batch end)
    (goes_so : (ending : WeighingEnd) → end.stop ≡ weighing_stop ending → step ≡ Ok tt)
    (stops_so : (next : Ask) (why : AskError) → end.stop ≡ ask_stop why
    → (why ≡ error.DiskFault → new.failed ≡ Some next) → step ≡ step_behind lane next why) where
  abbrev asks : List Ask
  asks = asks_of_work lane batch is.work

  none_at : (ending : WeighingEnd) → faults_at (weighing_stop ending) ≡ 0
  none_at ends.End = refl
  none_at (ends.Change batch line) = refl
  none_at (ends.Bad line) = refl
  none_at ends.Spent = refl
  none_at ends.CellFailed = refl
  none_at ends.GateFailed = refl

  few_at : (why : AskError) → faults_at (ask_stop why) ≤ 1
  few_at (error.Refused refused) = omega arith
  few_at error.DiskFault = omega arith
  few_at error.NoMemory = omega arith

  calm_after : (ending : WeighingEnd) → end.stop ≡ weighing_stop ending → new.faults ≡ 0
  calm_after ending told =
      omega (arith, calm, is.faults, ap faults_at told, none_at ending)

  faults_after : (why : AskError) → end.stop ≡ ask_stop why
      → new.faults ≡ min (old.faults + faults_at (ask_stop why)) FAULTS_END
  faults_after why told =
      subst (λ (s : LaneStop). new.faults ≡ min (old.faults + faults_at s) FAULTS_END) told is.faults

  few_after : (why : AskError) → end.stop ≡ ask_stop why → new.faults ≤ 1
  few_after why told = omega (arith, calm, faults_after why told, few_at why)

  step_after : (broke : BreaksOff (Broke g old new) asks is.work end.stop)
      → step ≡ step_behind lane broke.next broke.why
  step_after broke = stops_so broke.next broke.why broke.told
      (failed_is g broke.broke.between new broke.next broke.broke.later broke.why
      broke.broke.answer (few_after broke.why broke.told))

  work_by : (all : List Ask) → IsReachedBy g old new all
      → IsFinished asks is.work end.stop step
      ⊎ IsBrokenOff (book_behind (stored_book old.store) is.work.rows) lane asks is.work end.stop step
      → IsWorked (stored_book old.store) (stored_book new.store) was now lane batch end step
  work_by all reached ended =
      record {
        work = is.work;
        works = record {
          asked = asked_is g old new all reached is.work.asked is.work.rows is.added;
          numbers = numbers g old new all reached is.work.asked is.work.rows is.added;
          own = subst (λ (n : ℕ). AllByRecursion (λ row. row.entry.by ≡ n) is.work.rows) by
              (own g old new all reached is.work.asked is.work.rows is.added);
          accepted = is.accepted;
          passed = is.opened.passed;
          count = is.count;
          ends = ended;
        };
        left = book_left g old new all reached is.work.asked is.work.rows is.added;
        moved = record {
          items = is.given.items;
          cell = is.given.faults;
          opened = is.opened.grows;
          gate = is.opened.faults;
        };
      }

  pub works : IsWorked (stored_book old.store) (stored_book new.store) was now lane batch end step
  works = ⊎_elim
      (λ done. work_by is.work.answered done.later
      (inl (record {
        ending = done.ending;
        ended = done.ended;
        told = done.told;
        whole = done.whole;
        goes_on = goes_so done.ending done.told;
      })))
      (λ broke.
      let all = both_asked g reads_image only_now old new calm is.work.answered broke.next broke.why
      broke.broke in
      work_by (is.work.answered ++ broke.next ∷ []) all
      (inr (record {
        next = broke.next;
        why = broke.why;
        told = broke.told;
        first = broke.first;
        cause = subst (λ (b : BookState). MayHaveError b lane broke.next broke.why)
            (book_left g old new (is.work.answered ++ broke.next ∷ []) all is.work.asked is.work.rows
            is.added)
            (cause_of g broke.broke.between new broke.next broke.broke.later lane
            (broke.broke.before.by ∙ by) broke.why broke.broke.answer);
        goes_on = step_after broke;
      })))
      is.stops

  pub goes : Goes g step old.store new.store
  goes = ⊎_elim
      (λ done. subst (λ (s : Result ⊤ Stop). Goes g s old.store new.store)
      (sym (goes_so done.ending done.told))
      (goes_finished g reads_image only_now old new calm is.work.answered done.later
      (calm_after done.ending done.told)))
      (λ broke. subst (λ (s : Result ⊤ Stop). Goes g s old.store new.store)
      (sym (step_after broke))
      (goes_broken g reads_image only_now old new calm lane by is.work.answered broke.next broke.why
      broke.broke (faults_after broke.why broke.told)))
      is.stops

  -- a run goes on behind it only where no fault was answered
  calm_by : (why : AskError) (next : Ask) → end.stop ≡ ask_stop why
      → OnOk (step_behind lane next why) (new.faults ≡ 0)
  calm_by (error.Refused refused) next told = omega (arith, calm, faults_after (error.Refused refused) told)
  calm_by error.DiskFault next told = tt
  calm_by error.NoMemory next told = tt

  pub calm_on : OnOk step (new.faults ≡ 0)
  calm_on = ⊎_elim
      (λ done. subst (λ (s : Result ⊤ Stop). OnOk s (new.faults ≡ 0))
      (sym (goes_so done.ending done.told)) (calm_after done.ending done.told))
      (λ broke. subst (λ (s : Result ⊤ Stop). OnOk s (new.faults ≡ 0)) (sym (step_after broke))
      (calm_by broke.why broke.next broke.told))
      is.stops
