-- A work that was done, as it looks beside other callers.
use Rattle.std.proofs.Common.{◌≡◌, inl, inr, ⊎_elim, ℕ, ◌+◌, ◌<◌, ◌≤◌, min, true, false, List, [], ◌∷◌, ◌++◌, length, Option, Some, None, Err, refl, ◌∙◌, ap, arith}
use Rattle.disk_core.specs.declared.source.Source as source
use Rattle.disk_core.specs.declared.door.Door as door
use Rattle.book_words.specs.declared.act.Ask.{Ask}
use Rattle.book_words.specs.declared.name.Name.{Name}
use Rattle.book_words.specs.declared.act.Want.{Want}
use Rattle.book_words.specs.declared.act.Want.TheVariants as want
use Rattle.book_words.specs.declared.caller.AskError.{AskError}
use Rattle.book_words.specs.declared.caller.AskError.TheVariants as error
use Rattle.book_words.specs.Callers.{Known, FAULTS_END, HasNoAnswer, IsAsked, MayFindNoMemory, entry_offered}
use Rattle.lane_worker.specs.declared.cell.Cell as cell
use Rattle.lane_worker.specs.declared.gate.Gate as gate
use Rattle.lane_worker.specs.Works as lanes
use Rattle.lane_worker.specs.declared.ending.LaneEnd.{LaneEnd}
use Rattle.lane_worker.specs.Works.{IsWork}
use Rattle.lane_changes.specs.Stints.{Stint, WorkStint, WaitStint, FailedStint}
use Rattle.lane_changes.specs.Changes.{DidOnce, Did}
use Rattle.office_door.specs.Doors as doors
use Rattle.book_words.specs.declared.act.Entry.{Entry}
use Rattle.shared_book.specs.declared.session.Session as session
use Rattle.shared_book.specs.Passes.{FoundNoMemory, HasUsedRoom, IsReachedBy, known_of, room_of}
use Rattle.shared_book.proofs.MetPasses.{met_by_asks, used_by_ask}
use Rattle.turn_pass.specs.History.{PassState}
use Rattle.shared_book.specs.Sessions.{weighs}
use Rattle.session_jobs.specs.declared.work.Work.{Work}
use Rattle.session_jobs.specs.declared.work.Work.TheVariants.{Lane, Door}
use Rattle.session_jobs.specs.Works.{lane_site, door_site, IsDone, IsWorkedFor}
use Rattle.session_jobs.specs.Runs.{BrokeBefore, BrokeBetween, IsDoneBesideOthers, IsDoneByCaller, AnyAsks, AnyBetween}

-- ---- what is told of asks

-- of what the asks of a work were this may be told instead
work_as : (Reached Told : List Ask → Type 0) (Broke Tells : List Ask → Ask → AskError → Type 0)
    (was now : lanes.Site) (lane : ℕ) (batch : Name) (end : LaneEnd)
    → ((asks : List Ask) → Reached asks → Told asks)
    → ((answered : List Ask) (next : Ask) (why : AskError) → Broke answered next why
    → Tells answered next why)
    → IsWork Reached Broke was now lane batch end → IsWork Told Tells was now lane batch end
work_as Reached Told Broke Tells was now lane batch end told broke is = record {
  work = is.work;
  added = is.added;
  legal = is.legal;
  faults = is.faults;
  given = is.given;
  opened = is.opened;
  count = is.count;
  places = is.places;
  accepted = is.accepted;
  done = is.done;
  stops = ⊎_elim
      (λ f. inl (record {
        ending = f.ending;
        ended = f.ended;
        told = f.told;
        whole = f.whole;
        later = told is.work.answered f.later;
      }))
      (λ b. inr (record {
        next = b.next;
        why = b.why;
        told = b.told;
        first = b.first;
        broke = broke is.work.answered b.next b.why b.broke;
      })) is.stops;
}

-- and so of those of a lane that changes its batch
module _ (Went Tells : Known → Known → List Ask → Type 0)
    (BrokeOn Breaks : Known → Known → List Ask → Ask → AskError → Type 0) (lane : ℕ)
    (told : (was now : Known) (asks : List Ask) → Went was now asks → Tells was now asks)
    (broke : (was now : Known) (answered : List Ask) (next : Ask) (why : AskError)
    → BrokeOn was now answered next why → Breaks was now answered next why) where
  once_as : (was : lanes.Site) (stint : Stint) (now : lanes.Site)
      → DidOnce Went BrokeOn lane was stint now → DidOnce Tells Breaks lane was stint now
  unfolding work_as
  once_as was (WorkStint did) now once = record {
    is = work_as (Went was.caller now.caller) (Tells was.caller now.caller)
        (BrokeOn was.caller now.caller) (Breaks was.caller now.caller) was now lane did.batch did.end
        (told was.caller now.caller) (broke was.caller now.caller) once.is;
    work = once.work;
  }
  once_as was (WaitStint given) now once = once
  once_as was FailedStint now once = once

  did_as : (was : lanes.Site) (stints : List Stint) (now : lanes.Site)
      → Did Went BrokeOn lane was stints now → Did Tells Breaks lane was stints now
  did_as was [] now did = did
  did_as was (stint ∷ stints) now did =
      (did.0, once_as was stint did.0 did.1, did_as did.0 stints now did.2)

-- of what the asks of a caller were this may be told instead
module _ {L O : Type 0} (Reached Told : List Ask → Type 0)
    (Broke : List Ask → Ask → AskError → Type 0) (Went : Known → Known → List Ask → Type 0)
    (BrokeOn : Known → Known → List Ask → Ask → AskError → Type 0) (room : ℕ)
    (lane_at : Known → L → lanes.Site) (door_at : Known → O → doors.Site) (first last : Known)
    (told : (asks : List Ask) → Reached asks → Told asks)
    (broke : (answered : List Ask) (next : Ask) (why : AskError) → Broke answered next why
    → BrokeBefore Told room first last answered next why)
    (broke_on : (was now : Known) (answered : List Ask) (next : Ask) (why : AskError)
    → BrokeOn was now answered next why → BrokeBetween room was now answered next why) where
  lane_beside : (was now : lanes.Site) (lane : ℕ) (batch : Option Name) (end : LaneEnd)
      → IsWorkedFor Reached Broke Went BrokeOn was now lane batch end
      → IsWorkedFor Told (BrokeBefore Told room first last) AnyBetween (BrokeBetween room) was now
      lane batch end
  lane_beside was now lane (Some batch) end is =
      work_as Reached Told Broke (BrokeBefore Told room first last) was now lane batch end told broke
      is
  lane_beside was now lane None end is = record {
    stints = is.stints;
    next = is.next;
    course = is.course;
    ended = is.ended;
    did = did_as Went AnyBetween BrokeOn (BrokeBetween room) lane (λ w n asks went. tt) broke_on was
        is.stints now is.did;
    asked = told _ is.asked;
    opened = is.opened;
    stop = is.stop;
  }

  pub beside : (was now : Work L O)
      → IsDone Reached Broke Went BrokeOn lane_at door_at first last was now
      → IsDoneByCaller Told room lane_at door_at first last was now
  beside (Lane was) (Lane now) done = record {
    number = done.number;
    batch = done.batch;
    end = done.end;
    ended = done.ended;
    works = lane_beside (lane_at first was.lane) (lane_at last now.lane) was.number was.batch
        done.end done.works;
  }
  beside (Lane was) (Door now) done = done
  beside (Door was) (Lane now) done = done
  beside (Door was) (Door now) done =
      let is = done.serves in
      let answered = is.has.answered in
      record {
        number = done.number;
        end = done.end;
        ended = done.ended;
        serves = record {
          visits = is.visits;
          connections = is.connections;
          has = record {
            each = is.has.each;
            answered = record {
              seen = answered.seen;
              asked = told _ answered.asked;
              right = answered.right;
              places = answered.places;
              mine = answered.mine;
              faults = answered.faults;
              limit = answered.limit;
              by = answered.by;
            };
            visits_are = is.has.visits_are;
            served_is = is.has.served_is;
            links_are = is.has.links_are;
          };
          stops = is.stops;
          faults = is.faults;
          missed = is.missed;
        };
      }

-- what they were may be forgotten
pub forgets : {L O : Type 0} (Reached : List Ask → Type 0) (room : ℕ)
    (lane_at : Known → L → lanes.Site) (door_at : Known → O → doors.Site) (first last : Known)
    (was now : Work L O) → IsDoneByCaller Reached room lane_at door_at first last was now
    → IsDoneBesideOthers room lane_at door_at first last was now
forgets Reached room lane_at door_at first last was now =
    beside Reached AnyAsks (BrokeBefore Reached room first last) AnyBetween (BrokeBetween room) room
    lane_at door_at first last (λ asks reached. tt)
    (λ answered next why broke. record {
      between = broke.between;
      before = broke.before;
      reached = tt;
      answer = broke.answer;
      used = broke.used;
    }) (λ w n answered next why broke. broke) was now

-- a caller keeps its number from work to work
did_by : (Went : Known → Known → List Ask → Type 0)
    (BrokeOn : Known → Known → List Ask → Ask → AskError → Type 0) (lane : ℕ) (was : lanes.Site)
    (stints : List Stint) (now : lanes.Site) → Did Went BrokeOn lane was stints now
    → now.caller.by ≡ was.caller.by
did_by Went BrokeOn lane was [] now did = ap (λ (s : lanes.Site). s.caller.by) did
did_by Went BrokeOn lane was (WorkStint work ∷ stints) now did =
    did_by Went BrokeOn lane did.0 stints now did.2 ∙ did.1.is.added.by
did_by Went BrokeOn lane was (WaitStint given ∷ stints) now did =
    did_by Went BrokeOn lane did.0 stints now did.2 ∙ ap (λ (k : Known). k.by) did.1.caller
did_by Went BrokeOn lane was (FailedStint ∷ stints) now did =
    did_by Went BrokeOn lane did.0 stints now did.2 ∙ ap (λ (k : Known). k.by) did.1.caller

worked_by : (Reached : List Ask → Type 0) (Broke : List Ask → Ask → AskError → Type 0)
    (Went : Known → Known → List Ask → Type 0)
    (BrokeOn : Known → Known → List Ask → Ask → AskError → Type 0) (was now : lanes.Site) (lane : ℕ)
    (batch : Option Name) (end : LaneEnd)
    → IsWorkedFor Reached Broke Went BrokeOn was now lane batch end
    → now.caller.by ≡ was.caller.by
worked_by Reached Broke Went BrokeOn was now lane (Some batch) end is = is.added.by
worked_by Reached Broke Went BrokeOn was now lane None end is =
    did_by Went BrokeOn lane was is.stints now is.did

-- a caller keeps its number at its work
pub by_stays : {L O : Type 0} (room : ℕ) (weighs : cell.Ghosts L) (lifts : gate.Ghosts L)
    (reads : source.Ghosts O) (comes : door.Ghosts O) (first last : Known)
    (was now : Work L O)
    → IsDoneBesideOthers room (lane_site weighs lifts) (door_site reads comes) first last was now
    → last.by ≡ first.by
by_stays room weighs lifts reads comes first last (Lane was) (Lane now) done =
    worked_by AnyAsks (BrokeBefore AnyAsks room first last) AnyBetween (BrokeBetween room)
    (lane_site weighs lifts first was.lane) (lane_site weighs lifts last now.lane) was.number
    was.batch done.end done.works
by_stays room weighs lifts reads comes first last (Lane was) (Door now) done = absurd done
by_stays room weighs lifts reads comes first last (Door was) (Lane now) done = absurd done
by_stays room weighs lifts reads comes first last (Door was) (Door now) done =
    done.serves.has.answered.by

-- ---- want of memory

-- a weighing that was answered that there is no memory shows it in what is known of its caller
shows : (between last : Known) (next : Ask) (w : Want) → next.want ≡ w
    → HasNoAnswer between last → MayFindNoMemory w (entry_offered last next)
    → last.faults ≡ min (between.faults + 0) FAULTS_END → last.faults < FAULTS_END
    → weighs w ≡ true → FoundNoMemory between last next
shows between last next (want.Act act) is silent may faults few weighing =
    record {
      offered = may;
      mine = silent.mine;
      faults = omega (arith, faults, few);
      counted = few;
    }
shows between last next (want.Question question) is silent may faults few weighing =
    absurd (let never : false ≡ true = weighing in cc)

-- it found none only where the room was used up
pub lacked : (room : ℕ) (between last : Known) (next : Ask) (why : AskError)
    → IsAsked between last next (Err why) → HasUsedRoom room between last next
    → why ≡ error.NoMemory → weighs next.want ≡ true → last.faults < FAULTS_END
    → room ≤ length last.seen
lacked room between last next error.NoMemory asked used is weighing few =
    used (shows between last next next.want refl asked.says.0 asked.says.1 asked.faults few
    weighing) weighing
lacked room between last next error.DiskFault asked used is weighing few = absurd (cc)
lacked room between last next (error.Refused refused) asked used is weighing few = absurd (cc)

-- a pass that went on by some asks and then had an error, as it looks beside other callers
pub broke_before : {N : Type 0} (session : session.Ghosts N) (Told : List Ask → Type 0)
    (first between last : PassState Entry) (answered : List Ask) (next : Ask) (why : AskError)
    → IsReachedBy session first between answered → IsReachedBy session between last (next ∷ [])
    → IsAsked (known_of session between) (known_of session last) next (Err why)
    → Told (answered ++ next ∷ [])
    → BrokeBefore Told (room_of session) (known_of session first) (known_of session last) answered
    next why
broke_before session Told first between last answered next why before later answer told = record {
  between = known_of session between;
  before = met_by_asks (room_of session) (known_of session first) (known_of session between) answered
      before.asked;
  reached = told;
  answer = answer;
  used = lacked (room_of session) (known_of session between) (known_of session last) next why answer
      (used_by_ask (room_of session) (known_of session between) (known_of session last) next
      later.asked);
}
