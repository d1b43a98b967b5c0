-- What a work of a lane did, and the works and waits of one that changes its batch, in the rows that
-- its session leaves.
use Rattle.std.proofs.Common.{◌≡◌, ⊎_elim, inl, inr, ℕ, ◌+◌, ◌-◌, ◌<◌, ◌≤◌, ◌==◌, min, Bool, if◌then◌else◌, true, false, List, [], ◌∷◌, ◌++◌, length, flat_map, subst, All, Option, Some, None, refl, sym, ◌∙◌, ap, arith, append_assoc, append-nil}
use Rattle.std.specs.List.{sum_by}
use Rattle.std.proofs.lemmas.List.Sums.{sum_by-cons}
use Rattle.std.proofs.lemmas.List.Elements.{All-cons, All-nil}
use Rattle.std.proofs.lemmas.Option.{slice_get_within}
use Rattle.device_facts.specs.Prefix.{IsPrefixOf}
use Rattle.book_words.specs.declared.name.Name.{Name}
use Rattle.book_words.specs.declared.act.Ask.{Ask}
use Rattle.book_words.specs.declared.act.Entry.{Entry}
use Rattle.book_words.specs.declared.caller.AskError.{AskError}
use Rattle.book_words.specs.declared.caller.AskError.TheVariants as error
use Rattle.book_words.specs.declared.reply.Refused.{Refused}
use Rattle.book_words.specs.Answers.{IsLegal}
use Rattle.book_words.specs.Callers.{Known, FAULTS_END}
use Rattle.book_words.specs.Desks.{Row}
use Rattle.lane_worker.specs.declared.types.CellNext.{CellNext}
use Rattle.lane_worker.specs.declared.types.CellNext.TheVariants as item
use Rattle.lane_worker.specs.declared.ending.LaneEnd.{LaneEnd}
use Rattle.lane_worker.specs.declared.ending.LaneStop.{LaneStop}
use Rattle.lane_worker.specs.declared.ending.LaneStop.TheVariants as stop
use Rattle.lane_worker.specs.Endings.{faults_at, gate_failed, ask_stop}
use Rattle.lane_worker.specs.Works as lanes
use Rattle.lane_worker.specs.Works.{IsWork, Work, StandBehind, asks_of_work}
use Rattle.lane_changes.specs.declared.types.Next.{Next}
use Rattle.lane_changes.specs.declared.types.Next.TheVariants.{Works, Waits, Ends}
use Rattle.lane_changes.specs.Stints.{LaneDeed, Stint, WorkStint, WaitStint, FailedStint, AreStints, Fits, behind, behind_stop, item_stop, stop_in, last_stop, told_stop, end_stop}
use Rattle.lane_changes.specs.Changes.{Did, DidOnce}
use Rattle.office_door.proofs.Prefixes.{prefix_itself, prefix_on, prefix_short}
use Rattle.session_jobs.specs.Runs.{BrokeBefore, BrokeBetween, AnyAsks, AnyBetween}
use Rattle.session_history.specs.Deeds.{DidWork, DidStints, works_in}
use Rattle.session_history.specs.Gates.{OpensBehindRows}
use Rattle.session_history.specs.Replies.{EndsRight, NamesAtWork, NamesOwnRows}
use Rattle.session_history.specs.Rows.{AddsItsActs, is_whole}
use Rattle.session_history.proofs.GrownAnswers.{error_names, error_on, finish_names}
use Rattle.session_history.proofs.OwnRows.{opened_stand, stand_on}
use Rattle.session_history.proofs.ReleasedPacks.{opened_released}
use Rattle.session_history.proofs.WorkedActs.{all_weighed, answered_all, answered_first}

-- ---- rows behind others

-- rows stand behind any number before
stand_lower : (entries : List Entry) (by low number : ℕ) (rows : List Row) → low ≤ number
    → StandBehind entries by number rows → StandBehind entries by low rows
stand_lower entries by low number [] less stand = tt
stand_lower entries by low number (row ∷ rows) less stand =
    (omega (arith, less, stand.0), stand.1, stand.2, stand.3)

-- rows that stand in a list, and then rows that stand behind it in one that goes on
stand_both : (entries others : List Entry) → IsPrefixOf entries others → (by number : ℕ)
    (some more : List Row) → number ≤ length entries → StandBehind entries by number some
    → StandBehind others by (length entries) more → StandBehind others by number (some ++ more)
stand_both entries others begins by number [] more less stand behind =
    stand_lower others by number (length entries) more less behind
stand_both entries others begins by number (row ∷ some) more less stand behind =
    let within : row.number - 1 < length entries =
    slice_get_within entries (row.number - 1) row.entry stand.1 in
    let one = stand_on entries others begins by number (row ∷ [])
    (stand.0, stand.1, stand.2, tt) in (
      one.0,
      one.1,
      one.2,
      stand_both entries others begins by row.number some more (omega (arith, within)) stand.3 behind,
    )

-- ---- faults of the disk

-- a lane that goes on was told no fault
quiet_stop : (s : LaneStop) → (behind_stop s ≡ Ends → ⊥) → faults_at s ≡ 0
quiet_stop stop.Done more = refl
quiet_stop (stop.Change batch line) more = refl
quiet_stop (stop.Idle weights) more = refl
quiet_stop stop.Cell more = refl
quiet_stop stop.Gate more = refl
quiet_stop (stop.Bad line) more = refl
quiet_stop (stop.Refused refused) more = refl
quiet_stop stop.DiskFault more = absurd (more refl)
quiet_stop stop.NoMemory more = refl
quiet_stop stop.Turns more = refl

quiet_item : (given : CellNext) → faults_at (item_stop given) ≡ 0
quiet_item (item.Gross gross) = refl
quiet_item (item.Batch batch line) = refl
quiet_item item.End = refl
quiet_item (item.Bad line) = refl
quiet_item item.Spent = refl

quiet : (s : Stint) → (behind s ≡ Ends → ⊥) → faults_at (stop_in s) ≡ 0
quiet (WorkStint did) more = quiet_stop did.end.stop more
quiet (WaitStint given) more = quiet_item given
quiet FailedStint more = refl

-- where a stint follows, the lane hasn't ended
fits_open : (next : Next) (s : Stint) → Fits next s → next ≡ Ends → ⊥
fits_open (Works batch) s fits is = cc
fits_open Waits s fits is = cc
fits_open Ends s fits is = absurd fits

told_idle : (weights : ℕ) (b : Bool) → faults_at (if b then stop.Done else stop.Idle weights) ≡ 0
told_idle weights true = refl
told_idle weights false = refl

told_faults : (s : LaneStop) (refused : Option Refused) (weights : ℕ)
    → faults_at (told_stop s refused weights) ≡ faults_at s
told_faults stop.Done (Some refused) weights = refl
told_faults stop.Done None weights = told_idle weights (weights == 0)
told_faults (stop.Change batch line) refused weights = refl
told_faults (stop.Idle some) refused weights = refl
told_faults stop.Cell refused weights = refl
told_faults stop.Gate refused weights = refl
told_faults (stop.Bad line) refused weights = refl
told_faults (stop.Refused other) refused weights = refl
told_faults stop.DiskFault refused weights = refl
told_faults stop.NoMemory refused weights = refl
told_faults stop.Turns refused weights = refl

abbrev pub stint_faults : Stint → ℕ
stint_faults s = faults_at (stop_in s)

none_told : (before : LaneStop) (refused : Option Refused) (weights : ℕ) (last : Next)
    → ((last ≡ Ends → ⊥) → faults_at before ≡ 0)
    → faults_at before + 0 ≡ faults_at (end_stop last before refused weights)
none_told before refused weights (Works batch) none =
    omega (arith, none (λ is. cc))
none_told before refused weights Waits none = omega (arith, none (λ is. cc))
none_told before refused weights Ends none = omega (arith, told_faults before refused weights)

-- the end of a lane tells the fault that it was answered, if any
pub faults_told : (before : LaneStop) (refused : Option Refused) (weights : ℕ) (first : Next)
    (stints : List Stint) (last : Next) → AreStints first stints last
    → ((first ≡ Ends → ⊥) → faults_at before ≡ 0)
    → faults_at before + sum_by stint_faults stints
    ≡ faults_at (end_stop last (last_stop before stints) refused weights)
faults_told before refused weights first [] last is none =
    none_told before refused weights last
    (subst (λ (n : Next). (n ≡ Ends → ⊥) → faults_at before ≡ 0) (sym is) none)
faults_told before refused weights first (s ∷ stints) last is none =
    let rest = faults_told (stop_in s) refused weights (behind s) stints last is.1 (quiet s) in
    omega (arith, rest, none (fits_open first s is.0), sum_by-cons stint_faults s stints)

-- ---- one work

module _ (limit room : ℕ) (before rows : List Entry) (legal : IsLegal rows) (lane : ℕ) where
  -- a worker asks the book for a lane of a session, and has had no fault of the disk
  pub record StartsAt (was : lanes.Site) : Type 0 where
    pub begins : IsPrefixOf before was.caller.seen
    pub most : was.caller.limit ≡ limit
    pub by : was.caller.by ≡ lane
    pub calm : was.caller.faults ≡ 0

  -- all that a history says of one work of a lane
  pub record IsHeldWork (was now : lanes.Site) (did : LaneDeed) : Type 0 where
    pub devices : DidWork was now lane did
    pub acts : AddsItsActs before rows lane did
    pub replies : EndsRight limit room rows lane did
    pub places : NamesAtWork before rows lane did
    pub gates : OpensBehindRows rows lane did
    pub mine : now.caller.mine ≡ was.caller.mine ++ did.work.rows
    pub faults : now.caller.faults ≡ min (was.caller.faults + faults_at did.end.stop) FAULTS_END
    pub stand : StandBehind now.caller.seen lane (length was.caller.seen) did.work.rows

  module _ (was now : lanes.Site) (batch : Name) (end : LaneEnd)
      (is : IsWork AnyAsks (BrokeBefore AnyAsks room was.caller now.caller) was now lane batch end)
      (starts : StartsAt was) (seen : IsPrefixOf now.caller.seen rows) where
    abbrev pub deed : LaneDeed
    deed = record { batch = batch; work = is.work; end = end }

    abbrev asks : List Ask
    asks = asks_of_work lane batch is.work

    -- a worker that found no memory was answered no fault
    no_faults : (why : AskError) → end.stop ≡ ask_stop why → why ≡ error.NoMemory
        → now.caller.faults < FAULTS_END
    no_faults why told is_so =
        let none : faults_at end.stop ≡ 0 = ap faults_at (told ∙ ap ask_stop is_so) in
        omega (arith, is.faults, none, starts.calm)

    ends_right : EndsRight limit room rows lane deed
    ends_right = ⊎_elim
        (λ f. inl (record {
          ending = f.ending;
          ended = f.ended;
          told = f.told;
          whole = f.whole;
          later = tt;
        }))
        (λ b. inr (record {
          next = b.next;
          why = b.why;
          told = b.told;
          first = b.first;
          broke = error_on room was.caller now.caller rows seen is.work.answered b.next limit lane
              (is.added.limit ∙ starts.most) (is.added.by ∙ starts.by) b.why (no_faults b.why b.told)
              b.broke;
        })) is.stops

    names_own : NamesOwnRows before is.work.rows end.stop
    names_own = ⊎_elim
        (λ f. subst (NamesOwnRows before is.work.rows) (sym f.told)
        (finish_names before is.work.rows f.ending))
        (λ b. subst (NamesOwnRows before is.work.rows) (sym b.told)
        (error_names room before was.caller now.caller starts.begins is.work.rows is.added.mine
        is.work.answered b.next b.why b.broke)) is.stops

    stand_seen : StandBehind now.caller.seen lane (length is.work.asked) is.work.rows
    stand_seen = subst
        (λ (by : ℕ). StandBehind now.caller.seen by (length is.work.asked) is.work.rows) starts.by
        is.added.stand

    pub work_held : IsHeldWork was now deed
    work_held =
        let work = is.work in
        let stand = stand_on now.caller.seen rows seen lane (length work.asked) work.rows stand_seen in
        record {
          devices = record { given = is.given; opened = is.opened; done = is.done };
          acts = record {
            knows = prefix_on before was.caller.seen work.asked starts.begins is.added.before;
            begins = prefix_on work.asked now.caller.seen rows is.added.after seen;
            acts = sym is.accepted;
            first = answered_first _ _ asks work end.stop is.stops;
            whole = answered_all _ _ asks work end.stop is.stops;
            weighed = λ whole. all_weighed lane batch work is.accepted
                (answered_all _ _ asks work end.stop is.stops whole);
          };
          replies = ends_right;
          places = (stand, names_own, is.places);
          gates = record {
            all = is.opened.passed;
            kept = opened_stand rows lane (length work.asked) work.rows (gate_failed work.ending)
                work.opened stand is.opened.passed;
            told = opened_released rows legal lane (length work.asked) batch work
                (gate_failed work.ending) (is_whole end.stop) stand is.opened.passed is.accepted
                (answered_first _ _ asks work end.stop is.stops)
                (answered_all _ _ asks work end.stop is.stops);
            count = is.count;
          };
          mine = is.added.mine;
          faults = is.faults;
          stand = stand_lower now.caller.seen lane (length was.caller.seen) (length work.asked)
              work.rows (prefix_short was.caller.seen work.asked is.added.before) stand_seen;
        }

  -- ---- works and waits, one after another

  abbrev pub rows_in : List Stint → List Row
  rows_in stints = flat_map (λ (d : LaneDeed). d.work.rows) (works_in stints)

  -- all that a history says of the works and waits of a lane
  pub record AreHeldStints (was : lanes.Site) (stints : List Stint) (now : lanes.Site) : Type 0 where
    pub devices : DidStints lane was stints now
    pub acts : All (AddsItsActs before rows lane) (works_in stints)
    pub replies : All (EndsRight limit room rows lane) (works_in stints)
    pub places : All (NamesAtWork before rows lane) (works_in stints)
    pub gates : All (OpensBehindRows rows lane) (works_in stints)
    pub mine : now.caller.mine ≡ was.caller.mine ++ rows_in stints
    pub faults : min now.caller.faults FAULTS_END
        ≡ min (was.caller.faults + sum_by stint_faults stints) FAULTS_END
    pub stand : StandBehind rows lane (length was.caller.seen) (rows_in stints)

  abbrev DoesOnce : lanes.Site → Stint → lanes.Site → Type 0
  DoesOnce was s now = DidOnce AnyBetween (BrokeBetween room) lane was s now

  abbrev Does : lanes.Site → List Stint → lanes.Site → Type 0
  Does was stints now = Did AnyBetween (BrokeBetween room) lane was stints now

  -- what a caller has seen begins what it sees later
  once_seen : (was : lanes.Site) (s : Stint) (now : lanes.Site) → DoesOnce was s now
      → IsPrefixOf was.caller.seen now.caller.seen
  once_seen was (WorkStint did) now once =
      prefix_on was.caller.seen once.is.work.asked now.caller.seen once.is.added.before
      once.is.added.after
  once_seen was (WaitStint given) now once =
      subst (λ (k : Known). IsPrefixOf was.caller.seen k.seen) (sym once.caller)
      (prefix_itself was.caller.seen)
  once_seen was FailedStint now once =
      subst (λ (k : Known). IsPrefixOf was.caller.seen k.seen) (sym once.caller)
      (prefix_itself was.caller.seen)

  stints_seen : (was : lanes.Site) (stints : List Stint) (now : lanes.Site) → Does was stints now
      → IsPrefixOf was.caller.seen now.caller.seen
  stints_seen was [] now did =
      subst (λ (s : lanes.Site). IsPrefixOf was.caller.seen s.caller.seen) (sym did)
      (prefix_itself was.caller.seen)
  stints_seen was (s ∷ stints) now did =
      prefix_on was.caller.seen did.0.caller.seen now.caller.seen (once_seen was s did.0 did.1)
      (stints_seen did.0 stints now did.2)

  -- a worker goes on from one stint to the next
  once_starts : (was : lanes.Site) (s : Stint) (now : lanes.Site) → DoesOnce was s now
      → StartsAt was → (behind s ≡ Ends → ⊥) → StartsAt now
  once_starts was (WorkStint did) now once starts more = record {
    begins = prefix_on before was.caller.seen now.caller.seen starts.begins
        (once_seen was (WorkStint did) now once);
    most = once.is.added.limit ∙ starts.most;
    by = once.is.added.by ∙ starts.by;
    calm = omega (arith, once.is.faults, starts.calm, quiet_stop did.end.stop more);
  }
  once_starts was (WaitStint given) now once starts more = record {
    begins = prefix_on before was.caller.seen now.caller.seen starts.begins
        (once_seen was (WaitStint given) now once);
    most = ap (λ (k : Known). k.limit) once.caller ∙ starts.most;
    by = ap (λ (k : Known). k.by) once.caller ∙ starts.by;
    calm = ap (λ (k : Known). k.faults) once.caller ∙ starts.calm;
  }
  once_starts was FailedStint now once starts more = absurd (more refl)

  -- a wait more adds nothing
  wait_held : (was mid now : lanes.Site) (s : Stint) (stints : List Stint)
      → mid.caller ≡ was.caller → stint_faults s ≡ 0 → works_in (s ∷ stints) ≡ works_in stints
      → DidStints lane was (s ∷ stints) now → AreHeldStints mid stints now
      → AreHeldStints was (s ∷ stints) now
  wait_held was mid now s stints same none works did rest = record {
    devices = did;
    acts = subst (All (AddsItsActs before rows lane)) (sym works) rest.acts;
    replies = subst (All (EndsRight limit room rows lane)) (sym works) rest.replies;
    places = subst (All (NamesAtWork before rows lane)) (sym works) rest.places;
    gates = subst (All (OpensBehindRows rows lane)) (sym works) rest.gates;
    mine = rest.mine
        ∙ (λ i. (same i).mine ++ flat_map (λ (d : LaneDeed). d.work.rows) (sym works i));
    faults = omega (
      arith,
      rest.faults,
      ap (λ (k : Known). k.faults) same,
      none,
      sum_by-cons stint_faults s stints,
    );
    stand = subst (λ (ds : List LaneDeed). StandBehind rows lane (length was.caller.seen)
        (flat_map (λ (d : LaneDeed). d.work.rows) ds)) (sym works)
        (subst (λ (k : Known). StandBehind rows lane (length k.seen) (rows_in stints)) same rest.stand);
  }

  -- and a work its rows
  work_more : (was mid now : lanes.Site) (did : LaneDeed) (stints : List Stint)
      → IsPrefixOf mid.caller.seen rows → length was.caller.seen ≤ length mid.caller.seen
      → IsHeldWork was mid did → AreHeldStints mid stints now
      → AreHeldStints was (WorkStint did ∷ stints) now
  work_more was mid now did stints seen short one rest = record {
    devices = (mid, one.devices, rest.devices);
    acts = All-cons (AddsItsActs before rows lane) did (works_in stints) one.acts rest.acts;
    replies = All-cons (EndsRight limit room rows lane) did (works_in stints) one.replies
        rest.replies;
    places = All-cons (NamesAtWork before rows lane) did (works_in stints) one.places rest.places;
    gates = All-cons (OpensBehindRows rows lane) did (works_in stints) one.gates rest.gates;
    mine = rest.mine ∙ ap (λ (own : List Row). own ++ rows_in stints) one.mine
        ∙ append_assoc was.caller.mine did.work.rows (rows_in stints);
    faults = omega (
      arith,
      rest.faults,
      one.faults,
      sum_by-cons stint_faults (WorkStint did) stints,
    );
    stand = stand_both mid.caller.seen rows seen lane (length was.caller.seen) did.work.rows
        (rows_in stints) short one.stand rest.stand;
  }

  pub stints_held : (first : Next) (was : lanes.Site) (stints : List Stint) (now : lanes.Site)
      (last : Next) → AreStints first stints last → Does was stints now
      → ((first ≡ Ends → ⊥) → StartsAt was) → IsPrefixOf now.caller.seen rows
      → AreHeldStints was stints now
  stints_held first was [] now last is did starts seen = record {
    devices = did;
    acts = All-nil (AddsItsActs before rows lane);
    replies = All-nil (EndsRight limit room rows lane);
    places = All-nil (NamesAtWork before rows lane);
    gates = All-nil (OpensBehindRows rows lane);
    mine = ap (λ (s : lanes.Site). s.caller.mine) did ∙ sym (append-nil was.caller.mine);
    faults = omega (arith, ap (λ (s : lanes.Site). s.caller.faults) did);
    stand = tt;
  }
  stints_held first was (WorkStint work ∷ stints) now last is did starts seen =
      let mid = did.0 in
      let once = did.1 in
      let here = starts (fits_open first (WorkStint work) is.0) in
      let behind_seen = prefix_on mid.caller.seen now.caller.seen rows
      (stints_seen mid stints now did.2) seen in
      let one : IsHeldWork was mid work = subst
      (λ (w : Work). IsHeldWork was mid (record { batch = work.batch; work = w; end = work.end }))
      once.work (work_held was mid work.batch work.end once.is here behind_seen) in
      work_more was mid now work stints behind_seen
      (prefix_short was.caller.seen mid.caller.seen (once_seen was (WorkStint work) mid once)) one
      (stints_held (behind (WorkStint work)) mid stints now last is.1 did.2
      (once_starts was (WorkStint work) mid once here) seen)
  stints_held first was (WaitStint given ∷ stints) now last is did starts seen =
      let mid = did.0 in
      let here = starts (fits_open first (WaitStint given) is.0) in
      let rest = stints_held (behind (WaitStint given)) mid stints now last is.1 did.2
      (once_starts was (WaitStint given) mid did.1 here) seen in
      wait_held was mid now (WaitStint given) stints did.1.caller (quiet_item given) refl
      (mid, did.1, rest.devices) rest
  stints_held first was (FailedStint ∷ stints) now last is did starts seen =
      let mid = did.0 in
      let here = starts (fits_open first FailedStint is.0) in
      let rest = stints_held Ends mid stints now last is.1 did.2
      (once_starts was FailedStint mid did.1 here) seen in
      wait_held was mid now FailedStint stints did.1.caller refl refl (mid, did.1, rest.devices) rest
