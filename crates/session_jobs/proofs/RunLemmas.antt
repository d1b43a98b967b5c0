-- From the end of a session to what all its jobs come to.
use Rattle.std.proofs.Common.{zero, suc, ◌≡◌, ℕ, ◌+◌, ◌<◌, ◌≤◌, min, List, [], ◌∷◌, ◌++◌, length, map, drop, get_or, All, Contains, sum_by, Option, Some, IsSome, true, false}
use Rattle.std.proofs.Common.{refl, sym, ap, ◌∙◌, subst, arith, append-nil, length-append}
use Rattle.std.specs.declared.alloc.Global.{Global}
use Rattle.std.specs.declared.vec.Vec.{Vec}
use Rattle.std.specs.List.{AllZip}
use Rattle.std.proofs.lemmas.List.{length-map}
use Rattle.std.proofs.lemmas.List.Elements.{All-cons, All-head, All-map, All-nil, All-tail, All-weaker}
use Rattle.std.proofs.lemmas.List.Sums.{sum_by-cons}
use Rattle.device_facts.specs.Count.{Counted}
use Rattle.device_facts.specs.Prefix.{IsPrefixOf}
use Rattle.disk_core.specs.declared.disk.Disk as disk
use Rattle.disk_core.specs.declared.source.Source as source
use Rattle.disk_core.specs.declared.door.Door as door
use Rattle.book_laws.proofs.MoveLaws.{balanced}
use Rattle.book_words.specs.declared.act.Entry.{Entry}
use Rattle.book_words.specs.Callers.{Known, FAULTS_END}
use Rattle.book_store.specs.Callers.{own_rows}
use Rattle.book_store.specs.declared.store.Store.{Store}
use Rattle.book_store.specs.Stores.{disk_of, entries_of, limit_of, spare_of, Hangs, IsSound}
use Rattle.lane_worker.specs.declared.cell.Cell as cell
use Rattle.lane_worker.specs.declared.gate.Gate as gate
use Rattle.lane_worker.specs.Works as lanes
use Rattle.office_door.specs.Doors as doors
use Rattle.office_door.specs.Doors.{FailedSoOften}
use Rattle.shared_book.specs.declared.session.Session as session
use Rattle.shared_book.specs.Sessions.{Begins}
use Rattle.shared_book.specs.Closing.{MakeRows}
use Rattle.shared_book.specs.Locked.{IsNewSeat}
use Rattle.shared_book.specs.Passes.{IsPassOf, HasNoted, entries_in, known_of, room_of, row_of}
use Rattle.turn_pass.specs.History.{BookState, PassState, TurnState, opening, newcomer as new_pass}
use Rattle.session_jobs.specs.declared.begin.JobsEnd.{JobsEnd}
use Rattle.session_jobs.specs.declared.job.Job.{Job}
use Rattle.session_jobs.specs.declared.work.Work.{Work}
use Rattle.session_jobs.specs.Ends.{EndsSession, HasEnded}
use Rattle.session_jobs.specs.Jobs.{IsReady, IsRun, new_job, with_passes}
use Rattle.session_jobs.specs.Runs.{newcomer, IsDoneBesideOthers, Run, HasRun, HaveRun, faults_answered}
use Rattle.session_jobs.specs.Works.{number_of, lane_site, door_site}
use Rattle.session_jobs.proofs.WorkLemmas.{by_stays, forgets}

-- ---- lists

-- two lists of one length go together where they do at each place
pub zip_all : {X : Type 0} (R : X → X → Type 0) (xs ys : List X) → length ys ≡ length xs
    → ((i : ℕ) (d : X) → i < length xs → R (get_or xs i d) (get_or ys i d)) → AllZip R xs ys
zip_all R [] [] same each = tt
zip_all R [] (y ∷ ys) same each = absurd (omega (arith, same))
zip_all R (x ∷ xs) [] same each = absurd (omega (arith, same))
zip_all R (x ∷ xs) (y ∷ ys) same each = (
  each 0 x (omega arith),
  zip_all R xs ys (omega (arith, same)) (λ i d less. each (suc i) d (omega arith)),
)

cons_head : {X : Type 0} (x y : X) (xs ys : List X) → x ∷ xs ≡ y ∷ ys → x ≡ y
cons_head x y xs ys same = ap (λ zs. get_or zs 0 x) same

cons_tail : {X : Type 0} (x y : X) (xs ys : List X) → x ∷ xs ≡ y ∷ ys → xs ≡ ys
cons_tail x y xs ys same = ap (λ zs. drop 1 zs) same

all_of_map : {X Y : Type 0} (K : Y → Type 0) (f : X → Y) (xs : List X) → All K (map f xs)
    → All (λ x. K (f x)) xs
all_of_map K f [] all = All-nil (λ x. K (f x))
all_of_map K f (x ∷ xs) all = All-cons (λ y. K (f y)) x xs
    (All-head K (f x) (map f xs) all)
    (all_of_map K f xs (All-tail K (f x) (map f xs) all))

sum_map : {X Y : Type 0} (f : Y → ℕ) (g : X → Y) (xs : List X)
    → sum_by f (map g xs) ≡ sum_by (λ x. f (g x)) xs
sum_map f g [] = refl
sum_map f g (x ∷ xs) = sum_by-cons f (g x) (map g xs)
    ∙ (ap (λ n. f (g x) + n) (sum_map f g xs) ∙ sym (sum_by-cons (λ y. f (g y)) x xs))

sum_same : {X : Type 0} (f g : X → ℕ) (xs : List X) → All (λ x. f x ≡ g x) xs
    → sum_by f xs ≡ sum_by g xs
sum_same f g [] same = refl
sum_same f g (x ∷ xs) same = let one = All-head (λ y. f y ≡ g y) x xs same in
    let more = sum_same f g xs (All-tail (λ y. f y ≡ g y) x xs same) in
    omega (arith, sum_by-cons f x xs, sum_by-cons g x xs)

map_same : {X Y : Type 0} (f g : X → Y) (xs : List X) → All (λ x. f x ≡ g x) xs → map f xs ≡ map g xs
map_same f g [] same = refl
map_same f g (x ∷ xs) same = let one = All-head (λ y. f y ≡ g y) x xs same in
    let more = map_same f g xs (All-tail (λ y. f y ≡ g y) x xs same) in cc

map_twice : {X Y Z : Type 0} (f : Y → Z) (g : X → Y) (xs : List X)
    → map f (map g xs) ≡ map (λ x. f (g x)) xs
map_twice f g [] = refl
map_twice f g (x ∷ xs) = ap (λ ys. f (g x) ∷ ys) (map_twice f g xs)

drop_behind : {X : Type 0} (xs ys : List X) → drop (length xs) (xs ++ ys) ≡ ys
drop_behind [] ys = refl
drop_behind (x ∷ xs) ys = drop_behind xs ys

-- ---- counts that stand still

-- a sum of counts that stand still at their end counts as the sum of what they count
counts : {X : Type 0} (f : X → ℕ) (most k : ℕ) (xs : List X)
    → min (k + sum_by (λ x. min (f x) most) xs) most ≡ min (k + sum_by f xs) most
counts f most k [] = refl
counts f most k (x ∷ xs) =
    let rest = counts f most (k + min (f x) most) xs in
    omega (arith, rest, sum_by-cons f x xs, sum_by-cons (λ y. min (f y) most) x xs)

failed_so : (before now k : ℕ) → (k ≡ 0 → now ≡ before) → (0 < k → Counted before now k)
    → FailedSoOften before now k
failed_so before now zero calm counted = calm refl
failed_so before now (suc k) calm counted = counted (omega arith)

-- ---- the jobs of a session

module _ {N L O : Type 0} (session : session.Ghosts N) (weighs : cell.Ghosts L)
    (lifts : gate.Ghosts L) (reads : source.Ghosts O) (comes : door.Ghosts O) where
  abbrev lane_at : Known → L → lanes.Site
  lane_at = lane_site weighs lifts

  abbrev door_at : Known → O → doors.Site
  door_at = door_site reads comes

  -- a job that was run, and how, by a caller of the session
  abbrev DoneIn : Run L O → Type 0
  DoneIn r = IsDoneBesideOthers (room_of session) lane_at door_at
      (newcomer session.limit session.before (number_of r.was)) r.known r.was r.now

  -- the runs of works, with the passes of their callers at the end and the works behind
  record Matched (works : List (Work L O)) (ends : List (PassState Entry))
      (behind : List (Work L O)) : Type 0 where
    pub runs : List (Run L O)
    pub was : map (λ (r : Run L O). r.was) runs ≡ works
    pub now : map (λ (r : Run L O). r.now) runs ≡ behind
    pub known : map (λ (r : Run L O). r.known) runs ≡ map (known_of session) ends
    pub done : All DoneIn runs

  fresh : (seat : BookState Entry) (by : ℕ) → seat.list ≡ []
      → known_of session (new_pass seat by) ≡ newcomer session.limit session.before by
  fresh seat by empty =
      ap (λ (seen : List Entry). record {
        seen = seen;
        mine = [];
        faults = 0;
        limit = session.limit;
        by = by;
      }) (ap (λ list. session.before ++ entries_in list) empty ∙ append-nil session.before)

  module _ (seat : BookState Entry) (empty : seat.list ≡ []) where
    one_done : {A B : Type 0} (work : Work L O) (job : Job L O A B) (pass : PassState Entry)
        → IsRun {A = A} {B = B} session lane_at door_at (new_job seat work) job → Some pass ≡ job.seat
        → IsDoneBesideOthers (room_of session) lane_at door_at
        (newcomer session.limit session.before (number_of work)) (known_of session pass) work job.work
    one_done work job pass is seated =
        let first : is.first ≡ new_pass seat (number_of work) =
        let same : Some (new_pass seat (number_of work)) ≡ Some is.first = is.seat_before in cc in
        let last : is.last ≡ pass = let same : Some pass ≡ Some is.last = seated ∙ is.seat_behind in cc in
        subst (λ (k : Known). IsDoneBesideOthers (room_of session) lane_at door_at k
        (known_of session pass) work job.work)
        (ap (known_of session) first ∙ fresh seat (number_of work) empty)
        (subst (λ (p : PassState Entry). IsDoneBesideOthers (room_of session) lane_at door_at
        (known_of session is.first) (known_of session p) work job.work) last
        (forgets (HasNoted is.first.notes is.last.notes) (room_of session) lane_at door_at
        (known_of session is.first) (known_of session is.last) work job.work is.done))

    matched : {A B : Type 0} (works : List (Work L O)) (behind : List (Job L O A B)) (ends : List (PassState Entry))
        → AllZip (IsRun session lane_at door_at) (map (new_job seat) works) behind
        → map (λ (p : PassState Entry). Some p) ends ≡ map (λ (j : Job L O A B). j.seat) behind
        → Matched works ends (map (λ (j : Job L O A B). j.work) behind)
    matched {A} {B} [] [] [] run seats =
        record { runs = []; was = refl; now = refl; known = refl; done = All-nil DoneIn }
    matched {A} {B} [] [] (p ∷ ps) run seats = absurd (omega (arith, ap length seats))
    matched {A} {B} [] (j ∷ js) ends run seats = absurd run
    matched {A} {B} (w ∷ ws) [] ends run seats = absurd run
    matched {A} {B} (w ∷ ws) (j ∷ js) [] run seats = absurd (omega (arith, ap length seats))
    matched {A} {B} (w ∷ ws) (j ∷ js) (p ∷ ps) run seats =
        let seat_of : Job L O A B → Option (PassState Entry) = λ k. k.seat in
        let some : List (PassState Entry) → List (Option (PassState Entry)) = map (λ p. Some p) in
        let rest = matched ws js ps run.1
        (cons_tail (Some p) (seat_of j) (some ps) (map seat_of js) seats) in
        let here : Run L O = record { known = known_of session p; was = w; now = j.work } in
        record {
          runs = here ∷ rest.runs;
          was = ap (λ xs. w ∷ xs) rest.was;
          now = ap (λ xs. j.work ∷ xs) rest.now;
          known = ap (λ xs. known_of session p ∷ xs) rest.known;
          done = All-cons DoneIn here rest.runs (one_done w j p run.0
              (cons_head (Some p) (seat_of j) (some ps) (map seat_of js) seats)) rest.done;
        }

  -- new jobs have passes of the session
  pub all_ready : {A B : Type 0} (seat : BookState Entry) → seat.table ≡ session.table
      → seat.history ≡ length session.before → (works : List (Work L O))
      → All (IsReady {A = A} {B = B} session) (map (new_job seat) works)
  all_ready {A} {B} seat table behind works k d inside =
      All-map (IsReady {A = A} {B = B} session) (new_job seat) works
      (λ i e less. record {
        pass = new_pass seat (number_of (get_or works i e));
        seated = refl;
        of_session = record { same_table = table; behind = behind; booked = refl };
      }) k d inside

  -- the book seat of the session, when all passes were made
  pub new_seat : (seat : BookState Entry) (turn : TurnState) (rows faults : ℕ) (bys : List ℕ)
      → seat ≡ with_passes (opening turn rows faults) bys → turn.table ≡ session.table
      → turn.history ≡ length session.before → rows ≡ length bys + 1 → faults ≡ length bys + 1
      → IsNewSeat session seat
  new_seat seat turn rows faults bys is table behind row_parts fault_parts =
      subst (IsNewSeat session) (sym is) (record {
        same_table = table;
        behind = behind;
        parts = (omega (arith, row_parts), omega (arith, fault_parts));
        appended = refl;
        booked = refl;
      })

  -- jobs that were run have their seats, which are passes of the session
  module _ {A B : Type 0} where
    pub all_seated : (jobs behind : List (Job L O A B))
        → AllZip (IsRun session lane_at door_at) jobs behind
        → All (λ (j : Job L O A B). IsSome j.seat) behind
    all_seated [] [] run = All-nil (λ (j : Job L O A B). IsSome j.seat)
    all_seated [] (j ∷ js) run = absurd run
    all_seated (i ∷ is) [] run = absurd run
    all_seated (i ∷ is) (j ∷ js) run =
        All-cons (λ (k : Job L O A B). IsSome k.seat) j js
        (subst (λ (s : Option (PassState Entry)). IsSome s) (sym run.0.seat_behind) refl)
        (all_seated is js run.1)

    pub all_passes : (jobs behind : List (Job L O A B)) (ends : List (PassState Entry))
        → AllZip (IsRun session lane_at door_at) jobs behind
        → map (λ (p : PassState Entry). Some p) ends ≡ map (λ (j : Job L O A B). j.seat) behind
        → All (IsPassOf session) ends
    all_passes jobs behind [] run seats = All-nil (IsPassOf session)
    all_passes [] [] (p ∷ ps) run seats = absurd (omega (arith, ap length seats))
    all_passes [] (j ∷ js) (p ∷ ps) run seats = absurd run
    all_passes (i ∷ is) [] (p ∷ ps) run seats = absurd run
    all_passes (i ∷ is) (j ∷ js) (p ∷ ps) run seats =
        let seat_of : Job L O A B → Option (PassState Entry) = λ k. k.seat in
        let some : List (PassState Entry) → List (Option (PassState Entry)) = map (λ p. Some p) in
        let head = cons_head (Some p) (seat_of j) (some ps) (map seat_of js) seats in
        let same : run.0.last ≡ p = let all : Some p ≡ Some run.0.last =
        head ∙ run.0.seat_behind in cc in
        All-cons (IsPassOf session) p ps (subst (IsPassOf session) same run.0.of_session)
        (all_passes is js ps run.1
        (cons_tail (Some p) (seat_of j) (some ps) (map seat_of js) seats))

    pub all_many : (jobs behind : List (Job L O A B)) (ends : List (PassState Entry))
        → AllZip (IsRun session lane_at door_at) jobs behind
        → map (λ (p : PassState Entry). Some p) ends ≡ map (λ (j : Job L O A B). j.seat) behind
        → length ends ≡ length jobs
    all_many [] [] ends run seats =
        sym (length-map ends (λ (p : PassState Entry). Some p)) ∙ ap length seats
    all_many [] (j ∷ js) ends run seats = absurd run
    all_many (i ∷ is) [] ends run seats = absurd run
    all_many (i ∷ is) (j ∷ js) [] run seats = absurd (omega (arith, ap length seats))
    all_many (i ∷ is) (j ∷ js) (p ∷ ps) run seats =
        let seat_of : Job L O A B → Option (PassState Entry) = λ k. k.seat in
        let some : List (PassState Entry) → List (Option (PassState Entry)) = map (λ p. Some p) in
        ap (λ n. suc n) (all_many is js ps run.1
        (cons_tail (Some p) (seat_of j) (some ps) (map seat_of js) seats))

  -- what all jobs come to, from the end of the session
  module _ (works : List (Work L O)) (ends : List (PassState Entry))
      (behind : List (Work L O)) (m : Matched works ends behind) (rows : List Entry)
      (made : MakeRows session.before rows ends) where
    by_right : All (λ (r : Run L O). r.known.by ≡ number_of r.was) m.runs
    by_right = All-weaker DoneIn (λ (r : Run L O). r.known.by ≡ number_of r.was)
        (λ r done. by_stays (room_of session) weighs lifts reads comes
        (newcomer session.limit session.before (number_of r.was)) r.known r.was r.now done)
        m.runs m.done

    -- what holds of each pass holds of the caller of each run
    of_knowns : (K : Known → Type 0) → All (λ (p : PassState Entry). K (known_of session p)) ends
        → All (λ (r : Run L O). K r.known) m.runs
    of_knowns K each = all_of_map K (λ (r : Run L O). r.known) m.runs
        (subst (All K) (sym m.known) (All-map K (known_of session) ends each))

    sum_knowns : (f : Known → ℕ) → sum_by (λ (p : PassState Entry). f (known_of session p)) ends
        ≡ sum_by (λ (r : Run L O). f r.known) m.runs
    sum_knowns f = sym (sum_map f (known_of session) ends)
        ∙ (ap (sum_by f) (sym m.known) ∙ sum_map f (λ (r : Run L O). r.known) m.runs)

    seen_right : All (λ (r : Run L O). IsPrefixOf r.known.seen rows) m.runs
    seen_right = of_knowns (λ k. IsPrefixOf k.seen rows) made.seen

    own_right : All (λ (r : Run L O).
        own_rows r.known.by rows ≡ own_rows r.known.by session.before ++ r.known.mine) m.runs
    own_right = of_knowns
        (λ k. own_rows k.by rows ≡ own_rows k.by session.before ++ k.mine) made.mine

    bys_right : map (λ (p : PassState Entry). p.by) ends ≡ map number_of works
    bys_right = sym (map_twice (λ (k : Known). k.by) (known_of session) ends)
        ∙ (ap (map (λ (k : Known). k.by)) (sym m.known)
        ∙ (map_twice (λ (k : Known). k.by) (λ (r : Run L O). r.known) m.runs
        ∙ (map_same (λ (r : Run L O). r.known.by) (λ (r : Run L O). number_of r.was) m.runs by_right
        ∙ (sym (map_twice number_of (λ (r : Run L O). r.was) m.runs)
        ∙ ap (map number_of) m.was))))

    each_right : All (HasRun lane_at door_at session.limit session.spare session.before rows) m.runs
    each_right k d inside =
        let r : Run L O = get_or m.runs k d in
        let by = by_right k d inside in
        record {
          done = m.done k d inside;
          seen = seen_right k d inside;
          own = subst (λ (n : ℕ). own_rows n rows ≡ own_rows n session.before ++ r.known.mine) by
              (own_right k d inside);
        }

    total_right : length rows
        ≡ length session.before + sum_by (λ (r : Run L O). length r.known.mine) m.runs
    total_right = ap length made.parts ∙ (length-append session.before made.made
        ∙ ap (λ n. length session.before + n) (made.total
        ∙ (sum_same (λ (p : PassState Entry). length p.mine)
        (λ (p : PassState Entry). length (known_of session p).mine)
        ends (λ k d inside. sym (length-map (get_or ends k d).mine row_of))
        ∙ sum_knowns (λ k. length k.mine))))

    others_right : All (λ (e : Entry). Contains (map number_of works) e.by)
        (drop (length session.before) rows)
    others_right = subst (λ (es : List Entry). All (λ (e : Entry). Contains (map number_of works) e.by)
        es) (sym (ap (drop (length session.before)) made.parts
        ∙ drop_behind session.before made.made))
        (subst (λ (bys : List ℕ). All (λ (e : Entry). Contains bys e.by) made.made) bys_right
        made.others)

  -- how often the disk failed while a session lasted, as it is told
  module _ {D A B : Type 0} (disk : disk.Ghosts D) (first last : Store D) (begins : Begins disk session first)
      (jobs : List (Job L O A B)) (works : List (Work L O)) (failed : ℕ)
      (ended : HasEnded disk session lane_at door_at jobs last works failed) where
    abbrev booked : ℕ
    booked = sum_by (λ (p : PassState Entry). p.faults) ended.ends

    pub failed_right : FailedSoOften (disk.faults (disk_of first)) (disk.faults (disk_of last)) failed
    failed_right = let told = ended.told in
        failed_so (disk.faults (disk_of first)) (disk.faults (disk_of last)) failed
        (λ is. let none : booked ≡ 0 = omega arith in (ended.calm none).faults ∙ begins.faults)
        (λ is. let some : 0 < booked = omega arith in
        let counted = ended.counted some in let same = begins.faults in omega arith)

    pub settled_right : failed ≡ 0 → ¬ Hangs last
    settled_right is = let told = ended.told in
        let none : booked ≡ 0 = omega arith in (ended.calm none).settled

    -- where none was answered a fault and no row was added, the disk reads what it did
    pub still_right : failed ≡ 0 → length (entries_of last) ≤ length (entries_of first)
        → disk.reads (disk_of last) ≡ disk.reads (disk_of first)
    still_right is few = let told = ended.told in
        let none : booked ≡ 0 = omega arith in
        let same : length session.before ≡ length (entries_of first) = ap length begins.rows in
        (ended.calm none).still (omega (arith, few, same)) ∙ begins.reads

  pub have_run : {D A B : Type 0} (disk : disk.Ghosts D) (first last : Store D) → Begins disk session first
      → (seat : BookState Entry) → seat.list ≡ [] → (works behind : List (Work L O)) (failed : ℕ)
      → HasEnded {A = A} {B = B} disk session lane_at door_at (map (new_job seat) works) last behind
      failed
      → HaveRun lane_at door_at (limit_of first) (spare_of first) (entries_of first)
      (entries_of last) failed works behind
  have_run {D} {A} {B} disk first last begins seat empty works behind failed ended =
      let jobs : List (Work L O) = map (λ (j : Job L O A B). j.work) ended.behind in
      let m : Matched works ended.ends jobs =
      matched seat empty works ended.behind ended.ends ended.run ended.ends_are in
      let rows : List Entry = entries_of last in
      let each = each_right works ended.ends jobs m rows ended.rows in
      let faults_of : PassState Entry → ℕ = λ p. p.faults in
      let same : sum_by (λ (p : PassState Entry). min p.faults FAULTS_END) ended.ends
      ≡ faults_answered m.runs =
      sum_knowns works ended.ends jobs m rows ended.rows (λ k. k.faults) in
      record {
        runs = m.runs;
        jobs_before = m.was;
        jobs_behind = m.now ∙ sym ended.works_are;
        each = subst (λ (n : ℕ). All (HasRun lane_at door_at n (spare_of first) (entries_of first)
            rows) m.runs) begins.limit
            (subst (λ (n : ℕ). All (HasRun lane_at door_at session.limit n (entries_of first) rows)
            m.runs) begins.spare
            (subst (λ (es : List Entry). All (HasRun lane_at door_at session.limit session.spare es
            rows) m.runs) begins.rows each));
        begins = subst (λ (es : List Entry). IsPrefixOf es rows) begins.rows
            (ended.rows.made, ended.rows.parts);
        total = subst (λ (es : List Entry). length rows
            ≡ length es + sum_by (λ (r : Run L O). length r.known.mine) m.runs) begins.rows
            (total_right works ended.ends jobs m rows ended.rows);
        others = subst (λ (es : List Entry). All
            (λ (e : Entry). Contains (map number_of works) e.by) (drop (length es) rows)) begins.rows
            (others_right works ended.ends jobs m rows ended.rows);
        faults = let all = counts faults_of FAULTS_END 0 ended.ends in
            omega (arith, ended.told, all, same);
      }

-- ---- what is told of a session without its names

module _ {L O : Type 0} (weighs : cell.Ghosts L) (lifts : gate.Ghosts L) (reads : source.Ghosts O)
    (comes : door.Ghosts O) where
  -- no job ran
  pub unbegun_ends : {D : Type 0} (disk : disk.Ghosts D) (store : Store D)
      (jobs : Vec (Work L O) Global) (end : JobsEnd D L O) → IsSound disk store → ¬ Hangs store
      → end ≡ record { store = store; jobs = jobs; ran = false; faults = 0 }
      → EndsSession disk (lane_site weighs lifts) (door_site reads comes) store jobs end
  unbegun_ends disk store jobs end sound calm is =
      subst (EndsSession disk (lane_site weighs lifts) (door_site reads comes) store jobs)
      (sym is) (record {
        ran = λ ran. absurd (let never : false ≡ true = ran in cc);
        unbegun = λ unbegun. record { store_left = refl; jobs_left = refl; calm = refl };
        faults = refl;
        settled = λ none. calm;
        still = λ none few. refl;
        sound = sound;
        balanced = balanced (entries_of store);
        limit = refl;
        held = refl;
        kept = λ rests held start run. run;
      })

  -- they ran
  pub session_ends : {D N A B : Type 0} (session : session.Ghosts N) (disk : disk.Ghosts D)
      (first last : Store D) → Begins disk session first → (seat : BookState Entry)
      → seat.list ≡ [] → (jobs behind : Vec (Work L O) Global) (failed : ℕ)
      → HasEnded {A = A} {B = B} disk session (lane_site weighs lifts)
      (door_site reads comes) (map (new_job seat) jobs.items) last behind.items failed
      → EndsSession disk (lane_site weighs lifts) (door_site reads comes) first jobs
      (record { store = last; jobs = behind; ran = true; faults = failed })
  session_ends {D} {N} {A} {B} session disk first last begins seat empty jobs behind failed ended =
      record {
        ran = λ ran. have_run session weighs lifts reads comes disk first last begins seat
            empty jobs.items behind.items failed ended;
        unbegun = λ unbegun. absurd (let never : true ≡ false = unbegun in cc);
        faults = failed_right session weighs lifts reads comes disk first last begins
            (map (new_job seat) jobs.items) behind.items failed ended;
        settled = settled_right session weighs lifts reads comes disk first last begins
            (map (new_job seat) jobs.items) behind.items failed ended;
        still = still_right session weighs lifts reads comes disk first last begins
            (map (new_job seat) jobs.items) behind.items failed ended;
        sound = ended.kept.sound;
        balanced = ended.kept.balanced;
        limit = ended.kept.limit ∙ begins.limit;
        held = ended.kept.held ∙ begins.held;
        kept = λ rests held start run. ended.goes_on held start first begins rests run;
      }
