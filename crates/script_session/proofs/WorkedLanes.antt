-- What works make of the devices of lanes, one after another.
use Rattle.std.proofs.Common.{◌≡◌, ℕ, suc, zero, ◌+◌, ◌<◌, Bool, true, false, ◌==◌, if◌then◌else◌, List, [], ◌∷◌, ◌++◌, length, map, filter, get_or, set, Option, Some, None, refl, sym, ap, ◌∙◌, subst, arith, append_assoc, append-nil, length-append}
use Rattle.std.proofs.lemmas.Bool.{eq-eqb}
use Rattle.std.proofs.lemmas.Bool.Decides.{nat_tests}
use Rattle.std.proofs.lemmas.Grind.{flat_map-append}
use Rattle.std.proofs.lemmas.List.Elements.{filter-append}
use Rattle.device_facts.specs.Count.{Counted}
use Rattle.lane_worker.specs.declared.types.CellNext.{CellNext}
use Rattle.lane_worker.specs.Cells.{Feed, feed_behind, Gave}
use Rattle.lane_worker.specs.Gates.{with_packs}
use Rattle.lane_worker.specs.Endings.{cell_failed, gate_failed, FailsIf}
use Rattle.lane_worker.specs.Works.{Work}
use Rattle.script_events.specs.LaneWorks.{LaneState, HasMoved}
use Rattle.script_session.specs.LaneMoves.{items_given, FailsOften, HasWorked, EachWorked, HaveWorked}
use Rattle.script_session.specs.Outside.{Outside}
use Rattle.script_events.specs.Transcript.{Event, Worked, Job, ends_in, ends_of, works_in, works_of}

-- ---- one device

-- items, and then more
gave_on : (was : Feed) (items : List CellNext) (mid : Feed) (more : List CellNext) (now : Feed)
    → Gave was items mid
    → Gave mid more now → Gave was (items ++ more) now
gave_on was [] mid more now first second =
    subst (λ (feed : Feed). Gave feed more now) first second
gave_on was (item ∷ items) mid more now first second =
    (first.0, gave_on (feed_behind was item) items mid more now first.1 second)

-- packs, and then more
packs_on : (packs more : List ℕ) (was mid now : Option (List ℕ)) → mid ≡ with_packs packs was
    → now ≡ with_packs more mid → now ≡ with_packs (packs ++ more) was
packs_on packs more was mid now first second = second ∙ ap (with_packs more) first ∙ both was
  where
    both : (opened : Option (List ℕ))
        → with_packs more (with_packs packs opened) ≡ with_packs (packs ++ more) opened
    both None = refl
    both (Some opened) = ap Some (append_assoc opened packs more)

no_packs : (was : Option (List ℕ)) → was ≡ with_packs [] was
no_packs None = refl
no_packs (Some packs) = ap Some (sym (append-nil packs))

-- faults, and then more
fails_on : (times more was mid now : ℕ) → FailsOften times was mid → FailsOften more mid now
    → FailsOften (times + more) was now
fails_on zero more was mid now first second =
    let all : more ≡ 0 + more = omega arith in
    subst (λ n. FailsOften n was now) all (subst (λ (n : ℕ). FailsOften more n now) first second)
fails_on (suc times) zero was mid now first second =
    let all : suc times ≡ suc times + 0 = omega arith in
    subst (λ n. FailsOften n was now) all (second ∙ first)
fails_on (suc times) (suc more) was mid now first second =
    let all : suc (times + suc more) ≡ suc times + suc more = omega arith in
    let counted : Counted was now (suc (times + suc more)) = omega (arith, first, second) in
    subst (λ n. FailsOften n was now) all counted

-- how many pass a test among some, and then among more
count_on : {A : Type 0} (test : A → Bool) (xs ys : List A)
    → length (filter test (xs ++ ys)) ≡ length (filter test xs) + length (filter test ys)
count_on test xs ys = ap length (filter-append test xs ys)
    ∙ length-append (filter test xs) (filter test ys)

fails_once : {A : Type 0} (failed : Bool) (x : A) (was now : ℕ) → FailsIf failed was now
    → FailsOften (length (if failed then x ∷ [] else [])) was now
fails_once true x was now fails = fails
fails_once false x was now fails = fails

-- ---- one lane

pub worked_none : (state : LaneState) → HasWorked state state []
worked_none state =
    record { items = refl; cell = refl; opened = no_packs state.opened; gate = refl }

worked_once : (was now : LaneState) (work : Work) → HasMoved was now work
    → HasWorked was now (work ∷ [])
worked_once was now work moved =
    record {
      items = subst (λ (items : List CellNext). Gave was.feed items now.feed)
          (sym (append-nil (items_given work))) moved.items;
      cell = fails_once (cell_failed work.ending) work was.cell_faults now.cell_faults moved.cell;
      opened = moved.opened
          ∙ ap (λ packs. with_packs packs was.opened) (sym (append-nil work.opened));
      gate = fails_once (gate_failed work.ending) work was.gate_faults now.gate_faults moved.gate;
    }

worked_on : (was mid now : LaneState) (works more : List Work) → HasWorked was mid works
    → HasWorked mid now more → HasWorked was now (works ++ more)
worked_on was mid now works more first second =
    record {
      items = subst (λ (items : List CellNext). Gave was.feed items now.feed)
          (sym (flat_map-append items_given works more))
          (gave_on was.feed _ mid.feed _ now.feed first.items second.items);
      cell = subst (λ (n : ℕ). FailsOften n was.cell_faults now.cell_faults)
          (sym (count_on (λ (w : Work). cell_failed w.ending) works more))
          (fails_on _ _ was.cell_faults mid.cell_faults now.cell_faults first.cell second.cell);
      opened = packs_on _ _ was.opened mid.opened now.opened first.opened second.opened
          ∙ ap (λ packs. with_packs packs was.opened)
          (sym (flat_map-append (λ (w : Work). w.opened) works more));
      gate = subst (λ (n : ℕ). FailsOften n was.gate_faults now.gate_faults)
          (sym (count_on (λ (w : Work). gate_failed w.ending) works more))
          (fails_on _ _ was.gate_faults mid.gate_faults now.gate_faults first.gate second.gate);
    }

-- ---- all lanes

-- the works of another lane
works_elsewhere : (lane : ℕ) (job : Job) → (job.lane == lane) ≡ false
    → works_of lane (Worked job ∷ []) ≡ []
works_elsewhere lane job other =
    ap (λ (b : Bool). (if b then job.work ∷ [] else []) ++ []) other

works_here : (lane : ℕ) (job : Job) → job.lane ≡ lane
    → works_of lane (Worked job ∷ []) ≡ job.work ∷ []
works_here lane job same =
    ap (λ (b : Bool). (if b then job.work ∷ [] else []) ++ []) (eq-eqb job.lane lane same)

pub each_none : (lane : ℕ) (states : List LaneState) → EachWorked lane states states []
each_none lane [] = tt
each_none lane (state ∷ states) = (worked_none state, each_none (lane + 1) states)

-- lanes with greater numbers than the one that was worked
others_still : (lane : ℕ) (states : List LaneState) (job : Job) → job.lane < lane
    → EachWorked lane states states (Worked job ∷ [])
others_still lane [] job less = tt
others_still lane (state ∷ states) job less =
    let other : (job.lane == lane) ≡ false = grind (arith, nat_tests) in (
      subst (HasWorked state state) (sym (works_elsewhere lane job other)) (worked_none state),
      others_still (lane + 1) states job (omega (arith, less)),
    )

-- the lane at a place was worked, and no other
pub each_once : {L : Type 0} (state : L → LaneState) (lane place : ℕ) (lanes : List L)
    (other now : L) (job : Job) → place < length lanes → job.lane ≡ lane + place
    → HasMoved (state (get_or lanes place other)) (state now) job.work
    → EachWorked lane (map state lanes) (map state (set lanes place now)) (Worked job ∷ [])
each_once state lane place [] other now job within same moved = absurd (omega (arith, within))
each_once state lane zero (first ∷ lanes) other now job within same moved = (
  subst (HasWorked (state first) (state now))
      (sym (works_here lane job (omega (arith, same))))
      (worked_once (state first) (state now) job.work moved),
  others_still (lane + 1) (map state lanes) job (omega (arith, same)),
)
each_once state lane (suc place) (first ∷ lanes) other now job within same moved =
    let elsewhere : (job.lane == lane) ≡ false = grind (arith, nat_tests) in (
      subst (HasWorked (state first) (state first))
          (sym (works_elsewhere lane job elsewhere)) (worked_none (state first)),
      each_once state (lane + 1) place lanes other now job (omega (arith, within))
          (omega (arith, same)) moved,
    )

each_on : (lane : ℕ) (was mid now : List LaneState) (events more : List Event)
    → EachWorked lane was mid events → EachWorked lane mid now more
    → EachWorked lane was now (events ++ more)
each_on lane [] [] [] events more first second = tt
each_on lane [] [] (c ∷ now) events more first second = absurd second
each_on lane [] (b ∷ mid) now events more first second = absurd first
each_on lane (a ∷ was) [] now events more first second = absurd first
each_on lane (a ∷ was) (b ∷ mid) [] events more first second = absurd second
each_on lane (a ∷ was) (b ∷ mid) (c ∷ now) events more first second = (
  subst (HasWorked a c) (sym (flat_map-append (works_in lane) events more))
      (worked_on a b c (works_of lane events) (works_of lane more) first.0 second.0),
  each_on (lane + 1) was mid now events more first.1 second.1,
)

each_count : (lane : ℕ) (was now : List LaneState) (events : List Event)
    → EachWorked lane was now events → length now ≡ length was
each_count lane [] [] events worked = refl
each_count lane [] (b ∷ now) events worked = absurd worked
each_count lane (a ∷ was) [] events worked = absurd worked
each_count lane (a ∷ was) (b ∷ now) events worked =
    ap suc (each_count (lane + 1) was now events worked.1)

-- ---- what stands outside a book

pub have_worked_none : (now : Outside) → HaveWorked now now []
have_worked_none now =
    record { devices = each_none 1 now.lanes; told = sym (append-nil now.log.ends) }

pub have_worked_on : (before old now : Outside) (events more : List Event)
    → HaveWorked before old events → HaveWorked old now more
    → HaveWorked before now (events ++ more)
have_worked_on before old now events more first second =
    record {
      devices = each_on 1 before.lanes old.lanes now.lanes events more first.devices
          second.devices;
      told = second.told ∙ ap (λ ends. ends ++ ends_of more) first.told
          ∙ append_assoc before.log.ends (ends_of events) (ends_of more)
          ∙ ap (λ ends. before.log.ends ++ ends)
          (sym (flat_map-append ends_in events more));
    }

-- no lane goes or comes
pub same_lanes : (before now : Outside) (events : List Event) → HaveWorked before now events
    → length now.lanes ≡ length before.lanes
same_lanes before now events worked = each_count 1 before.lanes now.lanes events worked.devices
