-- How the works and waits of a changing lane go on by one more.
use Rattle.std.proofs.Common.{◌≡◌, ◌⊎◌, inl, inr, ⊎_elim, ℕ, ◌+◌, ◌-◌, ◌^◌, ◌<◌, ◌≤◌, min, true, false, List, [], ◌∷◌, ◌++◌, length, take, flat_map, Option, Some, None, refl, sym, ◌∙◌, ap, subst, arith, append_assoc, append-nil, length-append}
use Rattle.std.specs.List.{sum_by}
use Rattle.std.proofs.lemmas.Bool.{ltb-true}
use Rattle.std.proofs.lemmas.Bool.Decides.{nat_tests}
use Rattle.std.proofs.lemmas.Grind.{flat_map-append}
use Rattle.std.proofs.lemmas.List.Sums.{sum_by-append}
use Rattle.std.proofs.Math.Seq.{take-append-add}
use Rattle.book_words.specs.declared.name.Name.{Name}
use Rattle.book_words.specs.declared.act.Ask.{Ask}
use Rattle.book_words.specs.declared.caller.AskError.{AskError}
use Rattle.book_words.specs.declared.caller.Caller as caller
use Rattle.book_words.specs.declared.reply.Refused.{Refused}
use Rattle.book_words.specs.Callers.{Known, IsReached}
use Rattle.lane_worker.specs.declared.types.CellNext.{CellNext}
use Rattle.lane_worker.specs.declared.types.CellNext.TheVariants as item
use Rattle.lane_worker.specs.declared.ending.LaneEnd.{LaneEnd}
use Rattle.lane_worker.specs.declared.ending.LaneStop.{LaneStop}
use Rattle.lane_worker.specs.declared.ending.LaneStop.TheVariants as stop
use Rattle.lane_worker.specs.Works.{Site, BreaksAt, IsWork, Finishes, BreaksOff, asks_of_work}
use Rattle.lane_changes.specs.declared.changing.TheConstants.{MAX_STINTS}
use Rattle.lane_changes.specs.declared.course.Course.{Course}
use Rattle.lane_changes.specs.declared.types.Next.{Next}
use Rattle.lane_changes.specs.declared.types.Next.TheVariants.{Works, Waits, Ends}
use Rattle.lane_changes.specs.Stints.{Stint, WorkStint, WaitStint, FailedStint, behind, Fits, AreStints, asks_in, opened_in, item_weight, weights_in, refused_in, stop_in, last_stop, first_of, first_refused, end_stop}
use Rattle.lane_changes.specs.Changes.{WentAt, BrokeAt, DidOnce, Did, HasChanged}
use Rattle.lane_changes.specs.Steps.{may_go, goes_on, course_end, IsUnbegun, HasPassed, IsCourse}

-- ---- one more at the end

stints_push : (first : Next) (stints : List Stint) (mid : Next) (stint : Stint) → AreStints first stints mid → Fits mid stint → AreStints first (stints ++ stint ∷ []) (behind stint)
stints_push first [] mid stint is fits = (subst (λ (n : Next). Fits n stint) is fits, refl)
stints_push first (one ∷ stints) mid stint is fits = (is.0, stints_push (behind one) stints mid stint is.1 fits)

did_push : (Went : Known → Known → List Ask → Type 0) (Broke : Known → Known → List Ask → Ask → AskError → Type 0) (lane : ℕ) (was : Site) (stints : List Stint) (mid : Site) (stint : Stint) (now : Site)
    → Did Went Broke lane was stints mid → DidOnce Went Broke lane mid stint now → Did Went Broke lane was (stints ++ stint ∷ []) now
did_push Went Broke lane was [] mid stint now did once = (now, subst (λ (s : Site). DidOnce Went Broke lane s stint now) did once, refl)
did_push Went Broke lane was (one ∷ stints) mid stint now did once = (did.0, did.1, did_push Went Broke lane did.0 stints mid stint now did.2 once)

stop_push : (before : LaneStop) (stints : List Stint) (stint : Stint) → last_stop before (stints ++ stint ∷ []) ≡ stop_in stint
stop_push before [] stint = refl
stop_push before (one ∷ stints) stint = stop_push (stop_in one) stints stint

first_assoc : (a b c : Option Refused) → first_of (first_of a b) c ≡ first_of a (first_of b c)
first_assoc (Some r) b c = refl
first_assoc None b c = refl

first_none : (a : Option Refused) → first_of a None ≡ a
first_none (Some r) = refl
first_none None = refl

refused_push : (stints : List Stint) (stint : Stint) → first_refused (stints ++ stint ∷ []) ≡ first_of (first_refused stints) (refused_in stint)
refused_push [] stint = first_none (refused_in stint)
refused_push (one ∷ stints) stint = ap (first_of (refused_in one)) (refused_push stints stint) ∙ sym (first_assoc (refused_in one) (first_refused stints) (refused_in stint))

sum_push : (f : Stint → ℕ) (stints : List Stint) (stint : Stint) → sum_by f (stints ++ stint ∷ []) ≡ sum_by f stints + f stint
sum_push f stints stint = let all = sum_by-append f stints (stint ∷ []) in omega (arith, all)

asks_push : (lane : ℕ) (stints : List Stint) (stint : Stint) → flat_map (asks_in lane) (stints ++ stint ∷ []) ≡ flat_map (asks_in lane) stints ++ asks_in lane stint
asks_push lane stints stint = flat_map-append (asks_in lane) stints (stint ∷ []) ∙ ap (λ (asks : List Ask). flat_map (asks_in lane) stints ++ asks) (append-nil (asks_in lane stint))

capped : (a b : ℕ) → min (min a (2 ^ 32 - 1) + b) (2 ^ 32 - 1) ≡ min (a + b) (2 ^ 32 - 1)
capped a b = omega arith

-- a stint more
pub course_on : (Reached Then : List Ask → Type 0) (Went : Known → Known → List Ask → Type 0) (Broke : Known → Known → List Ask → Ask → AskError → Type 0) (was mid now : Site) (lane : ℕ) (old new : Course) (stint : Stint)
    → IsCourse Reached Went Broke was mid lane old → HasPassed old stint new → Fits old.next stint → DidOnce Went Broke lane mid stint now
    → ((asks : List Ask) → Reached asks → Then (asks ++ asks_in lane stint)) → IsCourse Then Went Broke was now lane new
course_on Reached Then Went Broke was mid now lane old new stint is passed fits once reached = record {
  stints = is.stints ++ stint ∷ [];
  count = let long = length-append is.stints (stint ∷ []) in omega (arith, passed.stints, is.count, long);
  follow = subst (AreStints Waits (is.stints ++ stint ∷ [])) (sym passed.next) (stints_push Waits is.stints old.next stint is.follow fits);
  did = did_push Went Broke lane was is.stints mid stint now is.did once;
  asked = subst Then (sym (asks_push lane is.stints stint)) (reached (flat_map (asks_in lane) is.stints) is.asked);
  stop = passed.stop ∙ sym (stop_push stop.Done is.stints stint);
  opened = passed.opened ∙ ap (λ (n : ℕ). min (n + opened_in stint) (2 ^ 32 - 1)) is.opened ∙ capped (sum_by opened_in is.stints) (opened_in stint) ∙ ap (λ (n : ℕ). min n (2 ^ 32 - 1)) (sym (sum_push opened_in is.stints stint));
  refused = passed.refused ∙ ap (λ (o : Option Refused). first_of o (refused_in stint)) is.refused ∙ sym (refused_push is.stints stint);
  weights = passed.weights ∙ ap (λ (n : ℕ). n + weights_in stint) is.weights ∙ sym (sum_push weights_in is.stints stint);
}

-- ---- the asks of a work

take_first : (answered : List Ask) (next : Ask) (rest : List Ask) → take (length answered + 1) ((answered ++ next ∷ []) ++ rest) ≡ answered ++ next ∷ []
take_first answered next rest = ap (take (length answered + 1)) (append_assoc answered (next ∷ []) rest) ∙ take-append-add answered (next ∷ rest) 1

take_all : (asks : List Ask) → take (length asks + 1) asks ≡ asks
take_all asks = ap (take (length asks + 1)) (sym (append-nil asks)) ∙ take-append-add asks [] 1 ∙ append-nil asks

-- a worker was reached by just the asks that are told of its work
pub work_reached : {C : Type 0} (asks : caller.Ghosts C) → IsReached asks.later → (first last : C) (lane : ℕ) (batch : Name) (was now : Site) (end : LaneEnd)
    → (is : IsWork (asks.later first last) (BreaksAt asks first last) was now lane batch end)
    → asks.later first last (asks_in lane (WorkStint (record { batch = batch; work = is.work; end = end })))
work_reached asks reached first last lane batch was now end is = by_stop is.stops
  where
    by_stop : (Finishes (asks.later first last) (asks_of_work lane batch is.work) is.work end.stop ⊎ BreaksOff (BreaksAt asks first last) (asks_of_work lane batch is.work) is.work end.stop)
        → asks.later first last (take (length is.work.answered + 1) (asks_of_work lane batch is.work))
    by_stop (inl f) = subst (asks.later first last) (sym (ap (take (length is.work.answered + 1)) f.whole ∙ take_all is.work.answered)) f.later
    by_stop (inr b) = subst (asks.later first last) (sym (ap (take (length is.work.answered + 1)) b.first.1 ∙ take_first is.work.answered b.next b.first.0))
        (reached.by_both first b.broke.between last is.work.answered (b.next ∷ []) b.broke.before b.broke.later)

-- so it is that of a changing lane
pub work_once : {C : Type 0} (asks : caller.Ghosts C) (first last : C) (lane : ℕ) (batch : Name) (was now : Site) (end : LaneEnd)
    → asks.known first ≡ was.caller → asks.known last ≡ now.caller
    → (is : IsWork (asks.later first last) (BreaksAt asks first last) was now lane batch end)
    → DidOnce (WentAt asks) (BrokeAt asks) lane was (WorkStint (record { batch = batch; work = is.work; end = end })) now
work_once asks first last lane batch was now end before behind is = record {
  is = record {
    work = is.work;
    added = is.added;
    legal = is.legal;
    faults = is.faults;
    given = is.given;
    opened = is.opened;
    count = is.count;
    places = is.places;
    accepted = is.accepted;
    done = is.done;
    stops = ⊎_elim
        (λ f. inl (record { ending = f.ending; ended = f.ended; told = f.told; whole = f.whole; later = record { first = first; last = last; known_first = before; known_last = behind; later = f.later } }))
        (λ b. inr (record { next = b.next; why = b.why; told = b.told; first = b.first; broke = record { first = first; last = last; known_first = before; known_last = behind; breaks = b.broke } })) is.stops;
  };
  work = refl;
}

-- ---- the begin and the end

-- a lane is as it was, where its cell has only heard that it changes
pub same_site : (was now : Site) → now.caller ≡ was.caller → now.feed ≡ was.feed → now.cell_faults ≡ was.cell_faults → now.opened ≡ was.opened → now.gate_faults ≡ was.gate_faults → now ≡ was
same_site was now caller feed cell opened gate = λ i. record { caller = caller i; feed = feed i; cell_faults = cell i; opened = opened i; gate_faults = gate i }

pub course_begins : (Reached : List Ask → Type 0) (Went : Known → Known → List Ask → Type 0) (Broke : Known → Known → List Ask → Ask → AskError → Type 0) (was : Site) (lane : ℕ) (course : Course)
    → IsUnbegun course → Reached [] → IsCourse Reached Went Broke was was lane course
course_begins Reached Went Broke was lane course new none = record {
  stints = [];
  count = new.stints;
  follow = new.next;
  did = refl;
  asked = none;
  stop = new.stop;
  opened = new.opened;
  refused = new.refused;
  weights = new.weights;
}

over_by : (next : Next) (stints : ℕ) → stints ≤ MAX_STINTS → may_go next stints ≡ false → (next ≡ Ends) ⊎ (stints ≡ MAX_STINTS)
over_by (Works batch) stints few over = inr (grind (arith, nat_tests, few, over))
over_by Waits stints few over = inr (grind (arith, nat_tests, few, over))
over_by Ends stints few over = inl refl

pub course_ends : (Reached : List Ask → Type 0) (Went : Known → Known → List Ask → Type 0) (Broke : Known → Known → List Ask → Ask → AskError → Type 0) (was now : Site) (lane : ℕ) (course : Course) (end : LaneEnd)
    → IsCourse Reached Went Broke was now lane course → course.stints ≤ MAX_STINTS → goes_on course ≡ false → end ≡ course_end course → HasChanged Reached Went Broke was now lane end
course_ends Reached Went Broke was now lane course end is few over told = record {
  stints = is.stints;
  next = course.next;
  course = is.follow;
  ended = subst (λ (n : ℕ). (course.next ≡ Ends) ⊎ (n ≡ MAX_STINTS)) is.count (over_by course.next course.stints few over);
  did = is.did;
  asked = is.asked;
  opened = ap (λ (e : LaneEnd). e.opened) told ∙ is.opened;
  stop = ap (λ (e : LaneEnd). e.stop) told ∙ (λ i. end_stop course.next (is.stop i) (is.refused i) (is.weights i));
}

-- ---- the bound

pub room_left : (course : Course) → goes_on course ≡ true → course.stints < MAX_STINTS
room_left course goes = by_next course.next course.stints goes
  where
    by_next : (next : Next) (stints : ℕ) → may_go next stints ≡ true → stints < MAX_STINTS
    by_next (Works batch) stints goes = ltb-true _ _ goes
    by_next Waits stints goes = ltb-true _ _ goes
    by_next Ends stints goes = absurd (cc)

item_few : (given : CellNext) → item_weight given ≤ 1
item_few (item.Gross gross) = omega arith
item_few (item.Batch batch line) = omega arith
item_few item.End = omega arith
item_few (item.Bad line) = omega arith
item_few item.Spent = omega arith

pub weights_few : (old new : Course) (stint : Stint) → HasPassed old stint new → old.weights ≤ old.stints → new.weights ≤ new.stints
weights_few old new stint passed few = by_stint stint passed
  where
    by_stint : (s : Stint) → HasPassed old s new → new.weights ≤ new.stints
    by_stint (WorkStint did) p = omega (arith, p.weights, p.stints, few)
    by_stint (WaitStint given) p = omega (arith, p.weights, p.stints, few, item_few given)
    by_stint FailedStint p = omega (arith, p.weights, p.stints, few)
