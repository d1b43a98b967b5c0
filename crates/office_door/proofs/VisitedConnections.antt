-- How the work of a door goes on with each connection, and how it comes to its end.
use Rattle.std.proofs.Common.{◌≡◌, ℕ, zero, suc, ◌+◌, ◌<◌, true, false, true≢false, List, [], ◌∷◌, ◌++◌, length, Option, Some, None, IfSome, is_some, option_map, refl, sym, ◌∙◌, ap, subst, arith, append-nil, length-append, zero-add}
use Rattle.std.proofs.lemmas.List.Concat.{flat_map-append}
use Rattle.std.proofs.lemmas.List.Elements.{All-nil, All-push}
use Rattle.std.proofs.lemmas.List.Sums.{sum_by-append}
use Rattle.std.specs.Io.KnownBytes.{Consumes, IsAtEnd}
use Rattle.device_facts.specs.Count.{Counted}
use Rattle.device_facts.specs.Prefix.{IsPrefixOf}
use Rattle.disk_core.specs.Doors.{Connections, first_connection, next_connections, left_now}
use Rattle.book_words.specs.declared.act.Ask.{Ask}
use Rattle.book_words.specs.Callers.{Known}
use Rattle.office_door.specs.declared.leaving.Leaving.{Leaving}
use Rattle.office_door.specs.declared.ending.DoorStop.TheVariants as stop
use Rattle.office_door.specs.declared.tally.Tally.{Tally}
use Rattle.office_door.specs.declared.limits.TheConstants.{MAX_CONNECTIONS}
use Rattle.office_door.specs.Exchanges.{Exchange, asks_of, HasAnswered}
use Rattle.office_door.specs.Served.{Visit, IsServed, exchanges_of}
use Rattle.office_door.specs.Doors.{Port, Site, with_talk, visited, TakesFrom, AreVisited, links_of, link_faults, FailedSoOften, all_exchanges, ServesDoor}
use Rattle.office_door.specs.Steps.{IsVisited, IsOpen, end_of}
use Rattle.office_door.proofs.AnsweredAsks.{answered_none, answered_both}

-- ---- counts

failed_more : (was mid now a b : ℕ) → FailedSoOften was mid a → FailedSoOften mid now b
    → FailedSoOften was now (a + b)
failed_more was mid now zero zero first second = second ∙ first
failed_more was mid now zero (suc b) first second =
    let same : suc b ≡ zero + suc b = omega arith in
    subst (FailedSoOften was now) same (subst (λ (n : ℕ). Counted n now (suc b)) first second)
failed_more was mid now (suc a) zero first second =
    let same : suc a ≡ suc a + zero = omega arith in
    subst (FailedSoOften was now) same (second ∙ first)
failed_more was mid now (suc a) (suc b) first second =
    let same : suc (a + suc b) ≡ suc a + suc b = omega arith in
    let both : Counted was now (suc (a + suc b)) = omega (arith, first, second) in
    subst (FailedSoOften was now) same both

-- ---- connections

-- a visit more
visits_push : (was mid : Option Connections) (visits : List Visit) (visit : Visit)
    → AreVisited was visits mid
    → IfSome mid (λ (all : Connections). TakesFrom (first_connection all.waiting) visit)
    → AreVisited was (visits ++ visit ∷ []) (option_map (visited visit) mid)
visits_push was mid [] visit is takes = (
  subst (λ (o : Option Connections). IfSome o
      (λ (all : Connections). TakesFrom (first_connection all.waiting) visit)) is takes,
  ap (option_map (visited visit)) is,
)
visits_push was mid (v ∷ visits) visit is takes =
    (is.0, visits_push (option_map (visited v) was) mid visits visit is.1 takes)

-- the bytes that a connection gives, where these are left
gives : (bytes : List ℕ) (left now : Option (List ℕ)) (visit : Visit) → left ≡ Some bytes
    → Consumes left now visit.taken → (visit.ended ≡ true → IsAtEnd now)
    → IsPrefixOf visit.taken bytes × (visit.ended ≡ true → bytes ≡ visit.taken)
gives bytes left now visit is takes ends =
    by now (subst (λ (o : Option (List ℕ)). Consumes o now visit.taken) is takes) ends
  where
    by : (o : Option (List ℕ)) → Consumes (Some bytes) o visit.taken
        → (visit.ended ≡ true → IsAtEnd o)
        → IsPrefixOf visit.taken bytes × (visit.ended ≡ true → bytes ≡ visit.taken)
    by None none at_end = absurd none
    by (Some rest) parts at_end = (
      (rest, parts),
      λ end. parts ∙ ap (λ (l : List ℕ). visit.taken ++ l) (at_end end)
          ∙ append-nil visit.taken,
    )

-- the first that waits is there, where one is present then
takes_from : (all : Connections) (waiting : List (List ℕ)) (left now : Option (List ℕ))
    (visit : Visit) → true ≡ is_some (first_connection waiting)
    → left ≡ Some (left_now (record all { present = first_connection waiting }))
    → Consumes left now visit.taken → (visit.ended ≡ true → IsAtEnd now)
    → TakesFrom (first_connection waiting) visit
takes_from all [] left now visit found is takes ends = absurd (true≢false found)
takes_from all (bytes ∷ waiting) left now visit found is takes ends =
    gives bytes left now visit is takes ends

takes_next : (was mid : Option Connections) (left now : Option (List ℕ)) (visit : Visit)
    → mid ≡ option_map next_connections was
    → IfSome mid (λ (all : Connections). true ≡ is_some all.present)
    → left ≡ option_map left_now mid
    → Consumes left now visit.taken → (visit.ended ≡ true → IsAtEnd now)
    → IfSome was (λ (all : Connections). TakesFrom (first_connection all.waiting) visit)
takes_next None mid left now visit is found left_is takes ends = tt
takes_next (Some all) mid left now visit is found left_is takes ends =
    let present : true ≡ is_some (first_connection all.waiting) =
    subst (λ (o : Option Connections). IfSome o (λ (a : Connections). true ≡ is_some a.present))
    is found in
    takes_from all all.waiting left now visit present
    (left_is ∙ ap (option_map left_now) is) takes ends

none_waits : (waiting : List (List ℕ)) → false ≡ is_some (first_connection waiting)
    → waiting ≡ []
none_waits [] none = refl
none_waits (bytes ∷ waiting) none = absurd (true≢false (sym none))

-- where none is present then, none waited
waits_none : (was now : Option Connections) → now ≡ option_map next_connections was
    → IfSome now (λ (all : Connections). false ≡ is_some all.present)
    → IfSome was (λ (all : Connections). all.waiting ≡ [])
waits_none None now is none = tt
waits_none (Some all) now is none =
    none_waits all.waiting
    (subst (λ (o : Option Connections). IfSome o (λ (a : Connections). false ≡ is_some a.present))
    is none)

as_visited : (was : Option Connections) (visit : Visit)
    → option_map (with_talk visit.taken visit.written) (option_map next_connections was)
    ≡ option_map (visited visit) was
as_visited None visit = refl
as_visited (Some all) visit = refl

-- ---- a door that may serve more

-- it begins
pub open_none : (Reached : List Ask → Type 0) (now : Site) → Reached []
    → IsOpen Reached now now 0 (record { served = 0; links = 0 })
open_none Reached now reached = record {
  visits = [];
  has = record {
    each = All-nil IsServed;
    answered = answered_none Reached now.caller reached;
    visits_are = refl;
    served_is = refl;
    links_are = refl;
  };
  turns_are = refl;
  faults = refl;
  missed = refl;
}

-- the exchanges of a visit more
exchanges_push : (visits : List Visit) (visit : Visit)
    → all_exchanges (visits ++ visit ∷ []) ≡ all_exchanges visits ++ exchanges_of visit
exchanges_push visits visit =
    flat_map-append exchanges_of visits (visit ∷ [])
    ∙ ap (λ (xs : List Exchange). all_exchanges visits ++ xs) (append-nil (exchanges_of visit))

links_push : (visits : List Visit) (visit : Visit)
    → link_faults (visits ++ visit ∷ []) ≡ link_faults visits + links_of visit.leaving
links_push visits visit =
    sum_by-append (λ (v : Visit). links_of v.leaving) visits (visit ∷ [])
    ∙ ap (λ (n : ℕ). link_faults visits + n) (zero-add (links_of visit.leaving))

-- the next connection was admitted and visited
pub open_more : (One Two Both : List Ask → Type 0) (was : Site) (known new : Known)
    (old mid now : Port) (turns : ℕ) (tally : Tally) (served links : ℕ) (leaving : Leaving)
    → IsOpen One was (record { caller = known; door = old }) turns tally
    → mid.connections ≡ option_map next_connections old.connections
    → IfSome mid.connections (λ (all : Connections). true ≡ is_some all.present)
    → mid.left ≡ option_map left_now mid.connections → mid.faults ≡ old.faults
    → mid.missed ≡ old.missed → now.missed ≡ mid.missed
    → IsVisited Two (record { caller = known; door = mid }) (record { caller = new; door = now })
    served leaving
    → links ≡ links_of leaving
    → ((xs ys : List Ask) → One xs → Two ys → Both (xs ++ ys))
    → IsOpen Both was (record { caller = new; door = now }) (turns + 1)
    (record { served = tally.served + served; links = tally.links + links })
open_more One Two Both was known new old mid now turns tally served links leaving is admits found
    left_is calm met kept visit links_is both =
    let v = visit.visit in
    let before = is.has in
    let takes = takes_next old.connections mid.connections mid.left now.left v admits found left_is
    visit.bytes visit.at_end in
    let after : now.connections ≡ option_map (visited v) old.connections =
    visit.connections
    ∙ ap (option_map (with_talk v.taken v.written)) admits
    ∙ as_visited old.connections v in
    let exchanges = exchanges_push is.visits v in
    let reached = both (asks_of (all_exchanges is.visits)) (asks_of (exchanges_of v))
    before.answered.asked visit.answered.asked in
    let links_are : tally.links + links ≡ link_faults (is.visits ++ v ∷ []) =
    ap (λ (n : ℕ). tally.links + n) (links_is ∙ ap links_of (sym visit.left_so))
    ∙ ap (λ (n : ℕ). n + links_of v.leaving) before.links_are
    ∙ sym (links_push is.visits v) in
    record {
      visits = is.visits ++ v ∷ [];
      has = record {
        each = All-push IsServed is.visits v before.each visit.right;
        answered = subst (λ (xs : List Exchange). HasAnswered Both was.caller new xs)
            (sym exchanges)
            (answered_both One Two Both was.caller known new (all_exchanges is.visits)
            (exchanges_of v) before.answered visit.answered reached);
        visits_are = subst (AreVisited was.door.connections (is.visits ++ v ∷ [])) (sym after)
            (visits_push was.door.connections old.connections is.visits v before.visits_are takes);
        served_is = omega (
          arith,
          before.served_is,
          visit.served_is,
          ap length exchanges,
          length-append (all_exchanges is.visits) (exchanges_of v),
        );
        links_are = links_are;
      };
      turns_are = omega (arith, is.turns_are, length-append is.visits (v ∷ []));
      faults = failed_more was.door.faults old.faults now.faults tally.links links is.faults
          (subst (λ (n : ℕ). FailedSoOften old.faults now.faults n) (sym links_is)
          (subst (λ (n : ℕ). FailedSoOften n now.faults (links_of leaving)) calm visit.faults));
      missed = kept ∙ met ∙ is.missed;
    }

-- ---- a door that serves no more

-- no connection waits any more
pub stops_done : (Reached : List Ask → Type 0) (was : Site) (known : Known) (old now : Port)
    (turns : ℕ) (tally : Tally) → turns < MAX_CONNECTIONS
    → IsOpen Reached was (record { caller = known; door = old }) turns tally
    → now.connections ≡ option_map next_connections old.connections
    → IfSome now.connections (λ (all : Connections). false ≡ is_some all.present)
    → now.faults ≡ old.faults → now.missed ≡ old.missed
    → ServesDoor Reached was (record { caller = known; door = now }) (end_of tally stop.Done)
stops_done Reached was known old now turns tally few is admits none calm met = record {
  visits = is.visits;
  connections = old.connections;
  has = is.has;
  stops = (
    subst (λ (n : ℕ). n < MAX_CONNECTIONS) (sym is.turns_are) few,
    waits_none old.connections now.connections admits none,
    admits,
  );
  faults = failed_more was.door.faults old.faults now.faults tally.links 0 is.faults calm;
  missed = met ∙ is.missed;
}

-- the next can't be admitted
pub stops_failed : (Reached : List Ask → Type 0) (was : Site) (known : Known) (old now : Port)
    (turns : ℕ) (tally : Tally) → turns < MAX_CONNECTIONS
    → IsOpen Reached was (record { caller = known; door = old }) turns tally
    → now.connections ≡ old.connections → Counted old.faults now.faults 1
    → Counted old.missed now.missed 1
    → ServesDoor Reached was (record { caller = known; door = now }) (end_of tally stop.Door)
stops_failed Reached was known old now turns tally few is same failed missed = record {
  visits = is.visits;
  connections = old.connections;
  has = is.has;
  stops = (subst (λ (n : ℕ). n < MAX_CONNECTIONS) (sym is.turns_are) few, same);
  faults = failed_more was.door.faults old.faults now.faults tally.links 1 is.faults failed;
  missed = subst (λ (n : ℕ). Counted n now.missed 1) is.missed missed;
}

-- as many were served as may be
pub stops_spent : (Reached : List Ask → Type 0) (was now : Site) (tally : Tally)
    → IsOpen Reached was now MAX_CONNECTIONS tally
    → ServesDoor Reached was now (end_of tally stop.Turns)
stops_spent Reached was now tally is = record {
  visits = is.visits;
  connections = now.door.connections;
  has = is.has;
  stops = (is.turns_are, refl);
  faults = failed_more was.door.faults now.door.faults now.door.faults tally.links 0 is.faults refl;
  missed = is.missed;
}

-- there was no memory to begin
pub stops_without_memory : (Reached : List Ask → Type 0) (now : Site) → Reached []
    → ServesDoor Reached now now (record { served = 0; links = 0; stop = stop.NoMemory })
stops_without_memory Reached now reached =
    let is = open_none Reached now reached in
    record {
      visits = is.visits;
      connections = now.door.connections;
      has = is.has;
      stops = (is.turns_are, refl);
      faults = refl;
      missed = refl;
    }
