-- How the serving of a connection goes on with each request, and how it comes to its end.
use Rattle.std.proofs.Common.{◌≡◌, ℕ, ◌+◌, ◌<◌, ◌≤◌, Bool, true, false, ◌||◌, ◌==◌, List, [], ◌∷◌, ◌++◌, length, take, drop, All, Option, Some, None, IfNone, option_to_list, Result, Ok, Err, refl, sym, ◌∙◌, ap, subst, arith, append-nil, length-append}
use Rattle.std.specs.Bool.{⊤}
use Rattle.std.proofs.lemmas.List.Concat.{flat_map-append}
use Rattle.std.proofs.lemmas.List.Elements.{All-nil, All-push}
use Rattle.device_facts.specs.Count.{Counted, CountsFault}
use Rattle.book_words.specs.declared.act.Ask.{Ask}
use Rattle.book_words.specs.Callers.{Known}
use Rattle.office_wire.specs.declared.types.Framed.{Framed}
use Rattle.office_wire.specs.declared.types.Frame.TheVariants.{Whole, Nothing}
use Rattle.office_wire.specs.Frames.{IsFrame, TellsFrame}
use Rattle.office_wire.specs.Requests.{BeginWith}
use Rattle.office_wire.proofs.FrameLaws.{frame_taken}
use Rattle.office_wire.proofs.FrameSteps.{told_whole}
use Rattle.office_door.specs.declared.leaving.Leaving.{Leaving}
use Rattle.office_door.specs.declared.leaving.Leaving.TheVariants.{Last, WriteFailed}
use Rattle.office_door.specs.declared.limits.TheConstants.{MAX_REQUESTS}
use Rattle.office_door.specs.Exchanges.{Exchange, asks_of, response_of, responses, HasAnswered}
use Rattle.office_door.specs.Served.{Visit, GoesOn, EndsRight, IsLeft, IsToldRight, requests_of}
use Rattle.office_door.specs.Doors.{Port, Site, links_of, FailedSoOften}
use Rattle.office_door.specs.Steps.{IsHeard, IsFound, IsServing, IsVisited, StepsTo, Responds, IsSent, Sends, left_behind}
use Rattle.office_door.proofs.AnsweredAsks.{answered_none, answered_both}
use Rattle.office_door.proofs.HeardBytes.{heard_none, heard_request, heard_written}

-- as many bytes are there as a request has
pub taken_within : (bytes : List ℕ) (ended : Bool) (framed : Framed)
    → TellsFrame bytes ended (Whole framed) → framed.taken ≤ length bytes
taken_within bytes ended framed tells =
    let told = told_whole bytes ended framed tells in
    let within = frame_taken bytes ended told.meant told.is in
    omega (arith, told.taken, within.1)

-- where none is found the end was given
pub none_found : (bytes : List ℕ) (ended : Bool) (found : Option Framed) → found ≡ None
    → IsFound bytes ended (Ok found) → IsFrame bytes true Nothing × (ended ≡ true)
none_found bytes ended None is h = h
none_found bytes ended (Some framed) is h = absurd (cc)

-- ---- a connection that goes on

-- it begins
pub serving_none : (Reached : List Ask → Type 0) (now : Site) → Reached [] → now.door.ended ≡ false
    → IsServing Reached now now [] 0
serving_none Reached now reached begins = record {
  exchanges = [];
  heard = heard_none now.door begins;
  ongoing = All-nil GoesOn;
  few = omega arith;
  served_is = refl;
  answered = answered_none Reached now.caller reached;
  calm = refl;
}

-- bytes were read
pub serving_heard : (Reached : List Ask → Type 0) (was : Site) (known : Known) (old now : Port)
    (held more : List ℕ) (served : ℕ)
    → (serving : IsServing Reached was (record { caller = known; door = old }) held served)
    → IsHeard was.door now serving.exchanges (responses serving.exchanges) more
    → now.faults ≡ old.faults
    → IsServing Reached was (record { caller = known; door = now }) more served
serving_heard Reached was known old now held more served serving heard calm = record {
  exchanges = serving.exchanges;
  heard = heard;
  ongoing = serving.ongoing;
  few = serving.few;
  served_is = serving.served_is;
  answered = serving.answered;
  calm = calm ∙ serving.calm;
}

-- the visit of a connection that is left behind no response
abbrev pub visit_open : List ℕ → Bool → List Exchange → Leaving → Visit
visit_open taken ended xs leaving = record {
  taken = taken;
  ended = ended;
  written = responses xs;
  before = xs;
  last = None;
  leaving = leaving;
}

-- it is left: its end was given, or its link failed at a read
pub visited_open : (Reached : List Ask → Type 0) (was : Site) (known : Known) (old now : Port)
    (held more : List ℕ) (served : ℕ) (leaving : Leaving)
    → (serving : IsServing Reached was (record { caller = known; door = old }) held served)
    → (heard : IsHeard was.door now serving.exchanges (responses serving.exchanges) more)
    → IsLeft leaving (visit_open heard.taken now.ended serving.exchanges leaving) more
    → FailedSoOften old.faults now.faults (links_of leaving)
    → IsVisited Reached was (record { caller = known; door = now }) served leaving
visited_open Reached was known old now held more served leaving serving heard left failed =
    let xs = serving.exchanges in
    let all : xs ≡ xs ++ option_to_list None = sym (append-nil xs) in
    record {
      visit = visit_open heard.taken now.ended xs leaving;
      right = record {
        rest = more;
        requests = subst
            (λ (es : List Exchange). BeginWith now.ended heard.taken (requests_of es) more) all
            heard.requests;
        told = subst (All IsToldRight) all heard.told;
        ongoing = serving.ongoing;
        few = serving.few;
        ends = tt;
        left = left;
      };
      left_so = refl;
      bytes = heard.bytes;
      connections = heard.connections;
      at_end = heard.at_end;
      served_is = serving.served_is ∙ ap length all;
      answered = subst (λ (es : List Exchange). HasAnswered Reached was.caller known es) all
          serving.answered;
      faults = subst (λ (n : ℕ). FailedSoOften n now.faults (links_of leaving)) serving.calm
          failed;
    }

-- ---- a request that is answered

-- a request more was answered by a text, and this went out of it
pub record IsMore (Reached : List Ask → Type 0) (was now : Site) (held : List ℕ) (served : ℕ)
    (last : Bool) (text sent : List ℕ) : Type 0 where
  pub before : List Exchange
  pub x : Exchange
  pub text_is : text ≡ response_of x
  pub heard : IsHeard was.door now.door (before ++ x ∷ []) (responses before ++ sent) held
  pub ongoing : All GoesOn before
  pub few : length before < MAX_REQUESTS
  pub last_is : x.last ≡ last
  pub ends : EndsRight (length before) x
  pub served_is : served ≡ length (before ++ x ∷ [])
  pub answered : HasAnswered Reached was.caller now.caller (before ++ x ∷ [])

all_responses : (before : List Exchange) (x : Exchange)
    → responses before ++ response_of x ≡ responses (before ++ x ∷ [])
all_responses before x =
    ap (λ (text : List ℕ). responses before ++ text) (sym (append-nil (response_of x)))
    ∙ sym (flat_map-append response_of before (x ∷ []))

no_request : (request last : Bool) (test : Bool) → last ≡ (request || test) → last ≡ false
    → (request ≡ false) × (test ≡ false)
no_request true last test is none = absurd (cc)
no_request false last true is none = absurd (cc)
no_request false last false is none = (refl, refl)

not_most : (before : ℕ) → before < MAX_REQUESTS → (before + 1 == MAX_REQUESTS) ≡ false
    → before + 1 < MAX_REQUESTS
not_most before few test = grind (arith, few, test)

-- it goes on
pub goes_on : (Reached : List Ask → Type 0) (was now : Site) (held : List ℕ) (served : ℕ)
    (text : List ℕ) → (more : IsMore Reached was now held served false text text)
    → now.door.faults ≡ was.door.faults
    → IsServing Reached was now held served
goes_on Reached was now held served sent more calm =
    let whole = more.text_is in
    let x = more.x in
    let none = no_request x.request.last x.last (length more.before + 1 == MAX_REQUESTS) more.ends
    more.last_is in
    let fewer = not_most (length more.before) more.few none.1 in
    let text : responses more.before ++ sent ≡ responses (more.before ++ x ∷ []) =
    ap (λ (t : List ℕ). responses more.before ++ t) whole ∙ all_responses more.before x in
    record {
      exchanges = more.before ++ x ∷ [];
      heard = subst (λ (t : List ℕ). IsHeard was.door now.door (more.before ++ x ∷ []) t held) text
          more.heard;
      ongoing = All-push GoesOn more.before x more.ongoing (none.0, more.last_is);
      few = omega (arith, fewer, length-append more.before (x ∷ []));
      served_is = more.served_is;
      answered = more.answered;
      calm = calm;
    }

-- the visit of a connection that is left behind a response, of which these bytes went out
abbrev visit_behind : List ℕ → Bool → List Exchange → Exchange → List ℕ → Leaving → Visit
visit_behind taken ended before x sent leaving = record {
  taken = taken;
  ended = ended;
  written = responses before ++ sent;
  before = before;
  last = Some x;
  leaving = leaving;
}

-- it is left: the response ended it, or its link failed at the write
visited_behind : (Reached : List Ask → Type 0) (was now : Site) (held : List ℕ) (served : ℕ)
    (last : Bool) (text sent : List ℕ) (leaving : Leaving)
    → (more : IsMore Reached was now held served last text sent)
    → IsLeft leaving
    (visit_behind more.heard.taken now.door.ended more.before more.x sent leaving) held
    → FailedSoOften was.door.faults now.door.faults (links_of leaving)
    → IsVisited Reached was now served leaving
visited_behind Reached was now held served last text sent leaving more left failed = record {
  visit = visit_behind more.heard.taken now.door.ended more.before more.x sent leaving;
  right = record {
    rest = held;
    requests = more.heard.requests;
    told = more.heard.told;
    ongoing = more.ongoing;
    few = more.few;
    ends = more.ends;
    left = left;
  };
  left_so = refl;
  bytes = more.heard.bytes;
  connections = more.heard.connections;
  at_end = more.heard.at_end;
  served_is = more.served_is;
  answered = more.answered;
  faults = failed;
}

-- the response ended it
ends_last : (Reached : List Ask → Type 0) (was now : Site) (held : List ℕ) (served : ℕ)
    (text : List ℕ) → (more : IsMore Reached was now held served true text text)
    → now.door.faults ≡ was.door.faults
    → IsVisited Reached was now served Last
ends_last Reached was now held served text more calm =
    let is : responses more.before ++ text ≡ responses more.before ++ response_of more.x =
    ap (λ (t : List ℕ). responses more.before ++ t) more.text_is in
    visited_behind Reached was now held served true text text Last more
    (more.x, refl, more.last_is, is) calm

-- its link failed at the write
ends_cut : (Reached : List Ask → Type 0) (was now : Site) (held : List ℕ) (served : ℕ)
    (last : Bool) (part : ℕ) (text : List ℕ)
    → (more : IsMore Reached was now held served last text (take part text))
    → part < length text
    → Counted was.door.faults now.door.faults 1 → IsVisited Reached was now served WriteFailed
ends_cut Reached was now held served last part text more less failed =
    let short = subst (λ (t : List ℕ). part < length t) more.text_is less in
    let is = ap (λ (t : List ℕ). responses more.before ++ take part t) more.text_is in
    visited_behind Reached was now held served last text (take part text) WriteFailed more
    (more.x, refl, (part, short, is)) failed

-- so it is left, or goes on, as what was sent says
pub steps_to : {E : Type 0} (Reached : List Ask → Type 0) (was now : Site) (held : List ℕ)
    (served : ℕ) (last : Bool) (text bytes : List ℕ) (result : Result ⊤ E)
    → IsMore Reached was now held served last text bytes → IsSent text bytes result
    → CountsFault was.door.faults now.door.faults result
    → StepsTo Reached was now held served (left_behind last result)
steps_to Reached was now held served true text bytes (Ok sent) more is calm =
    ends_last Reached was now held served text
    (subst (λ (b : List ℕ). IsMore Reached was now held served true text b) is more) calm
steps_to Reached was now held served false text bytes (Ok sent) more is calm =
    goes_on Reached was now held served text
    (subst (λ (b : List ℕ). IsMore Reached was now held served false text b) is more) calm
steps_to Reached was now held served true text bytes (Err error) more is failed =
    ends_cut Reached was now held served true is.0 text
    (subst (λ (b : List ℕ). IsMore Reached was now held served true text b) is.2 more) is.1 failed
steps_to Reached was now held served false text bytes (Err error) more is failed =
    ends_cut Reached was now held served false is.0 text
    (subst (λ (b : List ℕ). IsMore Reached was now held served false text b) is.2 more) is.1 failed

-- where it goes on it may have one request more
pub left_few : {E : Type 0} (request last : Bool) (served : ℕ) (result : Result ⊤ E)
    → last ≡ (request || served == MAX_REQUESTS) → served ≤ MAX_REQUESTS
    → IfNone (left_behind last result) (served < MAX_REQUESTS)
left_few request true served (Ok sent) is few = tt
left_few request false served (Ok sent) is few =
    let none = no_request request false (served == MAX_REQUESTS) is refl in
    grind (arith, few, none.1)
left_few request true served (Err error) is few = tt
left_few request false served (Err error) is few = tt

-- a request that is held was told and answered, and its response was sent
pub more_served : {E : Type 0} (One Two Both : List Ask → Type 0) (was : Site)
    (known new : Known) (old now : Port) (held : List ℕ) (served : ℕ) (framed : Framed)
    (last : Bool) (text : List ℕ) (result : Result ⊤ E)
    → IsServing One was (record { caller = known; door = old }) held served
    → TellsFrame held old.ended (Whole framed)
    → last ≡ (framed.last || served + 1 == MAX_REQUESTS)
    → Responds Two known new framed.what last text
    → ((xs ys : List Ask) → One xs → Two ys → Both (xs ++ ys))
    → Sends old now text result
    → StepsTo Both was (record { caller = new; door = now }) (drop framed.taken held) (served + 1)
    (left_behind last result)
more_served One Two Both was known new old now held served framed last text result serving tells
    last_is responds both sends =
    let meant = told_whole held old.ended framed tells in
    let xs = serving.exchanges in
    let x : Exchange = record {
      request = meant.meant;
      told = framed.what;
      given = responds.given;
      row = responds.row;
      last = last;
    } in
    let heard : IsHeard was.door old (xs ++ x ∷ []) (responses xs) (drop framed.taken held) =
    subst (λ (n : ℕ). IsHeard was.door old (xs ++ x ∷ []) (responses xs) (drop n held))
    (sym meant.taken)
    (heard_request was.door old xs (responses xs) held x meant.is meant.what serving.heard) in
    let answered = responds.answered meant.meant in
    let count : served + 1 ≡ length (xs ++ x ∷ []) =
    omega (arith, serving.served_is, length-append xs (x ∷ [])) in
    let ends : last ≡ (meant.meant.last || length xs + 1 == MAX_REQUESTS) =
    last_is
    ∙ ap (λ (n : ℕ). framed.last || n + 1 == MAX_REQUESTS) serving.served_is
    ∙ ap (λ (b : Bool). b || length xs + 1 == MAX_REQUESTS) meant.last in
    let more : IsMore Both was (record { caller = new; door = now }) (drop framed.taken held)
    (served + 1) last text sends.bytes = record {
      before = xs;
      x = x;
      text_is = responds.text_is;
      heard = heard_written was.door old now (xs ++ x ∷ []) (responses xs)
          (drop framed.taken held) sends.bytes sends.left sends.ended sends.connections heard;
      ongoing = serving.ongoing;
      few = serving.few;
      last_is = refl;
      ends = ends;
      served_is = count;
      answered = answered_both One Two Both was.caller known new xs (x ∷ []) serving.answered
          answered (both (asks_of xs) (asks_of (x ∷ [])) serving.answered.asked answered.asked);
    } in
    steps_to Both was (record { caller = new; door = now }) (drop framed.taken held) (served + 1)
    last text sends.bytes result more sends.sent
    (subst (λ (n : ℕ). CountsFault n now.faults result) serving.calm sends.cause)
