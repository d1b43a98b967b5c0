-- Laws of cuts: what is said on a connection doesn't depend on how its bytes were cut into reads.
use Rattle.std.proofs.Common.{◌≡◌, ℕ, ◌+◌, ◌<◌, ◌≤◌, Bool, true, false, true≢false, ◌||◌, ◌==◌, List, [], ◌∷◌, ◌++◌, length, take, drop, All, Option, Some, None, IfSome, option_to_list, nat_le, ◌⊎◌, inl, inr, leb-true, leb-false, refl, sym, ◌∙◌, ap, subst, arith, append-nil, length-append}
use Rattle.std.specs.Bool.{⊤}
use Rattle.std.specs.Prelude.{zip}
use Rattle.std.specs.List.{cons_option}
use Rattle.std.proofs.lemmas.Bool.{ne_eqb}
use Rattle.std.proofs.lemmas.List.{take-append-drop}
use Rattle.std.proofs.lemmas.List.Concat.{flat_map-append}
use Rattle.std.proofs.lemmas.List.Elements.{All-nil, All-cons, All-head, All-tail}
use Rattle.device_facts.specs.Prefix.{IsPrefixOf}
use Rattle.disk_core.specs.Doors.{Connection, Connections, first_connection, behind_first}
use Rattle.office_wire.specs.declared.types.Framed.{Framed}
use Rattle.office_wire.specs.declared.types.OfficeAsk.{OfficeAsk}
use Rattle.office_wire.specs.declared.types.Frame.TheVariants.{Whole, Nothing}
use Rattle.office_wire.specs.Frames.{IsFrame}
use Rattle.office_wire.specs.Requests.{BeginWith, AreRequests}
use Rattle.office_wire.proofs.FrameKinds.{nothing_not_whole}
use Rattle.office_wire.proofs.FrameLaws.{frame_unique}
use Rattle.office_wire.proofs.RequestLaws.{begin_more, begin_same}
use Rattle.office_door.specs.declared.leaving.Leaving.{Leaving}
use Rattle.office_door.specs.declared.leaving.Leaving.TheVariants.{End, Last, ReadFailed, WriteFailed}
use Rattle.office_door.specs.declared.limits.TheConstants.{MAX_REQUESTS}
use Rattle.office_door.specs.Exchanges.{Exchange, ask_of, asks_of, response_to, response_of, responses}
use Rattle.office_door.specs.Served.{Visit, GoesOn, EndsRight, IsLeft, IsServed, exchanges_of, requests_of}
use Rattle.office_door.specs.Doors.{TakesFrom, AreVisited, visited, links_of}
use Rattle.office_door.specs.Cuts.{IsAnsweredAlike, AreAnsweredAlike, SaysFirst, TalksAlike, VisitsAlike}
use Rattle.office_door.proofs.Prefixes.{prefix_on, prefix_itself, prefix_both, prefix_within, prefix_behind, prefix_onto}

-- ---- requests

-- the requests of a visit are the first of all bytes that its connection gives
record IsFirst (bytes : List ℕ) (visit : Visit) (rest : List ℕ) : Type 0 where
  pub behind : List ℕ
  pub requests : BeginWith true bytes (requests_of (exchanges_of visit)) behind
  pub at_end : visit.ended ≡ true → behind ≡ rest

first_of : (bytes : List ℕ) (visit : Visit) (rest : List ℕ)
    → BeginWith visit.ended visit.taken (requests_of (exchanges_of visit)) rest
    → IsPrefixOf visit.taken bytes → (visit.ended ≡ true → bytes ≡ visit.taken)
    → IsFirst bytes visit rest
first_of bytes visit rest requests begins all = by visit.ended refl requests where
  by : (ended : Bool) → visit.ended ≡ ended
      → BeginWith ended visit.taken (requests_of (exchanges_of visit)) rest
      → IsFirst bytes visit rest
  by true h is = record {
    behind = rest;
    requests = subst
        (λ (b : List ℕ). BeginWith true b (requests_of (exchanges_of visit)) rest)
        (sym (all h)) is;
    at_end = λ end. refl;
  }
  by false h is = record {
    behind = rest ++ begins.0;
    requests = subst
        (λ (b : List ℕ).
        BeginWith true b (requests_of (exchanges_of visit)) (rest ++ begins.0))
        (sym begins.1)
        (begin_more true visit.taken begins.0 (requests_of (exchanges_of visit)) rest is);
    at_end = λ end. absurd (true≢false (sym end ∙ h));
  }

-- the requests of a visit are the first of those that all bytes have
first_requests : (bytes : List ℕ) (before : List Exchange) (last : Option Exchange)
    (all : List Framed) (behind : List ℕ) → All GoesOn before
    → BeginWith true bytes (requests_of (before ++ option_to_list last)) behind
    → AreRequests bytes all → IsPrefixOf (requests_of (before ++ option_to_list last)) all
first_requests bytes [] None all behind on one are = (all, refl)
first_requests bytes [] (Some x) [] behind on one are =
    absurd (nothing_not_whole x.request
    (frame_unique bytes true Nothing (Whole x.request) are one.0))
first_requests bytes [] (Some x) (f ∷ fs) behind on one are =
    let same = begin_same true bytes x.request f [] behind one are.0 in
    (fs, ap (λ (r : Framed). r ∷ fs) (sym same.0))
first_requests bytes (x ∷ before) last [] behind on one are =
    absurd (nothing_not_whole x.request
    (frame_unique bytes true Nothing (Whole x.request) are one.0))
first_requests bytes (x ∷ before) last (f ∷ fs) behind on one are =
    let same = begin_same true bytes x.request f (requests_of (before ++ option_to_list last))
    behind one are.0 in
    let goes : f.last ≡ false =
    ap (λ (r : Framed). r.last) (sym same.0) ∙ (All-head GoesOn x before on).0 in
    let more = first_requests (drop f.taken bytes) before last fs behind
    (All-tail GoesOn x before on) same.1 (are.2 goes) in
    let back : f ≡ x.request = sym same.0 in
    (more.0, λ i. back i ∷ more.1 i)

pub requests_first : (connection : Connection) (visit : Visit) (all : List Framed)
    → IsServed visit → TakesFrom (Some connection) visit → AreRequests connection.left all
    → IsPrefixOf (requests_of (exchanges_of visit)) all
requests_first connection visit all one takes are =
    let first = first_of connection.left visit one.rest one.requests takes.0 takes.1 in
    first_requests connection.left visit.before visit.last all first.behind one.ongoing
    first.requests are

-- ---- which response is last

-- each says so where its request does, or where it is that to the last request that may be
abbrev AreMarked : ℕ → List Exchange → Type 0
AreMarked before [] = ⊤
AreMarked before (x ∷ xs) = EndsRight before x × AreMarked (before + 1) xs

not_the_most : (before more : ℕ) → before + (more + 1) < MAX_REQUESTS
    → (before + 1 == MAX_REQUESTS) ≡ false
not_the_most before more few =
    ne_eqb (before + 1) MAX_REQUESTS (λ is. omega (arith, few, is))

marked : (count : ℕ) (before : List Exchange) (last : Option Exchange) → All GoesOn before
    → count + length before < MAX_REQUESTS → IfSome last (EndsRight (count + length before))
    → AreMarked count (before ++ option_to_list last)
marked count [] None on few ends = tt
marked count [] (Some x) on few ends =
    let none : count + 0 ≡ count = omega arith in
    (subst (λ (n : ℕ). EndsRight n x) none ends, tt)
marked count (x ∷ before) last on few ends =
    let goes = All-head GoesOn x before on in
    let moved : count + length (x ∷ before) ≡ count + 1 + length before = omega arith in
    let less : count + (length before + 1) < MAX_REQUESTS = omega (arith, few) in
    let right : x.last ≡ (x.request.last || count + 1 == MAX_REQUESTS) =
    goes.1
    ∙ sym (not_the_most count (length before) less)
    ∙ sym (ap (λ (b : Bool). b || count + 1 == MAX_REQUESTS) goes.0) in (
      right,
      marked (count + 1) before last (All-tail GoesOn x before on)
          (subst (λ (n : ℕ). n < MAX_REQUESTS) moved few)
          (subst (λ (n : ℕ). IfSome last (EndsRight n)) moved ends),
    )

marked_all : (before : List Exchange) (last : Option Exchange) → All GoesOn before
    → length before < MAX_REQUESTS → IfSome last (EndsRight (length before))
    → AreMarked 0 (before ++ option_to_list last)
marked_all before last on few ends =
    let none : length before ≡ 0 + length before = omega arith in
    marked 0 before last on (subst (λ (n : ℕ). n < MAX_REQUESTS) none few)
    (subst (λ (n : ℕ). IfSome last (EndsRight n)) none ends)

-- ---- exchanges, one by one

record IsSame (x y : Exchange) : Type 0 where
  pub told : x.told ≡ y.told
  pub given : x.given ≡ y.given
  pub last : x.last ≡ y.last

abbrev AreSame : List Exchange → List Exchange → Type 0
AreSame [] ys = ⊤
AreSame (x ∷ xs) [] = ⊤
AreSame (x ∷ xs) (y ∷ ys) = IsSame x y × AreSame xs ys

-- two exchanges side by side
abbrev Alike : Exchange × Exchange → Type 0
Alike both = IsAnsweredAlike both.0 both.1

same_exchanges : (count : ℕ) (bytes : List ℕ) (xs ys : List Exchange) (here there : List ℕ)
    → BeginWith true bytes (requests_of xs) here → BeginWith true bytes (requests_of ys) there
    → AreMarked count xs → AreMarked count ys → All Alike (zip xs ys) → AreSame xs ys
same_exchanges count bytes [] ys here there one other first second alike = tt
same_exchanges count bytes (x ∷ xs) [] here there one other first second alike = tt
same_exchanges count bytes (x ∷ xs) (y ∷ ys) here there one other first second alike =
    let same = begin_same true bytes x.request y.request (requests_of xs) here one other.0 in
    let answers = All-head Alike (x, y) (zip xs ys) alike same.0 in (
      record {
        told = answers.0;
        given = answers.1;
        last = first.0
            ∙ ap (λ (f : Framed). f.last || count + 1 == MAX_REQUESTS) same.0
            ∙ sym second.0;
      },
      same_exchanges (count + 1) (drop y.request.taken bytes) xs ys here there same.1 other.1
          first.1 second.1 (All-tail Alike (x, y) (zip xs ys) alike),
    )

first_responses : (xs ys : List Exchange) → AreSame xs ys → length xs ≤ length ys
    → IsPrefixOf (responses xs) (responses ys)
first_responses [] ys same short = (responses ys, refl)
first_responses (x ∷ xs) [] same short = absurd (omega (arith, short))
first_responses (x ∷ xs) (y ∷ ys) same short =
    let is = same.0 in
    let text : response_of x ≡ response_of y =
    λ i. response_to (is.told i) (is.given i) (is.last i) in
    subst (λ (t : List ℕ). IsPrefixOf (response_of x ++ responses xs) (t ++ responses ys)) text
    (prefix_behind (response_of x) (responses xs) (responses ys)
    (first_responses xs ys same.1 (omega (arith, short))))

first_asks : (xs ys : List Exchange) → AreSame xs ys → length xs ≤ length ys
    → IsPrefixOf (asks_of xs) (asks_of ys)
first_asks [] ys same short = (asks_of ys, refl)
first_asks (x ∷ xs) [] same short = absurd (omega (arith, short))
first_asks (x ∷ xs) (y ∷ ys) same short =
    subst (λ (told : OfficeAsk).
    IsPrefixOf (cons_option (ask_of x.told) (asks_of xs)) (cons_option (ask_of told) (asks_of ys)))
    same.0.told
    (prefix_onto (ask_of x.told) (asks_of xs) (asks_of ys)
    (first_asks xs ys same.1 (omega (arith, short))))

-- ---- how far a visit goes

-- no further than where no request begins
none_behind : (bytes : List ℕ) (xs ys : List Exchange) (here there : List ℕ)
    → BeginWith true bytes (requests_of xs) here → BeginWith true bytes (requests_of ys) there
    → IsFrame there true Nothing → length xs ≤ length ys
none_behind bytes [] ys here there one other nothing = omega arith
none_behind bytes (x ∷ xs) [] here there one other nothing =
    absurd (nothing_not_whole x.request
    (frame_unique bytes true Nothing (Whole x.request)
    (subst (λ (b : List ℕ). IsFrame b true Nothing) (sym other) nothing) one.0))
none_behind bytes (x ∷ xs) (y ∷ ys) here there one other nothing =
    let same = begin_same true bytes x.request y.request (requests_of xs) here one other.0 in
    let short = none_behind (drop y.request.taken bytes) xs ys here there same.1 other.1 nothing in
    omega (arith, short)

-- no further than a response that is last
last_behind : (before : List Exchange) (last : Option Exchange) (others : List Exchange)
    (y : Exchange) → All GoesOn before
    → AreSame (before ++ option_to_list last) (others ++ y ∷ []) → y.last ≡ true
    → length (before ++ option_to_list last) ≤ length (others ++ y ∷ [])
last_behind [] None others y on same is = omega arith
last_behind [] (Some x) others y on same is = omega (arith, length-append others (y ∷ []))
last_behind (x ∷ before) last [] y on same is =
    absurd (true≢false (sym is ∙ sym same.0.last ∙ (All-head GoesOn x before on).1))
last_behind (x ∷ before) last (z ∷ others) y on same is =
    let short = last_behind before last others y (All-tail GoesOn x before on) same.1 is in
    omega (arith, short)

-- ---- what was written

behind_last : (visit : Visit) (x : Exchange) → visit.last ≡ Some x
    → responses (exchanges_of visit) ≡ responses visit.before ++ response_of x
behind_last visit x is =
    ap (λ (last : Option Exchange). responses (visit.before ++ option_to_list last)) is
    ∙ flat_map-append response_of visit.before (x ∷ [])
    ∙ ap (λ (t : List ℕ). responses visit.before ++ t) (append-nil (response_of x))

behind_none : (visit : Visit) → visit.last ≡ None
    → responses (exchanges_of visit) ≡ responses visit.before
behind_none visit is =
    ap (λ (last : Option Exchange). responses (visit.before ++ option_to_list last)) is
    ∙ ap responses (append-nil visit.before)

-- all responses, where no fault of the link ended it
whole_written : (leaving : Leaving) (visit : Visit) (rest : List ℕ)
    → IsLeft leaving visit rest → links_of leaving ≡ 0
    → responses (exchanges_of visit) ≡ visit.written
whole_written End visit rest left calm = behind_none visit left.2 ∙ sym left.3
whole_written Last visit rest left calm = behind_last visit left.0 left.1 ∙ sym left.3
whole_written ReadFailed visit rest left calm = absurd (omega (arith, calm))
whole_written WriteFailed visit rest left calm = absurd (omega (arith, calm))

-- and else the first part of them
part_written : (leaving : Leaving) (visit : Visit) (rest : List ℕ)
    → IsLeft leaving visit rest → IsPrefixOf visit.written (responses (exchanges_of visit))
part_written End visit rest left =
    let whole = whole_written End visit rest left refl in
    subst (λ (t : List ℕ). IsPrefixOf visit.written t) (sym whole) (prefix_itself visit.written)
part_written Last visit rest left =
    let whole = whole_written Last visit rest left refl in
    subst (λ (t : List ℕ). IsPrefixOf visit.written t) (sym whole) (prefix_itself visit.written)
part_written ReadFailed visit rest left =
    subst (λ (t : List ℕ). IsPrefixOf visit.written t) (left.3 ∙ sym (behind_none visit left.2))
    (prefix_itself visit.written)
part_written WriteFailed visit rest left =
    let x = left.0 in
    let cut = left.2 in
    let part : IsPrefixOf (take cut.0 (response_of x)) (response_of x) =
    (drop cut.0 (response_of x), sym (take-append-drop cut.0 (response_of x))) in
    subst (λ (t : List ℕ). IsPrefixOf t (responses (exchanges_of visit))) (sym cut.2)
    (subst (λ (t : List ℕ). IsPrefixOf (responses visit.before ++ take cut.0 (response_of x)) t)
    (sym (behind_last visit x left.1))
    (prefix_behind (responses visit.before) (take cut.0 (response_of x)) (response_of x) part))

-- those before the last went out whole
before_written : (leaving : Leaving) (visit : Visit) (rest : List ℕ)
    → IsLeft leaving visit rest → IsPrefixOf (responses visit.before) visit.written
before_written End visit rest left =
    subst (λ (t : List ℕ). IsPrefixOf (responses visit.before) t) (sym left.3)
    (prefix_itself (responses visit.before))
before_written Last visit rest left = (response_of left.0, left.3)
before_written ReadFailed visit rest left =
    subst (λ (t : List ℕ). IsPrefixOf (responses visit.before) t) (sym left.3)
    (prefix_itself (responses visit.before))
before_written WriteFailed visit rest left = (take left.2.0 (response_of left.0), left.2.2)

-- ---- two visits

same_visits : (connection : Connection) (here there : Visit) → IsServed here → IsServed there
    → TakesFrom (Some connection) here → TakesFrom (Some connection) there
    → AreAnsweredAlike here there → AreSame (exchanges_of here) (exchanges_of there)
same_visits connection here there one other takes_here takes_there alike =
    let bytes = connection.left in
    let first = first_of bytes here one.rest one.requests takes_here.0 takes_here.1 in
    let second = first_of bytes there other.rest other.requests takes_there.0 takes_there.1 in
    same_exchanges 0 bytes (exchanges_of here) (exchanges_of there) first.behind second.behind
    first.requests second.requests
    (marked_all here.before here.last one.ongoing one.few one.ends)
    (marked_all there.before there.last other.ongoing other.few other.ends) alike

says_first : (connection : Connection) (here there : Visit) → IsServed here → IsServed there
    → TakesFrom (Some connection) here → TakesFrom (Some connection) there
    → AreAnsweredAlike here there → links_of there.leaving ≡ 0 → SaysFirst here there
says_first connection here there one other takes_here takes_there alike calm =
    let bytes = connection.left in
    let xs = exchanges_of here in
    let ys = exchanges_of there in
    let first = first_of bytes here one.rest one.requests takes_here.0 takes_here.1 in
    let second = first_of bytes there other.rest other.requests takes_there.0 takes_there.1 in
    let same : AreSame xs ys =
    same_visits connection here there one other takes_here takes_there alike in
    let short : length xs ≤ length ys = by there.leaving other.left calm first second same in
    record {
      asks = first_asks xs ys same short;
      written = prefix_on here.written (responses xs) there.written
          (part_written here.leaving here one.rest one.left)
          (subst (λ (t : List ℕ). IsPrefixOf (responses xs) t)
          (whole_written there.leaving there other.rest other.left calm)
          (first_responses xs ys same short));
    }
  where
    by : (leaving : Leaving) → IsLeft leaving there other.rest → links_of leaving ≡ 0
        → IsFirst connection.left here one.rest → IsFirst connection.left there other.rest
        → AreSame (exchanges_of here) (exchanges_of there)
        → length (exchanges_of here) ≤ length (exchanges_of there)
    by End left calm first second same =
        none_behind connection.left (exchanges_of here) (exchanges_of there) first.behind
        second.behind first.requests second.requests
        (subst (λ (b : List ℕ). IsFrame b true Nothing) (sym (second.at_end left.1)) left.0)
    by Last left calm first second same =
        let all : exchanges_of there ≡ there.before ++ left.0 ∷ [] =
        ap (λ (last : Option Exchange). there.before ++ option_to_list last) left.1 in
        subst (λ (ys : List Exchange). length (exchanges_of here) ≤ length ys) (sym all)
        (last_behind here.before here.last there.before left.0 one.ongoing
        (subst (AreSame (exchanges_of here)) all same) left.2)
    by ReadFailed left calm first second same = absurd (omega (arith, calm))
    by WriteFailed left calm first second same = absurd (omega (arith, calm))

same_front : (xs ys more : List Exchange) → AreSame xs (ys ++ more) → AreSame xs ys
same_front [] ys more same = tt
same_front (x ∷ xs) [] more same = tt
same_front (x ∷ xs) (y ∷ ys) more same = (same.0, same_front xs ys more same.1)

one_at_most : (last : Option Exchange) → length (option_to_list last) ≤ 1
one_at_most None = omega arith
one_at_most (Some x) = omega arith

-- a visit of fewer requests said no more
fewer_says : (here there : Visit) → IsServed here → IsServed there
    → AreSame (exchanges_of here) (exchanges_of there)
    → length (exchanges_of here) < length (exchanges_of there) → SaysFirst here there
fewer_says here there one other same less =
    let xs = exchanges_of here in
    let most = one_at_most there.last in
    let parts = length-append there.before (option_to_list there.last) in
    let short : length xs ≤ length there.before = omega (arith, less, most, parts) in
    let front = same_front xs there.before (option_to_list there.last) same in
    record {
      asks = first_asks xs (exchanges_of there) same (omega (arith, less));
      written = prefix_on here.written (responses xs) there.written
          (part_written here.leaving here one.rest one.left)
          (prefix_on (responses xs) (responses there.before) there.written
          (first_responses xs there.before front short)
          (before_written there.leaving there other.rest other.left));
    }

-- of two visits of as many requests, one said no more
equal_says : (here there : Visit) → IsServed here → IsServed there
    → AreSame (exchanges_of here) (exchanges_of there)
    → length (exchanges_of here) ≤ length (exchanges_of there)
    → length here.written ≤ length there.written → SaysFirst here there
equal_says here there one other same few short =
    let xs = exchanges_of here in
    let ys = exchanges_of there in
    record {
      asks = first_asks xs ys same few;
      written = prefix_within here.written there.written (responses ys)
          (prefix_on here.written (responses xs) (responses ys)
          (part_written here.leaving here one.rest one.left) (first_responses xs ys same few))
          (part_written there.leaving there other.rest other.left)
          short;
    }

says_either : (here there : Visit) → IsServed here → IsServed there
    → AreSame (exchanges_of here) (exchanges_of there)
    → AreSame (exchanges_of there) (exchanges_of here)
    → SaysFirst here there ⊎ SaysFirst there here
says_either here there one other same back =
    by (nat_le (length (exchanges_of here)) (length (exchanges_of there))) refl
    (nat_le (length (exchanges_of there)) (length (exchanges_of here))) refl
    (nat_le (length here.written) (length there.written)) refl
  where
    by : (few : Bool) → nat_le (length (exchanges_of here)) (length (exchanges_of there)) ≡ few
        → (many : Bool) → nat_le (length (exchanges_of there)) (length (exchanges_of here)) ≡ many
        → (short : Bool) → nat_le (length here.written) (length there.written) ≡ short
        → SaysFirst here there ⊎ SaysFirst there here
    by false h many k short l =
        let less = leb-false (length (exchanges_of here)) (length (exchanges_of there)) h in
        inr (fewer_says there here other one back less)
    by true h false k short l =
        let less = leb-false (length (exchanges_of there)) (length (exchanges_of here)) k in
        inl (fewer_says here there one other same less)
    by true h true k true l =
        let few = leb-true (length (exchanges_of here)) (length (exchanges_of there)) h in
        let short = leb-true (length here.written) (length there.written) l in
        inl (equal_says here there one other same few short)
    by true h true k false l =
        let few = leb-true (length (exchanges_of there)) (length (exchanges_of here)) k in
        let less = leb-false (length here.written) (length there.written) l in
        inr (equal_says there here other one back few (omega (arith, less)))

alike_back : (xs ys : List Exchange) → All Alike (zip xs ys) → All Alike (zip ys xs)
alike_back [] [] alike = All-nil Alike
alike_back [] (y ∷ ys) alike = All-nil Alike
alike_back (x ∷ xs) [] alike = All-nil Alike
alike_back (x ∷ xs) (y ∷ ys) alike =
    let one = All-head Alike (x, y) (zip xs ys) alike in
    All-cons Alike (y, x) (zip ys xs)
    (λ same. let is = one (sym same) in (sym is.0, sym is.1))
    (alike_back xs ys (All-tail Alike (x, y) (zip xs ys) alike))

-- two visits to a connection that gives the same bytes talk alike, where they are answered alike,
-- however the bytes were cut into reads
pub cuts_alike : (connection : Connection) (here there : Visit) → IsServed here → IsServed there
    → TakesFrom (Some connection) here → TakesFrom (Some connection) there
    → AreAnsweredAlike here there → TalksAlike here there
cuts_alike connection here there one other takes_here takes_there alike =
    let turned = alike_back (exchanges_of here) (exchanges_of there) alike in
    let first : links_of there.leaving ≡ 0 → SaysFirst here there =
    says_first connection here there one other takes_here takes_there alike in
    let back : links_of here.leaving ≡ 0 → SaysFirst there here =
    says_first connection there here other one takes_there takes_here turned in
    record {
      either = says_either here there one other
          (same_visits connection here there one other takes_here takes_there alike)
          (same_visits connection there here other one takes_there takes_here turned);
      same = λ here_calm there_calm. record {
        asks = prefix_both (asks_of (exchanges_of here)) (asks_of (exchanges_of there))
            (first there_calm).asks (back here_calm).asks;
        written = prefix_both here.written there.written
            (first there_calm).written (back here_calm).written;
      };
      first = first;
    }

-- ---- two doors

-- two visits side by side
abbrev Talk : Visit × Visit → Type 0
Talk both = AreAnsweredAlike both.0 both.1 → TalksAlike both.0 both.1

waiting_alike : (waiting : List (List ℕ)) (here there : Visit) → IsServed here → IsServed there
    → TakesFrom (first_connection waiting) here → TakesFrom (first_connection waiting) there
    → Talk (here, there)
waiting_alike [] here there one other takes_here takes_there alike = absurd takes_here
waiting_alike (bytes ∷ waiting) here there one other takes_here takes_there alike =
    cuts_alike (record { left = bytes; taken = []; written = [] }) here there one other takes_here
    takes_there alike

-- the visits of two doors at which the same connections wait talk alike, where they are answered
-- alike
pub visits_alike : (all others : Connections) (now till : Option Connections)
    (heres theres : List Visit) → all.waiting ≡ others.waiting
    → All IsServed heres → All IsServed theres
    → AreVisited (Some all) heres now → AreVisited (Some others) theres till
    → VisitsAlike heres theres
visits_alike all others now till [] theres same one other first second = All-nil Talk
visits_alike all others now till (here ∷ heres) [] same one other first second = All-nil Talk
visits_alike all others now till (here ∷ heres) (there ∷ theres) same one other first second =
    All-cons Talk (here, there) (zip heres theres)
    (waiting_alike all.waiting here there (All-head IsServed here heres one)
    (All-head IsServed there theres other) first.0
    (subst (λ (w : List (List ℕ)). TakesFrom (first_connection w) there) (sym same) second.0))
    (visits_alike (visited here all) (visited there others) now till heres theres
    (ap behind_first same) (All-tail IsServed here heres one)
    (All-tail IsServed there theres other) first.1 second.1)
