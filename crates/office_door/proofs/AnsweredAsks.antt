-- How a caller goes on by the asks of exchanges, one after another.
use Rattle.std.proofs.Common.{◌≡◌, ℕ, ◌+◌, ◌≤◌, min, Bool, List, [], ◌∷◌, ◌++◌, length, All, filter, Option, Some, None, IsSome, Result, Ok, Err, refl, sym, ◌∙◌, ap, subst, arith, append_assoc, append-nil, length-append}
use Rattle.std.proofs.lemmas.List.Elements.{All-nil, All-cons, All-append, All-weaker, filter-append, filter_map-append}
use Rattle.std.specs.List.{cons_option}
use Rattle.device_facts.specs.Prefix.{IsPrefixOf}
use Rattle.book_words.specs.declared.act.Ask as asks
use Rattle.book_words.specs.declared.act.Entry.{Entry}
use Rattle.book_words.specs.declared.reply.Answered.{Answered}
use Rattle.book_words.specs.declared.reply.Refused as refusals
use Rattle.book_words.specs.declared.caller.AskError.{AskError}
use Rattle.book_words.specs.declared.caller.AskError.TheVariants as error
use Rattle.book_words.specs.Desks.{Row}
use Rattle.book_words.specs.Answers.{added, entries_after, IsLegal}
use Rattle.book_words.specs.Callers.{Known, FAULTS_END, IsAsked, HasAnswer, HasNoAnswer, MayFindNoMemory, faults_told, number_named, row_added}
use Rattle.book_words.proofs.LegalLemmas.{legal-prefix}
use Rattle.book_words.proofs.RightAnswers.{right_names}
use Rattle.office_wire.specs.declared.types.Bad as faults
use Rattle.office_wire.specs.declared.types.Framed.{Framed}
use Rattle.office_wire.specs.declared.types.OfficeAsk.{OfficeAsk}
use Rattle.office_wire.specs.declared.types.OfficeAsk.TheVariants.{Ask, Bad, NoMemory}
use Rattle.office_responses.specs.Responses.{IsBookAnswer, reply_response, bad_response}
use Rattle.office_door.specs.Exchanges.{Exchange, ask_of, asks_of, rows_of, place_of, places_of, is_disk_fault, disk_faults, IsTold, IsLost, IsAnswered, IsAnsweredIn, NeverFall, HasAnswered}
use Rattle.office_door.specs.Steps.{Responds}
use Rattle.office_door.proofs.Prefixes.{prefix_on, prefix_itself, prefix_short}

-- ---- lists that go on

onto : (new : Option Entry) (after more : List Entry)
    → cons_option new after ++ more ≡ cons_option new (after ++ more)
onto None after more = refl
onto (Some entry) after more = refl

-- an answer that is right in a list is so in a list that goes on
told_on : (limit by : ℕ) (seen others : List Entry) → IsPrefixOf seen others → (ask : asks.Ask)
    (given : Result Answered refusals.Refused) (row : Option Row)
    → IsTold limit by seen ask given row → IsTold limit by others ask given row
told_on limit by seen others begins ask given row h =
    let right = h.right in
    let more = begins.0 in
    let new = added limit right.before by ask in
    record {
      right = record {
        before = right.before;
        after = right.after ++ more;
        parts = begins.1
            ∙ ap (λ (all : List Entry). all ++ more) right.parts
            ∙ append_assoc right.before (cons_option new right.after) more
            ∙ ap (λ (rest : List Entry). right.before ++ rest) (onto new right.after more);
        answered = right.answered;
      };
      row_is = h.row_is;
    }

-- what was answered right in a list is so in a list that goes on
right_on : (limit by : ℕ) (seen others : List Entry) → IsPrefixOf seen others
    → (told : OfficeAsk) (given : Option (Result Answered AskError)) (row : Option Row)
    → IsAnswered limit by seen told given row → IsAnswered limit by others told given row
right_on limit by seen others begins (Ask ask) (Some (Ok answered)) row h =
    told_on limit by seen others begins ask (Ok answered) row h
right_on limit by seen others begins (Ask ask) (Some (Err (error.Refused refused))) row h =
    told_on limit by seen others begins ask (Err refused) row h
right_on limit by seen others begins (Ask ask) (Some (Err error.DiskFault)) row h =
    record {
      entries = h.entries;
      begins = prefix_on h.entries seen others h.begins begins;
      cause = h.cause;
      row_is = h.row_is;
    }
right_on limit by seen others begins (Ask ask) (Some (Err error.NoMemory)) row h =
    record {
      entries = h.entries;
      begins = prefix_on h.entries seen others h.begins begins;
      cause = h.cause;
      row_is = h.row_is;
    }
right_on limit by seen others begins (Ask ask) None row h = absurd h
right_on limit by seen others begins (Bad fault) given row h = h
right_on limit by seen others begins NoMemory given row h = h

-- ---- numbers

lower : (from low to : ℕ) (numbers : List ℕ) → from ≤ low → NeverFall low numbers to
    → NeverFall from numbers to
lower from low to [] less h = omega (arith, less, h)
lower from low to (number ∷ numbers) less h = (omega (arith, less, h.0), h.1)

fall_both : (from between to : ℕ) (some more : List ℕ) → NeverFall from some between
    → NeverFall between more to → NeverFall from (some ++ more) to
fall_both from between to [] more first second = lower from between to more first second
fall_both from between to (number ∷ numbers) more first second =
    (first.0, fall_both number between to numbers more first.1 second)

counted_both : (was mid now a b end : ℕ) → min mid end ≡ min (was + a) end
    → min now end ≡ min (mid + b) end → min now end ≡ min (was + (a + b)) end
counted_both was mid now a b end first second = omega (arith, first, second)

counted_once : (was now k end : ℕ) → now ≡ min (was + k) end → min now end ≡ min (was + k) end
counted_once was now k end is = omega (arith, is)

-- ---- no ask, and some after others

pub answered_none : (Reached : List asks.Ask → Type 0) (was : Known) → Reached []
    → HasAnswered Reached was was []
answered_none Reached was reached =
    let none : was.faults + 0 ≡ was.faults = omega arith in
    record {
      seen = prefix_itself was.seen;
      asked = reached;
      right = All-nil (IsAnsweredIn was.limit was.by was.seen);
      places = omega arith;
      mine = sym (append-nil was.mine);
      faults = ap (λ (n : ℕ). min n FAULTS_END) (sym none);
      limit = refl;
      by = refl;
    }

faults_both : (xs ys : List Exchange) → disk_faults (xs ++ ys) ≡ disk_faults xs + disk_faults ys
faults_both xs ys =
    ap length (filter-append (λ (x : Exchange). is_disk_fault x.given) xs ys)
    ∙ length-append (filter (λ (x : Exchange). is_disk_fault x.given) xs)
    (filter (λ (x : Exchange). is_disk_fault x.given) ys)

pub answered_both : (One Two Both : List asks.Ask → Type 0) (was mid now : Known)
    (xs ys : List Exchange) → HasAnswered One was mid xs → HasAnswered Two mid now ys
    → Both (asks_of xs ++ asks_of ys) → HasAnswered Both was now (xs ++ ys)
answered_both One Two Both was mid now xs ys first second reached =
    let right_first : All (IsAnsweredIn was.limit was.by now.seen) xs =
    All-weaker (IsAnsweredIn was.limit was.by mid.seen) (IsAnsweredIn was.limit was.by now.seen)
    (λ x h. right_on was.limit was.by mid.seen now.seen second.seen x.told x.given x.row h)
    xs first.right in
    let by_limit : All (IsAnsweredIn was.limit mid.by now.seen) ys =
    subst (λ (limit : ℕ). All (IsAnsweredIn limit mid.by now.seen) ys) first.limit second.right in
    let right_second : All (IsAnsweredIn was.limit was.by now.seen) ys =
    subst (λ (by : ℕ). All (IsAnsweredIn was.limit by now.seen) ys) first.by by_limit in
    record {
      seen = prefix_on was.seen mid.seen now.seen first.seen second.seen;
      asked = subst Both (sym (filter_map-append (λ (x : Exchange). ask_of x.told) xs ys)) reached;
      right = All-append (IsAnsweredIn was.limit was.by now.seen) xs ys right_first right_second;
      places = subst (λ (ps : List ℕ). NeverFall (length was.seen) ps (length now.seen))
          (sym (filter_map-append (λ (x : Exchange). place_of x.given) xs ys))
          (fall_both (length was.seen) (length mid.seen) (length now.seen) (places_of xs)
          (places_of ys) first.places second.places);
      mine = second.mine
          ∙ ap (λ (rows : List Row). rows ++ rows_of ys) first.mine
          ∙ append_assoc was.mine (rows_of xs) (rows_of ys)
          ∙ ap (λ (rows : List Row). was.mine ++ rows)
          (sym (filter_map-append (λ (x : Exchange). x.row) xs ys));
      faults = counted_both was.faults mid.faults now.faults (disk_faults xs) (disk_faults ys)
          FAULTS_END first.faults second.faults
          ∙ ap (λ (n : ℕ). min (was.faults + n) FAULTS_END) (sym (faults_both xs ys));
      limit = second.limit ∙ first.limit;
      by = second.by ∙ first.by;
    }

-- ---- one ask

-- what an answer makes of what was seen, and which place it names
record IsOne (was now : Known) (ask : asks.Ask) (given : Result Answered AskError) : Type 0 where
  pub seen : IsPrefixOf was.seen now.seen
  pub row : Option Row
  pub right : IsAnswered was.limit was.by now.seen (Ask ask) (Some given) row
  pub places : NeverFall (length was.seen) (cons_option (place_of (Some given)) [])
      (length now.seen)
  pub mine : now.mine ≡ was.mine ++ cons_option row []

then_more : (new : Option Entry) (after : List Entry)
    → cons_option new after ≡ cons_option new [] ++ after
then_more None after = refl
then_more (Some entry) after = refl

-- the parts of an answer that a caller has
record IsHad (was now : Known) (ask : asks.Ask) (given : Result Answered refusals.Refused)
    : Type 0 where
  pub seen : IsPrefixOf was.seen now.seen
  pub row : Option Row
  pub right : IsTold was.limit was.by now.seen ask given row
  pub low : length was.seen ≤ number_named given
  pub high : number_named given ≤ length now.seen
  pub mine : now.mine ≡ was.mine ++ cons_option row []

had : (was now : Known) (ask : asks.Ask) (given : Result Answered refusals.Refused)
    → HasAnswer was now ask given → IsHad was now ask given
had was now ask given has =
    let right = has.right in
    let new = added was.limit right.before was.by ask in
    let behind = entries_after was.limit right.before was.by ask in
    let parts : now.seen ≡ behind ++ right.after =
    right.parts
    ∙ ap (λ (es : List Entry). right.before ++ es) (then_more new right.after)
    ∙ sym (append_assoc right.before (cons_option new []) right.after) in
    let first : IsPrefixOf was.seen right.before = (has.unseen, has.grows) in
    let second : IsPrefixOf right.before behind = (cons_option new [], refl) in
    let early = prefix_on was.seen right.before behind first second in
    let names = right_names was.limit was.by now.seen ask given right in
    record {
      seen = prefix_on was.seen behind now.seen early (right.after, parts);
      row = row_added was.limit right.before was.by ask;
      right = record { right = right; row_is = refl };
      low = omega (arith, names, prefix_short was.seen behind early);
      high = omega (arith, names, prefix_short behind now.seen (right.after, parts));
      mine = has.mine;
    }

lost : (was now : Known) (ask : asks.Ask) (Cause : Option Entry → Type 0)
    → now.limit ≡ was.limit → now.by ≡ was.by → Cause (added now.limit now.seen now.by ask)
    → IsLost was.limit was.by now.seen ask Cause None
lost was now ask Cause limit by cause =
    let by_limit : Cause (added was.limit now.seen now.by ask) =
    subst (λ (n : ℕ). Cause (added n now.seen now.by ask)) limit cause in
    record {
      entries = now.seen;
      begins = prefix_itself now.seen;
      cause = subst (λ (n : ℕ). Cause (added was.limit now.seen n ask)) by by_limit;
      row_is = refl;
    }

-- where a caller has no answer
none_had : (was now : Known) (ask : asks.Ask) (given : Result Answered AskError)
    → HasNoAnswer was now → place_of (Some given) ≡ None
    → IsAnswered was.limit was.by now.seen (Ask ask) (Some given) None → IsOne was now ask given
none_had was now ask given none nowhere right =
    let seen : IsPrefixOf was.seen now.seen = (none.unseen, none.grows) in
    record {
      seen = seen;
      row = None;
      right = right;
      places = subst
          (λ (o : Option ℕ). NeverFall (length was.seen) (cons_option o []) (length now.seen))
          (sym nowhere) (prefix_short was.seen now.seen seen);
      mine = none.mine ∙ sym (append-nil was.mine);
    }

one : (was now : Known) (ask : asks.Ask) (given : Result Answered AskError)
    → IsAsked was now ask given → IsOne was now ask given
one was now ask (Ok answered) asked =
    let is = had was now ask (Ok answered) asked.says in
    record {
      seen = is.seen;
      row = is.row;
      right = is.right;
      places = (is.low, is.high);
      mine = is.mine;
    }
one was now ask (Err (error.Refused refused)) asked =
    let is = had was now ask (Err refused) asked.says in
    record {
      seen = is.seen;
      row = is.row;
      right = is.right;
      places = (is.low, is.high);
      mine = is.mine;
    }
one was now ask (Err error.DiskFault) asked =
    let says = asked.says in
    none_had was now ask (Err error.DiskFault) says.0 refl
    (lost was now ask IsSome asked.limit asked.by says.1)
one was now ask (Err error.NoMemory) asked =
    let says = asked.says in
    none_had was now ask (Err error.NoMemory) says.0 refl
    (lost was now ask (MayFindNoMemory ask.want) asked.limit asked.by says.1)

-- what holds of one exchange holds of each
each_one : (limit by : ℕ) (seen : List Entry) (x : Exchange) → IsAnsweredIn limit by seen x
    → All (IsAnsweredIn limit by seen) (x ∷ [])
each_one limit by seen x h =
    All-cons (IsAnsweredIn limit by seen) x [] h (All-nil (IsAnsweredIn limit by seen))

-- the exchange of an ask
abbrev asked_by : Framed → asks.Ask → Result Answered AskError → Option Row → Bool → Exchange
asked_by request ask given row last = record {
  request = request;
  told = Ask ask;
  given = Some given;
  row = row;
  last = last;
}

-- how many faults it tells
faults_one : (request : Framed) (ask : asks.Ask) (given : Result Answered AskError)
    (row : Option Row) (last : Bool)
    → faults_told given ≡ disk_faults (asked_by request ask given row last ∷ [])
faults_one request ask (Ok answered) row last = refl
faults_one request ask (Err (error.Refused refused)) row last = refl
faults_one request ask (Err error.DiskFault) row last = refl
faults_one request ask (Err error.NoMemory) row last = refl

-- what a caller was answered to an ask: the row that this added
record IsGiven (Reached : List asks.Ask → Type 0) (was now : Known) (ask : asks.Ask)
    (given : Result Answered AskError) (last : Bool) : Type 0 where
  pub row : Option Row
  pub answered : (request : Framed)
      → HasAnswered Reached was now (asked_by request ask given row last ∷ [])

given_one : (Reached : List asks.Ask → Type 0) (was now : Known) (ask : asks.Ask)
    (given : Result Answered AskError) (last : Bool) → IsAsked was now ask given
    → Reached (ask ∷ []) → IsGiven Reached was now ask given last
given_one Reached was now ask given last asked reached =
    let is = one was now ask given asked in
    record {
      row = is.row;
      answered = λ request. record {
        seen = is.seen;
        asked = reached;
        right = each_one was.limit was.by now.seen (asked_by request ask given is.row last)
            is.right;
        places = is.places;
        mine = is.mine;
        faults = counted_once was.faults now.faults (faults_told given) FAULTS_END asked.faults
            ∙ ap (λ (n : ℕ). min (was.faults + n) FAULTS_END)
            (faults_one request ask given is.row last);
        limit = asked.limit;
        by = asked.by;
      };
    }

-- the book gives what a caller answers
legal_before : (was now : Known) (ask : asks.Ask) (given : Result Answered refusals.Refused)
    → (has : HasAnswer was now ask given) → IsLegal now.seen → IsLegal has.right.before
legal_before was now ask given has legal =
    let more = cons_option (added was.limit has.right.before was.by ask) has.right.after in
    legal-prefix has.right.before more (subst IsLegal has.right.parts legal)

pub book_answer : (was now : Known) (ask : asks.Ask) (given : Result Answered AskError)
    → IsAsked was now ask given → IsBookAnswer given
book_answer was now ask (Ok answered) asked =
    let has : HasAnswer was now ask (Ok answered) = asked.says in
    record {
      limit = was.limit;
      entries = has.right.before;
      ask = ask;
      legal = legal_before was now ask (Ok answered) has asked.legal;
      given = has.right.answered;
    }
book_answer was now ask (Err (error.Refused refused)) asked =
    let has : HasAnswer was now ask (Err refused) = asked.says in
    record {
      limit = was.limit;
      entries = has.right.before;
      ask = ask;
      legal = legal_before was now ask (Err refused) has asked.legal;
      given = has.right.answered;
    }
book_answer was now ask (Err error.DiskFault) asked = tt
book_answer was now ask (Err error.NoMemory) asked = tt

-- ---- the responses

pub responds_asked : (Reached : List asks.Ask → Type 0) (was now : Known) (ask : asks.Ask)
    (given : Result Answered AskError) (last : Bool) (text : List ℕ) → IsAsked was now ask given
    → Reached (ask ∷ []) → text ≡ reply_response given last
    → Responds Reached was now (Ask ask) last text
responds_asked Reached was now ask given last text asked reached is =
    let one = given_one Reached was now ask given last asked reached in
    record { given = Some given; row = one.row; text_is = is; answered = one.answered }

nobody : (Reached : List asks.Ask → Type 0) (was : Known) (told : OfficeAsk) (last : Bool)
    (request : Framed) → ask_of told ≡ None
    → IsAnswered was.limit was.by was.seen told None None → Reached []
    → HasAnswered Reached was was (record {
      request = request;
      told = told;
      given = None;
      row = None;
      last = last;
    } ∷ [])
nobody Reached was told last request none right reached =
    let still : was.faults + 0 ≡ was.faults = omega arith in
    record {
      seen = prefix_itself was.seen;
      asked = subst (λ (o : Option asks.Ask). Reached (cons_option o [])) (sym none) reached;
      right = each_one was.limit was.by was.seen (record {
        request = request;
        told = told;
        given = None;
        row = None;
        last = last;
      }) right;
      places = omega arith;
      mine = sym (append-nil was.mine);
      faults = ap (λ (n : ℕ). min n FAULTS_END) (sym still);
      limit = refl;
      by = refl;
    }

pub responds_bad : (Reached : List asks.Ask → Type 0) (was : Known) (fault : faults.Bad)
    (last : Bool) (text : List ℕ) → Reached [] → text ≡ bad_response fault last
    → Responds Reached was was (Bad fault) last text
responds_bad Reached was fault last text reached is = record {
  given = None;
  row = None;
  text_is = is;
  answered = λ request. nobody Reached was (Bad fault) last request refl (refl, refl) reached;
}

pub responds_without_memory : (Reached : List asks.Ask → Type 0) (was : Known) (last : Bool)
    (text : List ℕ) → Reached [] → text ≡ reply_response (Err error.NoMemory) last
    → Responds Reached was was NoMemory last text
responds_without_memory Reached was last text reached is = record {
  given = None;
  row = None;
  text_is = is;
  answered = λ request. nobody Reached was NoMemory last request refl (refl, refl) reached;
}
