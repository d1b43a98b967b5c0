-- What was answered right in what a caller has seen is so in all rows, which go on from it.
use Rattle.std.proofs.Common.{◌≡◌, ℕ, ◌+◌, ◌<◌, ◌≤◌, List, [], ◌∷◌, ◌++◌, length, All, Option, Some, None, option_map, IsSome, Result, Ok, Err, refl, sym, ◌∙◌, ap, subst, arith, append_assoc, length-append}
use Rattle.std.proofs.lemmas.List.Elements.{All-append, All-cons, All-nil, All-same, All-weaker}
use Rattle.std.proofs.lemmas.List.{append_cancel_left}
use Rattle.std.specs.List.{cons_option}
use Rattle.device_facts.specs.Prefix.{IsPrefixOf}
use Rattle.book_words.specs.declared.act.Ask as asks
use Rattle.book_words.specs.declared.act.Entry.{Entry}
use Rattle.book_words.specs.declared.caller.AskError.{AskError}
use Rattle.book_words.specs.declared.caller.AskError.TheVariants as error
use Rattle.book_words.specs.declared.reply.Answered.{Answered}
use Rattle.book_words.specs.declared.reply.Refused as refusals
use Rattle.book_words.specs.Answers.{added}
use Rattle.book_words.specs.Callers.{FAULTS_END, Known, IsRight, MayFindNoMemory, row_added}
use Rattle.book_words.specs.Desks.{Row}
use Rattle.book_words.proofs.RightAnswers.{right_in_longer, right_names}
use Rattle.lane_worker.specs.declared.ending.WeighingEnd.{WeighingEnd}
use Rattle.lane_worker.specs.declared.ending.WeighingEnd.TheVariants as ends
use Rattle.lane_worker.specs.declared.ending.LaneStop.TheVariants as lane_stop
use Rattle.lane_worker.specs.Endings.{ask_stop, weighing_stop}
use Rattle.office_door.specs.Exchanges.{Exchange, IsAnswered, IsAnsweredIn, IsLost, IsTold, NeverFall}
use Rattle.office_door.proofs.Prefixes.{prefix_on}
use Rattle.office_wire.specs.declared.types.OfficeAsk.{OfficeAsk}
use Rattle.office_wire.specs.declared.types.OfficeAsk.TheVariants.{Ask, Bad, NoMemory}
use Rattle.session_jobs.specs.Runs.{BrokeBefore, AnyAsks}
use Rattle.session_history.specs.Replies.{IsErrorIn, NamesOwnRows}

onto : (new : Option Entry) (after more : List Entry)
    → cons_option new after ++ more ≡ cons_option new (after ++ more)
onto None after more = refl
onto (Some entry) after more = refl

module _ (limit by : ℕ) (seen rows : List Entry) (begins : IsPrefixOf seen rows) where
  right_on : (ask : asks.Ask) (given : Result Answered refusals.Refused)
      → IsRight limit by seen ask given → IsRight limit by rows ask given
  right_on ask given right =
      subst (λ (es : List Entry). IsRight limit by es ask given) (sym begins.1)
      (right_in_longer limit by seen begins.0 ask given right)

  told_on : (ask : asks.Ask) (given : Result Answered refusals.Refused) (row : Option Row)
      → IsTold limit by seen ask given row → IsTold limit by rows ask given row
  told_on ask given row told =
      let more = begins.0 in
      let new = added limit told.right.before by ask in
      record {
        right = record {
          before = told.right.before;
          after = told.right.after ++ more;
          parts = begins.1
              ∙ (ap (λ (all : List Entry). all ++ more) told.right.parts
              ∙ (append_assoc told.right.before (cons_option new told.right.after) more
              ∙ ap (λ (rest : List Entry). told.right.before ++ rest)
              (onto new told.right.after more)));
          answered = told.right.answered;
        };
        row_is = told.row_is;
      }

  lost_on : (ask : asks.Ask) (Cause : Option Entry → Type 0) (row : Option Row)
      → IsLost limit by seen ask Cause row → IsLost limit by rows ask Cause row
  lost_on ask Cause row lost =
      record {
        entries = lost.entries;
        begins = prefix_on lost.entries seen rows lost.begins begins;
        cause = lost.cause;
        row_is = lost.row_is;
      }

  answered_on : (told : OfficeAsk) (given : Option (Result Answered AskError)) (row : Option Row)
      → IsAnswered limit by seen told given row → IsAnswered limit by rows told given row
  answered_on (Ask ask) (Some (Ok answered)) row is = told_on ask (Ok answered) row is
  answered_on (Ask ask) (Some (Err (error.Refused refused))) row is =
      told_on ask (Err refused) row is
  answered_on (Ask ask) (Some (Err error.DiskFault)) row is = lost_on ask IsSome row is
  answered_on (Ask ask) (Some (Err error.NoMemory)) row is =
      lost_on ask (MayFindNoMemory ask.want) row is
  answered_on (Ask ask) None row is = absurd is
  answered_on (Bad fault) given row is = is
  answered_on NoMemory given row is = is

  -- so it is of exchanges
  pub all_answered_on : (exchanges : List Exchange) → All (IsAnsweredIn limit by seen) exchanges
      → All (IsAnsweredIn limit by rows) exchanges
  all_answered_on exchanges right =
      All-weaker (IsAnsweredIn limit by seen) (IsAnsweredIn limit by rows)
      (λ x is. answered_on x.told x.given x.row is) exchanges right

-- places that never fall up to a number don't up to a greater one
pub fall_on : (from to more : ℕ) (places : List ℕ) → to ≤ more → NeverFall from places to
    → NeverFall from places more
fall_on from to more [] less fall = omega (arith, less, fall)
fall_on from to more (place ∷ places) less fall =
    (fall.0, fall_on place to more places less fall.1)

pub prefix_short : {A : Type 0} (a b : List A) → IsPrefixOf a b → length a ≤ length b
prefix_short a b begins = omega (arith, ap length begins.1, length-append a begins.0)

-- ---- errors

-- an error to an ask of a caller is right in all rows, which go on from what it has seen then
module _ (room : ℕ) (first last : Known) (rows : List Entry)
    (begins : IsPrefixOf last.seen rows) (answered : List asks.Ask) (next : asks.Ask) where
  own_error : (why : AskError) → (why ≡ error.NoMemory → last.faults < FAULTS_END)
      → BrokeBefore AnyAsks room first last answered next why
      → IsErrorIn last.limit last.by room rows next why
  own_error (error.Refused refused) few broke = right_error
    where
      by_limit : IsRight last.limit broke.between.by last.seen next (Err refused)
      by_limit = subst (λ (n : ℕ). IsRight n broke.between.by last.seen next (Err refused))
          (sym broke.answer.limit) broke.answer.says.right

      right_error : IsRight last.limit last.by rows next (Err refused)
      right_error = right_on last.limit last.by last.seen rows begins next (Err refused)
          (subst (λ (n : ℕ). IsRight last.limit n last.seen next (Err refused))
          (sym broke.answer.by) by_limit)
  own_error error.DiskFault few broke = lost_error
    where
      lost_error : IsLost last.limit last.by rows next IsSome None
      lost_error = record {
        entries = last.seen;
        begins = begins;
        cause = broke.answer.says.1;
        row_is = refl;
      }
  own_error error.NoMemory few broke = (
    lost_error,
    λ weighing. omega (arith, broke.used refl weighing (few refl), prefix_short last.seen rows begins),
  )
    where
      lost_error : IsLost last.limit last.by rows next (MayFindNoMemory next.want) None
      lost_error = record {
        entries = last.seen;
        begins = begins;
        cause = broke.answer.says.1;
        row_is = refl;
      }

  pub error_on : (limit by : ℕ) → last.limit ≡ limit → last.by ≡ by → (why : AskError)
      → (why ≡ error.NoMemory → last.faults < FAULTS_END)
      → BrokeBefore AnyAsks room first last answered next why
      → IsErrorIn limit by room rows next why
  error_on limit by same_limit same_by why few broke =
      subst (λ (n : ℕ). IsErrorIn n by room rows next why) same_limit
      (subst (λ (n : ℕ). IsErrorIn last.limit n room rows next why) same_by
      (own_error why few broke))

abbrev Named : refusals.Refused → Row → Type 0
Named refused row = row.number ≤ refused.at

-- a refusal names what its caller had seen before, and the rows that it has added since
module _ (room : ℕ) (before : List Entry) (first last : Known) (begins : IsPrefixOf before first.seen)
    (own : List Row) (mine : last.mine ≡ first.mine ++ own) (answered : List asks.Ask)
    (next : asks.Ask) where
  refused_names : (refused : refusals.Refused)
      → BrokeBefore AnyAsks room first last answered next (error.Refused refused)
      → NamesOwnRows before own (lane_stop.Refused refused)
  refused_names refused broke =
      let between = broke.between in
      let has = broke.answer.says in
      let front = has.right.before in
      let new = added between.limit front between.by next in
      let at : refused.at ≡ length (front ++ cons_option new []) =
      right_names between.limit between.by last.seen next (Err refused) has.right in
      let seen : length between.seen ≤ length front =
      omega (arith, ap length has.grows, length-append between.seen has.unseen) in
      let front_named : length front ≤ refused.at =
      omega (arith, at, length-append front (cons_option new [])) in
      let met = broke.before in
      let more = cons_option (row_added between.limit front between.by next) [] in
      let same : own ≡ met.added ++ more = append_cancel_left first.mine own (met.added ++ more)
      (sym mine ∙ has.mine ∙ ap (λ (rows : List Row). rows ++ more) met.mine
      ∙ append_assoc first.mine met.added more) in (
        omega (
          arith,
          ap length begins.1,
          length-append before begins.0,
          ap length met.seen.1,
          length-append first.seen met.seen.0,
          seen,
          front_named,
        ),
        All-same (Named refused) own
            (met.added ++ cons_option (row_added between.limit front between.by next) []) same
            (All-append (Named refused) met.added
            (cons_option (row_added between.limit front between.by next) [])
            (All-weaker (λ (row : Row). row.number ≤ length between.seen) (Named refused)
            (λ row least. omega (arith, least, seen, front_named)) met.added met.within)
            (own_named front new at)),
      )
    where
      own_named : (front : List Entry) (new : Option Entry)
          → refused.at ≡ length (front ++ cons_option new [])
          → All (Named refused) (cons_option
          (option_map (λ entry. record { number = length front + 1; entry = entry }) new) [])
      own_named front None at = All-nil (Named refused)
      own_named front (Some entry) at =
          All-cons (Named refused) (record { number = length front + 1; entry = entry }) []
          (omega (arith, at, length-append front (entry ∷ []))) (All-nil (Named refused))

  pub error_names : (why : AskError)
      → BrokeBefore AnyAsks room first last answered next why
      → NamesOwnRows before own (ask_stop why)
  error_names (error.Refused refused) broke = refused_names refused broke
  error_names error.DiskFault broke = tt
  error_names error.NoMemory broke = tt

-- a work that finished keeps no refusal
pub finish_names : (before : List Entry) (own : List Row) (ending : WeighingEnd)
    → NamesOwnRows before own (weighing_stop ending)
finish_names before own ends.End = tt
finish_names before own (ends.Change batch line) = tt
finish_names before own (ends.Bad line) = tt
finish_names before own ends.Spent = tt
finish_names before own ends.CellFailed = tt
finish_names before own ends.GateFailed = tt
