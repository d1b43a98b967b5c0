-- The packs for which a gate opened are those that the rows of its worker tell, and perhaps one more.
use Rattle.std.proofs.Common.{◌≡◌, ℕ, ℤ, zero, suc, ◌-◌, ◌<◌, ◌≤◌, ◌==◌, ◌&&◌, ◌||◌, Bool, true, false, true≢false, cond, List, [], ◌∷◌, ◌++◌, length, map, take, drop, get_or, filter, All, AllPairs, Option, Some, None, option_to_list, refl, sym, ◌∙◌, ap, subst, arith, append-nil}
use Rattle.std.proofs.lemmas.Bool.{eq-eqb, ne_eqb}
use Rattle.std.proofs.lemmas.List.{get_or_default}
use Rattle.std.proofs.lemmas.List.Elements.{All-cons, All-head, All-nil, All-tail, filter-append}
use Rattle.std.proofs.lemmas.List.Kept.{AllPairs-cons}
use Rattle.std.proofs.lemmas.Option.{none-some}
use Rattle.std.specs.List.{cons_option}
use Rattle.device_facts.specs.Prefix.{IsPrefixOf}
use Rattle.pack_judge.specs.declared.types.Signal.{Signal}
use Rattle.book_words.specs.declared.act.Act.{Act}
use Rattle.book_words.specs.declared.act.Act.TheVariants.{StartLane, StopLane, Weigh}
use Rattle.book_words.specs.declared.act.Ask.{Ask}
use Rattle.book_words.specs.declared.act.Entry.{Entry}
use Rattle.book_words.specs.declared.act.Prior.{Prior}
use Rattle.book_words.specs.declared.act.Want.{Want}
use Rattle.book_words.specs.declared.act.Want.TheVariants as want
use Rattle.book_words.specs.declared.name.Name.{Name}
use Rattle.book_words.specs.Answers.{IsLegal}
use Rattle.book_words.specs.Desks.{Row}
use Rattle.book_words.specs.Population.{is_pass}
use Rattle.book_words.specs.Signals.{recorded_signal}
use Rattle.book_words.specs.Views.{lane_view}
use Rattle.lane_worker.specs.Asks.{act_ask, gate_did, is_among, passed_pack, passed_packs, prior_behind, starting_asks, stop_found, stopping_asks, weighing_asks}
use Rattle.lane_worker.specs.Gates.{is_weighing}
use Rattle.lane_worker.specs.Works.{AreOpened, StandBehind, Work, asks_of_work}
use Rattle.session_history.specs.Gates.{OpensForReleased, released, says_opened}
use Rattle.session_history.proofs.ManyLists.{all_right, pairs_head, pairs_none, pairs_tail}
use Rattle.session_history.proofs.OwnRows.{parted}
use Rattle.session_history.proofs.WorkedActs.{row_ask}

-- ---- those among some

abbrev Below : ℕ → ℕ → Type 0
Below m n = m < n

keep_all : (test : ℕ → Bool) (xs : List ℕ) → All (λ x. test x ≡ true) xs → filter test xs ≡ xs
keep_all test [] all = refl
keep_all test (x ∷ xs) all =
    ap (λ b. cond b (x ∷ filter test xs) (filter test xs)) (All-head (λ y. test y ≡ true) x xs all)
    ∙ ap (λ ys. x ∷ ys) (keep_all test xs (All-tail (λ y. test y ≡ true) x xs all))

or_true : (b : Bool) → (b || true) ≡ true
or_true true = refl
or_true false = refl

among_at : (xs : List ℕ) (n k : ℕ) → k < length xs → get_or xs k n ≡ n → is_among n xs ≡ true
among_at [] n k less is = absurd (omega (arith, less))
among_at (x ∷ xs) n zero less is = ap (λ b. b || is_among n xs) (eq-eqb x n is)
among_at (x ∷ xs) n (suc k) less is =
    ap (λ b. (x == n) || b) (among_at xs n k (omega (arith, less)) is) ∙ or_true (x == n)

all_among : (xs : List ℕ) → All (λ n. is_among n xs ≡ true) xs
all_among xs = λ k d inside. among_at xs (get_or xs k d) k inside
    (get_or_default xs k (get_or xs k d) d inside)

not_among : (xs : List ℕ) (last : ℕ) → All (λ n. n < last) xs → is_among last xs ≡ false
not_among [] last all = refl
not_among (x ∷ xs) last all =
    let less = All-head (λ n. n < last) x xs all in
    ap (λ b. b || is_among last xs) (ne_eqb x last (λ same. absurd (omega (arith, less, same))))
    ∙ not_among xs last (All-tail (λ n. n < last) x xs all)

below_last : (xs : List ℕ) (last : ℕ) → AllPairs Below (xs ++ last ∷ []) → All (λ n. n < last) xs
below_last [] last rise = All-nil (λ n. n < last)
below_last (x ∷ xs) last rise = All-cons (λ n. n < last) x xs
    (All-head (Below x) last []
    (all_right (Below x) xs (last ∷ []) (pairs_head Below x (xs ++ last ∷ []) rise)))
    (below_last xs last (pairs_tail Below x (xs ++ last ∷ []) rise))

-- ---- the packs of rows that stand behind each other

-- a row that passed is a weighing, as in a legal list
abbrev PassWeighs : Row → Type 0
PassWeighs row = is_pass row.entry.signal ≡ true → is_weighing row.entry.act ≡ true

module _ (entries : List Entry) (by : ℕ) where
  passed_above : (low number : ℕ) (rows : List Row) → low ≤ number
      → StandBehind entries by number rows → All (Below low) (passed_packs rows)
  passed_above low number [] least stand = All-nil (Below low)
  passed_above low number (row ∷ rows) least stand =
      first (is_pass row.entry.signal)
      (passed_above low row.number rows (omega (arith, least, stand.0)) stand.3)
    where
      first : (b : Bool) → All (Below low) (passed_packs rows)
          → All (Below low) (cons_option (cond b (Some row.number) None) (passed_packs rows))
      first false rest = rest
      first true rest = All-cons (Below low) row.number (passed_packs rows)
          (omega (arith, least, stand.0)) rest

  passed_rise : (number : ℕ) (rows : List Row) → StandBehind entries by number rows
      → AllPairs Below (passed_packs rows)
  passed_rise number [] stand = pairs_none Below
  passed_rise number (row ∷ rows) stand =
      first (is_pass row.entry.signal) (passed_rise row.number rows stand.3)
    where
      first : (b : Bool) → AllPairs Below (passed_packs rows)
          → AllPairs Below (cons_option (cond b (Some row.number) None) (passed_packs rows))
      first false rest = rest
      first true rest = AllPairs-cons Below row.number (passed_packs rows)
          (passed_above row.number row.number rows (omega arith) stand.3) rest

  -- of the packs that passed those for which the gate opened are all for which it did
  opened_among : (number : ℕ) (rows : List Row) (failed : Bool) (opened : List ℕ)
      → StandBehind entries by number rows → AreOpened failed (passed_packs rows) opened
      → filter (λ n. is_among n opened) (passed_packs rows) ≡ opened
  opened_among number rows false opened stand all =
      ap (filter (λ n. is_among n opened)) all
      ∙ keep_all (λ n. is_among n opened) opened (all_among opened)
  opened_among number rows true opened stand all =
      let test : ℕ → Bool = λ n. is_among n opened in
      let last = all.0 in
      let low = below_last opened last (subst (AllPairs Below) all.1 (passed_rise number rows stand)) in
      ap (filter test) all.1
      ∙ (filter-append test opened (last ∷ [])
      ∙ (ap (λ b. filter test opened ++ cond b (last ∷ []) []) (not_among opened last low)
      ∙ (append-nil (filter test opened) ∙ keep_all test opened (all_among opened))))

  signal_weighs : (before : List Entry) (act : Act) (signal : Option Signal)
      → signal ≡ recorded_signal before act → is_pass signal ≡ true → is_weighing act ≡ true
  signal_weighs before (Weigh lane gross prior) signal is pass = refl
  signal_weighs before act signal is pass =
      absurd (true≢false (sym pass ∙ ap is_pass is))

  pass_weighs : IsLegal entries → (number : ℕ) (rows : List Row)
      → StandBehind entries by number rows → All PassWeighs rows
  pass_weighs legal number [] stand = All-nil PassWeighs
  pass_weighs legal number (row ∷ rows) stand =
      let parts = parted entries (row.number - 1) row.entry stand.1 in
      let lawful = legal (take (row.number - 1) entries) row.entry
      (drop (suc (row.number - 1)) entries) parts in
      All-cons PassWeighs row rows
      (signal_weighs (take (row.number - 1) entries) row.entry.act row.entry.signal lawful.signal)
      (pass_weighs legal row.number rows stand.3)

-- ---- the last of some rows

abbrev front : List Row → List Row
front [] = []
front (row ∷ []) = []
front (row ∷ next ∷ rows) = row ∷ front (next ∷ rows)

abbrev last_pack : List Row → Option ℕ
last_pack [] = None
last_pack (row ∷ []) = passed_pack row
last_pack (row ∷ next ∷ rows) = last_pack (next ∷ rows)

alone : (o : Option ℕ) → cons_option o [] ≡ option_to_list o
alone None = refl
alone (Some n) = refl

onto : (o : Option ℕ) (xs ys : List ℕ) → cons_option o (xs ++ ys) ≡ cons_option o xs ++ ys
onto None xs ys = refl
onto (Some n) xs ys = refl

parted_packs : (rows : List Row)
    → passed_packs rows ≡ passed_packs (front rows) ++ option_to_list (last_pack rows)
parted_packs [] = refl
parted_packs (row ∷ []) = alone (passed_pack row)
parted_packs (row ∷ next ∷ rows) =
    ap (cons_option (passed_pack row)) (parted_packs (next ∷ rows))
    ∙ onto (passed_pack row) (passed_packs (front (next ∷ rows)))
    (option_to_list (last_pack (next ∷ rows)))

kept : (ℕ → Bool) → Option ℕ → Option ℕ
kept test None = None
kept test (Some n) = cond (test n) (Some n) None

kept_is : (test : ℕ → Bool) (o : Option ℕ)
    → filter test (option_to_list o) ≡ option_to_list (kept test o)
unfolding kept
kept_is test None = refl
kept_is test (Some n) = by (test n)
  where
    by : (b : Bool) → cond b (n ∷ []) [] ≡ option_to_list (cond b (Some n) None)
    by true = refl
    by false = refl

-- ---- what the rows tell

and_false : (b : Bool) → (b && false) ≡ false
and_false true = refl
and_false false = refl

-- what is wanted says that the gate opened
abbrev wants_opened : Want → Bool
wants_opened (want.Act act) = says_opened act
wants_opened _ = false

-- what is wanted is a weighing
abbrev wants_weighing : Want → Bool
wants_weighing (want.Act act) = is_weighing act
wants_weighing _ = false

weigh_says : (lane : ℕ) (gross : ℤ) (passed opened : Bool)
    → says_opened (Weigh lane gross (gate_did passed opened)) ≡ passed && opened
weigh_says lane gross true true = refl
weigh_says lane gross true false = refl
weigh_says lane gross false opened = refl

stop_says : (lane : ℕ) (passed opened : Bool)
    → says_opened (StopLane lane (gate_did passed opened)) ≡ passed && opened
stop_says lane true true = refl
stop_says lane true false = refl
stop_says lane false opened = refl

module _ (lane : ℕ) (opened : List ℕ) where
  abbrev test : ℕ → Bool
  test n = is_among n opened

  -- the rows tell just the packs before the last row that are among those
  abbrev TellsRight : List Row → Type 0
  TellsRight rows = released rows ≡ filter test (passed_packs (front rows))

  one_tells : (row : Row) → TellsRight (row ∷ [])
  one_tells row = ap (λ b. cons_option (cond b (Some row.number) None) [])
      (and_false (is_pass row.entry.signal))

  by_tests : (passed lifted : Bool) (n : ℕ) (told packs : List ℕ) → told ≡ filter test packs
      → test n ≡ lifted → cons_option (cond (passed && (passed && lifted)) (Some n) None) told
      ≡ filter test (cons_option (cond passed (Some n) None) packs)
  by_tests false lifted n told packs is same = is
  by_tests true true n told packs is same =
      ap (λ ms. n ∷ ms) is ∙ sym (ap (λ b. cond b (n ∷ filter test packs) (filter test packs)) same)
  by_tests true false n told packs is same =
      is ∙ sym (ap (λ b. cond b (n ∷ filter test packs) (filter test packs)) same)

  more_tells : (last row : Row) (rows : List Row)
      → says_opened row.entry.act ≡ is_pass last.entry.signal && test last.number
      → TellsRight (row ∷ rows) → TellsRight (last ∷ row ∷ rows)
  more_tells last row rows says is =
      ap (λ b. cons_option (cond (is_pass last.entry.signal && b) (Some last.number) None)
      (released (row ∷ rows))) says
      ∙ by_tests (is_pass last.entry.signal) (test last.number) last.number (released (row ∷ rows))
      (passed_packs (front (row ∷ rows))) is refl

  head_is : (row : Row) (rows : List Row) (ask : Ask) (asks more : List Ask)
      → ask ∷ asks ≡ map row_ask (row ∷ rows) ++ more
      → row_ask row ≡ ask
  head_is row rows ask asks more same =
      sym (ap (λ (all : List Ask). get_or all 0 ask) same)

  tail_is : (row : Row) (rows : List Row) (ask : Ask) (asks more : List Ask)
      → ask ∷ asks ≡ map row_ask (row ∷ rows) ++ more → asks ≡ map row_ask rows ++ more
  tail_is row rows ask asks more same = ap (λ (all : List Ask). drop 1 all) same

  weighing_tells : (grosses : List ℤ) (last : Row) (rows : List Row) (more : List Ask)
      → weighing_asks lane opened grosses last rows ≡ map row_ask rows ++ more
      → TellsRight (last ∷ rows)
  weighing_tells grosses last [] more same = one_tells last
  weighing_tells [] last (row ∷ []) more same =
      more_tells last row []
      (ap (λ (ask : Ask). wants_opened ask.want)
      (head_is row [] (act_ask (StopLane lane (prior_behind opened last))) [] more same)
      ∙ stop_says lane (is_pass last.entry.signal) (test last.number))
      (one_tells row)
  weighing_tells [] last (row ∷ next ∷ rows) more same = absurd (omega (arith, ap length same))
  weighing_tells (gross ∷ grosses) last (row ∷ rows) more same =
      let ask : Ask = act_ask (Weigh lane gross (prior_behind opened last)) in
      let asks = weighing_asks lane opened grosses row rows in
      more_tells last row rows
      (ap (λ (a : Ask). wants_opened a.want) (head_is row rows ask asks more same)
      ∙ weigh_says lane gross (is_pass last.entry.signal) (test last.number))
      (weighing_tells grosses row rows more (tail_is row rows ask asks more same))

  -- where all was answered, the last row is a stop
  silent : (row : Row) (act : Act) → row_ask row ≡ act_ask act → is_weighing act ≡ false
      → PassWeighs row → passed_pack row ≡ None
  silent row act is unweighed weighs = by (is_pass row.entry.signal) refl
    where
      acts : is_weighing row.entry.act ≡ false
      acts = ap (λ (ask : Ask). wants_weighing ask.want) is ∙ unweighed

      by : (b : Bool) → is_pass row.entry.signal ≡ b → cond b (Some row.number) None ≡ None
      by false k = refl
      by true k = absurd (true≢false (sym (weighs k) ∙ acts))

  weighing_stops : (grosses : List ℤ) (last : Row) (rows : List Row)
      → weighing_asks lane opened grosses last rows ≡ map row_ask rows
      → All PassWeighs rows → last_pack (last ∷ rows) ≡ None
  weighing_stops [] last [] same all = absurd (omega (arith, ap length same))
  weighing_stops (gross ∷ grosses) last [] same all = absurd (omega (arith, ap length same))
  weighing_stops [] last (row ∷ []) same all =
      silent row (StopLane lane (prior_behind opened last))
      (sym (ap (λ (asks : List Ask). get_or asks 0 (row_ask row)) same)) refl
      (All-head PassWeighs row [] all)
  weighing_stops [] last (row ∷ next ∷ rows) same all = absurd (omega (arith, ap length same))
  weighing_stops (gross ∷ grosses) last (row ∷ rows) same all =
      weighing_stops grosses row rows (ap (λ (asks : List Ask). drop 1 asks) same)
      (All-tail PassWeighs row rows all)

  module _ (batch : Name) (grosses : List ℤ) where
    starting_tells : (rows : List Row) (more : List Ask)
        → starting_asks lane batch opened grosses rows ≡ map row_ask rows ++ more → TellsRight rows
    starting_tells [] more same = refl
    starting_tells (row ∷ rows) more same =
        weighing_tells grosses row rows more (tail_is row rows (act_ask (StartLane lane batch))
        (weighing_asks lane opened grosses row rows) more same)

    starting_stops : (rows : List Row)
        → starting_asks lane batch opened grosses rows ≡ map row_ask rows → All PassWeighs rows
        → last_pack rows ≡ None
    starting_stops [] same all = refl
    starting_stops (row ∷ rows) same all =
        weighing_stops grosses row rows (ap (λ (asks : List Ask). drop 1 asks) same)
        (All-tail PassWeighs row rows all)

    stopping_tells : (found : Option Prior) (rows : List Row) (more : List Ask)
        → stopping_asks lane batch found opened grosses rows ≡ map row_ask rows ++ more
        → All PassWeighs rows → TellsRight rows
    stopping_tells None rows more same all = starting_tells rows more same
    stopping_tells (Some prior) [] more same all = refl
    stopping_tells (Some prior) (row ∷ []) more same all = one_tells row
    stopping_tells (Some prior) (row ∷ next ∷ rows) more same all =
        let behind = starting_asks lane batch opened grosses (next ∷ rows) in
        let first = head_is row (next ∷ rows) (act_ask (StopLane lane prior)) behind more same in
        let rest = tail_is row (next ∷ rows) (act_ask (StopLane lane prior)) behind more same in
        let none = silent row (StopLane lane prior) first refl
        (All-head PassWeighs row (next ∷ rows) all) in
        unpassed row next rows none (starting_tells (next ∷ rows) more rest)
      where
        unpassed : (row next : Row) (rows : List Row) → passed_pack row ≡ None
            → TellsRight (next ∷ rows) → TellsRight (row ∷ next ∷ rows)
        unpassed row next rows none is = by (is_pass row.entry.signal) refl none
          where
            by : (b : Bool) → is_pass row.entry.signal ≡ b → cond b (Some row.number) None ≡ None
                → cons_option (cond (b && says_opened next.entry.act) (Some row.number) None)
                (released (next ∷ rows))
                ≡ filter test (cons_option (cond b (Some row.number) None)
                (passed_packs (front (next ∷ rows))))
            by false k none = is
            by true k none = absurd (none-some row.number (sym none))

    stopping_stops : (found : Option Prior) (rows : List Row)
        → stopping_asks lane batch found opened grosses rows ≡ map row_ask rows
        → All PassWeighs rows → last_pack rows ≡ None
    stopping_stops None rows same all = starting_stops rows same all
    stopping_stops (Some prior) [] same all = refl
    stopping_stops (Some prior) (row ∷ []) same all = absurd (omega (arith, ap length same))
    stopping_stops (Some prior) (row ∷ next ∷ rows) same all =
        starting_stops (next ∷ rows) (ap (λ (asks : List Ask). drop 1 asks) same)
        (All-tail PassWeighs row (next ∷ rows) all)

-- ---- the work of a lane

-- the rows of a worker are the first of the asks behind its question
asked_first : (rows : List Row) (answered asks : List Ask) → drop 1 answered ≡ map row_ask rows
    → IsPrefixOf answered asks → (more : List Ask) × (drop 1 asks ≡ map row_ask rows ++ more)
asked_first rows [] asks accepted begins =
    (drop 1 asks, ap (λ (some : List Ask). some ++ drop 1 asks) accepted)
asked_first rows (ask ∷ answered) asks accepted begins = (
  begins.0,
  ap (λ (all : List Ask). drop 1 all) begins.1
      ∙ ap (λ (some : List Ask). some ++ begins.0) accepted,
)

-- The packs for which the gate opened are those that the rows tell as released; where an ask had no
-- answer, perhaps one more.
pub opened_released : (entries : List Entry) → IsLegal entries → (lane number : ℕ) (batch : Name)
    (work : Work) (failed whole : Bool) → StandBehind entries lane number work.rows
    → AreOpened failed (passed_packs work.rows) work.opened
    → drop 1 work.answered ≡ map row_ask work.rows
    → IsPrefixOf work.answered (asks_of_work lane batch work)
    → (whole ≡ true → asks_of_work lane batch work ≡ work.answered)
    → OpensForReleased whole (released work.rows) work.opened
opened_released entries legal lane number batch work failed whole stand all accepted begins rest =
    by whole refl
  where
    weighs : All PassWeighs work.rows
    weighs = pass_weighs entries lane legal number work.rows stand

    tells : released work.rows ≡ filter (λ n. is_among n work.opened) (passed_packs (front work.rows))
    tells = let first = asked_first work.rows work.answered (asks_of_work lane batch work) accepted
        begins in
        stopping_tells lane work.opened batch work.grosses
        (stop_found (lane_view work.asked lane)) work.rows first.0 first.1 weighs

    parts : work.opened ≡ released work.rows
        ++ filter (λ n. is_among n work.opened) (option_to_list (last_pack work.rows))
    parts =
        sym (opened_among entries lane number work.rows failed work.opened stand all)
        ∙ (ap (filter (λ n. is_among n work.opened)) (parted_packs work.rows)
        ∙ (filter-append (λ n. is_among n work.opened) (passed_packs (front work.rows))
        (option_to_list (last_pack work.rows))
        ∙ ap (λ (some : List ℕ). some
        ++ filter (λ n. is_among n work.opened) (option_to_list (last_pack work.rows))) (sym tells)))

    by : (b : Bool) → whole ≡ b → OpensForReleased b (released work.rows) work.opened
    by true is =
        let last = stopping_stops lane work.opened batch work.grosses
        (stop_found (lane_view work.asked lane)) work.rows
        (ap (λ (asks : List Ask). drop 1 asks) (rest is) ∙ accepted) weighs in
        parts ∙ (ap (λ (o : Option ℕ). released work.rows
        ++ filter (λ n. is_among n work.opened) (option_to_list o)) last
        ∙ append-nil (released work.rows))
    by false is = (
      kept (λ n. is_among n work.opened) (last_pack work.rows),
      parts ∙ ap (λ (some : List ℕ). released work.rows ++ some)
          (kept_is (λ n. is_among n work.opened) (last_pack work.rows)),
    )
