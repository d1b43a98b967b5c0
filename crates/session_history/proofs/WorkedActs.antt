-- What the rows of a worker say where it had an answer to all that it was to ask: each gross that its
-- cell gave was weighed.
use Rattle.std.proofs.Common.{◌≡◌, ⊎_elim, ◌⊎◌, ℕ, ℤ, true, false, true≢false, List, [], ◌∷◌, length, map, drop, get_or, Option, Some, None, refl, sym, ◌∙◌, ap, arith, append-nil, append_assoc}
use Rattle.std.specs.List.{cons_option, filter_map}
use Rattle.device_facts.specs.Prefix.{IsPrefixOf}
use Rattle.book_words.specs.declared.act.Act.TheVariants.{StartLane, StopLane, Weigh}
use Rattle.book_words.specs.declared.act.Ask.{Ask}
use Rattle.book_words.specs.declared.act.Prior.{Prior}
use Rattle.book_words.specs.declared.act.Want.{Want}
use Rattle.book_words.specs.declared.act.Want.TheVariants as want
use Rattle.book_words.specs.declared.caller.AskError.{AskError}
use Rattle.book_words.specs.declared.caller.AskError.TheVariants as error
use Rattle.book_words.specs.declared.name.Name.{Name}
use Rattle.book_words.specs.Answers.{ask_of}
use Rattle.book_words.specs.Desks.{Row}
use Rattle.book_words.specs.Views.{lane_view}
use Rattle.lane_worker.specs.declared.ending.LaneStop.{LaneStop}
use Rattle.lane_worker.specs.Asks.{act_ask, prior_behind, starting_asks, stop_found, stopping_asks, weighing_asks}
use Rattle.lane_worker.specs.Endings.{ask_stop}
use Rattle.lane_worker.specs.Works.{Work, Finishes, BreaksOff, asks_of_work}
use Rattle.session_history.specs.Rows.{gross_told, grosses_told, is_whole}

-- ---- grosses

abbrev pub row_ask : Row → Ask
row_ask row = ask_of row.entry

-- the gross that is wanted, where a weighing is
abbrev gross_wanted : Want → Option ℤ
gross_wanted (want.Act act) = gross_told act
gross_wanted _ = None

abbrev grosses_asked : List Ask → List ℤ
grosses_asked asks = filter_map (λ (ask : Ask). gross_wanted ask.want) asks

grosses_of_rows : (rows : List Row) → grosses_told rows ≡ grosses_asked (map row_ask rows)
grosses_of_rows [] = refl
grosses_of_rows (row ∷ rows) =
    ap (cons_option (gross_told row.entry.act)) (grosses_of_rows rows)

module _ (lane : ℕ) (opened : List ℕ) where
  weighings : (grosses : List ℤ) (last : Row) (rows : List Row)
      → weighing_asks lane opened grosses last rows ≡ map row_ask rows
      → grosses_asked (map row_ask rows) ≡ grosses
  weighings [] last rows same = sym (ap grosses_asked same)
  weighings (gross ∷ grosses) last [] same = absurd (omega (arith, ap length same))
  weighings (gross ∷ grosses) last (row ∷ rows) same =
      let first : row_ask row ≡ act_ask (Weigh lane gross (prior_behind opened last)) =
      sym (ap (λ (asks : List Ask). get_or asks 0 (row_ask row)) same) in
      ap (λ (ask : Ask). cons_option (gross_wanted ask.want) (grosses_asked (map row_ask rows))) first
      ∙ ap (λ (more : List ℤ). gross ∷ more)
      (weighings grosses row rows (ap (λ (asks : List Ask). drop 1 asks) same))

  module _ (batch : Name) (grosses : List ℤ) where
    starting : (rows : List Row)
        → starting_asks lane batch opened grosses rows ≡ map row_ask rows
        → grosses_asked (map row_ask rows) ≡ grosses
    starting [] same = absurd (omega (arith, ap length same))
    starting (row ∷ rows) same =
        let first : row_ask row ≡ act_ask (StartLane lane batch) =
        sym (ap (λ (asks : List Ask). get_or asks 0 (row_ask row)) same) in
        ap (λ (ask : Ask). cons_option (gross_wanted ask.want) (grosses_asked (map row_ask rows)))
        first
        ∙ weighings grosses row rows (ap (λ (asks : List Ask). drop 1 asks) same)

    stopping : (found : Option Prior) (rows : List Row)
        → stopping_asks lane batch found opened grosses rows ≡ map row_ask rows
        → grosses_asked (map row_ask rows) ≡ grosses
    stopping None rows same = starting rows same
    stopping (Some prior) [] same = absurd (omega (arith, ap length same))
    stopping (Some prior) (row ∷ rows) same =
        let first : row_ask row ≡ act_ask (StopLane lane prior) =
        sym (ap (λ (asks : List Ask). get_or asks 0 (row_ask row)) same) in
        ap (λ (ask : Ask). cons_option (gross_wanted ask.want) (grosses_asked (map row_ask rows)))
        first
        ∙ starting rows (ap (λ (asks : List Ask). drop 1 asks) same)

-- where all was answered, each gross was weighed
pub all_weighed : (lane : ℕ) (batch : Name) (work : Work)
    → drop 1 work.answered ≡ map row_ask work.rows → asks_of_work lane batch work ≡ work.answered
    → grosses_told work.rows ≡ work.grosses
all_weighed lane batch work accepted whole =
    grosses_of_rows work.rows
    ∙ stopping lane work.opened batch work.grosses (stop_found (lane_view work.asked lane)) work.rows
    (ap (λ (asks : List Ask). drop 1 asks) whole ∙ accepted)

-- ---- how much was answered

broken_off : (why : AskError) → is_whole (ask_stop why) ≡ false
broken_off (error.Refused refused) = refl
broken_off error.DiskFault = refl
broken_off error.NoMemory = refl

module _ (Reached : List Ask → Type 0) (Broke : List Ask → Ask → AskError → Type 0)
    (asks : List Ask) (work : Work) (stop : LaneStop)
    (ends : Finishes Reached asks work stop ⊎ BreaksOff Broke asks work stop) where
  -- what was answered are the first of all asks
  pub answered_first : IsPrefixOf work.answered asks
  answered_first = ⊎_elim
      (λ f. ([], f.whole ∙ sym (append-nil work.answered)))
      (λ b. (
        b.next ∷ b.first.0,
        b.first.1 ∙ append_assoc work.answered (b.next ∷ []) b.first.0,
      )) ends

  -- and all of them, unless the end tells otherwise
  pub answered_all : is_whole stop ≡ true → asks ≡ work.answered
  answered_all whole = ⊎_elim (λ f. f.whole)
      (λ b. absurd (true≢false (sym whole ∙ (ap is_whole b.told ∙ broken_off b.why)))) ends
