-- Lanes have only batches that run; and a reading that no act of its lane has followed is of the
-- batch that the lane has.
use Rattle.std.proofs.Common.{◌≡◌, ℕ, zero, suc, ◌+◌, ◌<◌, ◌≤◌, Bool, true, false, not, ◌&&◌, cond, ◌==◌, nat_le, List, [], ◌∷◌, ◌++◌, length, map, inl, inr, ◌⊎◌, Option, Some, None, is_some, refl, sym, ◌∙◌, ap, subst, arith}
use Rattle.std.proofs.lemmas.Bool.{cases_Bool, cases_lt, and_parts, eqb-true}
use Rattle.std.proofs.lemmas.Bool.Decides.{nat_tests}
use Rattle.std.proofs.lemmas.List.Elements.{All-nil, All-cons, All-append, All-map, All-weaker}
use Rattle.std.specs.List.{All, cons_option, find, list_any, range_with_len}
use Rattle.std.specs.Option.{option_or, option_and_then, option_map_or, option_flatten}
use Rattle.hall_limits.specs.declared.TheConstants.{MAX_LANE}
use Rattle.book_words.specs.declared.name.Name.{Name}
use Rattle.book_words.specs.declared.act.Prior.{Prior}
use Rattle.book_words.specs.declared.act.BatchState.{BatchState}
use Rattle.book_words.specs.declared.act.BatchState.TheVariants.{Running, Ended, Drawn, Closed}
use Rattle.book_words.specs.declared.act.Act.{Act}
use Rattle.book_words.specs.declared.act.Act.TheVariants.{StartLane, Weigh, StopLane, EndRun, Draw, Close}
use Rattle.book_words.specs.declared.act.Entry.{Entry}
use Rattle.book_words.specs.declared.act.Reading.{Reading}
use Rattle.book_words.specs.declared.refusal.Refusal.TheVariants as why
use Rattle.book_words.specs.Names.{same_name}
use Rattle.book_words.specs.Acts.{last_said, state_set, lane_used, prior_told, product_of, state_of, same_state, last_batch, lane_batch}
use Rattle.book_words.specs.Readings.{readings, weighed_reading}
use Rattle.book_words.specs.Refusals as rules
use Rattle.book_words.specs.Refusals.{refused_if}
use Rattle.book_words.specs.Answers.{IsLawful, IsLegal}
use Rattle.book_words.proofs.LastSaid.{last_said-push}
use Rattle.book_words.proofs.NameLemmas.{same_name_is}
use Rattle.book_words.proofs.OneMoreEntry.{advance, own_reading, readings-push}
use Rattle.std.proofs.lemmas.Option.{same_Some}
use Rattle.book_laws.proofs.KnownLaws.{silent, moves_state, state_of_stays, state_apart}
use Rattle.book_words.proofs.SaidTogether.{state_known, started_for_it}
use Rattle.book_words.proofs.AllowedActs.{IsAllowed, allowed, end_run_tells, draw_tells, close_tells, start_lane_tells, weigh_tells}
use Rattle.book_words.proofs.LegalLemmas.{legal_steps, legal-push}
use Rattle.book_words.proofs.DrawnOnce.{states_known}

-- a lane is one of the hall's, and its batch runs
pub record RunsOn (entries : List Entry) (lane : ℕ) (batch : Name) : Type 0 where
  pub fits : (nat_le 1 lane && nat_le lane MAX_LANE) ≡ true
  pub state : state_of entries batch ≡ Some Running

-- a reading that no act of its lane has followed is of the batch that the lane has
abbrev pub IsOfLane : List Entry → Reading → Type 0
IsOfLane entries reading = (batch : Name) → reading.batch ≡ Some batch → reading.next_prior ≡ None
    → lane_batch entries reading.lane ≡ Some batch

-- a batch with a state has a product, and lanes and readings are as said
pub record AreLanesRight (entries : List Entry) : Type 0 where
  pub opened : (batch : Name) → is_some (state_of entries batch) ≡ true
      → is_some (product_of entries batch) ≡ true
  pub lanes : (lane : ℕ) (batch : Name) → lane_batch entries lane ≡ Some batch
      → RunsOn entries lane batch
  pub waiting : All (IsOfLane entries) (readings entries)

-- ---- a batch that a lane has goes on running

find_step : (test : ℕ → Bool) (from k : ℕ) (found : Option ℕ)
    → (found ≡ None → from < k → test k ≡ false) → from ≤ k
    → cond (test from) (Some from) found ≡ None → test k ≡ false
find_step test from k found rest low h = step (test from) refl h
  where
    step : (b : Bool) → test from ≡ b → cond b (Some from) found ≡ None → test k ≡ false
    step true is none = absurd (cc)
    step false is none =
        elim (cases_lt from k) [
          | inl less ↦ rest none less
          | inr other ↦ (let same : from ≡ k = omega (arith, low, other) in sym (ap test same) ∙ is)
        ]

find_none : (test : ℕ → Bool) (from many k : ℕ) → find test (range_with_len from many) ≡ None
    → from ≤ k → k < from + many → test k ≡ false
find_none test from zero k h low high = absurd (omega arith)
find_none test from (suc many) k h low high =
    find_step test from k (find test (range_with_len (from + 1) many))
    (λ none less. find_none test (from + 1) many k none (omega (arith, less))
    (omega (arith, high))) low h

-- a batch that a lane has isn't moved to another state
pub running_kept : (entries : List Entry) (act : Act) (lane : ℕ) (batch : Name)
    → AreLanesRight entries → IsAllowed entries act → lane_batch entries lane ≡ Some batch
    → moves_state batch act ≡ false
running_kept entries (EndRun name) lane batch right h on = each (cases_Bool (same_name name batch))
  where
    has : (name_too : Name) → rules.lane_running entries name_too ≡ None
        → same_name batch name_too ≡ false
    has name_too free =
        let fits = and_parts (nat_le 1 lane) (nat_le lane MAX_LANE) (right.lanes lane batch on).fits in
        let low : 1 ≤ lane = let t = fits.0 in grind (arith, nat_tests) in
        let high : lane < 1 + MAX_LANE = let t = fits.1 in grind (arith, nat_tests) in
        sym (ap (λ (o : Option Name). option_map_or (λ (n : Name). same_name n name_too) o false) on)
        ∙ find_none (λ (l : ℕ). option_map_or (λ (n : Name). same_name n name_too)
        (lane_batch entries l) false) 1 MAX_LANE lane free low high

    each : (same_name name batch ≡ true) ⊎ (same_name name batch ≡ false) → same_name name batch ≡ false
    each (inl t) =
        let free = (end_run_tells entries name h).idle in
        let other = has name free in
        ap (λ (n : Name). same_name n batch) (same_name_is name batch t)
        ∙ sym (ap (same_name batch) (same_name_is name batch t)) ∙ other
    each (inr f) = f
running_kept entries (Draw name mode word) lane batch right h on =
    state_apart entries (Ended ∷ []) name batch Running (draw_tells entries name mode word h).state
    (right.lanes lane batch on).state refl
running_kept entries (Close name) lane batch right h on =
    state_apart entries (Ended ∷ Drawn ∷ []) name batch Running (close_tells entries name h).state
    (right.lanes lane batch on).state refl
running_kept entries act lane batch right h on = refl

runs_on : (entries : List Entry) (entry : Entry) (lane : ℕ) (batch : Name) → AreLanesRight entries
    → IsAllowed entries entry.act → lane_batch entries lane ≡ Some batch
    → RunsOn (entries ++ entry ∷ []) lane batch
runs_on entries entry lane batch right h on =
    let runs = right.lanes lane batch on in
    record {
      fits = runs.fits;
      state = state_of_stays entries entry batch h (right.opened batch (ap is_some runs.state))
          (running_kept entries entry.act lane batch right h on) ∙ runs.state;
    }

only_running : (o : Option BatchState) → is_some o ≡ true
    → option_and_then (λ (s : BatchState). refused_if (not (list_any (same_state s) (Running ∷ [])))
    (why.BatchState s)) o ≡ None → o ≡ Some Running
only_running None there h = absurd (cc)
only_running (Some Running) there h = refl
only_running (Some Ended) there h = absurd (cc)
only_running (Some Drawn) there h = absurd (cc)
only_running (Some Closed) there h = absurd (cc)

-- a lane that starts runs for its batch
start_runs : (entries : List Entry) (entry : Entry) (lane : ℕ) (batch : Name)
    → entry.act ≡ StartLane lane batch → IsAllowed entries entry.act
    → RunsOn (entries ++ entry ∷ []) lane batch
start_runs entries entry lane batch is h =
    let tells = start_lane_tells entries lane batch (subst (IsAllowed entries) is h) in
    let known = state_known entries batch tells.known in
    record {
      fits = tells.number;
      state = silent (state_set batch) entries entry (ap (state_set batch) is)
          ∙ only_running (state_of entries batch) known tells.state;
    }

lanes_on : (entries : List Entry) (entry : Entry) (act : Act) (lane : ℕ) (batch : Name)
    → AreLanesRight entries → entry.act ≡ act → IsAllowed entries entry.act
    → option_flatten (option_or (lane_used lane act) (last_said (lane_used lane) entries))
    ≡ Some batch → RunsOn (entries ++ entry ∷ []) lane batch
lanes_on entries entry (StartLane number started) lane batch right is h on =
    either (cases_Bool (number == lane))
  where
    either : ((number == lane) ≡ true) ⊎ ((number == lane) ≡ false)
        → RunsOn (entries ++ entry ∷ []) lane batch
    either (inl t) =
        let same : started ≡ batch = same_Some started batch
        (sym (ap (λ b. option_flatten (option_or (cond b (Some (Some started)) None)
        (last_said (lane_used lane) entries))) t) ∙ on) in
        subst (λ (l : ℕ). RunsOn (entries ++ entry ∷ []) l batch) (eqb-true number lane t)
        (subst (λ (b : Name). RunsOn (entries ++ entry ∷ []) number b) same
        (start_runs entries entry number started is h))
    either (inr f) = runs_on entries entry lane batch right h
        (sym (ap (λ b. option_flatten (option_or (cond b (Some (Some started)) None)
        (last_said (lane_used lane) entries))) f) ∙ on)
lanes_on entries entry (StopLane number prior) lane batch right is h on =
    either (cases_Bool (number == lane))
  where
    either : ((number == lane) ≡ true) ⊎ ((number == lane) ≡ false)
        → RunsOn (entries ++ entry ∷ []) lane batch
    either (inl t) = absurd (let wrong : None ≡ Some batch =
        sym (ap (λ b. option_flatten (option_or (cond b (Some None) None)
        (last_said (lane_used lane) entries))) t) ∙ on in cc)
    either (inr f) = runs_on entries entry lane batch right h
        (sym (ap (λ b. option_flatten (option_or (cond b (Some None) None)
        (last_said (lane_used lane) entries))) f) ∙ on)
lanes_on entries entry act lane batch right is h on = runs_on entries entry lane batch right h on

-- ---- readings that no act of their lane has followed

both_none : {A : Type 0} (a b : Option A) → option_or a b ≡ None → (a ≡ None) × (b ≡ None)
both_none None b h = (refl, h)
both_none (Some x) b h = absurd (cc)

-- an allowed act that says nothing of the gate of a lane with a batch leaves it its batch
pub lane_stays : (entries : List Entry) (act : Act) (lane : ℕ) (batch : Name)
    → IsAllowed entries act → lane_batch entries lane ≡ Some batch → prior_told lane act ≡ None
    → lane_used lane act ≡ None
lane_stays entries (StartLane number started) lane batch h on told = each (cases_Bool (number == lane))
  where
    each : ((number == lane) ≡ true) ⊎ ((number == lane) ≡ false)
        → cond (number == lane) (Some (Some started)) None ≡ None
    each (inl t) =
        let free = (start_lane_tells entries number started h).idle in
        absurd (let wrong : Some batch ≡ None = sym on
        ∙ sym (ap (lane_batch entries) (eqb-true number lane t)) ∙ free in cc)
    each (inr f) = ap (λ b. cond b (Some (Some started)) None) f
lane_stays entries (StopLane number prior) lane batch h on told = each (number == lane) told
  where
    each : (b : Bool) → cond b (Some prior) None ≡ None
        → cond {A = Option (Option Name)} b (Some None) None ≡ None
    each true k = absurd (cc)
    each false k = refl
lane_stays entries act lane batch h on told = refl

waits_on : (entries : List Entry) (entry : Entry) → IsAllowed entries entry.act
    → (reading : Reading) → IsOfLane entries reading
    → IsOfLane (entries ++ entry ∷ []) (advance entry.act reading)
waits_on entries entry h reading before batch of_batch none =
    let parts = both_none reading.next_prior (prior_told reading.lane entry.act) none in
    let on = before batch of_batch parts.0 in
    ap (λ (o : Option (Option Name)). option_flatten o)
    (silent (lane_used reading.lane) entries entry
    (lane_stays entries entry.act reading.lane batch h on parts.1)) ∙ on

own_waits : (entries : List Entry) (entry : Entry) (act : Act) → entry.act ≡ act
    → IsAllowed entries entry.act
    → All (IsOfLane (entries ++ entry ∷ []))
    (cons_option (weighed_reading (length entries + 1) entries act entry.signal []) [])
own_waits entries entry (Weigh lane gross prior) is h =
    All-cons (IsOfLane (entries ++ entry ∷ [])) _ [] (λ batch last none. own batch last)
    (All-nil (IsOfLane (entries ++ entry ∷ [])))
  where
    started : (o : Option Name) → lane_batch entries lane ≡ o → is_some o ≡ true → (batch : Name)
        → last_batch entries lane ≡ Some batch → lane_batch entries lane ≡ Some batch
    started None on there batch last = absurd (cc)
    started (Some other) on there batch last = on ∙ sym (started_for_it entries lane other on) ∙ last

    own : (batch : Name) → last_batch entries lane ≡ Some batch
        → lane_batch (entries ++ entry ∷ []) lane ≡ Some batch
    own batch last =
        let tells = weigh_tells entries lane gross prior (subst (IsAllowed entries) is h) in
        ap (λ (o : Option (Option Name)). option_flatten o)
        (silent (lane_used lane) entries entry (ap (lane_used lane) is))
        ∙ started (lane_batch entries lane) refl tells.runs batch last
own_waits entries entry act is h = All-nil (IsOfLane (entries ++ entry ∷ []))

lanes_right-push : (entries : List Entry) (entry : Entry) → IsLegal entries → IsLawful entries entry
    → AreLanesRight entries → AreLanesRight (entries ++ entry ∷ [])
lanes_right-push entries entry legal lawful right =
    let h = allowed entries entry lawful in
    let Waits : Reading → Type 0 = IsOfLane (entries ++ entry ∷ []) in
    record {
      opened = λ batch there. sym (states_known (entries ++ entry ∷ [])
          (legal-push entries entry legal lawful) batch) ∙ there;
      lanes = λ lane batch on. lanes_on entries entry entry.act lane batch right refl h
          (sym (ap (λ (o : Option (Option Name)). option_flatten o)
          (last_said-push (lane_used lane) entries entry)) ∙ on);
      waiting = subst (All Waits) (sym (readings-push entries entry))
          (All-append Waits (map (advance entry.act) (readings entries))
          (cons_option (own_reading entries entry) [])
          (All-map Waits (advance entry.act) (readings entries)
          (All-weaker (IsOfLane entries) (λ reading. Waits (advance entry.act reading))
          (waits_on entries entry h) (readings entries) right.waiting))
          (own_waits entries entry entry.act refl h));
    }

-- the lanes of a legal list are right
pub lanes_right : (entries : List Entry) → IsLegal entries → AreLanesRight entries
lanes_right =
    legal_steps AreLanesRight nothing lanes_right-push
  where
    nothing : AreLanesRight []
    nothing = record {
      opened = λ batch there. absurd (cc);
      lanes = λ lane batch on. absurd (cc);
      waiting = All-nil (IsOfLane []);
    }

-- an act of its lane has followed each reading of a batch that doesn't run
pub followed : (entries : List Entry) (batch : Name) (state : BatchState) → AreLanesRight entries
    → state_of entries batch ≡ Some state → same_state state Running ≡ false
    → (reading : Reading) → IsOfLane entries reading → reading.batch ≡ Some batch
    → is_some reading.next_prior ≡ true
followed entries batch state right is other reading of_lane of_batch = each reading.next_prior refl
  where
    each : (o : Option Prior) → reading.next_prior ≡ o → is_some o ≡ true
    each (Some prior) next = refl
    each None next =
        let runs = (right.lanes reading.lane batch (of_lane batch of_batch next)).state in
        let same : state ≡ Running = same_Some state Running (sym is ∙ runs) in
        absurd (let wrong : true ≡ false = sym (ap (λ (s : BatchState). same_state s Running) same)
        ∙ other in cc)
