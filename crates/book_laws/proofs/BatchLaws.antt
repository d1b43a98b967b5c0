-- The states, the lanes and the draws of the batches of a legal list.
use Rattle.std.proofs.Common.{◌≡◌, ℕ, ◌≤◌, Bool, true, false, not, ◌&&◌, nat_le, ◌⊎◌, inl, inr, List, [], ◌∷◌, ◌++◌, length, Option, Some, None, is_some, option_map, refl, sym, ◌∙◌, ap, subst, arith, append-nil}
use Rattle.std.proofs.lemmas.Bool.{cases_Bool}
use Rattle.std.specs.List.{list_any, cons_option, last_or}
use Rattle.std.specs.Option.{option_or, option_and_then, option_flatten}
use Rattle.hall_limits.specs.declared.TheConstants.{MAX_LANE}
use Rattle.annex_tables.specs.declared.types.Mode.{Mode}
use Rattle.book_words.specs.declared.name.Name.{Name}
use Rattle.book_words.specs.declared.act.BatchState as states
use Rattle.book_words.specs.declared.act.BatchState.TheVariants.{Running, Ended, Drawn, Closed}
use Rattle.book_words.specs.declared.act.Act.TheVariants.{Draw, DrawSecond, Close}
use Rattle.book_words.specs.declared.act.Entry.{Entry}
use Rattle.book_words.specs.declared.refusal.Refusal.TheVariants as why
use Rattle.book_words.specs.Acts.{last_said, state_set, lane_used, product_of, state_of, same_state, last_batch, lane_batch}
use Rattle.book_words.specs.Samples.{Drawing, drawing_from, drawings, drawing_of, second_word, sample_by, sample_of}
use Rattle.book_words.specs.Refusals.{refused_if}
use Rattle.book_words.specs.Answers.{IsLawful, IsLegal}
use Rattle.book_words.proofs.LastSaid.{last_said-push}
use Rattle.book_words.proofs.DrawnLemmas.{drawings-push}
use Rattle.book_words.proofs.AllowedActs.{IsAllowed, allowed, draw_tells, draw_second_tells, close_tells}
use Rattle.book_words.proofs.LegalLemmas.{legal_steps}
use Rattle.book_words.proofs.DrawnOnce.{states_known, undrawn_by_state, is_undrawn, undrawn_at_draw}
use Rattle.book_laws.proofs.LaneLaws.{AreLanesRight, lanes_right}
use Rattle.book_words.proofs.SaidTogether.{started_for_it}

-- ---- states

-- a batch that is drawn or closed: its packs don't change any more
abbrev pub is_fixed : Option states.BatchState → Bool
is_fixed (Some Drawn) = true
is_fixed (Some Closed) = true
is_fixed _ = false

abbrev RefusedState : List states.BatchState → Option states.BatchState → Type 0
RefusedState allowed o = option_and_then
    (λ (s : states.BatchState). refused_if (not (list_any (same_state s) allowed))
    (why.BatchState s)) o ≡ None

only_ended : (o : Option states.BatchState) → is_some o ≡ true → RefusedState (Ended ∷ []) o
    → o ≡ Some Ended
only_ended None there h = absurd (cc)
only_ended (Some Ended) there h = refl
only_ended (Some Running) there h = absurd (cc)
only_ended (Some Drawn) there h = absurd (cc)
only_ended (Some Closed) there h = absurd (cc)

-- the state of a batch that is there, where an act allows one state alone
pub only_drawn : (o : Option states.BatchState) → is_some o ≡ true → RefusedState (Drawn ∷ []) o
    → o ≡ Some Drawn
only_drawn None there h = absurd (cc)
only_drawn (Some Drawn) there h = refl
only_drawn (Some Running) there h = absurd (cc)
only_drawn (Some Ended) there h = absurd (cc)
only_drawn (Some Closed) there h = absurd (cc)

ended_or_drawn : (o : Option states.BatchState) → is_some o ≡ true
    → RefusedState (Ended ∷ Drawn ∷ []) o → (o ≡ Some Ended) ⊎ (o ≡ Some Drawn)
ended_or_drawn None there h = absurd (cc)
ended_or_drawn (Some Ended) there h = inl refl
ended_or_drawn (Some Drawn) there h = inr refl
ended_or_drawn (Some Running) there h = absurd (cc)
ended_or_drawn (Some Closed) there h = absurd (cc)

-- what holds of the batches and lanes of a legal list
pub record IsOrderly (entries : List Entry) : Type 0 where
  -- a batch has a product and a state, or neither
  pub known : (batch : Name) → is_some (product_of entries batch) ≡ is_some (state_of entries batch)
  -- the batch of a lane is running
  pub lanes : (lane : ℕ) (batch : Name) → lane_batch entries lane ≡ Some batch
      → state_of entries batch ≡ Some Running
  -- a lane that has a batch is one
  pub numbers : (lane : ℕ) (batch : Name) → lane_batch entries lane ≡ Some batch
      → (nat_le 1 lane && nat_le lane MAX_LANE) ≡ true
  -- it was started for that batch last
  pub started : (lane : ℕ) (batch : Name) → lane_batch entries lane ≡ Some batch
      → last_batch entries lane ≡ Some batch
  -- a batch that isn't drawn or closed has no draw
  pub undrawn : (batch : Name) → is_fixed (state_of entries batch) ≡ false → drawings entries batch ≡ []
  -- and no second one
  pub single : (batch : Name) → is_fixed (state_of entries batch) ≡ false
      → last_said (second_word batch) entries ≡ None
  -- a batch is drawn once at most
  pub once : (batch : Name) → length (drawings entries batch) ≤ 1

-- ---- what an allowed act tells of the state

state_there : (entries : List Entry) (batch : Name)
    → is_some (product_of entries batch) ≡ is_some (state_of entries batch)
    → is_some (product_of entries batch) ≡ true → is_some (state_of entries batch) ≡ true
state_there entries batch known there = sym known ∙ there

-- a sample is drawn of an ended batch
pub draw_state : (entries : List Entry) (batch : Name) (mode : Mode) (word : ℕ) → IsOrderly entries
    → IsAllowed entries (Draw batch mode word) → state_of entries batch ≡ Some Ended
draw_state entries batch mode word good h =
    let tells = draw_tells entries batch mode word h in
    only_ended (state_of entries batch)
    (state_there entries batch (good.known batch) tells.known) tells.state

-- a second sample is drawn of a drawn batch
pub draw_second_state : (entries : List Entry) (batch : Name) (word : ℕ) → IsOrderly entries
    → IsAllowed entries (DrawSecond batch word) → state_of entries batch ≡ Some Drawn
draw_second_state entries batch word good h =
    let tells = draw_second_tells entries batch word h in
    only_drawn (state_of entries batch)
    (state_there entries batch (good.known batch) tells.known) tells.state

-- an ended or a drawn batch is closed
pub close_state : (entries : List Entry) (batch : Name) → IsOrderly entries
    → IsAllowed entries (Close batch) → (state_of entries batch ≡ Some Ended)
    ⊎ (state_of entries batch ≡ Some Drawn)
close_state entries batch good h =
    let tells = close_tells entries batch h in
    ended_or_drawn (state_of entries batch)
    (state_there entries batch (good.known batch) tells.known) tells.state

-- ---- with one entry more

-- the state of a batch
pub state_of-push : (entries : List Entry) (entry : Entry) (batch : Name)
    → state_of (entries ++ entry ∷ []) batch
    ≡ option_or (state_set batch entry.act) (state_of entries batch)
state_of-push entries entry batch = last_said-push (state_set batch) entries entry

-- the batch of a lane, with one entry more
pub lane_batch-push : (entries : List Entry) (entry : Entry) (lane : ℕ)
    → lane_batch (entries ++ entry ∷ []) lane
    ≡ option_flatten (option_or (lane_used lane entry.act) (last_said (lane_used lane) entries))
lane_batch-push entries entry lane =
    ap (λ (o : Option (Option Name)). option_flatten o)
    (last_said-push (lane_used lane) entries entry)

-- ---- each legal list is orderly

abbrev DrawsOnce : List Entry → Type 0
DrawsOnce entries = (batch : Name) → length (drawings entries batch) ≤ 1

draws_once-push : (entries : List Entry) (entry : Entry) → IsLegal entries → IsLawful entries entry
    → DrawsOnce entries → DrawsOnce (entries ++ entry ∷ [])
draws_once-push entries entry legal lawful once batch =
    subst (λ (some : List Drawing). length some ≤ 1) (sym (drawings-push entries entry batch))
    (each (drawing_from batch entries entry.act) refl)
  where
    each : (o : Option Drawing) → drawing_from batch entries entry.act ≡ o
        → length (drawings entries batch ++ cons_option o []) ≤ 1
    each None is = subst (λ (some : List Drawing). length some ≤ 1)
        (sym (append-nil (drawings entries batch))) (once batch)
    each (Some drawing) is =
        subst (λ (some : List Drawing). length (some ++ drawing ∷ []) ≤ 1)
        (sym (undrawn_at_draw entries entry batch drawing legal lawful is).first) (omega arith)

not_fixed : (o : Option states.BatchState) → is_fixed o ≡ false → is_undrawn o ≡ true
not_fixed None h = refl
not_fixed (Some Running) h = refl
not_fixed (Some Ended) h = refl
not_fixed (Some Drawn) h = absurd (cc)
not_fixed (Some Closed) h = absurd (cc)

-- each legal list is orderly
pub orderly : (entries : List Entry) → IsLegal entries → IsOrderly entries
orderly entries legal =
    record {
      known = λ batch. sym (states_known entries legal batch);
      lanes = λ lane batch on. (right.lanes lane batch on).state;
      numbers = λ lane batch on. (right.lanes lane batch on).fits;
      started = λ lane batch on. started_for_it entries lane batch on;
      undrawn = λ batch free. (undrawn_by_state entries legal batch
          (not_fixed (state_of entries batch) free)).first;
      single = λ batch free. (undrawn_by_state entries legal batch
          (not_fixed (state_of entries batch) free)).second;
      once = legal_steps DrawsOnce (λ batch. omega arith) draws_once-push entries legal;
    }
  where
    right : AreLanesRight entries
    right = lanes_right entries legal

-- ---- what other crates cite

-- the batch of a lane is running
pub lane_runs : (entries : List Entry) (lane : ℕ) (batch : Name) → IsLegal entries
    → lane_batch entries lane ≡ Some batch → state_of entries batch ≡ Some Running
lane_runs entries lane batch legal on = (orderly entries legal).lanes lane batch on

-- a batch that is neither drawn nor closed has no draw
pub no_drawing : (entries : List Entry) (batch : Name) → IsOrderly entries
    → is_fixed (state_of entries batch) ≡ false → drawing_of entries batch ≡ None
no_drawing entries batch good free = ap (last_or None) (good.undrawn batch free)

-- and no sample
pub no_sample : (entries : List Entry) (batch : Name) → IsOrderly entries
    → is_fixed (state_of entries batch) ≡ false → sample_of entries batch ≡ None
no_sample entries batch good free =
    ap (option_map (λ (drawing : Drawing). sample_by drawing
    (last_said (second_word batch) entries))) (no_drawing entries batch good free)

-- a batch that has a draw is drawn or closed
pub drawn_is_fixed : (entries : List Entry) (batch : Name) (drawing : Drawing) → IsOrderly entries
    → drawing_of entries batch ≡ Some drawing → is_fixed (state_of entries batch) ≡ true
drawn_is_fixed entries batch drawing good is =
    elim (cases_Bool (is_fixed (state_of entries batch))) [
      | inl t ↦ t
      | inr f ↦ absurd (let wrong : None ≡ Some drawing = sym (no_drawing entries batch good f)
          ∙ is in cc)
    ]

-- a batch is drawn once at most
pub drawn_once : (entries : List Entry) (batch : Name) → IsLegal entries
    → length (drawings entries batch) ≤ 1
drawn_once entries batch legal = (orderly entries legal).once batch

-- a batch that is running or ended has no draw, and so no sample
pub undrawn_yet : (entries : List Entry) (batch : Name) → IsLegal entries
    → (state_of entries batch ≡ Some Running) ⊎ (state_of entries batch ≡ Some Ended)
    → (drawing_of entries batch ≡ None) × (sample_of entries batch ≡ None)
undrawn_yet entries batch legal is = (
  no_drawing entries batch (orderly entries legal) free,
  no_sample entries batch (orderly entries legal) free,
)
  where
    free : is_fixed (state_of entries batch) ≡ false
    free =
        elim is [
          | inl running ↦ ap is_fixed running
          | inr ended ↦ ap is_fixed ended
        ]
