-- In a legal list a batch is opened once, and its first sample is drawn once, before its second.
use Rattle.std.proofs.Common.{◌≡◌, ℕ, Bool, true, false, not, List, [], ◌∷◌, ◌++◌, Option, Some, None, is_some, if◌then◌else◌, refl, sym, ◌∙◌, ap}
use Rattle.std.specs.List.{list_any, cons_option, last_or}
use Rattle.std.specs.Option.{option_or, option_and_then}
use Rattle.book_words.specs.declared.name.Name.{Name}
use Rattle.book_words.specs.declared.act.BatchState.{BatchState}
use Rattle.book_words.specs.declared.act.BatchState.TheVariants.{Running, Ended, Drawn, Closed}
use Rattle.book_words.specs.declared.act.Act.{Act}
use Rattle.book_words.specs.declared.act.Act.TheVariants.{OpenBatch, EndRun, Draw, DrawSecond, Close}
use Rattle.book_words.specs.declared.act.Entry.{Entry}
use Rattle.book_words.specs.declared.refusal.Refusal.TheVariants as why
use Rattle.book_words.specs.Names.{same_name}
use Rattle.book_words.specs.Acts.{last_said, product_given, product_of, state_set, state_of, same_state}
use Rattle.book_words.specs.Samples.{Drawing, drawing_from, drawings, drawing_of, second_word, numbers_of}
use Rattle.book_words.specs.Population.{population}
use Rattle.book_words.specs.Refusals.{refused_if}
use Rattle.book_words.specs.Answers.{IsLawful, IsLegal}
use Rattle.book_words.proofs.NameLemmas.{same_name_is}
use Rattle.book_words.proofs.LastSaid.{last_said-push}
use Rattle.book_words.proofs.PlainLemmas.{none_of}
use Rattle.book_words.proofs.AllowedActs.{IsAllowed, allowed, not_test, open_batch_tells, end_run_tells, draw_tells, draw_second_tells, close_tells}
use Rattle.book_words.proofs.LegalLemmas.{legal_steps, kept_behind}
use Rattle.book_words.proofs.DrawnLemmas.{drawings-push, drawing_of-push}

-- what is lawfully opened wasn't a batch
pub opened_is_new : (entries : List Entry) (batch product : Name) (density : ℕ)
    → IsAllowed entries (OpenBatch batch product density) → product_of entries batch ≡ None
opened_is_new entries batch product density h = (open_batch_tells entries batch product density h).new

-- a list in which a batch has a state exactly where it has a product
abbrev HasStates : List Entry → Type 0
HasStates entries = (batch : Name)
    → is_some (state_of entries batch) ≡ is_some (product_of entries batch)

known_stays : (n name : Name) (state : BatchState) (s : Option BatchState) (p : Option Name)
    → is_some s ≡ is_some p → (same_name n name ≡ true → is_some p ≡ true) → (test : Bool)
    → same_name n name ≡ test
    → is_some (option_or (if test then Some state else None) s) ≡ is_some p
known_stays n name state s p same known true h = sym (known h)
known_stays n name state s p same known false h = same

opened_too : (n product name : Name) (s : Option BatchState) (p : Option Name)
    → is_some s ≡ is_some p → (test : Bool)
    → is_some (option_or (if test then Some Running else None) s)
    ≡ is_some (option_or (if test then Some product else None) p)
opened_too n product name s p same true = refl
opened_too n product name s p same false = same

moved_name : (entries : List Entry) (n name : Name) → is_some (product_of entries n) ≡ true
    → same_name n name ≡ true → is_some (product_of entries name) ≡ true
moved_name entries n name h same =
    ap (λ (b : Name). is_some (product_of entries b)) (sym (same_name_is n name same)) ∙ h

states_step : (entries : List Entry) (act : Act) → IsAllowed entries act → HasStates entries
    → (batch : Name)
    → is_some (option_or (state_set batch act) (state_of entries batch))
    ≡ is_some (option_or (product_given batch act) (product_of entries batch))
states_step entries (OpenBatch n product density) h have name =
    opened_too n product name (state_of entries name) (product_of entries name) (have name)
    (same_name n name)
states_step entries (EndRun n) h have name =
    known_stays n name Ended (state_of entries name) (product_of entries name) (have name)
    (moved_name entries n name (end_run_tells entries n h).known) (same_name n name) refl
states_step entries (Draw n mode word) h have name =
    known_stays n name Drawn (state_of entries name) (product_of entries name) (have name)
    (moved_name entries n name (draw_tells entries n mode word h).known) (same_name n name) refl
states_step entries (Close n) h have name =
    known_stays n name Closed (state_of entries name) (product_of entries name) (have name)
    (moved_name entries n name (close_tells entries n h).known) (same_name n name) refl
states_step entries act h have name = have name

-- in a legal list a batch has a state exactly where it has a product
pub states_known : (entries : List Entry) → IsLegal entries → (batch : Name)
    → is_some (state_of entries batch) ≡ is_some (product_of entries batch)
states_known =
    legal_steps HasStates (λ batch. refl) (λ before entry legal lawful have batch.
    ap is_some (last_said-push (state_set batch) before entry)
    ∙ states_step before entry.act (allowed before entry lawful) have batch
    ∙ sym (ap is_some (last_said-push (product_given batch) before entry)))

-- a state in which nothing can have been drawn from a batch: it isn't there, it runs, or has ended
abbrev pub is_undrawn : Option BatchState → Bool
is_undrawn (Some Drawn) = false
is_undrawn (Some Closed) = false
is_undrawn _ = true

-- nothing was drawn from a batch
pub record IsUndrawn (entries : List Entry) (batch : Name) : Type 0 where
  pub first : drawings entries batch ≡ []
  pub second : last_said (second_word batch) entries ≡ None

-- an act behind which nothing can have been drawn from a batch draws nothing from it, and neither
-- can anything have been drawn before
record DrawsNothing (entries : List Entry) (batch : Name) (act : Act) : Type 0 where
  state : is_undrawn (state_of entries batch) ≡ true
  first : drawing_from batch entries act ≡ None
  second : second_word batch act ≡ None

true_is_not_false : true ≡ false → ⊥
true_is_not_false h = cc

no_drawing : (drawing : Drawing) → None ≡ Some drawing → ⊥
no_drawing drawing h = cc

by_states : (allowed : List BatchState) (o : Option BatchState)
    → option_and_then (λ state. refused_if (not (list_any (same_state state) allowed))
    (why.BatchState state)) o ≡ None
    → list_any (same_state Drawn) allowed ≡ false → list_any (same_state Closed) allowed ≡ false
    → is_undrawn o ≡ true
by_states allowed None h drawn closed = refl
by_states allowed (Some Running) h drawn closed = refl
by_states allowed (Some Ended) h drawn closed = refl
by_states allowed (Some Drawn) h drawn closed =
    let held = not_test (not (list_any (same_state Drawn) allowed)) (why.BatchState Drawn) h in
    absurd (true_is_not_false (sym (ap not drawn) ∙ held))
by_states allowed (Some Closed) h drawn closed =
    let held = not_test (not (list_any (same_state Closed) allowed)) (why.BatchState Closed) h in
    absurd (true_is_not_false (sym (ap not closed) ∙ held))

-- a batch that is there, in a state that is Drawn, isn't undrawn
never_second : (o : Option BatchState) → is_some o ≡ true
    → option_and_then (λ state. refused_if (not (list_any (same_state state) (Drawn ∷ [])))
    (why.BatchState state)) o ≡ None → is_undrawn o ≡ true → ⊥
never_second None known h undrawn = cc
never_second (Some Running) known h undrawn = cc
never_second (Some Ended) known h undrawn = cc
never_second (Some Drawn) known h undrawn = cc
never_second (Some Closed) known h undrawn = cc

undrawn_step : (entries : List Entry) (act : Act) → IsLegal entries → IsAllowed entries act
    → (batch : Name)
    → is_undrawn (option_or (state_set batch act) (state_of entries batch)) ≡ true
    → DrawsNothing entries batch act
undrawn_step entries (OpenBatch n product density) legal h name undrawn =
    record { state = either (same_name n name) refl undrawn; first = refl; second = refl }
  where
    either : (test : Bool) → same_name n name ≡ test
        → is_undrawn (option_or (if test then Some Running else None) (state_of entries name))
        ≡ true → is_undrawn (state_of entries name) ≡ true
    either true same u =
        let none : product_of entries name ≡ None =
        ap (product_of entries) (sym (same_name_is n name same))
        ∙ opened_is_new entries n product density h in
        ap is_undrawn (none_of (state_of entries name)
        (states_known entries legal name ∙ ap is_some none))
    either false same u = u
undrawn_step entries (EndRun n) legal h name undrawn =
    record { state = either (same_name n name) refl undrawn; first = refl; second = refl }
  where
    either : (test : Bool) → same_name n name ≡ test
        → is_undrawn (option_or (if test then Some Ended else None) (state_of entries name)) ≡ true
        → is_undrawn (state_of entries name) ≡ true
    either true same u =
        ap (λ (b : Name). is_undrawn (state_of entries b)) (sym (same_name_is n name same))
        ∙ by_states (Running ∷ []) (state_of entries n) (end_run_tells entries n h).state refl refl
    either false same u = u
undrawn_step entries (Draw n mode word) legal h name undrawn = either (same_name n name) refl undrawn
  where
    either : (test : Bool) → same_name n name ≡ test
        → is_undrawn (option_or (if test then Some Drawn else None) (state_of entries name)) ≡ true
        → DrawsNothing entries name (Draw n mode word)
    either true same u = absurd (true_is_not_false (sym u))
    either false same u = record { state = u; first = rw same refl; second = refl }
undrawn_step entries (DrawSecond n word) legal h name undrawn = either (same_name n name) refl
  where
    either : (test : Bool) → same_name n name ≡ test → DrawsNothing entries name (DrawSecond n word)
    either true same =
        let allowed = draw_second_tells entries n word h in
        absurd (never_second (state_of entries n)
        (states_known entries legal n ∙ allowed.known) allowed.state
        (ap (λ (b : Name). is_undrawn (state_of entries b)) (same_name_is n name same) ∙ undrawn))
    either false same = record { state = undrawn; first = refl; second = rw same refl }
undrawn_step entries (Close n) legal h name undrawn = either (same_name n name) refl undrawn
  where
    either : (test : Bool) → same_name n name ≡ test
        → is_undrawn (option_or (if test then Some Closed else None) (state_of entries name)) ≡ true
        → DrawsNothing entries name (Close n)
    either true same u = absurd (true_is_not_false (sym u))
    either false same u = record { state = u; first = refl; second = refl }
undrawn_step entries act legal h name undrawn = record { state = undrawn; first = refl; second = refl }

abbrev UndrawnByState : List Entry → Type 0
UndrawnByState entries = (batch : Name) → is_undrawn (state_of entries batch) ≡ true
    → IsUndrawn entries batch

-- in a legal list nothing was drawn from a batch that isn't there, runs, or has ended and no more
pub undrawn_by_state : (entries : List Entry) → IsLegal entries → (batch : Name)
    → is_undrawn (state_of entries batch) ≡ true → IsUndrawn entries batch
undrawn_by_state =
    legal_steps UndrawnByState (λ batch undrawn. record { first = refl; second = refl })
    (λ before entry legal lawful have batch undrawn.
    step before entry legal lawful have batch
    (sym (ap is_undrawn (last_said-push (state_set batch) before entry)) ∙ undrawn))
  where
    step : (before : List Entry) (entry : Entry) → IsLegal before → IsLawful before entry
        → UndrawnByState before → (batch : Name)
        → is_undrawn (option_or (state_set batch entry.act) (state_of before batch)) ≡ true
        → IsUndrawn (before ++ entry ∷ []) batch
    step before entry legal lawful have batch undrawn =
        let nothing = undrawn_step before entry.act legal (allowed before entry lawful) batch undrawn in
        let earlier = have batch nothing.state in
        record {
          first =
              drawings-push before entry batch
              ∙ ap (λ (some : List Drawing). some
              ++ cons_option (drawing_from batch before entry.act) []) earlier.first
              ∙ ap (λ (o : Option Drawing). cons_option o []) nothing.first;
          second =
              last_said-push (second_word batch) before entry
              ∙ ap (λ (o : Option ℕ). option_or o (last_said (second_word batch) before))
              nothing.second ∙ earlier.second;
        }

-- nothing was drawn from the batch of a lawful draw
pub undrawn_at_draw : (entries : List Entry) (entry : Entry) (batch : Name) (drawing : Drawing)
    → IsLegal entries → IsLawful entries entry
    → drawing_from batch entries entry.act ≡ Some drawing → IsUndrawn entries batch
undrawn_at_draw entries entry batch drawing legal lawful draws =
    by_act entry.act (allowed entries entry lawful) draws
  where
    by_act : (act : Act) → IsAllowed entries act → drawing_from batch entries act ≡ Some drawing
        → IsUndrawn entries batch
    by_act (Draw n mode word) h draws = either (same_name n batch) refl draws
      where
        either : (test : Bool) → same_name n batch ≡ test
            → (if test then Some
            (record { mode = mode; word = word; packs = numbers_of (population entries batch) })
            else None) ≡ Some drawing → IsUndrawn entries batch
        either true same d =
            undrawn_by_state entries legal batch
            (ap (λ (b : Name). is_undrawn (state_of entries b)) (sym (same_name_is n batch same))
            ∙ by_states (Ended ∷ []) (state_of entries n)
            (draw_tells entries n mode word h).state refl refl)
        either false same d = absurd (no_drawing drawing d)
    by_act act h draws = absurd (no_drawing drawing draws)

-- the draw of a batch, once made, stays the one behind each lawful entry
pub drawing_stays : (entries : List Entry) (entry : Entry) (batch : Name) (drawing : Drawing)
    → IsLegal entries → IsLawful entries entry
    → drawing_of entries batch ≡ Some drawing → drawing_of (entries ++ entry ∷ []) batch ≡ Some drawing
drawing_stays entries entry batch drawing legal lawful drawn =
    drawing_of-push entries entry batch ∙ either (drawing_from batch entries entry.act) refl
  where
    either : (o : Option Drawing) → drawing_from batch entries entry.act ≡ o
        → option_or o (drawing_of entries batch) ≡ Some drawing
    either None h = drawn
    either (Some other) h =
        let earlier = undrawn_at_draw entries entry batch other legal lawful h in
        absurd (no_drawing drawing (sym (ap (last_or None) earlier.first) ∙ drawn))

abbrev DrawnHaveDraws : List Entry → Type 0
DrawnHaveDraws entries = (batch : Name) → state_of entries batch ≡ Some Drawn
    → is_some (drawing_of entries batch) ≡ true

-- an act behind which a batch is drawn draws from it, or the batch was drawn before
drawn_by : (entries : List Entry) (act : Act) (batch : Name)
    → option_or (state_set batch act) (state_of entries batch) ≡ Some Drawn
    → (state_of entries batch ≡ Some Drawn → is_some (drawing_of entries batch) ≡ true)
    → is_some (option_or (drawing_from batch entries act) (drawing_of entries batch)) ≡ true
drawn_by entries (Draw n mode word) batch h before = either (same_name n batch) h
  where
    either : (test : Bool) → option_or (if test then Some Drawn else None) (state_of entries batch)
        ≡ Some Drawn
        → is_some (option_or (if test then Some
        (record { mode = mode; word = word; packs = numbers_of (population entries batch) })
        else None) (drawing_of entries batch)) ≡ true
    either true h = refl
    either false h = before h
drawn_by entries (OpenBatch n product density) batch h before = either (same_name n batch) h
  where
    either : (test : Bool) → option_or (if test then Some Running else None)
        (state_of entries batch) ≡ Some Drawn → is_some (drawing_of entries batch) ≡ true
    either true h = absurd (true_is_not_false (ap is_undrawn h))
    either false h = before h
drawn_by entries (EndRun n) batch h before = either (same_name n batch) h
  where
    either : (test : Bool) → option_or (if test then Some Ended else None) (state_of entries batch)
        ≡ Some Drawn → is_some (drawing_of entries batch) ≡ true
    either true h = absurd (true_is_not_false (ap is_undrawn h))
    either false h = before h
drawn_by entries (Close n) batch h before = either (same_name n batch) h
  where
    closed_is_not_drawn : Some Closed ≡ Some Drawn → ⊥
    closed_is_not_drawn h = cc

    either : (test : Bool) → option_or (if test then Some Closed else None) (state_of entries batch)
        ≡ Some Drawn → is_some (drawing_of entries batch) ≡ true
    either true h = absurd (closed_is_not_drawn h)
    either false h = before h
drawn_by entries act batch h before = before h

-- in a legal list a batch in the state Drawn has a draw
pub drawn_has_draw : (entries : List Entry) → IsLegal entries → (batch : Name)
    → state_of entries batch ≡ Some Drawn → is_some (drawing_of entries batch) ≡ true
drawn_has_draw =
    legal_steps DrawnHaveDraws (λ batch h. absurd (no_state h))
    (λ before entry legal lawful have batch h.
    ap is_some (drawing_of-push before entry batch)
    ∙ drawn_by before entry.act batch (sym (last_said-push (state_set batch) before entry) ∙ h)
    (have batch))
  where
    no_state : None ≡ Some Drawn → ⊥
    no_state h = cc

-- and so behind every longer legal list
pub drawing_kept : (entries more : List Entry) (batch : Name) (drawing : Drawing)
    → IsLegal (entries ++ more) → drawing_of entries batch ≡ Some drawing
    → drawing_of (entries ++ more) batch ≡ Some drawing
drawing_kept entries more batch drawing =
    kept_behind (λ all. drawing_of all batch ≡ Some drawing)
    (λ before entry legal lawful drawn. drawing_stays before entry batch drawing legal lawful drawn)
    entries more
