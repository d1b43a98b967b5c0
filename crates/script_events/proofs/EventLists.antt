-- The events of lines, one after another.
use Rattle.std.proofs.Common.{◌≡◌, List, [], ◌∷◌, ◌++◌, refl, sym, subst}
use Rattle.std.proofs.lemmas.Grind.{flat_map-append}
use Rattle.script_lines.specs.declared.command.Line.{Line}
use Rattle.script_lines.specs.declared.command.Line.TheVariants.{Nothing, Asks, Works, Bad}
use Rattle.store_runs.specs.Books.{BookState}
use Rattle.script_events.specs.Transcript.{Event, text_of, after_event, after_events, AreEventsOf, texts}

-- a last line that says nothing has no event
pub events-nothing : (book : BookState) (lines : List Line) (events : List Event)
    → AreEventsOf book (lines ++ Nothing ∷ []) events → AreEventsOf book lines events
events-nothing book [] events are = are
events-nothing book (Nothing ∷ lines) events are = events-nothing book lines events are
events-nothing book (Asks command ∷ lines) [] are = are
events-nothing book (Asks command ∷ lines) (event ∷ events) are =
    (are.0, events-nothing (after_event book event) lines events are.1)
events-nothing book (Works lane batch ∷ lines) [] are = are
events-nothing book (Works lane batch ∷ lines) (event ∷ events) are =
    (are.0, events-nothing (after_event book event) lines events are.1)
events-nothing book (Bad ∷ lines) [] are = are
events-nothing book (Bad ∷ lines) (event ∷ events) are = absurd are.0

-- the events of lines, and then of more
pub events-append : (book : BookState) (lines more : List Line) (events later : List Event)
    → AreEventsOf book lines events → AreEventsOf (after_events book events) more later
    → AreEventsOf book (lines ++ more) (events ++ later)
events-append book [] more events later are then =
    subst (λ (es : List Event). AreEventsOf book more (es ++ later)) (sym are)
    (subst (λ (es : List Event). AreEventsOf (after_events book es) more later) are then)
events-append book (Nothing ∷ lines) more events later are then =
    events-append book lines more events later are then
events-append book (Asks command ∷ lines) more [] later are then = absurd are
events-append book (Asks command ∷ lines) more (event ∷ events) later are then =
    (are.0, events-append (after_event book event) lines more events later are.1 then)
events-append book (Works lane batch ∷ lines) more [] later are then = absurd are
events-append book (Works lane batch ∷ lines) more (event ∷ events) later are then =
    (are.0, events-append (after_event book event) lines more events later are.1 then)
events-append book (Bad ∷ lines) more [] later are then = absurd are
events-append book (Bad ∷ lines) more (event ∷ events) later are then = absurd are.0

pub after_events-append : (book : BookState) (events more : List Event)
    → after_events book (events ++ more) ≡ after_events (after_events book events) more
after_events-append book [] more = refl
after_events-append book (event ∷ events) more = after_events-append
    (after_event book event) events more

pub texts-append : (events more : List Event) → texts (events ++ more) ≡ texts events ++ texts more
texts-append events more = flat_map-append text_of events more
