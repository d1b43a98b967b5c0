-- What a write to a door leaves, by the laws of a door.
use Rattle.std.proofs.Common.{◌≡◌, ℕ, ◌<◌, List, length, take, Option, option_map, Result, Ok, Err, OnOk, IfErr, refl, sym, ◌∙◌, ap, subst}
use Rattle.std.specs.Bool.{⊤}
use Rattle.std.specs.Io.KnownBytes.{Appends}
use Rattle.device_facts.specs.Count.{CountsFault}
use Rattle.disk_core.specs.declared.door.Door as door
use Rattle.disk_core.specs.declared.source.Source as source
use Rattle.disk_core.specs.declared.sink.Sink as sink
use Rattle.disk_core.specs.declared.types.Partly.{Partly}
use Rattle.disk_core.specs.Doors.{left_now, with_written}
use Rattle.office_door.specs.Doors.{port}
use Rattle.office_door.specs.Steps.{IsSent, Sends}
use Rattle.office_door.proofs.HeardBytes.{same_left}

-- these bytes went out
went_out : {O E : Type 0} (reads : source.Ghosts O) (writes : sink.Ghosts O)
    (comes : door.Ghosts O)
    → ((o : O) → reads.left o ≡ option_map left_now (comes.connections o))
    → ((o : O) → writes.faults o ≡ reads.faults o)
    → ((old new : O) (bytes : List ℕ) → writes.keeps_rest old new
    → Appends (writes.held old) (writes.held new) bytes
    → comes.connections new ≡ option_map (with_written bytes) (comes.connections old))
    → ((old new : O) → writes.keeps_rest old new → reads.ended new ≡ reads.ended old)
    → (old new : O) (text bytes : List ℕ) (result : Result ⊤ E)
    → Appends (writes.held old) (writes.held new) bytes → IsSent text bytes result
    → writes.keeps_rest old new → CountsFault (writes.faults old) (writes.faults new) result
    → Sends (port reads comes old) (port reads comes new) text result
went_out reads writes comes left_is one_count adds leaves_end old new text bytes result
    appended sent rest cause =
    let after = adds old new bytes rest appended in
    let before : CountsFault (reads.faults old) (writes.faults new) result =
    subst (λ (n : ℕ). CountsFault n (writes.faults new) result) (one_count old) cause in
    record {
      bytes = bytes;
      sent = sent;
      connections = after;
      left = left_is new ∙ ap (option_map left_now) after
          ∙ same_left (comes.connections old) bytes ∙ sym (left_is old);
      ended = leaves_end old new rest;
      cause = subst (λ (n : ℕ). CountsFault (reads.faults old) n result) (one_count new) before;
    }

pub sends : {O : Type 0} (reads : source.Ghosts O) (writes : sink.Ghosts O)
    (comes : door.Ghosts O)
    → ((o : O) → reads.left o ≡ option_map left_now (comes.connections o))
    → ((o : O) → writes.faults o ≡ reads.faults o)
    → ((old new : O) (bytes : List ℕ) → writes.keeps_rest old new
    → Appends (writes.held old) (writes.held new) bytes
    → comes.connections new ≡ option_map (with_written bytes) (comes.connections old))
    → ((old new : O) → writes.keeps_rest old new → reads.ended new ≡ reads.ended old)
    → (old new : O) (text : List ℕ) (result : Result ⊤ Partly)
    → OnOk result (Appends (writes.held old) (writes.held new) text)
    → IfErr result (λ (p : Partly). Appends (writes.held old) (writes.held new) (take p.done text))
    → IfErr result (λ (p : Partly). p.done < length text)
    → writes.keeps_rest old new → CountsFault (writes.faults old) (writes.faults new) result
    → Sends (port reads comes old) (port reads comes new) text result
sends reads writes comes left_is one_count adds leaves_end old new text (Ok done) whole part
    less rest cause =
    went_out reads writes comes left_is one_count adds leaves_end old new text text (Ok done)
    whole refl rest cause
sends reads writes comes left_is one_count adds leaves_end old new text (Err p) whole part
    less rest cause =
    went_out reads writes comes left_is one_count adds leaves_end old new text
    (take p.done text) (Err p) part (p.done, less, refl) rest cause
