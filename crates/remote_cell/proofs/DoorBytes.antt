-- What a read of one byte and a write leave of a door, by its laws.
use Rattle.std.proofs.Common.{◌≡◌, ℕ, ◌<◌, ◌≤◌, false, eqb, inl, inr, List, [], ◌∷◌, ◌++◌, length, take, drop, Option, Some, None, option_map, Result, Ok, Err, OnOk, IfErr, IfSome, refl, sym, ◌∙◌, ap, subst, append_assoc, append-nil, length-append}
use Rattle.std.specs.Bool.{⊤}
use Rattle.std.specs.Io.KnownBytes.{Appends, Consumes, Keeps, IsAtEnd}
use Rattle.std.proofs.lemmas.Bool.{cases_Bool}
use lib.Seq.{drop-drop}
use Rattle.device_facts.specs.Count.{CountsFault}
use Rattle.disk_core.specs.declared.source.Source as source
use Rattle.disk_core.specs.declared.sink.Sink as sink
use Rattle.disk_core.specs.declared.types.Partly.{Partly}
use Rattle.disk_core.specs.Doors.{Connection, Connections, left_now, add_taken, with_taken, with_written}
use Rattle.remote_cell.specs.declared.reading.LineEnd.TheVariants.{Whole}
use Rattle.remote_cell.specs.declared.wire_lines.TheConstants.{MAX_LINE}
use Rattle.remote_cell.specs.Lines.{has_end}
use Rattle.remote_cell.specs.Told.{Port, port}
use Rattle.remote_cell.specs.Steps.{ReadsByte, ReadsLine, IsSent, Sends}

-- ---- reads

no_more : (present : Option Connection) → option_map (add_taken []) present ≡ present
no_more None = refl
no_more (Some c) = λ i. Some (record {
  left = c.left;
  taken = append-nil c.taken i;
  written = c.written;
})

-- no byte was taken
pub taken_none : (was : Option Connections) → option_map (with_taken []) was ≡ was
taken_none None = refl
taken_none (Some all) = λ i. Some (record all { present = no_more all.present i })

more_taken : (first second : List ℕ) (present : Option Connection)
    → option_map (add_taken second) (option_map (add_taken first) present)
    ≡ option_map (add_taken (first ++ second)) present
more_taken first second None = refl
more_taken first second (Some c) =
    let left : drop (length second) (drop (length first) c.left)
    ≡ drop (length (first ++ second)) c.left =
    drop-drop (length second) (length first) c.left
    ∙ ap (λ (n : ℕ). drop n c.left) (sym (length-append first second)) in
    λ i. Some (record {
      left = left i;
      taken = append_assoc c.taken first second i;
      written = c.written;
    })

-- bytes were taken, and then others
pub taken_both : (first second : List ℕ) (was : Option Connections)
    → option_map (with_taken second) (option_map (with_taken first) was)
    ≡ option_map (with_taken (first ++ second)) was
taken_both first second None = refl
taken_both first second (Some all) =
    λ i. Some (record all { present = more_taken first second all.present i })

-- what is kept has lost nothing
pub keeps_consumes : (was now : Option (List ℕ)) → Keeps was now → Consumes was now []
keeps_consumes None now kept = tt
keeps_consumes (Some x) None kept = absurd kept
keeps_consumes (Some x) (Some y) kept = sym kept

-- nothing is left, where that is told
pub none_left : (left : Option (List ℕ)) (connections : Option Connections)
    → left ≡ option_map left_now connections → IsAtEnd left
    → IfSome connections (λ all. left_now all ≡ [])
none_left left None is end = tt
none_left left (Some all) is end =
    let told : IsAtEnd (Some (left_now all)) = subst IsAtEnd is end in
    told

-- ---- writes

went_out : {O E : Type 0} (reads : source.Ghosts O) (writes : sink.Ghosts O)
    (connections : O → Option Connections)
    → ((o : O) → writes.faults o ≡ reads.faults o)
    → ((old new : O) (bytes : List ℕ) → writes.keeps_rest old new
    → Appends (writes.held old) (writes.held new) bytes
    → connections new ≡ option_map (with_written bytes) (connections old))
    → ((old new : O) → writes.keeps_rest old new → reads.ended new ≡ reads.ended old)
    → (missed : O → ℕ) → ((old new : O) → writes.keeps_rest old new → missed new ≡ missed old)
    → (old new : O) (text bytes : List ℕ) (result : Result ⊤ E)
    → Appends (writes.held old) (writes.held new) bytes → IsSent text bytes result
    → writes.keeps_rest old new → CountsFault (writes.faults old) (writes.faults new) result
    → Sends (port reads connections missed old) (port reads connections missed new) text result
went_out reads writes connections one_count adds leaves_end missed misses old new text bytes result
    appended sent rest cause =
    let before : CountsFault (reads.faults old) (writes.faults new) result =
    subst (λ (n : ℕ). CountsFault n (writes.faults new) result) (one_count old) cause in
    record {
      bytes = bytes;
      sent = sent;
      connections = adds old new bytes rest appended;
      ended = leaves_end old new rest;
      cause = subst (λ (n : ℕ). CountsFault (reads.faults old) n result) (one_count new) before;
      missed = misses old new rest;
    }

pub sends : {O : Type 0} (reads : source.Ghosts O) (writes : sink.Ghosts O)
    (connections : O → Option Connections)
    → ((o : O) → writes.faults o ≡ reads.faults o)
    → ((old new : O) (bytes : List ℕ) → writes.keeps_rest old new
    → Appends (writes.held old) (writes.held new) bytes
    → connections new ≡ option_map (with_written bytes) (connections old))
    → ((old new : O) → writes.keeps_rest old new → reads.ended new ≡ reads.ended old)
    → (missed : O → ℕ) → ((old new : O) → writes.keeps_rest old new → missed new ≡ missed old)
    → (old new : O) (text : List ℕ) (result : Result ⊤ Partly)
    → OnOk result (Appends (writes.held old) (writes.held new) text)
    → IfErr result (λ (p : Partly). Appends (writes.held old) (writes.held new) (take p.done text))
    → IfErr result (λ (p : Partly). p.done < length text)
    → writes.keeps_rest old new → CountsFault (writes.faults old) (writes.faults new) result
    → Sends (port reads connections missed old) (port reads connections missed new) text result
sends reads writes connections one_count adds leaves_end missed misses old new text (Ok done) whole part less
    rest cause =
    went_out reads writes connections one_count adds leaves_end missed misses old new text text (Ok done)
    whole refl rest cause
sends reads writes connections one_count adds leaves_end missed misses old new text (Err p) whole part less
    rest cause =
    went_out reads writes connections one_count adds leaves_end missed misses old new text (take p.done text)
    (Err p) part (p.done, less, refl) rest cause

-- ---- a line, byte by byte

pub more_plain : (line : List ℕ) (byte : ℕ) → eqb byte 10 ≡ false → has_end line ≡ false
    → has_end (line ++ byte ∷ []) ≡ false
more_plain [] byte other plain = rw other refl
more_plain (x ∷ line) byte other plain = elim (cases_Bool (eqb x 10)) [
  | inl is ↦ let never = rw is at plain in absurd (cc)
  | inr not_so ↦ rw not_so (more_plain line byte other (rw not_so at plain))
]

pub reads_more : (was mid now : Port) (line : List ℕ) (byte : ℕ)
    → mid.connections ≡ option_map (with_taken line) was.connections
    → ReadsByte mid now (Ok (Some byte))
    → now.connections ≡ option_map (with_taken (line ++ byte ∷ [])) was.connections
reads_more was mid now line byte held read =
    read.0
    ∙ ap (option_map (with_taken (byte ∷ []))) held
    ∙ taken_both line (byte ∷ []) was.connections

pub reads_whole : (was mid now : Port) (line : List ℕ) (byte : ℕ) → byte ≡ 10
    → has_end line ≡ false → length line ≤ MAX_LINE
    → mid.connections ≡ option_map (with_taken line) was.connections → mid.faults ≡ was.faults
    → ReadsByte mid now (Ok (Some byte)) → now.missed ≡ was.missed → ReadsLine was now line Whole
reads_whole was mid now line byte is plain few held calm read missed = record {
  plain = plain;
  connections = reads_more was mid now line byte held read
      ∙ ap (λ (b : ℕ). option_map (with_taken (line ++ b ∷ [])) was.connections) is;
  ends = (few, read.1, read.2 ∙ calm);
  missed = missed;
}
