-- A text that is printed piece by piece.
use Rattle.std.proofs.Common.{◌≡◌, ℕ, List, [], ◌++◌, sym, ◌∙◌, ap, subst, refl, arith, append_assoc, append-nil, length-append}
use Rattle.std.proofs.lemmas.List.{take-append-le}
use Rattle.std.specs.Io.KnownBytes.{Appends}
use Rattle.std.proofs.KnownBytes.{Appends-trans}
use Rattle.text_streams.specs.Streams.{Stream, WroteAll, IsCutIn}
use Rattle.text_streams.proofs.PrintedTexts.{wrote_nothing, cut_second}
use Rattle.report_run.specs.Printing.{IsPrinting, HasPrinted}

-- one text went out after another
wrote_on : (before mid now : Stream) (first next : List ℕ) → WroteAll before mid first
    → WroteAll mid now next → WroteAll before now (first ++ next)
wrote_on before mid now first next one two =
    record {
      out = Appends-trans _ _ _ first next one.out two.out;
      calm = two.calm ∙ one.calm;
    }

-- what is appended to nothing is all
pub behind_none : (held to text : List ℕ) → to ≡ held ++ text → held ≡ [] → to ≡ text
behind_none held to text is none = is ∙ ap (λ (l : List ℕ). l ++ text) none

-- nothing went out yet
pub begins : (now : Stream) (held text : List ℕ) → IsPrinting now now held held text text
begins now held text = record { out = []; wrote = wrote_nothing now; whole = refl }

-- a text was appended to what the buffer holds
pub appended : (before now : Stream) (held holds text : List ℕ)
    → HasPrinted before now held holds [] → HasPrinted before now held (holds ++ text) text
appended before now held holds text one =
    record {
      out = one.out;
      wrote = one.wrote;
      whole = ap (λ (l : List ℕ). one.out ++ l) (append-nil (holds ++ text))
          ∙ sym (append_assoc one.out holds text)
          ∙ ap (λ (l : List ℕ). l ++ text)
          (ap (λ (l : List ℕ). one.out ++ l) (sym (append-nil holds)) ∙ one.whole
          ∙ append-nil held);
    }

-- what the buffer held went out
pub sent : (before now : Stream) (held : List ℕ) → WroteAll before now held
    → HasPrinted before now held [] []
sent before now held wrote = record { out = held; wrote = wrote; whole = refl }

-- the next piece was printed
pub goes_on : (before mid now : Stream) (held mids holds last piece left text : List ℕ)
    → last ≡ piece ++ left → IsPrinting before mid held mids last text
    → HasPrinted mid now mids holds piece → IsPrinting before now held holds left text
goes_on before mid now held mids holds last piece left text is one two =
    record {
      out = one.out ++ two.out;
      wrote = wrote_on before mid now one.out two.out one.wrote two.wrote;
      whole = append_assoc one.out two.out (holds ++ left)
          ∙ ap (λ (l : List ℕ). one.out ++ l)
          (sym (append_assoc two.out holds left)
          ∙ ap (λ (l : List ℕ). l ++ left)
          (ap (λ (l : List ℕ). two.out ++ l) (sym (append-nil holds)) ∙ two.whole)
          ∙ append_assoc mids piece left ∙ ap (λ (l : List ℕ). mids ++ l) (sym is))
          ∙ one.whole;
    }

-- what was cut in a text was cut in a longer one
pub cut_more : (before now : Stream) (text more : List ℕ) → IsCutIn before now [] text
    → IsCutIn before now [] (text ++ more)
cut_more before now text more cut =
    record {
      part = cut.part;
      less = omega (arith, cut.less, length-append text more);
      out = subst (Appends before.bytes now.bytes)
          (sym (take-append-le cut.part text more (omega (arith, cut.less)))) cut.out;
      failed = cut.failed;
    }

-- the output failed in the next piece, or before it
pub cuts : (before mid now : Stream) (held mids left text : List ℕ)
    → IsPrinting before mid held mids left text → IsCutIn mid now [] mids
    → IsCutIn before now [] (held ++ text)
cuts before mid now held mids left text one cut =
    subst (IsCutIn before now []) (append_assoc one.out mids left ∙ one.whole)
    (cut_more before now (one.out ++ mids) left
    (cut_second before mid now one.out mids one.wrote cut))

-- the output failed in what the buffer held: what was printed, and more
pub cuts_behind : (before mid now : Stream) (held holds text more : List ℕ)
    → HasPrinted before mid held holds text → IsCutIn mid now [] (holds ++ more)
    → IsCutIn before now [] ((held ++ text) ++ more)
cuts_behind before mid now held holds text more one cut =
    subst (IsCutIn before now [])
    (sym (append_assoc one.out holds more)
    ∙ ap (λ (l : List ℕ). l ++ more)
    (ap (λ (l : List ℕ). one.out ++ l) (sym (append-nil holds)) ∙ one.whole))
    (cut_second before mid now one.out (holds ++ more) one.wrote cut)

-- what the buffer still held went out
pub ends : (before mid now : Stream) (held holds text : List ℕ)
    → HasPrinted before mid held holds text → WroteAll mid now holds
    → WroteAll before now (held ++ text)
ends before mid now held holds text one wrote =
    subst (WroteAll before now)
    (ap (λ (l : List ℕ). one.out ++ l) (sym (append-nil holds)) ∙ one.whole)
    (wrote_on before mid now one.out holds one.wrote wrote)
