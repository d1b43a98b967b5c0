-- Two texts that are printed one after the other.
use Rattle.std.proofs.Common.{ℕ, List, [], ◌++◌, sym, ◌∙◌, ap, subst, append_assoc, append-nil}
use Rattle.text_streams.specs.Streams.{Stream, IsCutIn}
use Rattle.report_run.specs.Printing.{IsPrinting, HasPrinted}
use Rattle.report_run.proofs.Pieces.{goes_on, cut_more, cuts, cuts_behind}

-- what was printed of a longer text
with_more : (before now : Stream) (held holds text more : List ℕ)
    → HasPrinted before now held holds text
    → IsPrinting before now held holds more (text ++ more)
with_more before now held holds text more one =
    record {
      out = one.out;
      wrote = one.wrote;
      whole = sym (append_assoc one.out holds more)
          ∙ ap (λ (l : List ℕ). l ++ more)
          (ap (λ (l : List ℕ). one.out ++ l) (sym (append-nil holds)) ∙ one.whole)
          ∙ append_assoc held text more;
    }

-- both were printed
pub both : (before mid now : Stream) (held mids holds text more : List ℕ)
    → HasPrinted before mid held mids text → HasPrinted mid now mids holds more
    → HasPrinted before now held holds (text ++ more)
both before mid now held mids holds text more one two =
    goes_on before mid now held mids holds more more [] (text ++ more) (sym (append-nil more))
    (with_more before mid held mids text more one) two

-- the first was cut
pub cut_first : (before now : Stream) (held text more : List ℕ)
    → IsCutIn before now [] (held ++ text) → IsCutIn before now [] (held ++ (text ++ more))
cut_first before now held text more cut =
    subst (IsCutIn before now []) (append_assoc held text more)
    (cut_more before now (held ++ text) more cut)

-- the second was cut
pub cut_behind : (before mid now : Stream) (held mids text more : List ℕ)
    → HasPrinted before mid held mids text → IsCutIn mid now [] (mids ++ more)
    → IsCutIn before now [] (held ++ (text ++ more))
cut_behind before mid now held mids text more one cut =
    subst (IsCutIn before now []) (append_assoc held text more)
    (cuts_behind before mid now held mids text more one cut)

-- what the buffer held was cut, behind the first
pub cut_held : (before mid now : Stream) (held mids text more : List ℕ)
    → HasPrinted before mid held mids text → IsCutIn mid now [] mids
    → IsCutIn before now [] (held ++ (text ++ more))
cut_held before mid now held mids text more one cut =
    cut_behind before mid now held mids text more one (cut_more mid now mids more cut)

-- what the buffer held was cut at the end
pub cut_sent : (before mid now : Stream) (held mids text : List ℕ)
    → HasPrinted before mid held mids text → IsCutIn mid now [] mids
    → IsCutIn before now [] (held ++ text)
cut_sent before mid now held mids text one cut = cuts before mid now held mids [] text one cut
