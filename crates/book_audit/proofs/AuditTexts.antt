-- Texts that go out one behind the other.
use Rattle.std.proofs.Common.{◌≡◌, ℕ, List, [], ◌++◌, sym, ◌∙◌, subst, arith, length-append}
use Rattle.std.specs.Io.KnownBytes.{Appends}
use Rattle.std.proofs.KnownBytes.{Appends-trans}
use Rattle.std.proofs.lemmas.List.{take-append-le}
use Rattle.text_streams.specs.Streams.{Stream, WroteAll, IsCutIn}
use Rattle.book_audit.specs.Audits.{line}

pub wrote_second : (before mid now : Stream) (first next : List ℕ) → WroteAll before mid first
    → WroteAll mid now next → WroteAll before now (first ++ next)
wrote_second before mid now first next one two = record {
  out = Appends-trans _ _ _ first next one.out two.out;
  calm = two.calm ∙ one.calm;
}

-- the first of two texts was cut
pub cut_first : (before now : Stream) (first next : List ℕ) → IsCutIn before now [] first
    → IsCutIn before now [] (first ++ next)
cut_first before now first next cut = record {
  part = cut.part;
  less = omega (arith, cut.less, length-append first next);
  out = subst (Appends before.bytes now.bytes)
      (sym (take-append-le cut.part first next (omega (arith, cut.less)))) cut.out;
  failed = cut.failed;
}

-- the line of an equal number
pub wrote_line : (before now : Stream) (front : List ℕ) (number other : ℕ) (back : List ℕ)
    → number ≡ other → WroteAll before now (line front number back)
    → WroteAll before now (line front other back)
wrote_line before now front number other back same wrote =
    subst (λ (n : ℕ). WroteAll before now (line front n back)) same wrote

pub cut_line : (before now : Stream) (front : List ℕ) (number other : ℕ) (back : List ℕ)
    → number ≡ other → IsCutIn before now [] (line front number back)
    → IsCutIn before now [] (line front other back)
cut_line before now front number other back same cut =
    subst (λ (n : ℕ). IsCutIn before now [] (line front n back)) same cut
