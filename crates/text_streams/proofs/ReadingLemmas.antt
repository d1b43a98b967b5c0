-- Lemmas on what was taken of an input.
use Rattle.std.proofs.Common.{◌≡◌, ℕ, ◌+◌, ◌<◌, List, [], ◌++◌, length, refl, ◌∙◌, length-append, append-nil, ap, subst, arith}
use Rattle.std.specs.Io.KnownBytes.{Consumes, Keeps, IsAtEnd}
use Rattle.std.proofs.KnownBytes.{Consumes-nil, Consumes-trans, Consumes-kept, Consumes-whole}
use Rattle.device_facts.specs.Count.{Counted}
use Rattle.text_streams.specs.Readers.{ReaderView}
use Rattle.text_streams.specs.Streams.{Stream, HasFailed}
use Rattle.text_streams.specs.Reading.{TakesPiece, HasTaken, FailsBehind, ReadsWhole}

-- nothing was taken yet
pub taken_nothing : (now : Stream) → HasTaken now now 0 []
taken_nothing now = record { read = Consumes-nil now.bytes; calm = refl; least = omega arith; most = omega arith }

-- a piece more was taken
pub taken_more : (before old now : Stream) (first next : ReaderView) (reads : ℕ) (taken : List ℕ) → HasTaken before old reads taken → TakesPiece old now first next → 0 < length next.piece
    → HasTaken before now (reads + 1) (taken ++ next.piece)
taken_more before old now first next reads taken has takes some =
    record {
      read = Consumes-trans _ _ _ taken next.piece has.read takes.read;
      calm = takes.calm ∙ has.calm;
      least = omega (arith, has.least, some, length-append taken next.piece);
      most = omega (arith, has.most, takes.few, length-append taken next.piece);
    }

-- an empty piece is the end: the bytes taken are the whole input
pub taken_whole : (before old now : Stream) (first next : ReaderView) (reads : ℕ) (taken : List ℕ) → HasTaken before old reads taken → TakesPiece old now first next → next.piece ≡ [] → IsAtEnd now.bytes
    → ReadsWhole before now taken
taken_whole before old now first next reads taken has takes empty at_end =
    let none : taken ++ next.piece ≡ taken = ap (λ (bytes : List ℕ). taken ++ bytes) empty ∙ append-nil taken in
    let read = subst (Consumes before.bytes now.bytes) none (Consumes-trans _ _ _ taken next.piece has.read takes.read) in
    record { read = read; at_end = at_end; all = Consumes-whole before.bytes now.bytes taken (λ left. left ≡ taken) read at_end refl; calm = takes.calm ∙ has.calm }

-- the input failed behind the bytes taken
pub fails_behind : (before old now : Stream) (Holds : List ℕ → Type 0) (reads : ℕ) (taken : List ℕ) → HasTaken before old reads taken → Keeps old.bytes now.bytes → HasFailed old now → Holds taken → FailsBehind before now Holds
fails_behind before old now Holds reads taken has read failed holds =
    record {
      taken = taken;
      read = Consumes-kept before.bytes old.bytes now.bytes taken has.read read;
      cause = subst (λ (n : ℕ). Counted n now.faults 1) has.calm failed;
      holds = holds;
    }
