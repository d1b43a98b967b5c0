-- Lemmas on an input that is read whole, piece by piece.
use Rattle.std.proofs.Common.{◌≡◌, ℕ, ◌+◌, ◌<◌, List, [], ◌++◌, length, Option, Some, None, IfSome, refl, sym, ap, ◌∙◌, subst, arith, length-append}
use Rattle.std.specs.Io.KnownBytes.{Consumes}
use Rattle.std.proofs.KnownBytes.{Consumes-nil}
use Rattle.text_streams.specs.declared.reader.ReadError.{ReadError}
use Rattle.text_streams.specs.declared.reader.ReadError.TheVariants as reading
use Rattle.text_streams.specs.Readers.{ReaderView}
use Rattle.text_streams.specs.Streams.{Stream}
use Rattle.text_streams.specs.Reading.{TakesPiece, TakesNone, HasTaken, ReadsWhole}
use Rattle.text_streams.proofs.ReadingLemmas.{taken_more, fails_behind}
use Rattle.text_streams.specs.declared.whole.Unread.{Unread}
use Rattle.text_streams.specs.declared.whole.Unread.TheVariants.{TooLong, Failed, NoMemory}
use Rattle.text_streams.specs.WholeInputs.{unread_by, IsShort, StopsBehind, IsReadNoFurther, StopsReading}

-- there was no memory to begin with
pub unbegun : (most : ℕ) (now : Stream) → IsReadNoFurther most now now NoMemory
unbegun most now = record { taken = []; read = Consumes-nil now.bytes; calm = refl; why = tt }

-- a piece more was taken, and is kept
pub taken_next : (before old now : Stream) (first next : ReaderView) (bytes piece all : List ℕ)
    → HasTaken before old first.reads bytes → TakesPiece old now first next
    → 0 < length next.piece → piece ≡ next.piece → all ≡ bytes ++ piece
    → HasTaken before now next.reads all
taken_next before old now first next bytes piece all has takes some same is =
    subst (λ (n : ℕ). HasTaken before now n all) (sym takes.counted)
    (subst (HasTaken before now (first.reads + 1))
    (sym (is ∙ ap (λ (p : List ℕ). bytes ++ p) same))
    (taken_more before old now first next first.reads bytes has takes some))

-- a piece more was taken, and isn't kept
pub stops_adding : (most : ℕ) (before old now : Stream) (first next : ReaderView)
    (bytes piece : List ℕ) (unread : Unread) → HasTaken before old first.reads bytes
    → TakesPiece old now first next → 0 < length next.piece → piece ≡ next.piece
    → StopsBehind most (bytes ++ piece) unread → StopsReading most before now unread
stops_adding most before old now first next bytes piece unread has takes some same stops =
    by_cause unread stops
  where
    taken : HasTaken before now (first.reads + 1) (bytes ++ piece)
    taken = subst (λ (p : List ℕ). HasTaken before now (first.reads + 1) (bytes ++ p)) (sym same)
        (taken_more before old now first next first.reads bytes has takes some)

    by_cause : (unread : Unread) → StopsBehind most (bytes ++ piece) unread
        → StopsReading most before now unread
    by_cause TooLong why =
        record { taken = bytes ++ piece; read = taken.read; calm = taken.calm; why = why }
    by_cause NoMemory why =
        record { taken = bytes ++ piece; read = taken.read; calm = taken.calm; why = why }
    by_cause Failed why = absurd why

-- no piece was taken: the input failed, since fewer reads were made than may be
pub stops_unread : (most : ℕ) (before old now : Stream) (reader : ReaderView) (bytes : List ℕ)
    (error : ReadError) → HasTaken before old reader.reads bytes → reader.most ≡ most + 1
    → IsShort most bytes → TakesNone old now reader error
    → StopsReading most before now (unread_by error)
stops_unread most before old now reader bytes reading.Failed has reads short none =
    fails_behind before old now (IsShort most) reader.reads bytes has none.1 none.0 short
stops_unread most before old now reader bytes reading.Spent has reads short none =
    absurd (omega (arith, has.least, short, none.0, reads))

-- ---- what an input tells

of_all : (told : Option (List ℕ)) (bytes : List ℕ) (Holds : List ℕ → Type 0)
    → IfSome told (λ left. left ≡ bytes) → Holds bytes → IfSome told Holds
of_all None bytes Holds all holds = tt
of_all (Some left) bytes Holds all holds = subst Holds (sym all) holds

-- what holds of the bytes of an input that was read whole holds of all that it tells
pub told_whole : (before now : Stream) (bytes : List ℕ) (Holds : List ℕ → Type 0)
    → ReadsWhole before now bytes → Holds bytes → IfSome before.bytes Holds
told_whole before now bytes Holds read holds = of_all before.bytes bytes Holds read.all holds

begins_long : (most : ℕ) (told left : Option (List ℕ)) (taken : List ℕ) (Holds : List ℕ → Type 0)
    → Consumes told left taken → most < length taken
    → ((bytes : List ℕ) → most < length bytes → Holds bytes) → IfSome told Holds
begins_long most None left taken Holds read long holds = tt
begins_long most (Some all) None taken Holds read long holds = absurd read
begins_long most (Some all) (Some rest) taken Holds read long holds =
    holds all (omega (arith, long, ap length read, length-append taken rest))

-- what holds of all bytes that are too many holds of an input that has too many
pub told_long : (most : ℕ) (before now : Stream) (Holds : List ℕ → Type 0)
    → StopsReading most before now TooLong
    → ((bytes : List ℕ) → most < length bytes → Holds bytes) → IfSome before.bytes Holds
told_long most before now Holds stops holds =
    begins_long most before.bytes now.bytes stops.taken Holds stops.read stops.why.0 holds
