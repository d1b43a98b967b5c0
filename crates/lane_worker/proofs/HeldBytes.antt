-- What is held behind a read, and behind a line that was taken.
use Rattle.std.proofs.Common.{◌≡◌, ℕ, ◌+◌, ◌-◌, ◌≤◌, List, ◌++◌, length, take, drop, Option, Some, None, refl, ap, sym, ◌∙◌, arith, length-drop, append_assoc}
use Rattle.std.specs.Io.KnownBytes.{Consumes, prepend_known}
use Rattle.std.proofs.lemmas.List.{drop-take}
use Rattle.std.proofs.lemmas.List.Edits.{take-paste}
use Rattle.std.proofs.lemmas.Slice.{take-put_mid}
use Rattle.std.specs.List.{copy_within}
use Rattle.device_facts.specs.Known.{TellsAsBefore}
use borrow.Rule.Slice.PartMut.{put_mid}
use lib.Seq.{paste, take-take, take-append-add, length-take-le}

-- bytes that were moved to the front
pub moved_front : (bytes : List ℕ) (from count : ℕ) → from ≤ count → count ≤ length bytes
    → take (count - from) (copy_within bytes from count 0) ≡ drop from (take count bytes)
moved_front bytes from count within fits =
    let n = count - from in
    let same : n ≡ 0 + n = omega arith in
    let whole : from + n ≡ count = omega (arith, within) in
    let room : n ≤ length (drop from bytes) = omega (arith, within, fits, length-drop from bytes) in
    ap (λ k. take k (paste bytes 0 (drop from bytes) n)) same
    ∙ take-paste bytes 0 (drop from bytes) n (omega arith) room
    ∙ sym (drop-take from n bytes) ∙ ap (λ k. drop from (take k bytes)) whole

-- bytes that were read behind those before
pub read_behind : (at room count : ℕ) (bytes into : List ℕ) → at ≤ length bytes
    → count ≤ length into
    → take (at + count) (put_mid at room bytes into) ≡ take at bytes ++ take count into
read_behind at room count bytes into within fits =
    let front = take at bytes in
    let long : length front ≡ at = length-take-le at bytes within in
    let all : take (at + length into) (put_mid at room bytes into) ≡ front ++ into =
    take-put_mid at room bytes into (at + length into) (omega arith) within in
    let few : at + count ≤ at + length into = omega (arith, fits) in
    sym (take-take (at + count) (at + length into) (put_mid at room bytes into) few)
    ∙ ap (take (at + count)) all ∙ ap (λ k. take (k + count) (front ++ into)) (sym long)
    ∙ take-append-add front into count

-- bytes that were read are held behind those before
pub read_more : (old new : List ℕ) (was now : Option (List ℕ)) (taken : List ℕ)
    → Consumes was now taken → TellsAsBefore was now → new ≡ old ++ taken
    → prepend_known new now ≡ prepend_known old was
read_more old new None None taken consumes tells is = refl
read_more old new None (Some y) taken consumes tells is = absurd (cc)
read_more old new (Some x) None taken consumes tells is = absurd consumes
read_more old new (Some x) (Some y) taken consumes tells is =
    ap Some (ap (λ l. l ++ y) is ∙ append_assoc old taken y ∙ ap (λ l. old ++ l) (sym consumes))
