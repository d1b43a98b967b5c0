-- The bytes that are held in a buffer, when some were taken away, and when some were read.
use Rattle.std.proofs.Common.{◌≡◌, ℕ, ◌+◌, ◌-◌, ◌<◌, ◌≤◌, Bool, true, false, ◌&&◌, ◌==◌, nat_eq, nat_lt, cond, List, ◌++◌, length, take, drop, refl, sym, ◌∙◌, ap, arith, length-drop, zero-add}
use Rattle.std.proofs.lemmas.Bool.{lt-ltb}
use Rattle.std.proofs.lemmas.List.{drop-take, take-append-le}
use Rattle.std.proofs.lemmas.List.Edits.{take-paste}
use Rattle.std.specs.List.{copy_within}
use lib.Seq.{take-append-add, take_at}

-- the first of them were taken away, and the others moved to the front
pub moved_front : (buffer : List ℕ) (count held : ℕ) → count ≤ held → held ≤ length buffer
    → take (held - count) (copy_within buffer count held 0) ≡ drop count (take held buffer)
moved_front buffer count held within inside =
    let many : held - count ≤ length (drop count buffer) =
    omega (arith, within, inside, length-drop count buffer) in
    let whole : count + (held - count) ≡ held = omega (arith, within) in
    ap (λ (n : ℕ). take n (copy_within buffer count held 0)) (sym (zero-add (held - count)))
    ∙ take-paste buffer 0 (drop count buffer) (held - count) (omega arith) many
    ∙ sym (drop-take count (held - count) buffer)
    ∙ ap (λ (n : ℕ). drop count (take n buffer)) whole

-- some were read behind them
pub read_behind : (front held into post items : List ℕ) (count more : ℕ) → length front ≡ count
    → front ≡ held → more ≤ length into → items ≡ front ++ (into ++ post)
    → take (count + more) items ≡ held ++ take more into
read_behind front held into post items count more is same few whole =
    ap (take (count + more)) whole
    ∙ ap (λ (n : ℕ). take (n + more) (front ++ (into ++ post))) (sym is)
    ∙ take-append-add front (into ++ post) more
    ∙ ap (λ (l : List ℕ). front ++ l) (take-append-le more into post few)
    ∙ ap (λ (l : List ℕ). l ++ take more into) same

-- none was
pub kept_front : (front held rest items : List ℕ) (count : ℕ) → length front ≡ count
    → front ≡ held → items ≡ front ++ rest → take count items ≡ held
kept_front front held rest items count is same whole =
    ap (take count) whole ∙ take_at front rest count is ∙ same

and_true : (b : Bool) → (b && true) ≡ b
and_true true = refl
and_true false = refl

-- where there was room a read gives the end where it gives none
pub end_known : (count : ℕ) (into : List ℕ) → 0 < length into
    → (count == 0 && nat_lt 0 (length into)) ≡ nat_eq count 0
end_known count into some =
    ap (λ (b : Bool). count == 0 && b) (lt-ltb 0 (length into) some)
    ∙ and_true (nat_eq count 0)

-- a read leaves less room, or gives the end
pub reads_less : (most was now : ℕ) (done end : Bool) → done ≡ false → was ≤ now
    → (end ≡ false → was < now) → was < most
    → (most - now) + cond end 0 1 < (most - was) + cond done 0 1
reads_less most was now done true is kept grows few = rw is (omega (arith, kept, few))
reads_less most was now done false is kept grows few =
    let more = grows refl in
    rw is (omega (arith, more, few))
