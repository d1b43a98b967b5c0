-- What a read behind the first bytes of a buffer leaves in it.
use Rattle.std.proofs.Common.{◌≡◌, ℕ, ◌+◌, ◌-◌, ◌≤◌, List, ◌++◌, length, take, sym, ap, ◌∙◌, arith}
use Rattle.std.proofs.lemmas.List.{take-append-le, length-take-le}
use Rattle.std.proofs.Math.Seq.{take-append-add}
use borrow.Rule.Slice.PartMut.{put_mid, post_of}

-- the first bytes, and those that were read
pub filled_on : (first more rest : ℕ) (bytes read : List ℕ) → first ≤ length bytes
    → more ≤ length read
    → take (first + more) (put_mid first rest bytes read) ≡ take first bytes ++ take more read
filled_on first more rest bytes read inside within =
    let front = take first bytes in
    let behind = post_of first rest bytes in
    let place : first + more ≡ length front + more =
    ap (λ n. n + more) (sym (length-take-le first bytes inside)) in
    ap (λ n. take n (put_mid first rest bytes read)) place
    ∙ take-append-add front (read ++ behind) more
    ∙ ap (λ (l : List ℕ). front ++ l) (take-append-le more read behind within)
