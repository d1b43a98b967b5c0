-- Lemmas on a buffer that is filled piece by piece.
use Rattle.std.proofs.Common.{Result, Ok, Err, IfOk, ◌≡◌, ℕ, ◌+◌, ◌-◌, ◌<◌, ◌≤◌, min, List, ◌++◌, length, take, drop, sym, ◌∙◌, ap, arith, length-drop, length-take}
use Rattle.std.proofs.lemmas.List.{take-append-drop, take-take, drop-take, drop-drop}

-- the first `done` and the next `more` are the first of both
parted : (done more : ℕ) (xs : List ℕ) → take (done + more) xs ≡ take done xs ++ take more (drop done xs)
parted done more xs =
    let front : take done (take (done + more) xs) ≡ take done xs =
    take-take done (done + more) xs (omega arith) in
    let rest : drop done (take (done + more) xs) ≡ take more (drop done xs) = drop-take done more xs in
    rw (← front, ← rest) (sym (take-append-drop done (take (done + more) xs)))

-- what came before and what came now are what there is
pub further : (bytes old new : List ℕ) (place done more : ℕ)
    → take done old ≡ take done (drop place bytes)
    → take done new ≡ take done old
    → take more (drop done new) ≡ take more (drop (place + done) bytes)
    → take (done + more) new ≡ take (done + more) (drop place bytes)
further bytes old new place done more before kept now =
    let behind : take more (drop done new) ≡ take more (drop done (drop place bytes)) = now
    ∙ ap (take more) (sym (drop-drop done place bytes)) in
    let both : take done new ++ take more (drop done new) ≡ take done (drop place bytes)
    ++ take more (drop done (drop place bytes)) =
    λ i. (kept ∙ before) i ++ behind i in
    parted done more new ∙ both ∙ sym (parted done more (drop place bytes))

-- what came is no more than what there is
pub at_most : (bytes into : List ℕ) (place done : ℕ) → done ≤ length into
    → take done into ≡ take done (drop place bytes) → done ≤ length bytes - place
at_most bytes into place done fits same =
    omega (
      arith,
      ap length same,
      length-take done into,
      length-take done (drop place bytes),
      length-drop place bytes,
    )

-- a full buffer has as many as it has room for
pub full : (bytes into : List ℕ) (place done : ℕ) → done ≤ length into → length into ≤ done
    → take done into ≡ take done (drop place bytes) → done ≡ min (length into) (length bytes - place)
full bytes into place done fits all same = omega (arith, at_most bytes into place done fits same)

-- at the end as many came as there are
pub ended : (bytes into : List ℕ) (place done : ℕ) → done ≤ length into → length bytes ≤ place + done
    → take done into ≡ take done (drop place bytes) → done ≡ min (length into) (length bytes - place)
ended bytes into place done fits all same = omega (arith, at_most bytes into place done fits same)

-- a read that gave nothing, though there was room behind what came, was at the end
pub read_ended : {E : Type 0} (read : Result ℕ E) (bytes into part : List ℕ) (from place done : ℕ)
    → from ≡ place + done → length part ≡ length into - done
    → IfOk read (λ count. count ≡ 0 → 0 < length part → length bytes ≤ from)
    → IfOk read (λ more. more ≡ 0 → done < length into → length bytes ≤ place + done)
read_ended (Ok count) bytes into part from place done is room end =
    λ none less. omega (arith, is, end none (omega (arith, room, less)))
read_ended (Err error) bytes into part from place done is room end = tt
