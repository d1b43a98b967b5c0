-- Lemmas on a list that is worked off piece by piece, and on a stream that is tried again.
use Rattle.std.proofs.Common.{◌≡◌, ℕ, ◌+◌, ◌-◌, ◌<◌, min, List, [], ◌∷◌, ◌++◌, length, take, drop, None, Some, Option, refl, sym, ◌∙◌, ap, arith, length-drop}
use Rattle.std.proofs.lemmas.List.{take_rest, take-append-drop, take-take, drop-take, drop-drop}
use Rattle.std.specs.Io.KnownBytes.{Keeps, Appends, Consumes}

-- the first `done` and the next `more`, as a slice from `done` on gives them
pub taken_further : {X : Type 0} (xs : List X) (done more : ℕ)
    → take done xs ++ take more (take (length xs - done) (drop done xs)) ≡ take (done + more) xs
taken_further {X} xs done more =
    let front : take done (take (done + more) xs) ≡ take done xs =
    take-take done (done + more) xs (omega arith) in
    let rest : drop done (take (done + more) xs) ≡ take more (drop done xs) = drop-take done more xs in
    rw (take_rest, ← front, ← rest) (take-append-drop done (take (done + more) xs))

none_long : (xs : List ℕ) → length xs ≡ 0 → xs ≡ []
none_long [] none = refl
none_long (x ∷ xs) none = absurd (omega arith)

-- what a buffer was filled with was the front of what was left, and it is the end where it is
-- nothing though there was room
pub took : (left bytes from into : List ℕ) (place count room : ℕ) → left ≡ drop place bytes
    → from ≡ bytes → room ≡ length into
    → count ≡ min room (length (take (length from - place) (drop place from)))
    → take count into ≡ take count (take (length from - place) (drop place from))
    → (left ≡ take count into ++ drop (place + count) bytes)
    × (count ≡ 0 → 0 < length into → drop (place + count) bytes ≡ [])
took left bytes from into place count room is same long counts fills =
    let rest : take (length from - place) (drop place from) ≡ drop place bytes =
    take_rest from place ∙ ap (drop place) same in
    let front : take count into ≡ take count (drop place bytes) = fills ∙ ap (take count) rest in
    let behind : drop (place + count) bytes ≡ drop count (drop place bytes) =
    sym (drop-drop count place bytes) in
    let all : length (take (length from - place) (drop place from)) ≡ length (drop place bytes) =
    ap length rest in (
      is ∙ sym (take-append-drop count (drop place bytes))
          ∙ ap (λ (l : List ℕ). l ++ drop count (drop place bytes)) (sym front)
          ∙ ap (λ (l : List ℕ). take count into ++ l) (sym behind),
      λ none some. behind ∙ none_long (drop count (drop place bytes))
          (omega (arith, all, length-drop count (drop place bytes))),
    )

-- a read or a write that comes after others that did nothing
pub kept_consumes : (a b c : Option (List ℕ)) (bytes : List ℕ) → Keeps a b → Consumes b c bytes
    → Consumes a c bytes
kept_consumes None b c bytes kept took = tt
kept_consumes (Some x) None c bytes kept took = absurd kept
kept_consumes (Some x) (Some y) None bytes kept took = absurd took
kept_consumes (Some x) (Some y) (Some z) bytes kept took = sym kept ∙ took

pub kept_appends : (a b c : Option (List ℕ)) (bytes : List ℕ) → Keeps a b → Appends b c bytes
    → Appends a c bytes
kept_appends None b c bytes kept put = tt
kept_appends (Some x) None c bytes kept put = absurd kept
kept_appends (Some x) (Some y) None bytes kept put = absurd put
kept_appends (Some x) (Some y) (Some z) bytes kept put = put ∙ ap (λ (l : List ℕ). l ++ bytes) kept
