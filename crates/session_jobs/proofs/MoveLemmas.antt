-- Lists whose items are moved one by one, from the front of one to the end of another.
use Rattle.std.proofs.Common.{◌≡◌, ◌≢◌, ℕ, ◌+◌, ◌<◌, true, false, List, [], ◌∷◌, ◌++◌, length, map, get_or, All, AllPairs, refl, sym, ap, ◌∙◌, arith, append_assoc, append-nil, length-append}
use Rattle.std.proofs.lemmas.List.{get_or_default, length-map}
use Rattle.std.proofs.Math.ListN.{get_or-append, get_or-map}
use Rattle.std.proofs.Math.Seq.{get_or-append_seam}

module _ {X Y : Type 0} (f : X → Y) (done whole : List Y) (left : List X)
    (was : done ++ map f left ≡ whole) where
  -- one more was moved
  pub moved : (x : X) (rest : List X) → left ≡ x ∷ rest
      → (done ++ f x ∷ []) ++ map f rest ≡ whole
  moved x rest is = append_assoc done (f x ∷ []) (map f rest)
      ∙ (ap (λ xs. done ++ map f xs) (sym is) ∙ was)

  -- all were moved
  pub all_moved : left ≡ [] → done ≡ whole
  all_moved none = sym (append-nil done) ∙ (ap (λ xs. done ++ map f xs) (sym none) ∙ was)

-- where no two items have one number, the number of one is none of those before it
pub numbers_before : {X : Type 0} (f : X → ℕ) (xs : List X) (before : List ℕ) (x : X)
    (rest : List X) → AllPairs (λ v w. f v ≢ f w) xs → before ++ map f (x ∷ rest) ≡ map f xs
    → All (λ n. n ≢ f x) before
numbers_before f xs before x rest apart parts k d inside same =
    let n = length before in
    let many : length before + length (x ∷ rest) ≡ length xs = omega (
      arith,
      ap length parts,
      length-append before (map f (x ∷ rest)),
      length-map xs f,
      length-map (x ∷ rest) f,
    ) in
    let first : f (get_or xs k x) ≡ get_or before k (f x) = sym (get_or-map f xs k x)
    ∙ (ap (λ ys. get_or ys k (f x)) (sym parts)
    ∙ get_or-append before (map f (x ∷ rest)) (f x) k inside) in
    let second : f (get_or xs n x) ≡ f x = sym (get_or-map f xs n x)
    ∙ (ap (λ ys. get_or ys n (f x)) (sym parts) ∙ get_or-append_seam before (f x) (map f rest) (f x)) in
    let here : get_or before k d ≡ get_or before k (f x) = get_or_default before k d (f x) inside in
    apart k n x inside (omega arith) (first ∙ (sym here ∙ (same ∙ sym second)))

-- a list of which no next item comes
pub none_left : {X : Type 0} (n : ℕ) (xs : List X) → (0 < n → false ≡ true) → n ≡ length xs
    → xs ≡ []
none_left n [] none is = refl
none_left n (x ∷ xs) none is =
    absurd (let never : false ≡ true = none (omega (arith, is)) in cc)
