-- The rows of a list by the numbers of their callers, counted.
use Rattle.std.proofs.Common.{◌≡◌, ◌≢◌, ℕ, suc, ◌+◌, ◌<◌, ◌≤◌, ◌==◌}
use Rattle.std.proofs.Common.{cond, List, [], ◌∷◌, length, map, get_or}
use Rattle.std.proofs.Common.{All, AllPairs, Contains, sum_by, refl, sym}
use Rattle.std.proofs.Common.{arith}
use Rattle.std.proofs.lemmas.List.Elements.{All-weaker, All-nil, All-cons, All-head, All-tail}
use Rattle.std.proofs.lemmas.List.Sums.{sum_by-cons}
use Rattle.std.proofs.lemmas.Bool.Decides.{nat_tests}
use native.Mathlib.Decide.{ℕ_discrete}
use Rattle.turn_pass.specs.declared.entries.Appended.{Appended}
use Rattle.turn_pass.specs.History.{PassState, Agrees, known_of}
use Rattle.turn_pass.specs.Whole.{MakeAll}
use Rattle.turn_pass.proofs.Pairs.{pairs_head, pairs_tail, pairs_map}
use Rattle.turn_pass.proofs.OwnEntries.{count_of, known_at_most, known_is}

module _ {A : Type 0} where
  sum-map : {B : Type 0} (g : B → ℕ) (f : A → B) (xs : List A)
      → sum_by g (map f xs) ≡ sum_by (λ x. g (f x)) xs
  sum-map g f [] = refl
  sum-map g f (x ∷ xs) = let rest = sum-map g f xs in
      omega (arith, sum_by-cons g (f x) (map f xs), sum_by-cons (λ x. g (f x)) x xs)

  -- sums of smaller terms are no greater, and where they aren't smaller, no term is
  pub sum_at_most : (f g : A → ℕ) (xs : List A) → All (λ x. f x ≤ g x) xs
      → sum_by f xs ≤ sum_by g xs
  sum_at_most f g [] each = omega arith
  sum_at_most f g (x ∷ xs) each =
      let here = All-head (λ x. f x ≤ g x) x xs each in let rest =
      sum_at_most f g xs (All-tail (λ x. f x ≤ g x) x xs each) in
      omega (arith, sum_by-cons f x xs, sum_by-cons g x xs)

  pub sum_same : (f g : A → ℕ) (xs : List A) → All (λ x. f x ≤ g x) xs → sum_by g xs ≤ sum_by f xs
      → All (λ x. f x ≡ g x) xs
  sum_same f g [] each le = All-nil (λ x. f x ≡ g x)
  sum_same f g (x ∷ xs) each le =
      let here = All-head (λ x. f x ≤ g x) x xs each in
      let after = All-tail (λ x. f x ≤ g x) x xs each in
      let rest = sum_at_most f g xs after in
      All-cons (λ x. f x ≡ g x) x xs (omega (arith, sum_by-cons f x xs, sum_by-cons g x xs))
      (sum_same f g xs after (omega (arith, sum_by-cons f x xs, sum_by-cons g x xs)))

-- how many numbers are x
abbrev times : ℕ → List ℕ → ℕ
times x [] = 0
times x (b ∷ bs) = cond (x == b) 1 0 + times x bs

times_absent : (x : ℕ) (bs : List ℕ) → All (λ b. x ≢ b) bs → times x bs ≡ 0
times_absent x [] each = refl
times_absent x (b ∷ bs) each = let here = All-head (λ b. x ≢ b) b bs each in let rest =
    times_absent x bs (All-tail (λ b. x ≢ b) b bs each) in grind (arith, nat_tests)

times_once : (x : ℕ) (bs : List ℕ) → AllPairs (λ a b. a ≢ b) bs → times x bs ≤ 1
times_once x [] pairs = omega arith
times_once x (b ∷ bs) pairs =
    one_more x b bs (ℕ_discrete x b) (times_absent b bs (pairs_head (λ a b. a ≢ b) b bs pairs))
    (times_once x bs (pairs_tail (λ a b. a ≢ b) b bs pairs)) where
      one_more : (x b : ℕ) (bs : List ℕ) → Dec (x ≡ b) → times b bs ≡ 0 → times x bs ≤ 1
          → times x (b ∷ bs) ≤ 1
      one_more x b bs (yes same) none rest = rw same (grind (arith, nat_tests))
      one_more x b bs (no other) none rest = grind (arith, nat_tests)

fewer : (x b : ℕ) (bs : List ℕ) → x ≢ b → 0 < times x (b ∷ bs) → 0 < times x bs
fewer x b bs other some = grind (arith, nat_tests)

times_there : (x : ℕ) (bs : List ℕ) → 0 < times x bs → Contains bs x
times_there x [] some = absurd (omega arith)
times_there x (b ∷ bs) some = there x b bs (ℕ_discrete x b) some (times_there x bs) where
  there : (x b : ℕ) (bs : List ℕ) → Dec (x ≡ b) → 0 < times x (b ∷ bs)
      → (0 < times x bs → Contains bs x) → Contains (b ∷ bs) x
  there x b bs (yes same) some rest = (0, omega arith, sym same)
  there x b bs (no other) some rest = let more = rest (fewer x b bs other some) in
      (suc more.0, let lt = more.1 in omega arith, more.2)

rows_none : (bys : List ℕ) → sum_by (λ _. 0) bys ≡ 0
rows_none [] = refl
rows_none (b ∷ bys) = let rest = rows_none bys in omega (arith, sum_by-cons (λ _. 0) b bys)

module _ {E : Type 0} where
  rows_cons : (l : Appended E) (ls : List (Appended E)) (bys : List ℕ)
      → sum_by (λ b. count_of b (l ∷ ls)) bys ≡ times l.by bys + sum_by (λ b. count_of b ls) bys
  rows_cons l ls [] = refl
  rows_cons l ls (b ∷ bys) = let rest = rows_cons l ls bys in
      omega (
        arith,
        sum_by-cons (λ b. count_of b (l ∷ ls)) b bys,
        sum_by-cons (λ b. count_of b ls) b bys,
      )

  -- the rows of several numbers are at most the list, and where they are all of it each row has one
  -- of the numbers
  pub rows_at_most : (list : List (Appended E)) (bys : List ℕ) → AllPairs (λ a b. a ≢ b) bys
      → sum_by (λ b. count_of b list) bys ≤ length list
  rows_at_most [] bys apart = omega (arith, rows_none bys)
  rows_at_most (l ∷ ls) bys apart = let rest = rows_at_most ls bys apart in
      omega (arith, rows_cons l ls bys, times_once l.by bys apart)

  pub rows_all : (list : List (Appended E)) (bys : List ℕ) → AllPairs (λ a b. a ≢ b) bys
      → length list ≤ sum_by (λ b. count_of b list) bys
      → All (λ (l : Appended E). Contains bys l.by) list
  rows_all [] bys apart all = All-nil (λ (l : Appended E). Contains bys l.by)
  rows_all (l ∷ ls) bys apart all =
      let one = times_once l.by bys apart in
      let rest = rows_at_most ls bys apart in
      let split = rows_cons l ls bys in
      All-cons (λ (l : Appended E). Contains bys l.by) l ls (times_there l.by bys (omega arith))
      (rows_all ls bys apart (omega arith))

  -- where the passes have together as many own entries as the list has rows, they make the list
  pub make_all : (h : ℕ) (list : List (Appended E)) (passes : List (PassState E))
      → All (λ (p : PassState E). Agrees h list (known_of p)) passes
      → AllPairs (λ (p q : PassState E). p.by ≢ q.by) passes
      → length list ≡ sum_by (λ (p : PassState E). length p.mine) passes → MakeAll h list passes
  make_all h list passes parts apart total =
      let mine : PassState E → ℕ = λ p. length p.mine in
      let rows : PassState E → ℕ = λ p. count_of p.by list in
      let number : PassState E → ℕ = λ p. p.by in
      let bys : List ℕ = map number passes in
      let few : All (λ p. mine p ≤ rows p) passes =
      All-weaker (λ (p : PassState E). Agrees h list (known_of p)) (λ p. mine p ≤ rows p)
      (λ p is. known_at_most h list (known_of p) is) passes parts in
      let apart' : AllPairs (λ a b. a ≢ b) bys = pairs_map (λ a b. a ≢ b) number passes apart in
      let most = rows_at_most list bys apart' in
      let more = sum_at_most mine rows passes few in
      let by_bys = sum-map (λ b. count_of b list) number passes in
      let same : All (λ p. mine p ≡ rows p) passes = sum_same mine rows passes few (omega arith) in
      record {
        total = total;
        each = λ k d lt.
            known_is h list (known_of (get_or passes k d)) (parts k d lt) (same k d lt);
        others = rows_all list bys apart' (omega arith);
      }
