-- What `first` of matchit answers on literal tokens, on one literal row, and on rows of which none
-- begins with a word.
use Rattle.std.proofs.Common.{◌≡◌, ℕ, zero, suc, ◌-◌, ◌<◌, ◌≤◌, List, [], ◌∷◌, ◌++◌, length, drop, Option, Some, None, Bool, true, false, cond, ◌&&◌, refl, sym, ap, ◌∙◌, arith, ◌==◌, true≢false}
use Rattle.std.proofs.lemmas.Bool.Decides.{nat_tests}
use Rattle.std.specs.Str.{bytes_eq}
use Rattle.matchit.specs.Rows.{RowsOf, param_token, catch_all_token}
use Rattle.matchit.specs.Seek.{own, step, or_else, seek, first, param_step, has_slash, slash}

-- each of these is a byte
abbrev pub IsBytes : List ℕ → Type 0
IsBytes [] = Unit {0}
IsBytes (b ∷ rest) = (b < 256) × IsBytes rest

-- the pattern goes on otherwise than a word does
abbrev pub Differs : List ℕ → List ℕ → Type 0
Differs [] [] = ⊥
Differs [] (x ∷ t) = (x < 256) × ((x == slash) ≡ false)
Differs (b ∷ w) [] = Unit {0}
Differs (b ∷ w) (x ∷ t) = (x < 256) × ((x == b) ≡ true → Differs w t)

module _ {K : Type 0} where
  pub or_else_none : (a : Option K) → or_else a None ≡ a
  or_else_none None = refl
  or_else_none (Some k) = refl

  pub param_step_empty : (p : List ℕ) → (param_step {K = K} [] p).1 ≡ []
  unfolding param_step
  param_step_empty p =
      elim (has_slash p) as (λ v. (cond {A = ℕ × RowsOf K} v (0, []) (length p, [])).1 ≡ []) [
        | true ↦ refl
        | false ↦ refl
      ]

  pub seek_empty : (k : ℕ) (p : List ℕ) → seek {K = K} k [] p ≡ None
  unfolding seek
  seek_empty k [] = refl
  seek_empty (suc k) (b ∷ p) = seek_empty k p
  seek_empty zero (b ∷ p) =
      simp (
        seek_empty 0 p,
        param_step_empty (b ∷ p),
        seek_empty (((param_step {K = K} [] (b ∷ p)).0) - 1) p,
      )

  pub seek_drop : (k : ℕ) (r : RowsOf K) (p : List ℕ) → seek k r p ≡ seek 0 r (drop k p)
  unfolding seek
  seek_drop zero r p = refl
  seek_drop (suc k) r [] = refl
  seek_drop (suc k) r (b ∷ p) = seek_drop k r p

  pub first_end : (rs : RowsOf K) → first rs [] ≡ own rs
  unfolding seek
  first_end rs = refl

  -- rows that have no parameter next go on by the byte alone
  pub seek_byte : (rs : RowsOf K) (b : ℕ) (p : List ℕ) → step param_token rs ≡ []
      → step catch_all_token rs ≡ [] → first rs (b ∷ p) ≡ first (step b rs) p
  unfolding seek
  seek_byte rs b p e f =
      rw (e, f)
      simp (
        param_step_empty (b ∷ p),
        seek_empty ((param_step {K = K} [] (b ∷ p)).0 - 1) p,
        or_else_none (seek 0 (step b rs) p),
      )

  -- what is left of rows behind some tokens
  abbrev pub steps : List ℕ → RowsOf K → RowsOf K
  steps [] rs = rs
  steps (b ∷ w) rs = steps w (step b rs)

  -- along these bytes the rows have no parameter
  abbrev pub IsPlainAlong : List ℕ → RowsOf K → Type 0
  IsPlainAlong [] rs = Unit {0}
  IsPlainAlong (b ∷ w) rs =
      (step param_token rs ≡ []) × (step catch_all_token rs ≡ []) × IsPlainAlong w (step b rs)

  pub first_literal : (w : List ℕ) (rs : RowsOf K) (p : List ℕ) → IsPlainAlong w rs
      → first rs (w ++ p) ≡ first (steps w rs) p
  first_literal [] rs p h = refl
  first_literal (b ∷ w) rs p h = seek_byte rs b (w ++ p) h.0 h.1 ∙ first_literal w (step b rs) p h.2

  -- the same as a test
  abbrev pub is_empty : RowsOf K → Bool
  is_empty [] = true
  is_empty (_ ∷ _) = false

  abbrev pub is_plain_along : List ℕ → RowsOf K → Bool
  is_plain_along [] rs = true
  is_plain_along (b ∷ w) rs =
      is_empty (step param_token rs)
      && (is_empty (step catch_all_token rs) && is_plain_along w (step b rs))

  pub plain_along : (w : List ℕ) (rs : RowsOf K) → is_plain_along w rs ≡ true → IsPlainAlong w rs
  plain_along [] rs h = tt
  plain_along (b ∷ w) rs h =
      by (step param_token rs) refl (step catch_all_token rs) refl h (plain_along w (step b rs))
    where
      by : (x : RowsOf K) → step param_token rs ≡ x → (y : RowsOf K) → step catch_all_token rs ≡ y
          → (is_empty x && (is_empty y && is_plain_along w (step b rs))) ≡ true
          → (is_plain_along w (step b rs) ≡ true → IsPlainAlong w (step b rs))
          → (step param_token rs ≡ []) × (step catch_all_token rs ≡ []) × IsPlainAlong w (step b rs)
      by [] e [] f g go = (e, f, go g)
      by [] e (y ∷ ys) f g go = absurd (true≢false (sym g))
      by (x ∷ xs) e y f g go = absurd (true≢false (sym g))

  -- one row of bytes
  pub first_single : (w : List ℕ) (k : K) (p : List ℕ) → IsBytes w
      → first ((w, k) ∷ []) p ≡ cond (bytes_eq p w) (Some k) None
  first_single [] k [] h = first_end (([], k) ∷ [])
  first_single [] k (b ∷ p) h = seek_byte (([], k) ∷ []) b p refl refl ∙ seek_empty 0 p
  first_single (x ∷ w) k [] h = first_end ((x ∷ w, k) ∷ [])
  first_single (x ∷ w) k (b ∷ p) h =
      let m : (x == param_token) ≡ false = grind (arith, nat_tests, h.0) in
      let n : (x == catch_all_token) ≡ false = grind (arith, nat_tests, h.0) in
      seek_byte ((x ∷ w, k) ∷ []) b p (rw m refl) (rw n refl)
      ∙ by (x == b) refl (first_single w k p h.1)
    where
      by : (v : Bool) → (x == b) ≡ v → first ((w, k) ∷ []) p ≡ cond (bytes_eq p w) (Some k) None
          → first (step b ((x ∷ w, k) ∷ [])) p ≡ cond (bytes_eq (b ∷ p) (x ∷ w)) (Some k) None
      by true e ih =
          let f : (b == x) ≡ true = grind (arith, nat_tests) in
          rw (e, f) ih
      by false e ih =
          let f : (b == x) ≡ false = grind (arith, nat_tests) in
          rw (e, f) (seek_empty 0 p)

  -- all rows go on otherwise than a word does
  abbrev pub AllDiffer : List ℕ → RowsOf K → Type 0
  AllDiffer word [] = Unit {0}
  AllDiffer word ((t, k) ∷ rest) = Differs word t × AllDiffer word rest

  pub differ_byte : (b : ℕ) (w : List ℕ) (rs : RowsOf K) → AllDiffer (b ∷ w) rs
      → AllDiffer w (step b rs)
  differ_byte b w [] h = tt
  differ_byte b w (([], k) ∷ rest) h = differ_byte b w rest h.1
  differ_byte b w ((x ∷ t, k) ∷ rest) h = by (x == b) refl (differ_byte b w rest h.1)
    where
      by : (v : Bool) → (x == b) ≡ v → AllDiffer w (step b rest)
          → AllDiffer w (cond v ((t, k) ∷ step b rest) (step b rest))
      by true e ih = (h.0.1 e, ih)
      by false e ih = ih

  pub differ_param : (y : ℕ) (w : List ℕ) (rs : RowsOf K) → 256 ≤ y → AllDiffer w rs
      → step y rs ≡ []
  differ_param y w [] g h = refl
  differ_param y [] (([], k) ∷ rest) g h = differ_param y [] rest g h.1
  differ_param y (b ∷ w) (([], k) ∷ rest) g h = differ_param y (b ∷ w) rest g h.1
  differ_param y [] ((x ∷ t, k) ∷ rest) g h =
      let l : x < 256 = h.0.0 in
      let m : (x == y) ≡ false = grind (arith, nat_tests) in
      rw m (differ_param y [] rest g h.1)
  differ_param y (b ∷ w) ((x ∷ t, k) ∷ rest) g h =
      let l : x < 256 = h.0.0 in
      let m : (x == y) ≡ false = grind (arith, nat_tests) in
      rw m (differ_param y (b ∷ w) rest g h.1)

  pub differ_own : (rs : RowsOf K) → AllDiffer [] rs → own rs ≡ None
  differ_own [] h = refl
  differ_own (([], k) ∷ rest) h = absurd h.0
  differ_own ((x ∷ t, k) ∷ rest) h = differ_own rest h.1

  pub differ_slash : (rs : RowsOf K) → AllDiffer [] rs → step slash rs ≡ []
  differ_slash [] h = refl
  differ_slash (([], k) ∷ rest) h = absurd h.0
  differ_slash ((x ∷ t, k) ∷ rest) h = rw h.0.1 (differ_slash rest h.1)

  -- no row begins with the word: nothing is found at it, nor behind it
  pub first_differ : (word : List ℕ) (rs : RowsOf K) → AllDiffer word rs → first rs word ≡ None
  first_differ [] rs h = first_end rs ∙ differ_own rs h
  first_differ (b ∷ w) rs h =
      seek_byte rs b w (differ_param param_token (b ∷ w) rs (omega arith) h)
      (differ_param catch_all_token (b ∷ w) rs (omega arith) h)
      ∙ first_differ w (step b rs) (differ_byte b w rs h)

  pub first_differ_more : (word : List ℕ) (rs : RowsOf K) (p : List ℕ) → AllDiffer word rs
      → first rs (word ++ slash ∷ p) ≡ None
  first_differ_more [] rs p h =
      seek_byte rs slash p (differ_param param_token [] rs (omega arith) h)
      (differ_param catch_all_token [] rs (omega arith) h)
      ∙ ap (λ r. first r p) (differ_slash rs h) ∙ seek_empty 0 p
  first_differ_more (b ∷ w) rs p h =
      seek_byte rs b (w ++ slash ∷ p) (differ_param param_token (b ∷ w) rs (omega arith) h)
      (differ_param catch_all_token (b ∷ w) rs (omega arith) h)
      ∙ first_differ_more w (step b rs) p (differ_byte b w rs h)

  -- rows whose next tokens are no bytes of the path's are read by their parameter
  pub seek_param : (rs : RowsOf K) (b : ℕ) (q : List ℕ) → step b rs ≡ []
      → step catch_all_token rs ≡ []
      → first rs (b ∷ q)
      ≡ seek ((param_step (step param_token rs) (b ∷ q)).0 - 1)
      (param_step (step param_token rs) (b ∷ q)).1 q
  unfolding seek
  seek_param rs b q e f =
      rw (e, f)
      simp (
        seek_empty 0 q,
        or_else_none (seek ((param_step (step param_token rs) (b ∷ q)).0 - 1)
            (param_step (step param_token rs) (b ∷ q)).1 q),
      )
