-- Things that are numbered from a first number on.
use Rattle.std.proofs.Common.{◌≡◌, ℕ, zero, suc, ◌+◌, ◌-◌, ◌<◌, ◌≤◌, true, false, ◌==◌, List, [], ◌∷◌, length, map, set, get_or, refl, sym, ◌∙◌, ap, arith, Option, Some}
use Rattle.std.proofs.lemmas.Bool.{eqb-true, eq-eqb}
use Rattle.std.proofs.lemmas.Bool.Decides.{nat_tests}
use Rattle.std.specs.List.{range_with_len}
use Rattle.hall_limits.specs.declared.TheConstants.{MAX_LANE, MIN_DESK, MAX_DESK}
use Rattle.book_words.specs.Desks.{is_desk}
use Rattle.book_index.specs.Known.{Known}
use Rattle.book_index.specs.Changes.{with_numbered, with_lane, with_row}
use Rattle.book_index.specs.Listed.{is_lane}
use Rattle.book_words.proofs.PlainLemmas.{in_both}

-- a number that none of them has changes none
pub numbered_outside : {A : Type 0} (first number : ℕ) (thing : A) (things : List A)
    → (first ≤ number → number < first + length things → ⊥)
    → with_numbered first number thing things ≡ things
numbered_outside first number thing [] out = refl
numbered_outside {A} first number thing (other ∷ others) out =
    in_both (number == first) (λ h. absurd
    (let same : number ≡ first = eqb-true number first h in
    out (omega (arith, same)) (omega (arith, same))))
    (λ h. rw h (ap (λ (rest : List A). other ∷ rest)
    (numbered_outside (first + 1) number thing others
    (λ a b. out (omega arith) (omega arith)))))

-- the one at a place has the number of that place
at_place : {A : Type 0} (first place : ℕ) (thing : A) (things : List A) → place < length things
    → set things place thing ≡ with_numbered first (first + place) thing things
at_place first place thing [] h = absurd (omega arith)
at_place {A} first zero thing (other ∷ others) h =
    let here : first + 0 ≡ first = omega arith in
    sym (rw here (rw (eq-eqb first first refl)
    (ap (λ (rest : List A). thing ∷ rest)
    (numbered_outside (first + 1) first thing others (λ a b. absurd (omega arith))))))
at_place {A} first (suc place) thing (other ∷ others) h =
    let next : (first + 1) + place ≡ first + suc place = omega arith in
    in_both (first + suc place == first)
    (λ k. absurd (let same : first + suc place ≡ first = eqb-true (first + suc place) first k in
    omega (arith, same)))
    (λ k. rw k (ap (λ (rest : List A). other ∷ rest)
    (at_place (first + 1) place thing others (omega arith)
    ∙ ap (λ n. with_numbered (first + 1) n thing others) next)))

-- the one of a number that one of them has
pub numbered_inside : {A : Type 0} (first number : ℕ) (thing : A) (things : List A) → first ≤ number
    → number < first + length things
    → set things (number - first) thing ≡ with_numbered first number thing things
numbered_inside first number thing things least most =
    let back : first + (number - first) ≡ number = omega arith in
    at_place first (number - first) thing things (omega arith)
    ∙ ap (λ n. with_numbered first n thing things) back

from_range : {A : Type 0} (f : ℕ → A) (d : A) (first many place : ℕ) → place < many
    → get_or (map f (range_with_len first many)) place d ≡ f (first + place)
from_range f d first zero place h = absurd (omega arith)
from_range f d first (suc many) zero h = ap f (let same : first ≡ first + 0 = omega arith in same)
from_range f d first (suc many) (suc place) h = from_range f d (first + 1) many place (omega arith)
    ∙ ap f (let same : (first + 1) + place ≡ first + suc place = omega arith in same)

-- what stands at the place of a number
pub of_number : {A : Type 0} (f : ℕ → A) (d : A) (first many number : ℕ) → first ≤ number
    → number < first + many → get_or (map f (range_with_len first many)) (number - first) d
    ≡ f number
of_number f d first many number least most =
    from_range f d first many (number - first) (omega arith)
    ∙ ap f (let same : first + (number - first) ≡ number = omega arith in same)

-- a number that isn't a lane's changes no lane
pub lane_outside : (lane : ℕ) (batch : Option ℕ) (known : Known) → length known.lanes ≡ MAX_LANE
    → is_lane lane ≡ false → known ≡ with_lane lane batch known
lane_outside lane batch known long off =
    λ i. record known { lanes = sym (numbered_outside 1 lane batch known.lanes out) i }
  where
    out : 1 ≤ lane → lane < 1 + length known.lanes → ⊥
    out least most = let most : lane < 1 + MAX_LANE = omega (arith, most, long) in
        grind (arith, nat_tests)

-- the lane of a number stands at its place
pub lane_inside : (lane : ℕ) (batch : Option ℕ) (known : Known) → length known.lanes ≡ MAX_LANE
    → is_lane lane ≡ true → record known { lanes = set known.lanes (lane - 1) batch }
    ≡ with_lane lane batch known
lane_inside lane batch known long one =
    λ i. record known { lanes = numbered_inside 1 lane batch known.lanes least most i }
  where
    least : 1 ≤ lane
    least = grind (arith, nat_tests)

    up_to : lane ≤ MAX_LANE
    up_to = grind (arith, nat_tests)

    most : lane < 1 + length known.lanes
    most = omega (arith, up_to, long)

-- a number that isn't a desk's changes no desk
pub desk_outside : (desk row : ℕ) (known : Known) → length known.desks ≡ MAX_DESK - MIN_DESK + 1
    → is_desk desk ≡ false → known ≡ with_row desk row known
desk_outside desk row known long off =
    λ i. record known { desks = sym (numbered_outside MIN_DESK desk (Some row) known.desks out) i }
  where
    out : MIN_DESK ≤ desk → desk < MIN_DESK + length known.desks → ⊥
    out least most = let most : desk < MAX_DESK + 1 = omega (arith, most, long) in
        grind (arith, nat_tests)

-- the desk of a number stands at its place
pub desk_inside : (desk row : ℕ) (known : Known) → length known.desks ≡ MAX_DESK - MIN_DESK + 1
    → is_desk desk ≡ true → record known { desks = set known.desks (desk - MIN_DESK) (Some row) }
    ≡ with_row desk row known
desk_inside desk row known long one =
    λ i. record known { desks = numbered_inside MIN_DESK desk (Some row) known.desks least most i }
  where
    least : MIN_DESK ≤ desk
    least = grind (arith, nat_tests)

    up_to : desk ≤ MAX_DESK
    up_to = grind (arith, nat_tests)

    most : desk < MIN_DESK + length known.desks
    most = omega (arith, up_to, long)
