use Rattle.std.proofs.Common.{◌≡◌, ℤ, true, false, ◌&&◌, cond, List, [], ◌∷◌, ◌++◌, Option, Some, None, refl, ◌∙◌, ap, arith}
use Rattle.std.proofs.lemmas.Int.{ints}
use Rattle.std.specs.List.{list_all}
use Rattle.std.specs.Option.{option_map_or}
use Rattle.std.specs.Int.{int_min}
use Rattle.std.specs.Prelude.{int_lt}
use Rattle.tare_register.specs.Tares.{least_day}

int_lt-int_min : (x d m : ℤ) → int_lt x (int_min d m) ≡ (int_lt x d && int_lt x m)
int_lt-int_min x d m = grind (arith, ints)

int_lt-lesser : (x d : ℤ) (o : Option ℤ)
    → int_lt x (option_map_or (int_min d) o d)
    ≡ (int_lt x d && option_map_or (λ m. int_lt x m) o true)
int_lt-lesser x d None = elim (int_lt x d) as (λ b. b ≡ (b && true)) [ true ↦ refl | false ↦ refl ]
int_lt-lesser x d (Some m) = int_lt-int_min x d m

-- a day is before the least of some days exactly where it is before each
pub int_lt-least_day : (x : ℤ) (days : List ℤ)
    → option_map_or (λ m. int_lt x m) (least_day days) true ≡ list_all (λ m. int_lt x m) days
int_lt-least_day x [] = refl
int_lt-least_day x (d ∷ ds) = int_lt-lesser x d (least_day ds)
    ∙ ap (λ b. int_lt x d && b) (int_lt-least_day x ds)

lesser_more : (x d : ℤ) (o : Option ℤ)
    → Some (option_map_or (int_min d) (cond (option_map_or (λ m. int_lt x m) o true) (Some x) o) d)
    ≡ cond (int_lt x (option_map_or (int_min d) o d)) (Some x)
    (Some (option_map_or (int_min d) o d))
lesser_more x d None = grind (arith, ints)
lesser_more x d (Some m) = grind (arith, ints)

-- of more days, the last is the least where it is before the least of the others
pub least_day-append : (days : List ℤ) (x : ℤ)
    → least_day (days ++ x ∷ []) ≡ cond (option_map_or (λ m. int_lt x m) (least_day days) true)
    (Some x) (least_day days)
least_day-append [] x = refl
least_day-append (d ∷ ds) x = ap (λ o. Some (option_map_or (int_min d) o d)) (least_day-append ds x)
    ∙ lesser_more x d (least_day ds)
