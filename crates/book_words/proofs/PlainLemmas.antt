-- Of tests and options, what the library doesn't say.
use Rattle.std.proofs.Common.{◌≡◌, ℕ, ◌==◌, Bool, true, false, ◌||◌, Option, Some, None, is_some, option_map, refl, sym, arith}
use Rattle.std.proofs.lemmas.Bool.Decides.{nat_tests}
use Rattle.std.specs.Option.{option_or}

-- what holds where a test does and where it doesn't
pub in_both : {P : Type 0} (test : Bool) → (test ≡ true → P) → (test ≡ false → P) → P
in_both true f g = f refl
in_both false f g = g refl

-- of two tests each holds where the other does
pub bool_same : (a b : Bool) → (a ≡ true → b ≡ true) → (b ≡ true → a ≡ true) → a ≡ b
bool_same true true f g = refl
bool_same false false f g = refl
bool_same true false f g = sym (f refl)
bool_same false true f g = g refl

-- numbers are the same either way round
pub eqb-swap : (a b : ℕ) → (a == b) ≡ (b == a)
eqb-swap a b = grind (arith, nat_tests)

-- what isn't there is nothing
pub none_of : {A : Type 0} (o : Option A) → is_some o ≡ false → o ≡ None
none_of None h = refl
none_of (Some x) h = absurd (cc)

-- or nothing
pub or_none : {A : Type 0} (o : Option A) → option_or o None ≡ o
or_none None = refl
or_none (Some x) = refl

-- one of two is there where one or the other is
pub some_or : {A : Type 0} (o p : Option A) → is_some (option_or o p) ≡ is_some o || is_some p
some_or None p = refl
some_or (Some x) p = refl

-- so where the second is
pub some_of : {A : Type 0} (o p : Option A) → is_some p ≡ true → is_some (option_or o p) ≡ true
some_of None p h = h
some_of (Some x) p h = refl

-- what is made of a thing is there where the thing is
pub is_mapped : {A B : Type 0} (f : A → B) (o : Option A) → is_some (option_map f o) ≡ is_some o
is_mapped f None = refl
is_mapped f (Some x) = refl

-- where nothing is made of a thing, the thing isn't there
pub none_mapped : {A B : Type 0} (f : A → B) (o : Option A) → option_map f o ≡ None → o ≡ None
none_mapped f None h = refl
none_mapped f (Some x) h = absurd (cc)
