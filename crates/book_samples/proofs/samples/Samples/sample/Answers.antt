use Rattle.std.proofs.Common.{◌≡◌, ◌∙◌, ℕ, ◌<◌, ◌≤◌, List, [], ◌∷◌, length, slice_get, get_or, Option, Some, None, zero, suc, ap, arith}
use Rattle.book_words.specs.Samples.{Sample}
use Rattle.book_samples.specs.Kept.{Kept}
use Rattle.book_samples.proofs.SampleLemmas.{sample_at_number}
use Rattle.book_samples.proofs.samples.Samples.sample.Goals as goal

-- what stands at a place is within the list
within : (some : List (Option Sample)) (place : ℕ) (o : Option Sample)
    → slice_get some place ≡ Some o → place < length some
within [] place o h = absurd (none_is_not_some h)
  where
    none_is_not_some : None ≡ Some o → ⊥
    none_is_not_some h = cc
within (x ∷ xs) zero o h = omega arith
within (x ∷ xs) (suc place) o h = let rest = within xs place o h in omega (arith, rest)

-- and is what is read there
read : (some : List (Option Sample)) (place : ℕ) (o d : Option Sample)
    → slice_get some place ≡ Some o → get_or some place d ≡ o
read [] place o d h = absurd (none_is_not_some h)
  where
    none_is_not_some : None ≡ Some o → ⊥
    none_is_not_some h = cc
read (x ∷ xs) zero o d h = some_is x o h
  where
    some_is : (a b : Option Sample) → Some a ≡ Some b → a ≡ b
    some_is a b h = cc
read (x ∷ xs) (suc place) o d h = read xs place o d h

pub returns-in_err-get : goal.returns-in_err-get
returns-in_err-get c entries batch stands numbered =
    let items : c.deref.result.now ≡ c.args.self.now.samples = c.deref.ensures.value
    ∙ ap (λ (k : Kept). k.samples) c.self.view_is in
    let inside = within c.args.self.now.samples c.args.number _
    (sample_at_number entries c.args.self.now batch c.args.number stands numbered) in
    let beyond : length c.args.self.now.samples ≤ c.args.number =
    rw (← items) c.in_err-get.ensures.lookup.3 in
    absurd (omega (arith, inside, beyond))

pub returns : goal.returns
returns c entries batch stands numbered =
    let items : c.deref.result.now ≡ c.args.self.now.samples = c.deref.ensures.value
    ∙ ap (λ (k : Kept). k.samples) c.self.view_is in
    c.as_ref.ensures.value ∙ c.in_ok-get.ensures.lookup.1
    ∙ ap (λ (some : List (Option Sample)). get_or some c.args.number c.in_ok-get.field-0.now) items
    ∙ read c.args.self.now.samples c.args.number _ c.in_ok-get.field-0.now
    (sample_at_number entries c.args.self.now batch c.args.number stands numbered)
