-- Jobs that hand back what they have, one by one.
use Rattle.std.proofs.Common.{◌≡◌, List, [], ◌∷◌, ◌++◌, Option, Some, None, refl, sym, ap, ◌∙◌, append_assoc, append-nil}
use Rattle.std.specs.List.{filter_map}
use Rattle.std.specs.Option.{option_to_list}

module _ {X A : Type 0} (f : X → Option A) where
  put : (x : X) (xs : List X) (o : Option A) → f x ≡ o
      → filter_map f (x ∷ xs) ≡ option_to_list o ++ filter_map f xs
  put x xs None is = rw is refl
  put x xs (Some a) is = rw is refl

  -- one more was handed back, or nothing of this kind
  pub handed : (done whole : List A) (left rest : List X) (x : X) (o : Option A)
      → done ++ filter_map f left ≡ whole → left ≡ x ∷ rest → f x ≡ o
      → (done ++ option_to_list o) ++ filter_map f rest ≡ whole
  handed done whole left rest x o was is has =
      append_assoc done (option_to_list o) (filter_map f rest)
      ∙ (ap (λ zs. done ++ zs) (sym (put x rest o has))
      ∙ (ap (λ xs. done ++ filter_map f xs) (sym is) ∙ was))
