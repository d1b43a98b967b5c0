-- Refusals that are looked for one after the other, and the first of them in a list.
use Rattle.std.proofs.Common.{◌≡◌, [], ◌∷◌, Option, Some, None, refl, sym, ◌∙◌, ap}
use Rattle.std.specs.Option.{option_or}
use Rattle.book_words.specs.declared.refusal.Refusal.{Refusal}
use Rattle.book_words.specs.Refusals.{first_refusal}

two : (a b : Option Refusal) → option_or a b ≡ first_refusal (a ∷ b ∷ [])
two (Some x) b = refl
two None None = refl
two None (Some x) = refl

three : (a b c : Option Refusal) → option_or (option_or a b) c ≡ first_refusal (a ∷ b ∷ c ∷ [])
three (Some x) b c = refl
three None b c = two b c

four : (a b c d : Option Refusal)
    → option_or (option_or (option_or a b) c) d ≡ first_refusal (a ∷ b ∷ c ∷ d ∷ [])
four (Some x) b c d = refl
four None b c d = three b c d

five : (a b c d e : Option Refusal)
    → option_or (option_or (option_or (option_or a b) c) d) e
    ≡ first_refusal (a ∷ b ∷ c ∷ d ∷ e ∷ [])
five (Some x) b c d e = refl
five None b c d e = four b c d e

six : (a b c d e f : Option Refusal)
    → option_or (option_or (option_or (option_or (option_or a b) c) d) e) f
    ≡ first_refusal (a ∷ b ∷ c ∷ d ∷ e ∷ f ∷ [])
six (Some x) b c d e f = refl
six None b c d e f = five b c d e f

seven : (a b c d e f g : Option Refusal)
    → option_or (option_or (option_or (option_or (option_or (option_or a b) c) d) e) f) g
    ≡ first_refusal (a ∷ b ∷ c ∷ d ∷ e ∷ f ∷ g ∷ [])
seven (Some x) b c d e f g = refl
seven None b c d e f g = six b c d e f g

pub four_told : {a b c d p q r s : Option Refusal} → a ≡ p → b ≡ q → c ≡ r → d ≡ s
    → option_or (option_or (option_or a b) c) d ≡ first_refusal (p ∷ q ∷ r ∷ s ∷ [])
four_told {a} {b} {c} {d} {p} {q} {r} {s} h1 h2 h3 h4 = rw (h1, h2, h3, h4) (four p q r s)

pub five_told : {a b c d e p q r s t : Option Refusal} → a ≡ p → b ≡ q → c ≡ r → d ≡ s → e ≡ t
    → option_or (option_or (option_or (option_or a b) c) d) e
    ≡ first_refusal (p ∷ q ∷ r ∷ s ∷ t ∷ [])
five_told {a} {b} {c} {d} {e} {p} {q} {r} {s} {t} h1 h2 h3 h4 h5 =
    rw (h1, h2, h3, h4, h5) (five p q r s t)

pub six_told : {a b c d e f p q r s t u : Option Refusal} → a ≡ p → b ≡ q → c ≡ r → d ≡ s → e ≡ t
    → f ≡ u → option_or (option_or (option_or (option_or (option_or a b) c) d) e) f
    ≡ first_refusal (p ∷ q ∷ r ∷ s ∷ t ∷ u ∷ [])
six_told {a} {b} {c} {d} {e} {f} {p} {q} {r} {s} {t} {u} h1 h2 h3 h4 h5 h6 =
    rw (h1, h2, h3, h4, h5, h6) (six p q r s t u)

pub seven_told : {a b c d e f g p q r s t u v : Option Refusal} → a ≡ p → b ≡ q → c ≡ r → d ≡ s
    → e ≡ t → f ≡ u → g ≡ v → option_or
    (option_or (option_or (option_or (option_or (option_or a b) c) d) e) f) g
    ≡ first_refusal (p ∷ q ∷ r ∷ s ∷ t ∷ u ∷ v ∷ [])
seven_told {a} {b} {c} {d} {e} {f} {g} {p} {q} {r} {s} {t} {u} {v} h1 h2 h3 h4 h5 h6 h7 =
    rw (h1, h2, h3, h4, h5, h6, h7) (seven p q r s t u v)

-- the refusals by request, then that of a full book, then those of the act, where the desk is right
pub behind_request : (desk old reused gap full rest : Option Refusal) → desk ≡ None
    → option_or (option_or (first_refusal (old ∷ reused ∷ gap ∷ [])) full) rest
    ≡ option_or desk (option_or old (option_or reused (option_or gap (option_or full rest))))
behind_request desk old reused gap full rest right = each old reused gap
    ∙ ap (λ o. option_or o (option_or old (option_or reused (option_or gap (option_or full rest)))))
    (sym right)
  where
    each : (a b c : Option Refusal)
        → option_or (option_or (first_refusal (a ∷ b ∷ c ∷ [])) full) rest
        ≡ option_or a (option_or b (option_or c (option_or full rest)))
    each (Some x) b c = refl
    each None (Some x) c = refl
    each None None (Some x) = refl
    each None None None = refl
