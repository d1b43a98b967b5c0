-- What the last act says, one entry at a time.
use Rattle.std.proofs.Common.{◌≡◌, ℕ, ◌+◌, ◌<◌, List, [], ◌∷◌, ◌++◌, length, take, get_or, Option, Some, None, refl, sym, ◌∙◌, ap}
use Rattle.std.proofs.lemmas.List.{take_more}
use Rattle.std.specs.List.{filter_map, last_or, cons_option}
use Rattle.std.specs.Option.{option_or}
use Rattle.book_words.specs.declared.act.Act.{Act}
use Rattle.book_words.specs.declared.act.Entry.{Entry}
use Rattle.book_words.specs.Acts.{last_said}

pub last_or-cons : {A : Type 0} (o p : Option A) (xs : List A)
    → last_or o (cons_option p xs) ≡ last_or (option_or p o) xs
last_or-cons o None xs = refl
last_or-cons o (Some x) xs = refl

last_or-push : {A B : Type 0} (f : B → Option A) (o : Option A) (xs : List B) (x : B)
    → last_or o (filter_map f (xs ++ x ∷ [])) ≡ option_or (f x) (last_or o (filter_map f xs))
last_or-push f o [] x = last_or-cons o (f x) []
last_or-push f o (y ∷ ys) x =
    last_or-cons o (f y) (filter_map f (ys ++ x ∷ [])) ∙ last_or-push f (option_or (f y) o) ys x
    ∙ ap (λ p. option_or (f x) p) (sym (last_or-cons o (f y) (filter_map f ys)))

-- with one more entry: what its act says, or else what was said before
pub last_said-push : {A : Type 0} (says : Act → Option A) (entries : List Entry) (entry : Entry)
    → last_said says (entries ++ entry ∷ []) ≡ option_or (says entry.act) (last_said says entries)
last_said-push says entries entry = last_or-push (λ e. says e.act) None entries entry

-- the same in a walk over a list
pub last_said_more : {A : Type 0} (says : Act → Option A) (entries : List Entry) (place : ℕ)
    (d : Entry) → place < length entries
    → last_said says (take (place + 1) entries)
    ≡ option_or (says (get_or entries place d).act) (last_said says (take place entries))
last_said_more says entries place d h = ap (last_said says) (take_more entries place d h)
    ∙ last_said-push says (take place entries) (get_or entries place d)
