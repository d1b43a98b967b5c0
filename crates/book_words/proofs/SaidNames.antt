-- What acts say of a name, and whether they name it.
use Rattle.std.proofs.Common.{◌≡◌, Bool, true, false, ◌||◌, List, [], ◌∷◌, Option, Some, None, is_some, refl, sym, ◌∙◌, ap, if◌then◌else◌}
use Rattle.std.specs.List.{last_or, cons_option}
use Rattle.std.specs.Option.{option_or}
use Rattle.book_words.specs.declared.name.Name.{Name}
use Rattle.book_words.specs.declared.act.Act.{Act}
use Rattle.book_words.specs.declared.act.Act.TheVariants.{PutProduct, OpenBatch}
use Rattle.book_words.specs.declared.act.Entry.{Entry}
use Rattle.book_words.specs.Names.{same_name}
use Rattle.book_words.specs.Acts.{said, last_said, nominal_put, unit_put, product_given, density_given, batch_opened, nominal_of, unit_of, product_of, density_of}
use Rattle.book_words.specs.Order.{place_of, product_named, product_number, batch_number}
use Rattle.book_words.proofs.LastSaid.{last_or-cons}
use Rattle.book_words.proofs.PlaceLemmas.{place_is_some}
use Rattle.std.proofs.Math.Bool.{or-false}

-- whether a name that an act gives is this one
abbrev names_it : Name → Option Name → Bool
names_it name None = false
names_it name (Some other) = same_name other name

-- something is said of a name where it is among those that are given
pub said_where_named : {A : Type 0} (says : Act → Option A) (named : Act → Option Name)
    (name : Name) → ((act : Act) → is_some (says act) ≡ names_it name (named act))
    → (entries : List Entry) → is_some (last_said says entries)
    ≡ is_some (place_of (said named entries) name)
said_where_named {A} says named name each entries = from None entries
  where
    or_later : (first : Option A) (before : Option A)
        → is_some (option_or first before) ≡ is_some before || is_some first
    or_later None None = refl
    or_later None (Some x) = refl
    or_later (Some y) None = refl
    or_later (Some y) (Some x) = refl

    or_assoc : (a b c : Bool) → (a || b) || c ≡ a || (b || c)
    or_assoc true b c = refl
    or_assoc false b c = refl

    one_more : (o : Option Name) (names : List Name)
        → names_it name o || is_some (place_of names name)
        ≡ is_some (place_of (cons_option o names) name)
    one_more None names = refl
    one_more (Some first) names = sym (place_is_some first names name)

    from : (o : Option A) (entries : List Entry)
        → is_some (last_or o (said says entries)) ≡ is_some o
        || is_some (place_of (said named entries) name)
    from o [] = sym (or-false (is_some o))
    from o (e ∷ es) =
        ap is_some (last_or-cons o (says e.act) (said says es))
        ∙ from (option_or (says e.act) o) es
        ∙ ap (λ b. b || is_some (place_of (said named es) name)) (or_later (says e.act) o)
        ∙ or_assoc (is_some o) (is_some (says e.act)) (is_some (place_of (said named es) name))
        ∙ ap (λ b. is_some o || (b || is_some (place_of (said named es) name))) (each e.act)
        ∙ ap (λ b. is_some o || b) (one_more (named e.act) (said named es))

given : {A : Type 0} (b : Bool) (x : A) → is_some (if b then Some x else None) ≡ b
given true x = refl
given false x = refl

-- a product has a nominal quantity, and nothing else has
pub nominal_where_put : (entries : List Entry) (name : Name)
    → is_some (nominal_of entries name) ≡ is_some (product_number entries name)
nominal_where_put entries name = said_where_named (nominal_put name) product_named name each entries
  where
    each : (act : Act) → is_some (nominal_put name act) ≡ names_it name (product_named act)
    each (PutProduct other nominal unit) = given (same_name other name) nominal
    each act = refl

-- so with its unit
pub unit_where_put : (entries : List Entry) (name : Name)
    → is_some (unit_of entries name) ≡ is_some (product_number entries name)
unit_where_put entries name = said_where_named (unit_put name) product_named name each entries
  where
    each : (act : Act) → is_some (unit_put name act) ≡ names_it name (product_named act)
    each (PutProduct other nominal unit) = given (same_name other name) unit
    each act = refl

-- a batch has a product, and nothing else has
pub product_where_opened : (entries : List Entry) (name : Name)
    → is_some (product_of entries name) ≡ is_some (batch_number entries name)
product_where_opened entries name = said_where_named (product_given name) batch_opened name each entries
  where
    each : (act : Act) → is_some (product_given name act) ≡ names_it name (batch_opened act)
    each (OpenBatch other product density) = given (same_name other name) product
    each act = refl

-- so with its density
pub density_where_opened : (entries : List Entry) (name : Name)
    → is_some (density_of entries name) ≡ is_some (batch_number entries name)
density_where_opened entries name = said_where_named (density_given name) batch_opened name each entries
  where
    each : (act : Act) → is_some (density_given name act) ≡ names_it name (batch_opened act)
    each (OpenBatch other product density) = given (same_name other name) density
    each act = refl

-- a product has a unit just where it has a nominal quantity
pub unit_with_nominal : (entries : List Entry) (name : Name)
    → is_some (unit_of entries name) ≡ is_some (nominal_of entries name)
unit_with_nominal entries name = unit_where_put entries name ∙ sym (nominal_where_put entries name)

-- a batch has a density just where it has a product
pub density_with_product : (entries : List Entry) (name : Name)
    → is_some (density_of entries name) ≡ is_some (product_of entries name)
density_with_product entries name = density_where_opened entries name
    ∙ sym (product_where_opened entries name)
