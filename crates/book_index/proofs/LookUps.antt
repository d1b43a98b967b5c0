-- What an index tells of a name is what the acts of its list say.
use Rattle.std.proofs.Common.{◌≡◌, pos, true, false, List, Option, Some, None, is_some, option_map, refl, sym, ◌∙◌, ap}
use Rattle.std.specs.Option.{unwrap_or}
use Rattle.book_words.specs.declared.name.Name.{Name}
use Rattle.book_words.specs.declared.act.Unit as units
use Rattle.book_words.specs.declared.act.BatchState.TheVariants.{Running}
use Rattle.book_words.specs.declared.act.Entry.{Entry}
use Rattle.book_words.specs.Acts.{said, batch_opened, nominal_of, unit_of, product_of, density_of, state_of}
use Rattle.book_words.specs.Order.{product_named, product_number, batch_number}
use Rattle.book_index.specs.declared.types.ProductTerms.{ProductTerms}
use Rattle.book_index.specs.declared.types.BatchTerms.{BatchTerms}
use Rattle.book_index.specs.Known.{Known, names_of}
use Rattle.book_index.specs.Listed.{IsIndexOf, terms_of_product, terms_of_batch, batch_product_number}
use Rattle.book_index.proofs.Places.{names_kept, kept_at, found}
use Rattle.book_words.proofs.SaidNames.{nominal_where_put, unit_where_put, product_where_opened, density_where_opened}

-- what is kept with a name is what is said of it, where it is kept just where something is said
pub kept_is_said : {A B C : Type 0} (o : Option C) (f : A → B) (x : A) (said : Option B) (other : B)
    → is_some o ≡ is_some said → f x ≡ unwrap_or said other
    → option_map f (option_map (λ _. x) o) ≡ said
kept_is_said None f x None other there is = refl
kept_is_said (Some place) f x (Some y) other there is = ap Some is
kept_is_said None f x (Some y) other there is = absurd (let h : false ≡ true = there in cc)
kept_is_said (Some place) f x None other there is = absurd (let h : true ≡ false = there in cc)

-- what an index has of a product
product_kept : (entries : List Entry) (known : Known) (name : Name) → IsIndexOf entries known
    → kept_at name known.products
    ≡ option_map (λ _. terms_of_product entries name) (product_number entries name)
product_kept entries known name is = ap (kept_at name) is.products
    ∙ found (terms_of_product entries) name (said product_named entries)

pub nominal_told : (entries : List Entry) (known : Known) (name : Name)
    (result : Option ProductTerms) → IsIndexOf entries known
    → result ≡ kept_at name known.products
    → option_map (λ (terms : ProductTerms). terms.nominal) result ≡ nominal_of entries name
nominal_told entries known name result is told =
    ap (option_map (λ (terms : ProductTerms). terms.nominal)) (told ∙ product_kept entries known name is)
    ∙ kept_is_said (product_number entries name) (λ (terms : ProductTerms). terms.nominal)
    (terms_of_product entries name) (nominal_of entries name) (pos 0)
    (sym (nominal_where_put entries name)) refl

pub unit_told : (entries : List Entry) (known : Known) (name : Name) (result : Option ProductTerms)
    → IsIndexOf entries known → result ≡ kept_at name known.products
    → option_map (λ (terms : ProductTerms). terms.unit) result ≡ unit_of entries name
unit_told entries known name result is told =
    ap (option_map (λ (terms : ProductTerms). terms.unit)) (told ∙ product_kept entries known name is)
    ∙ kept_is_said (product_number entries name) (λ (terms : ProductTerms). terms.unit)
    (terms_of_product entries name) (unit_of entries name) units.TheVariants.Mass
    (sym (unit_where_put entries name)) refl

-- what an index has of a batch
batch_kept : (entries : List Entry) (known : Known) (name : Name) → IsIndexOf entries known
    → kept_at name known.batches
    ≡ option_map (λ _. terms_of_batch entries name) (batch_number entries name)
batch_kept entries known name is = ap (kept_at name) is.batches
    ∙ found (terms_of_batch entries) name (said batch_opened entries)

pub density_told : (entries : List Entry) (known : Known) (name : Name) (result : Option BatchTerms)
    → IsIndexOf entries known → result ≡ kept_at name known.batches
    → option_map (λ (terms : BatchTerms). terms.density) result ≡ density_of entries name
density_told entries known name result is told =
    ap (option_map (λ (terms : BatchTerms). terms.density)) (told ∙ batch_kept entries known name is)
    ∙ kept_is_said (batch_number entries name) (λ (terms : BatchTerms). terms.density)
    (terms_of_batch entries name) (density_of entries name) 0
    (sym (density_where_opened entries name)) refl

-- where a state is said of batches alone
pub state_told : (entries : List Entry) (known : Known) (name : Name) (result : Option BatchTerms)
    → IsIndexOf entries known → is_some (state_of entries name) ≡ is_some (product_of entries name)
    → result ≡ kept_at name known.batches
    → option_map (λ (terms : BatchTerms). terms.state) result ≡ state_of entries name
state_told entries known name result is only told =
    ap (option_map (λ (terms : BatchTerms). terms.state)) (told ∙ batch_kept entries known name is)
    ∙ kept_is_said (batch_number entries name) (λ (terms : BatchTerms). terms.state)
    (terms_of_batch entries name) (state_of entries name) Running
    (sym (only ∙ product_where_opened entries name)) refl

-- where the product of each batch is one
pub batch_product_told : (entries : List Entry) (known : Known) (name : Name)
    (result : Option BatchTerms) → IsIndexOf entries known
    → is_some (batch_product_number entries name) ≡ is_some (product_of entries name)
    → result ≡ kept_at name known.batches
    → option_map (λ (terms : BatchTerms). terms.product) result ≡ batch_product_number entries name
batch_product_told entries known name result is only told =
    ap (option_map (λ (terms : BatchTerms). terms.product)) (told ∙ batch_kept entries known name is)
    ∙ kept_is_said (batch_number entries name) (λ (terms : BatchTerms). terms.product)
    (terms_of_batch entries name) (batch_product_number entries name) 0
    (sym (only ∙ product_where_opened entries name)) refl

-- the names that an index has, in their order
pub products_named : (entries : List Entry) (known : Known) → IsIndexOf entries known
    → names_of known.products ≡ said product_named entries
products_named entries known is = ap names_of is.products
    ∙ names_kept (terms_of_product entries) (said product_named entries)

pub batches_named : (entries : List Entry) (known : Known) → IsIndexOf entries known
    → names_of known.batches ≡ said batch_opened entries
batches_named entries known is = ap names_of is.batches
    ∙ names_kept (terms_of_batch entries) (said batch_opened entries)
