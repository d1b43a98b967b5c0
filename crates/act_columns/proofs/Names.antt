-- The products and the batches of a legal list have names of the right shape.
use Rattle.std.proofs.Common.{◌≡◌, Bool, true, false, cond, List, Option, Some, None, is_some, refl, sym, ◌∙◌, ap, subst}
use Rattle.std.specs.Option.{option_or}
use Rattle.book_words.specs.declared.name.Name.{Name}
use Rattle.book_words.specs.declared.act.Act.{Act}
use Rattle.book_words.specs.declared.act.Act.TheVariants as acts
use Rattle.book_words.specs.declared.act.Entry.{Entry}
use Rattle.book_words.specs.Names.{same_name}
use Rattle.book_words.specs.Acts.{nominal_put, product_given, nominal_of, product_of}
use Rattle.book_words.specs.Answers.{IsLegal}
use Rattle.book_words.proofs.AllowedActs.{IsAllowed, allowed, put_product_tells, open_batch_tells}
use Rattle.book_words.proofs.LastSaid.{last_said-push}
use Rattle.book_words.proofs.LegalLemmas.{legal_steps}
use Rattle.book_words.proofs.NameLemmas.{same_name_is}
use Rattle.act_reads.specs.Commands.{IsShaped}

-- where a test says that a name is this one, it has its shape
shaped_by : {A : Type 0} (name this : Name) (x : A) (o : Option A) (b : Bool)
    → same_name name this ≡ b → IsShaped name → (is_some o ≡ true → IsShaped this)
    → is_some (option_or (cond b (Some x) None) o) ≡ true → IsShaped this
shaped_by name this x o true is shape before there =
    subst (λ (n : Name). IsShaped n) (same_name_is name this is) shape
shaped_by name this x o false is shape before there = before there

abbrev pub ProductsShaped : List Entry → Type 0
ProductsShaped entries = (product : Name) → is_some (nominal_of entries product) ≡ true
    → IsShaped product

product_shaped : (entries : List Entry) (act : Act) (product : Name) → IsAllowed entries act
    → ProductsShaped entries
    → is_some (option_or (nominal_put product act) (nominal_of entries product)) ≡ true
    → IsShaped product
product_shaped entries (acts.PutProduct name nominal unit) product h all there =
    shaped_by name product nominal (nominal_of entries product) (same_name name product) refl
    (put_product_tells entries name nominal unit h).shape (all product) there
product_shaped entries act product h all there = all product there

pub products_shaped : (entries : List Entry) → IsLegal entries → ProductsShaped entries
products_shaped =
    legal_steps ProductsShaped (λ product there. absurd (cc))
    (λ before entry legal lawful all product there.
    product_shaped before entry.act product (allowed before entry lawful) all
    (sym (ap is_some (last_said-push (nominal_put product) before entry)) ∙ there))

abbrev pub BatchesShaped : List Entry → Type 0
BatchesShaped entries = (batch : Name) → is_some (product_of entries batch) ≡ true
    → IsShaped batch

batch_shaped : (entries : List Entry) (act : Act) (batch : Name) → IsAllowed entries act
    → BatchesShaped entries
    → is_some (option_or (product_given batch act) (product_of entries batch)) ≡ true
    → IsShaped batch
batch_shaped entries (acts.OpenBatch name product density) batch h all there =
    shaped_by name batch product (product_of entries batch) (same_name name batch) refl
    (open_batch_tells entries name product density h).shape (all batch) there
batch_shaped entries act batch h all there = all batch there

pub batches_shaped : (entries : List Entry) → IsLegal entries → BatchesShaped entries
batches_shaped =
    legal_steps BatchesShaped (λ batch there. absurd (cc))
    (λ before entry legal lawful all batch there.
    batch_shaped before entry.act batch (allowed before entry lawful) all
    (sym (ap is_some (last_said-push (product_given batch) before entry)) ∙ there))
