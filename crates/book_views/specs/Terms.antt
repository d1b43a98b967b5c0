-- What is told of a batch beside its packs.
use Rattle.std.specs.Prelude.{◌≡◌, ℕ, ℤ, List, Some}
use Rattle.annex_tables.specs.Errors.{IsNominal}
use Rattle.book_words.specs.declared.name.Name.{Name}
use Rattle.book_words.specs.declared.act.Unit as units
use Rattle.book_words.specs.declared.act.BatchState.{BatchState}
use Rattle.book_words.specs.declared.act.Entry.{Entry}
use Rattle.book_words.specs.Acts.{nominal_of, unit_of, product_of, density_of, state_of}
use Rattle.book_words.specs.Classes.{class_in_batch}
use Rattle.pack_judge.specs.Judge.{class_of}
use Rattle.book_views.specs.declared.views.Terms.{Terms}

-- a batch has this product, density and state, and its product this nominal quantity, which is one
-- that the tables know, and this unit
pub record HasTerms (entries : List Entry) (batch name : Name) (quantity : ℤ) (measure : units.Unit)
    (recorded : ℕ) (now : BatchState) : Type 0 where
  pub product : product_of entries batch ≡ Some name
  pub nominal : nominal_of entries name ≡ Some quantity
  pub range : IsNominal quantity
  pub unit : unit_of entries name ≡ Some measure
  pub density : density_of entries batch ≡ Some recorded
  pub state : state_of entries batch ≡ Some now

-- a batch has this product, and these limits class the nets of its packs
pub record AreTermsOf (entries : List Entry) (terms : Terms) : Type 0 where
  pub product : product_of entries terms.batch ≡ Some terms.product
  pub class : (net : ℤ) → class_of net terms.limits ≡ class_in_batch entries terms.batch net
