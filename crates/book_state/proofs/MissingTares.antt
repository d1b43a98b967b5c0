-- A name that isn't a product has no tare.
use Rattle.std.proofs.Common.{◌≡◌, ℤ, Bool, true, false, cond, List, [], ◌∷◌, ◌++◌, Some, None, is_some, refl, sym, ◌∙◌, ap}
use Rattle.std.specs.List.{cons_option}
use Rattle.std.proofs.lemmas.List.Elements.{filter_map-append}
use Rattle.pack_judge.specs.declared.tares.DatedTare.{DatedTare}
use Rattle.pack_judge.specs.Tares.{latest, tare_by_rule}
use Rattle.book_words.specs.declared.name.Name.{Name}
use Rattle.book_words.specs.declared.act.Act.{Act}
use Rattle.book_words.specs.declared.act.Act.TheVariants.{PutTare}
use Rattle.book_words.specs.declared.act.Entry.{Entry}
use Rattle.book_words.specs.Names.{same_name}
use Rattle.book_words.specs.Acts.{nominal_put, nominal_of}
use Rattle.book_words.specs.Tares.{tare_put, tares_put, tare_of_product}
use Rattle.book_words.specs.Order.{product_number}
use Rattle.book_words.specs.Answers.{IsLegal}
use Rattle.book_index.proofs.LegalNames.{still_said}
use Rattle.book_words.proofs.SaidNames.{nominal_where_put}
use Rattle.book_index.proofs.SameNames.{same_name_swap}
use Rattle.book_laws.proofs.KnownLaws.{apart}
use Rattle.book_words.proofs.AllowedActs.{IsAllowed, allowed, put_tare_tells}
use Rattle.book_words.proofs.LegalLemmas.{legal_steps}

-- no tare is put for a name that isn't a product
not_put : (entries : List Entry) (name : Name) (act : Act) → IsAllowed entries act
    → is_some (nominal_of entries name) ≡ false → tare_put name act ≡ None
not_put entries name (PutTare product day tare) free none =
    let known = (put_tare_tells entries product day tare free).known in
    let other : same_name product name ≡ false = same_name_swap product name
    ∙ apart (λ (n : Name). is_some (nominal_of entries n)) name product none known in
    ap (λ b. cond b (Some (record { day = day; tare = tare })) None) other
not_put entries name act free none = refl

not_before : (b : Bool) {c : Bool} → (b ≡ true → c ≡ true) → c ≡ false → b ≡ false
not_before true then none = absurd (let clash : true ≡ false = sym (then refl) ∙ none in cc)
not_before false then none = refl

-- so none is there
pub unput : (entries : List Entry) → IsLegal entries → (name : Name)
    → is_some (nominal_of entries name) ≡ false → tares_put entries name ≡ []
unput =
    legal_steps (λ (es : List Entry). (name : Name) → is_some (nominal_of es name) ≡ false
    → tares_put es name ≡ [])
    (λ name none. refl)
    (λ es e legal lawful before name none.
    let earlier = not_before (is_some (nominal_of es name)) (still_said (nominal_put name) es e) none in
    filter_map-append (λ (entry : Entry). tare_put name entry.act) es (e ∷ [])
    ∙ (λ i. before name earlier i ++ cons_option
    (not_put es name e.act (allowed es e lawful) earlier i) []))

nothing : (day : ℤ) → tare_by_rule [] day ≡ None
unfolding latest
nothing day = refl

untared : (tares : List DatedTare) (day : ℤ) → tares ≡ [] → tare_by_rule tares day ≡ None
untared tares day none = ap (λ (some : List DatedTare). tare_by_rule some day) none ∙ nothing day

-- and there is no tare of it
pub no_tare_unknown : (entries : List Entry) (name : Name) (day : ℤ) → IsLegal entries
    → None ≡ product_number entries name → tare_of_product entries name day ≡ None
no_tare_unknown entries name day legal none =
    untared (tares_put entries name) day
    (unput entries legal name (nominal_where_put entries name ∙ sym (ap is_some none)))
