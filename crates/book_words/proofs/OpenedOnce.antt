-- In a legal list no two batches have one name, and the number of a batch tells its place.
use Rattle.std.proofs.Common.{◌≡◌, Bool, true, false, ◌||◌, List, [], ◌∷◌, ◌++◌, Option, Some, None, if◌then◌else◌, refl, sym, ◌∙◌, ap, append-nil}
use Rattle.std.specs.List.{list_any, cons_option, last_or}
use Rattle.std.specs.Option.{option_or, option_map_or}
use Rattle.book_words.specs.declared.name.Name.{Name}
use Rattle.book_words.specs.declared.act.Act.{Act}
use Rattle.book_words.specs.declared.act.Act.TheVariants.{OpenBatch}
use Rattle.book_words.specs.declared.act.Entry.{Entry}
use Rattle.book_words.specs.Names.{same_name}
use Rattle.book_words.specs.Acts.{said, product_given, product_of, batch_opened}
use Rattle.book_words.specs.Refusals.{first_refusal, refusals_of}
use Rattle.book_words.specs.Answers.{IsLegal}
use Rattle.book_words.proofs.NameLemmas.{same_name_is, same_name_itself}
use Rattle.book_words.proofs.LastSaid.{last_or-cons}
use Rattle.book_words.proofs.DrawnOnce.{opened_is_new}
use Rattle.book_words.proofs.AllowedActs.{allowed}
use Rattle.book_words.proofs.LegalLemmas.{legal_steps}
use Rattle.std.proofs.lemmas.Bool.{or_parts}

true_is_not_false : true ≡ false → ⊥
true_is_not_false h = cc

-- whether names are the same doesn't depend on their order
pub same_name-swap : (a b : Name) → same_name a b ≡ false → same_name b a ≡ false
same_name-swap a b h = either (same_name b a) refl
  where
    either : (test : Bool) → same_name b a ≡ test → test ≡ false
    either false same = refl
    either true same =
        absurd (true_is_not_false (sym (same_name_itself a)
        ∙ ap (same_name a) (sym (same_name_is b a same)) ∙ h))

append-cons_option : {A : Type 0} (o : Option A) (some more : List A)
    → cons_option o (some ++ more) ≡ cons_option o some ++ more
append-cons_option None some more = refl
append-cons_option (Some x) some more = refl

-- what the acts of a list with one more entry say
pub said-push : {A : Type 0} (says : Act → Option A) (entries : List Entry) (entry : Entry)
    → said says (entries ++ entry ∷ []) ≡ said says entries ++ cons_option (says entry.act) []
said-push says [] entry = refl
said-push says (e ∷ es) entry =
    ap (cons_option (says e.act)) (said-push says es entry)
    ∙ append-cons_option (says e.act) (said says es) (cons_option (says entry.act) [])

-- whether a name is among some
abbrev pub is_named : Name → List Name → Bool
is_named name names = list_any (λ (other : Name). same_name other name) names

named-cons : (name : Name) (o : Option Name) (names : List Name)
    → is_named name (cons_option o names)
    ≡ option_map_or (λ (other : Name). same_name other name) o false || is_named name names
named-cons name None names = refl
named-cons name (Some other) names = refl

neither : (o p : Option Name) → option_or o p ≡ None → (o ≡ None) × (p ≡ None)
neither None p h = (refl, h)
neither (Some x) p h = absurd (some_is_not_none x h)
  where
    some_is_not_none : (x : Name) → Some x ≡ None → ⊥
    some_is_not_none x h = cc

not_given : (name : Name) (act : Act) → product_given name act ≡ None
    → option_map_or (λ (other : Name). same_name other name) (batch_opened act) false ≡ false
not_given name (OpenBatch other product density) h = either (same_name other name) refl h
  where
    either : (test : Bool) → same_name other name ≡ test
        → (if test then Some product else None) ≡ None → same_name other name ≡ false
    either true same h = absurd (some_is_not_none h)
      where
        some_is_not_none : Some product ≡ None → ⊥
        some_is_not_none h = cc
    either false same h = same
not_given name act h = refl

none_named : (name : Name) (o : Option Name) (entries : List Entry)
    → last_or o (said (product_given name) entries) ≡ None → (o ≡ None)
    × (is_named name (said batch_opened entries) ≡ false)
none_named name o [] h = (h, refl)
none_named name o (e ∷ es) h =
    let rest = none_named name (option_or (product_given name e.act) o) es
    (sym (last_or-cons o (product_given name e.act) (said (product_given name) es)) ∙ h) in
    let here = neither (product_given name e.act) o rest.0 in (
      here.1,
      named-cons name (batch_opened e.act) (said batch_opened es)
          ∙ ap (λ b. b || is_named name (said batch_opened es)) (not_given name e.act here.0) ∙ rest.1,
    )

-- a name that isn't a batch isn't among those of the batches
pub not_opened : (entries : List Entry) (name : Name) → product_of entries name ≡ None
    → is_named name (said batch_opened entries) ≡ false
not_opened entries name h = (none_named name None entries h).1

-- no two of some names are the same
abbrev pub AreDistinct : List Name → Type 0
AreDistinct [] = Unit {0}
AreDistinct (name ∷ names) = (is_named name names ≡ false) × AreDistinct names

or_from : (a b : Bool) → a ≡ false → b ≡ false → a || b ≡ false
or_from a b h k = rw (h, k) refl

named-push : (name other : Name) (names : List Name) → is_named name names ≡ false
    → same_name other name ≡ false → is_named name (names ++ other ∷ []) ≡ false
named-push name other [] h k = or_from (same_name other name) false k refl
named-push name other (n ∷ ns) h k =
    let parts = or_parts (same_name n name) (is_named name ns) h in
    or_from (same_name n name) (is_named name (ns ++ other ∷ [])) parts.0
    (named-push name other ns parts.1 k)

-- so with one name more that isn't among them
pub distinct-push : (names : List Name) (name : Name) → AreDistinct names
    → is_named name names ≡ false → AreDistinct (names ++ name ∷ [])
distinct-push [] name h new = (refl, tt)
distinct-push (n ∷ ns) name h new =
    let parts = or_parts (same_name n name) (is_named name ns) new in
    (named-push n name ns h.0 (same_name-swap n name parts.0), distinct-push ns name h.1 parts.1)

abbrev OpensDistinct : List Entry → Type 0
OpensDistinct entries = AreDistinct (said batch_opened entries)

distinct_step : (entries : List Entry) (act : Act) → first_refusal (refusals_of entries act) ≡ None
    → OpensDistinct entries → AreDistinct
    (said batch_opened entries ++ cons_option (batch_opened act) [])
distinct_step entries (OpenBatch name product density) h distinct =
    distinct-push (said batch_opened entries) name distinct
    (not_opened entries name (opened_is_new entries name product density h))
distinct_step entries act h distinct = rw append-nil distinct

-- no two batches of a legal list have one name
pub opened_once : (entries : List Entry) → IsLegal entries → AreDistinct (said batch_opened entries)
opened_once =
    legal_steps OpensDistinct tt (λ before entry legal lawful distinct.
    rw (said-push batch_opened before entry)
    (distinct_step before entry.act (allowed before entry lawful) distinct))
