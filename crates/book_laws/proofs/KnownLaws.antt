-- What a lawful entry leaves as it is of the products and batches that are there.
use Rattle.std.proofs.Common.{◌≡◌, ℕ, ℤ, pos, Bool, true, false, not, cond, List, [], ◌∷◌, ◌++◌, inl, inr, ◌⊎◌, Option, Some, None, is_some, refl, sym, ◌∙◌, ap}
use Rattle.std.proofs.lemmas.Bool.{cases_Bool}
use Rattle.std.specs.List.{list_any}
use Rattle.std.specs.Option.{option_or, option_and_then, unwrap_or}
use Rattle.annex_tables.specs.Errors.{limits_of}
use Rattle.book_words.specs.declared.name.Name.{Name}
use Rattle.book_words.specs.declared.act.Unit as units
use Rattle.book_words.specs.declared.act.BatchState.{BatchState}
use Rattle.book_words.specs.declared.act.BatchState.TheVariants.{Running, Ended, Drawn, Closed}
use Rattle.book_words.specs.declared.act.Act.{Act}
use Rattle.book_words.specs.declared.act.Act.TheVariants.{PutProduct, OpenBatch, EndRun, Draw, Close}
use Rattle.book_words.specs.declared.act.Entry.{Entry}
use Rattle.book_words.specs.declared.refusal.Refusal.TheVariants as why
use Rattle.book_words.specs.Names.{same_name}
use Rattle.book_words.specs.Acts.{last_said, nominal_put, unit_put, product_given, density_given, state_set, nominal_of, unit_of, product_of, density_of, state_of, same_state}
use Rattle.book_words.specs.Classes.{nominal_of_batch, limits_of_batch, density_by_unit, density_of_batch}
use Rattle.book_words.specs.Refusals as rules
use Rattle.book_words.specs.Refusals.{refused_if, first_refusal, refusals_of}
use Rattle.book_words.proofs.LastSaid.{last_said-push}
use Rattle.book_words.proofs.NameLemmas.{same_name_is}
use Rattle.book_words.proofs.AllowedActs.{IsAllowed, put_product_tells, open_batch_tells, end_run_tells, draw_tells, close_tells}

-- ---- names apart

-- a name of which something holds isn't one of which it doesn't
pub apart : (holds : Name → Bool) (name other : Name) → holds name ≡ false → holds other ≡ true
    → same_name name other ≡ false
apart holds name other f t = each (cases_Bool (same_name name other))
  where
    each : (same_name name other ≡ true) ⊎ (same_name name other ≡ false) → same_name name other ≡ false
    each (inl same) = absurd (let wrong : true ≡ false = sym t
        ∙ sym (ap holds (same_name_is name other same)) ∙ f in cc)
    each (inr no_more) = no_more

none_is_not_some : {A : Type 0} (o : Option A) → o ≡ None → is_some o ≡ false
none_is_not_some o h = ap is_some h

-- a product that is put wasn't there
pub put_apart : (entries : List Entry) (name product : Name) (nominal : ℤ) (unit : units.Unit)
    → IsAllowed entries (PutProduct name nominal unit)
    → is_some (nominal_of entries product) ≡ true → same_name name product ≡ false
put_apart entries name product nominal unit h known =
    apart (λ n. is_some (nominal_of entries n)) name product
    (ap is_some (put_product_tells entries name nominal unit h).new) known

-- a batch that is opened wasn't there
pub opened_apart : (entries : List Entry) (name batch product : Name) (density : ℕ)
    → IsAllowed entries (OpenBatch name product density)
    → is_some (product_of entries batch) ≡ true → same_name name batch ≡ false
opened_apart entries name batch product density h known =
    apart (λ n. is_some (product_of entries n)) name batch
    (ap is_some (open_batch_tells entries name product density h).new) known

-- ---- what stays

-- what an act doesn't speak of stays
pub silent : {A : Type 0} (says : Act → Option A) (entries : List Entry) (entry : Entry)
    → says entry.act ≡ None
    → last_said says (entries ++ entry ∷ []) ≡ last_said says entries
silent says entries entry h = last_said-push says entries entry
    ∙ ap (λ o. option_or o (last_said says entries)) h

none_where : {A : Type 0} (test : Bool) (o : Option A) → test ≡ false → cond test o None ≡ None
none_where test o h = ap (λ b. cond b o None) h

-- the nominal quantity of a product that is there stays
pub nominal_of_stays : (entries : List Entry) (entry : Entry) (product : Name)
    → IsAllowed entries entry.act → is_some (nominal_of entries product) ≡ true
    → nominal_of (entries ++ entry ∷ []) product ≡ nominal_of entries product
nominal_of_stays entries entry product allowed known =
    silent (nominal_put product) entries entry (none entry.act allowed)
  where
    none : (act : Act) → IsAllowed entries act → nominal_put product act ≡ None
    none (PutProduct name nominal unit) h =
        none_where _ _ (put_apart entries name product nominal unit h known)
    none act h = refl

-- the unit of a product that is there stays
pub unit_of_stays : (entries : List Entry) (entry : Entry) (product : Name)
    → IsAllowed entries entry.act → is_some (nominal_of entries product) ≡ true
    → unit_of (entries ++ entry ∷ []) product ≡ unit_of entries product
unit_of_stays entries entry product allowed known =
    silent (unit_put product) entries entry (none entry.act allowed)
  where
    none : (act : Act) → IsAllowed entries act → unit_put product act ≡ None
    none (PutProduct name nominal unit) h =
        none_where _ _ (put_apart entries name product nominal unit h known)
    none act h = refl

-- the product of a batch that is there stays
pub product_of_stays : (entries : List Entry) (entry : Entry) (batch : Name)
    → IsAllowed entries entry.act → is_some (product_of entries batch) ≡ true
    → product_of (entries ++ entry ∷ []) batch ≡ product_of entries batch
product_of_stays entries entry batch allowed known =
    silent (product_given batch) entries entry (none entry.act allowed)
  where
    none : (act : Act) → IsAllowed entries act → product_given batch act ≡ None
    none (OpenBatch name product density) h =
        none_where _ _ (opened_apart entries name batch product density h known)
    none act h = refl

-- the density of a batch that is there stays
pub density_of_stays : (entries : List Entry) (entry : Entry) (batch : Name)
    → IsAllowed entries entry.act → is_some (product_of entries batch) ≡ true
    → density_of (entries ++ entry ∷ []) batch ≡ density_of entries batch
density_of_stays entries entry batch allowed known =
    silent (density_given batch) entries entry (none entry.act allowed)
  where
    none : (act : Act) → IsAllowed entries act → density_given batch act ≡ None
    none (OpenBatch name product density) h =
        none_where _ _ (opened_apart entries name batch product density h known)
    none act h = refl

-- whether an act moves a batch that is there to another state
abbrev pub moves_state : Name → Act → Bool
moves_state batch (EndRun name) = same_name name batch
moves_state batch (Draw name mode word) = same_name name batch
moves_state batch (Close name) = same_name name batch
moves_state batch _ = false

-- the state of a batch that is there changes only at the end of its run, at its draw and its close
pub state_of_stays : (entries : List Entry) (entry : Entry) (batch : Name)
    → IsAllowed entries entry.act → is_some (product_of entries batch) ≡ true
    → moves_state batch entry.act ≡ false
    → state_of (entries ++ entry ∷ []) batch ≡ state_of entries batch
state_of_stays entries entry batch allowed known other =
    silent (state_set batch) entries entry (none entry.act allowed other)
  where
    none : (act : Act) → IsAllowed entries act → moves_state batch act ≡ false
        → state_set batch act ≡ None
    none (OpenBatch name product density) h f =
        none_where _ _ (opened_apart entries name batch product density h known)
    none (EndRun name) h f = none_where _ _ f
    none (Draw name mode word) h f = none_where _ _ f
    none (Close name) h f = none_where _ _ f
    none act h f = refl

-- ---- what stays of a batch that is there

-- a batch that is there: its product has a nominal quantity
pub record IsKnown (entries : List Entry) (batch : Name) : Type 0 where
  pub product : Name
  pub given : product_of entries batch ≡ Some product
  pub nominal : is_some (nominal_of entries product) ≡ true

known_there : (entries : List Entry) (batch : Name) → IsKnown entries batch
    → is_some (product_of entries batch) ≡ true
known_there entries batch known = ap is_some known.given

-- a batch that is there stays there
pub known_stays : (entries : List Entry) (entry : Entry) (batch : Name)
    → IsAllowed entries entry.act → IsKnown entries batch → IsKnown (entries ++ entry ∷ []) batch
known_stays entries entry batch allowed known =
    record {
      product = known.product;
      given = product_of_stays entries entry batch allowed (known_there entries batch known)
          ∙ known.given;
      nominal = ap is_some (nominal_of_stays entries entry known.product allowed known.nominal)
          ∙ known.nominal;
    }

-- what a product has stays with its batch
of_product : {A : Type 0} (entries : List Entry) (entry : Entry) (batch : Name)
    (of : List Entry → Name → Option A) → IsAllowed entries entry.act
    → (known : IsKnown entries batch)
    → of (entries ++ entry ∷ []) known.product ≡ of entries known.product
    → option_and_then (of (entries ++ entry ∷ [])) (product_of (entries ++ entry ∷ []) batch)
    ≡ option_and_then (of entries) (product_of entries batch)
of_product entries entry batch of allowed known same =
    ap (option_and_then (of (entries ++ entry ∷ [])))
    (product_of_stays entries entry batch allowed (known_there entries batch known)
    ∙ known.given)
    ∙ same ∙ sym (ap (option_and_then (of entries)) known.given)

-- the nominal quantity of a batch that is there stays
pub nominal_of_batch_stays : (entries : List Entry) (entry : Entry) (batch : Name)
    → IsAllowed entries entry.act → IsKnown entries batch
    → nominal_of_batch (entries ++ entry ∷ []) batch ≡ nominal_of_batch entries batch
nominal_of_batch_stays entries entry batch allowed known =
    ap (λ o. unwrap_or o (pos 0)) (of_product entries entry batch nominal_of allowed known
    (nominal_of_stays entries entry known.product allowed known.nominal))

-- so do its limits
pub limits_of_batch_stay : (entries : List Entry) (entry : Entry) (batch : Name)
    → IsAllowed entries entry.act → IsKnown entries batch
    → limits_of_batch (entries ++ entry ∷ []) batch ≡ limits_of_batch entries batch
limits_of_batch_stay entries entry batch allowed known =
    ap limits_of (nominal_of_batch_stays entries entry batch allowed known)

-- and the density that counts for it
pub density_of_batch_stays : (entries : List Entry) (entry : Entry) (batch : Name)
    → IsAllowed entries entry.act → IsKnown entries batch
    → density_of_batch (entries ++ entry ∷ []) batch ≡ density_of_batch entries batch
density_of_batch_stays entries entry batch allowed known =
    ap (λ o. density_by_unit o (unwrap_or (density_of (entries ++ entry ∷ []) batch) 0))
    (of_product entries entry batch unit_of allowed known
    (unit_of_stays entries entry known.product allowed known.nominal))
    ∙ ap (λ o. density_by_unit (option_and_then (unit_of entries) (product_of entries batch))
    (unwrap_or o 0)) (density_of_stays entries entry batch allowed
    (known_there entries batch known))

-- ---- the state of a batch

-- a state that an act doesn't allow isn't that of its batch
pub state_apart : (entries : List Entry) (allowed : List BatchState) (name batch : Name)
    (state : BatchState) → rules.batch_state allowed entries name ≡ None
    → state_of entries batch ≡ Some state → list_any (same_state state) allowed ≡ false
    → same_name name batch ≡ false
state_apart entries allowed name batch state free is others =
    apart (λ n. is_some (rules.batch_state allowed entries n)) name batch
    (none_is_not_some (rules.batch_state allowed entries name) free)
    (ap (λ o. is_some (option_and_then
    (λ (s : BatchState). refused_if (not (list_any (same_state s) allowed)) (why.BatchState s))
    o)) is
    ∙ ap (λ b. is_some (refused_if (not b) (why.BatchState state))) others)

-- a closed batch isn't moved to another state
pub closed_is_last : (entries : List Entry) (act : Act) (batch : Name) → IsAllowed entries act
    → state_of entries batch ≡ Some Closed → moves_state batch act ≡ false
closed_is_last entries (EndRun name) batch h closed =
    state_apart entries (Running ∷ []) name batch Closed
    (end_run_tells entries name h).state closed refl
closed_is_last entries (Draw name mode word) batch h closed =
    state_apart entries (Ended ∷ []) name batch Closed
    (draw_tells entries name mode word h).state closed refl
closed_is_last entries (Close name) batch h closed =
    state_apart entries (Ended ∷ Drawn ∷ []) name batch Closed
    (close_tells entries name h).state closed refl
closed_is_last entries act batch h closed = refl

-- a closed batch stays closed
pub closed_stays : (entries : List Entry) (entry : Entry) (batch : Name)
    → IsAllowed entries entry.act → is_some (product_of entries batch) ≡ true
    → state_of entries batch ≡ Some Closed → state_of (entries ++ entry ∷ []) batch ≡ Some Closed
closed_stays entries entry batch allowed known closed =
    state_of_stays entries entry batch allowed known
    (closed_is_last entries entry.act batch allowed closed) ∙ closed
