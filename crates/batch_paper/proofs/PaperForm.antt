-- What a written paper says has its form: names, the row of the closing, and the verdict.
use Rattle.std.proofs.Common.{◌≡◌, suc, ◌+◌, ◌<◌, Bool, true, false, not, ◌||◌, ◌==◌, cond, inl, inr, List, [], ◌∷◌, ◌++◌, length, Some, None, is_some, refl, sym, ◌∙◌, ap, subst, arith}
use Rattle.std.specs.List.{list_any, position_or_len}
use Rattle.std.specs.Option.{option_or}
use Rattle.book_words.specs.declared.name.Name.{Name}
use Rattle.book_words.specs.declared.act.BatchState.TheVariants.{Closed}
use Rattle.book_words.specs.declared.act.Act.{Act}
use Rattle.book_words.specs.declared.act.Act.TheVariants as acts
use Rattle.book_words.specs.declared.act.Entry.{Entry}
use Rattle.book_words.specs.declared.views.Fails.{Fails}
use Rattle.book_words.specs.declared.views.Verdict.TheVariants.{Empty, Released, Withheld}
use Rattle.book_words.specs.Names.{bytes_of, is_name_shape, same_name}
use Rattle.book_words.specs.Acts.{nominal_put, product_given, nominal_of, product_of, state_of, state_set}
use Rattle.book_words.specs.Population.{population}
use Rattle.book_words.specs.Samples.{sample_of}
use Rattle.book_words.specs.Verdicts.{any_fails, fails_of, verdict_by_fails, verdict_of}
use Rattle.book_words.specs.Answers.{IsLawful, IsLegal}
use Rattle.book_words.proofs.AllowedActs.{IsAllowed, allowed, put_product_tells, open_batch_tells}
use Rattle.book_words.proofs.LastSaid.{last_said-push}
use Rattle.book_words.proofs.LegalLemmas.{legal_steps}
use Rattle.book_words.proofs.NameLemmas.{same_name_is, same_name_itself}
use Rattle.book_laws.proofs.BatchLaws.{state_of-push}
use Rattle.paper_form.specs.Papers.{is_verdict_said}
use Rattle.batch_paper.specs.Written.{is_close_of}
use Rattle.batch_paper.proofs.ClosedBatches.{closes_it, some_of_two}

-- ---- names

-- a product of a list has a name of the right shape
abbrev ProductsShaped : List Entry → Type 0
ProductsShaped entries = (product : Name) → is_some (nominal_of entries product) ≡ true
    → is_name_shape (bytes_of product) ≡ true

product_shaped : (entries : List Entry) (act : Act) (product : Name) → IsAllowed entries act
    → ProductsShaped entries
    → is_some (option_or (nominal_put product act) (nominal_of entries product)) ≡ true
    → is_name_shape (bytes_of product) ≡ true
product_shaped entries (acts.PutProduct name nominal unit) product h all there =
    each (same_name name product) refl there
  where
    each : (b : Bool) → same_name name product ≡ b
        → is_some (option_or (cond b (Some nominal) None) (nominal_of entries product)) ≡ true
        → is_name_shape (bytes_of product) ≡ true
    each true is k = subst (λ (n : Name). is_name_shape (bytes_of n) ≡ true)
        (same_name_is name product is) (put_product_tells entries name nominal unit h).shape
    each false is k = all product k
product_shaped entries act product h all there = all product there

pub products_shaped : (entries : List Entry) → IsLegal entries → ProductsShaped entries
products_shaped =
    legal_steps ProductsShaped (λ product there. absurd (cc))
    (λ before entry legal lawful all product there.
    product_shaped before entry.act product (allowed before entry lawful) all
    (sym (ap is_some (last_said-push (nominal_put product) before entry)) ∙ there))

-- so has a batch
abbrev BatchesShaped : List Entry → Type 0
BatchesShaped entries = (batch : Name) → is_some (product_of entries batch) ≡ true
    → is_name_shape (bytes_of batch) ≡ true

batch_shaped : (entries : List Entry) (act : Act) (batch : Name) → IsAllowed entries act
    → BatchesShaped entries
    → is_some (option_or (product_given batch act) (product_of entries batch)) ≡ true
    → is_name_shape (bytes_of batch) ≡ true
batch_shaped entries (acts.OpenBatch name product density) batch h all there =
    each (same_name name batch) refl there
  where
    each : (b : Bool) → same_name name batch ≡ b
        → is_some (option_or (cond b (Some product) None) (product_of entries batch)) ≡ true
        → is_name_shape (bytes_of batch) ≡ true
    each true is k = subst (λ (n : Name). is_name_shape (bytes_of n) ≡ true)
        (same_name_is name batch is) (open_batch_tells entries name product density h).shape
    each false is k = all batch k
batch_shaped entries act batch h all there = all batch there

pub batches_shaped : (entries : List Entry) → IsLegal entries → BatchesShaped entries
batches_shaped =
    legal_steps BatchesShaped (λ batch there. absurd (cc))
    (λ before entry legal lawful all batch there.
    batch_shaped before entry.act batch (allowed before entry lawful) all
    (sym (ap is_some (last_said-push (product_given batch) before entry)) ∙ there))

-- ---- the closing

any_at : {A : Type 0} (test : A → Bool) (some : List A) → list_any test some ≡ true
    → position_or_len test some < length some
any_at test [] h = absurd (cc)
any_at test (x ∷ some) h = each (test x) refl (any_at test some) h
  where
    each : (b : Bool) → test x ≡ b
        → (list_any test some ≡ true → position_or_len test some < length some)
        → (b || list_any test some) ≡ true
        → position_or_len test (x ∷ some) < length (x ∷ some)
    each true is rest k = subst (λ n. n < suc (length some))
        (sym (ap (λ b. cond (not b) (1 + position_or_len test some) 0) is)) (omega arith)
    each false is rest k =
        let later = rest k in
        subst (λ n. n < suc (length some))
        (sym (ap (λ b. cond (not b) (1 + position_or_len test some) 0) is)) (omega (arith, later))

any_append : {A : Type 0} (test : A → Bool) (some : List A) (x : A)
    → list_any test (some ++ x ∷ []) ≡ (list_any test some || test x)
any_append test [] x = each (test x)
  where
    each : (b : Bool) → (b || false) ≡ b
    each true = refl
    each false = refl
any_append test (y ∷ some) x =
    ap (λ b. test y || b) (any_append test some x) ∙ each (test y)
  where
    each : (b : Bool) → (b || (list_any test some || test x))
        ≡ ((b || list_any test some) || test x)
    each true = refl
    each false = refl

-- a closed batch was closed by an entry
abbrev AreClosed : List Entry → Type 0
AreClosed entries = (batch : Name) → state_of entries batch ≡ Some Closed
    → list_any (λ (e : Entry). is_close_of batch e.act) entries ≡ true

closed-push : (entries : List Entry) (entry : Entry) → IsLegal entries → IsLawful entries entry
    → AreClosed entries → AreClosed (entries ++ entry ∷ [])
closed-push entries entry legal lawful all batch closed =
    any_append (λ (e : Entry). is_close_of batch e.act) entries entry
    ∙ elim (some_of_two (state_set batch entry.act) (state_of entries batch) Closed
    (sym (state_of-push entries entry batch) ∙ closed)) [
      | inl now ↦ last (list_any (λ (e : Entry). is_close_of batch e.act) entries)
          (ap (is_close_of batch) (closes_it batch entry.act now) ∙ same_name_itself batch)
      | inr before ↦ ap (λ b. b || is_close_of batch entry.act) (all batch before)
    ]
  where
    last : (b : Bool) → is_close_of batch entry.act ≡ true → (b || is_close_of batch entry.act)
        ≡ true
    last true h = refl
    last false h = h

closed_by : (entries : List Entry) → IsLegal entries → AreClosed entries
closed_by = legal_steps AreClosed (λ batch closed. absurd (cc)) closed-push

-- the closing of a closed batch has a place in the list
pub closing_within : (entries : List Entry) (batch : Name) → IsLegal entries
    → state_of entries batch ≡ Some Closed
    → position_or_len (λ (e : Entry). is_close_of batch e.act) entries < length entries
closing_within entries batch legal closed =
    any_at (λ (e : Entry). is_close_of batch e.act) entries (closed_by entries legal batch closed)

-- ---- the verdict

-- a verdict of the book says what fails where it withholds
pub verdict_said : (entries : List Entry) (batch : Name)
    → is_verdict_said (verdict_of entries batch) ≡ true
verdict_said entries batch = either (length (population entries batch) == 0)
    (fails_of entries batch (population entries batch) (sample_of entries batch))
  where
    by_fails : (fails : Fails) (b : Bool) → any_fails fails ≡ b
        → is_verdict_said (cond b (Withheld fails) Released) ≡ true
    by_fails fails true is = is
    by_fails fails false is = refl

    either : (b : Bool) (fails : Fails)
        → is_verdict_said (cond b Empty (verdict_by_fails fails)) ≡ true
    either true fails = refl
    either false fails = by_fails fails (any_fails fails) refl
