-- Things that the acts of a list say, two at a time.
use Rattle.std.proofs.Common.{◌≡◌, ◌==◌, Bool, true, false, cond, ℕ, List, [], ◌∷◌, Option, Some, None, is_some, refl, sym, subst, ap}
use Rattle.std.specs.List.{last_or}
use Rattle.std.specs.Option.{option_or, option_flatten}
use Rattle.book_words.specs.declared.name.Name.{Name}
use Rattle.book_words.specs.declared.act.BatchState.TheVariants.{Running}
use Rattle.book_words.specs.declared.act.Act.{Act}
use Rattle.book_words.specs.declared.act.Act.TheVariants.{PutProduct, OpenBatch, StartLane, StopLane}
use Rattle.book_words.specs.declared.act.Entry.{Entry}
use Rattle.book_words.specs.Names.{same_name}
use Rattle.book_words.specs.Acts.{said, last_said, nominal_put, unit_put, nominal_of, unit_of, product_given, product_of, density_given, density_of, state_set, state_of, lane_used, batch_started, lane_batch, last_batch}
use Rattle.book_words.proofs.LastSaid.{last_or-cons}

-- what each act keeps of two things is so of what a list says of them
module _ {A B : Type 0} (Goes : Option A → Option B → Type 0) (f : Act → Option A) (g : Act → Option B)
    (each : (act : Act) (o : Option A) (p : Option B) → Goes o p
    → Goes (option_or (f act) o) (option_or (g act) p)) where
  goes_behind : (entries : List Entry) (o : Option A) (p : Option B) → Goes o p
      → Goes (last_or o (said f entries)) (last_or p (said g entries))
  goes_behind [] o p so = so
  goes_behind (e ∷ es) o p so =
      subst (λ (x : Option A). Goes x (last_or p (said g (e ∷ es))))
      (sym (last_or-cons o (f e.act) (said f es)))
      (subst (λ (y : Option B). Goes (last_or (option_or (f e.act) o) (said f es)) y)
      (sym (last_or-cons p (g e.act) (said g es)))
      (goes_behind es (option_or (f e.act) o) (option_or (g e.act) p) (each e.act o p so)))

  pub goes_together : (entries : List Entry) → Goes None None
      → Goes (last_said f entries) (last_said g entries)
  goes_together entries so = goes_behind entries None None so

-- the second is there where the first is
abbrev Follows : {A B : Type 0} → Option A → Option B → Type 0
Follows o p = is_some o ≡ true → is_some p ≡ true

-- where each act that says one thing says another too, the other is there where the one is
pub said_too : {A B : Type 0} (f : Act → Option A) (g : Act → Option B)
    → ((act : Act) → Follows (f act) (g act)) → (entries : List Entry)
    → Follows (last_said f entries) (last_said g entries)
said_too {A} {B} f g each entries =
    goes_together Follows f g (λ act o p. joined (f act) (g act) o p (each act)) entries (λ h. h)
  where
    joined : (a : Option A) (b : Option B) (o : Option A) (p : Option B) → Follows a b → Follows o p
        → Follows (option_or a o) (option_or b p)
    joined a (Some y) o p k before t = refl
    joined None None o p k before t = before t
    joined (Some x) None o p k before t = absurd (let wrong : is_some {T = B} None ≡ true = k refl in cc)

one_test : {A B : Type 0} (test : Bool) (x : A) (y : B) → is_some (cond test (Some x) None) ≡ true
    → is_some (cond test (Some y) None) ≡ true
one_test true x y h = refl
one_test false x y h = h

-- a product with a nominal quantity has a unit
pub unit_known : (entries : List Entry) (product : Name)
    → is_some (nominal_of entries product) ≡ true → is_some (unit_of entries product) ≡ true
unit_known entries product h = said_too (nominal_put product) (unit_put product) each entries h
  where
    each : (act : Act) → is_some (nominal_put product act) ≡ true → is_some (unit_put product act) ≡ true
    each (PutProduct name nominal unit) k = one_test (same_name name product) nominal unit k
    each act k = k

-- a batch with a product has a density
pub density_known : (entries : List Entry) (batch : Name)
    → is_some (product_of entries batch) ≡ true → is_some (density_of entries batch) ≡ true
density_known entries batch h = said_too (product_given batch) (density_given batch) each entries h
  where
    each : (act : Act) → is_some (product_given batch act) ≡ true
        → is_some (density_given batch act) ≡ true
    each (OpenBatch name product density) k = one_test (same_name name batch) product density k
    each act k = k

-- a batch with a product has a state
pub state_known : (entries : List Entry) (batch : Name) → is_some (product_of entries batch) ≡ true
    → is_some (state_of entries batch) ≡ true
state_known entries batch h = said_too (product_given batch) (state_set batch) each entries h
  where
    each : (act : Act) → is_some (product_given batch act) ≡ true → is_some (state_set batch act) ≡ true
    each (OpenBatch name product density) k = one_test (same_name name batch) product Running k
    each act k = absurd (cc)

-- the batch that a lane has is the one for which it was started last
abbrev IsStartedFor : Option (Option Name) → Option Name → Type 0
IsStartedFor has started = (batch : Name) → option_flatten has ≡ Some batch → started ≡ Some batch

-- so of each lane that has one
pub started_for_it : (entries : List Entry) (lane : ℕ) (batch : Name)
    → lane_batch entries lane ≡ Some batch → last_batch entries lane ≡ Some batch
started_for_it entries lane = goes_together IsStartedFor (lane_used lane)
    (batch_started lane) each entries (λ batch h. absurd (cc))
  where
    each : (act : Act) (o : Option (Option Name)) (p : Option Name) → IsStartedFor o p
        → IsStartedFor (option_or (lane_used lane act) o) (option_or (batch_started lane act) p)
    each (StartLane number started) o p before batch = by_test (number == lane)
      where
        by_test : (test : Bool) → option_flatten
            (option_or (cond test (Some (Some started)) None) o) ≡ Some batch
            → option_or (cond test (Some started) None) p ≡ Some batch
        by_test true k = k
        by_test false k = before batch k
    each (StopLane number prior) o p before batch = by_test (number == lane)
      where
        by_test : (test : Bool) → option_flatten (option_or (cond test (Some None) None) o)
            ≡ Some batch → p ≡ Some batch
        by_test true k = absurd (cc)
        by_test false k = before batch k
    each act o p before batch = before batch

-- so a lane that has a batch was started
pub was_started : (entries : List Entry) (lane : ℕ) → is_some (lane_batch entries lane) ≡ true
    → is_some (last_batch entries lane) ≡ true
was_started entries lane h = each (lane_batch entries lane) refl h
  where
    each : (o : Option Name) → lane_batch entries lane ≡ o → is_some o ≡ true
        → is_some (last_batch entries lane) ≡ true
    each None is k = absurd (cc)
    each (Some batch) is k = ap is_some (started_for_it entries lane batch is)
