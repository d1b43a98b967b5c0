-- What every legal list says of names: no product or batch is named twice, the product of a batch is
-- a product, a batch has a state just where it has a product, and a lane has a batch that is there.
use Rattle.std.proofs.Common.{◌≡◌, ℕ, Bool, true, false, ◌||◌, ◌==◌, List, [], ◌∷◌, ◌++◌, Option, Some, None, is_some, refl, sym, ◌∙◌, ap, subst, if◌then◌else◌}
use Rattle.std.proofs.lemmas.Bool.{eqb-true}
use Rattle.std.proofs.lemmas.List.Elements.{filter_map-append}
use Rattle.std.specs.Option.{option_or, option_flatten, option_and_then}
use Rattle.book_words.specs.declared.name.Name.{Name}
use Rattle.book_words.specs.declared.act.BatchState as states
use Rattle.book_words.specs.declared.act.BatchState.TheVariants.{Running, Ended, Drawn, Closed}
use Rattle.book_words.specs.declared.act.Act.{Act}
use Rattle.book_words.specs.declared.act.Act.TheVariants.{NewDay, PutProduct, PutTare, OpenBatch, StartLane, Weigh, StopLane, Void, EndRun, Draw, Measure, DrawSecond, Close}
use Rattle.book_words.specs.declared.act.Entry.{Entry}
use Rattle.book_words.specs.Names.{same_name}
use Rattle.book_words.specs.Acts.{said, last_said, batch_opened, product_given, state_set, lane_used, nominal_put, nominal_of, product_of, state_of, lane_batch}
use Rattle.book_words.specs.Order.{place_of, product_named, product_number}
use Rattle.book_words.specs.Answers.{IsLawful, IsLegal}
use Rattle.book_words.proofs.NameLemmas.{same_name_is}
use Rattle.book_words.proofs.LastSaid.{last_said-push}
use Rattle.book_words.proofs.LegalLemmas.{legal_steps}
use Rattle.book_words.proofs.AllowedActs.{IsAllowed, allowed, put_product_tells, open_batch_tells, start_lane_tells, stop_lane_tells, end_run_tells, draw_tells, close_tells}
use Rattle.std.proofs.Math.Bool.{or-true}
use Rattle.std.proofs.lemmas.Option.{none-some, same_Some}
use Rattle.book_index.specs.Listed.{batch_product_number, is_lane}
use Rattle.book_words.proofs.PlainLemmas.{in_both, some_or}
use Rattle.book_words.proofs.PlaceLemmas.{AreApart, apart_more}
use Rattle.book_words.proofs.SaidNames.{nominal_where_put, product_where_opened}

-- what an act that no rule refuses says of names
pub record IsActNamed (entries : List Entry) (act : Act) : Type 0 where
  pub new_product : (name : Name) → product_named act ≡ Some name → nominal_of entries name ≡ None
  pub new_batch : (name : Name) → batch_opened act ≡ Some name → product_of entries name ≡ None
  pub product : (batch product : Name) → product_given batch act ≡ Some product
      → is_some (nominal_of entries product) ≡ true
  pub state : (batch : Name) → is_some (state_set batch act) || is_some (product_of entries batch)
      ≡ is_some (product_given batch act) || is_some (product_of entries batch)
  pub on_lane : (lane : ℕ) (batch : Name) → lane_used lane act ≡ Some (Some batch)
      → is_some (product_of entries batch) ≡ true
  pub off_lanes : (lane : ℕ) → is_lane lane ≡ false → lane_used lane act ≡ None

nothing : (entries : List Entry) (act : Act) → product_named act ≡ None → batch_opened act ≡ None
    → ((batch : Name) → product_given batch act ≡ None)
    → ((batch : Name) → state_set batch act ≡ None) → ((lane : ℕ) → lane_used lane act ≡ None)
    → IsActNamed entries act
nothing entries act no_product no_batch no_given no_state no_lane =
    record {
      new_product = λ name h. absurd (none-some _ (sym no_product ∙ h));
      new_batch = λ name h. absurd (none-some _ (sym no_batch ∙ h));
      product = λ batch product h. absurd (none-some _ (sym (no_given batch) ∙ h));
      state = λ batch. ap (λ o. is_some o || is_some (product_of entries batch)) (no_state batch)
          ∙ sym (ap (λ o. is_some o || is_some (product_of entries batch)) (no_given batch));
      on_lane = λ lane batch h. absurd (none-some _ (sym (no_lane lane) ∙ h));
      off_lanes = λ lane h. no_lane lane;
    }

given : {A : Type 0} (b : Bool) (x : A) → is_some (if b then Some x else None) ≡ b
given true x = refl
given false x = refl

given_is : {A : Type 0} (b : Bool) (x y : A) → (if b then Some x else None) ≡ Some y → (b ≡ true)
    × (x ≡ y)
given_is true x y h = (refl, same_Some _ _ h)
given_is false x y h = absurd (none-some _ h)

-- a batch that is there gets a state
state_of_known : (entries : List Entry) (name batch : Name) (state : states.BatchState)
    → is_some (product_of entries name) ≡ true
    → is_some (if same_name name batch then Some state else None)
    || is_some (product_of entries batch) ≡ false || is_some (product_of entries batch)
state_of_known entries name batch state there = in_both (same_name name batch) same other
  where
    same : same_name name batch ≡ true
        → is_some (if same_name name batch then Some state else None)
        || is_some (product_of entries batch) ≡ is_some (product_of entries batch)
    same h = rw h (sym there ∙ ap (λ n. is_some (product_of entries n)) (same_name_is name batch h))

    other : same_name name batch ≡ false
        → is_some (if same_name name batch then Some state else None)
        || is_some (product_of entries batch) ≡ is_some (product_of entries batch)
    other h = rw h refl

in_state : (entries : List Entry) (act : Act) (name : Name) (state : states.BatchState)
    → is_some (product_of entries name) ≡ true → product_named act ≡ None → batch_opened act ≡ None
    → ((batch : Name) → product_given batch act ≡ None)
    → ((batch : Name) → state_set batch act ≡ (if same_name name batch then Some state else None))
    → ((lane : ℕ) → lane_used lane act ≡ None) → IsActNamed entries act
in_state entries act name state there no_product no_batch no_given sets no_lane =
    record {
      new_product = λ other h. absurd (none-some _ (sym no_product ∙ h));
      new_batch = λ other h. absurd (none-some _ (sym no_batch ∙ h));
      product = λ batch product h. absurd (none-some _ (sym (no_given batch) ∙ h));
      state = λ batch. ap (λ o. is_some o || is_some (product_of entries batch)) (sets batch)
          ∙ state_of_known entries name batch state there
          ∙ sym (ap (λ o. is_some o || is_some (product_of entries batch)) (no_given batch));
      on_lane = λ lane batch h. absurd (none-some _ (sym (no_lane lane) ∙ h));
      off_lanes = λ lane h. no_lane lane;
    }

-- of an act of a lane that is one, nothing is said of what isn't a lane
other_lane : {A : Type 0} (number lane : ℕ) (x : A) → is_lane number ≡ true → is_lane lane ≡ false
    → (if number == lane then Some x else None) ≡ None
other_lane number lane x one off = in_both (number == lane) same other
  where
    same : (number == lane) ≡ true → (if number == lane then Some x else None) ≡ None
    same h = let clash : true ≡ false = sym one ∙ ap is_lane (eqb-true number lane h) ∙ off in
        absurd (cc)

    other : (number == lane) ≡ false → (if number == lane then Some x else None) ≡ None
    other h = rw h refl

pub act_named : (entries : List Entry) (act : Act) → IsAllowed entries act → IsActNamed entries act
act_named entries (PutProduct name nominal unit) h =
    let new = (put_product_tells entries name nominal unit h).new in
    record {
      new_product = λ other k. subst (λ n. nominal_of entries n ≡ None) (same_Some _ _ k) new;
      new_batch = λ other k. absurd (none-some _ k);
      product = λ batch product k. absurd (none-some _ k);
      state = λ batch. refl;
      on_lane = λ lane batch k. absurd (none-some _ k);
      off_lanes = λ lane k. refl;
    }
act_named entries (OpenBatch name product density) h =
    let tells = open_batch_tells entries name product density h in
    let there = tells.known in
    let new = tells.new in
    record {
      new_product = λ other k. absurd (none-some _ k);
      new_batch = λ other k. subst (λ n. product_of entries n ≡ None) (same_Some _ _ k) new;
      product = λ batch other k. subst (λ n. is_some (nominal_of entries n) ≡ true)
          (given_is (same_name name batch) product other k).1 there;
      state = λ batch. ap (λ b. b || is_some (product_of entries batch))
          (given (same_name name batch) Running ∙ sym (given (same_name name batch) product));
      on_lane = λ lane batch k. absurd (none-some _ k);
      off_lanes = λ lane k. refl;
    }
act_named entries (StartLane number name) h =
    let tells = start_lane_tells entries number name h in
    let there = tells.known in
    let one : is_lane number ≡ true = tells.number in
    record {
      new_product = λ other k. absurd (none-some _ k);
      new_batch = λ other k. absurd (none-some _ k);
      product = λ batch product k. absurd (none-some _ k);
      state = λ batch. refl;
      on_lane = λ lane batch k. subst (λ n. is_some (product_of entries n) ≡ true)
          (same_Some _ _ (given_is (number == lane) (Some name) (Some batch) k).1) there;
      off_lanes = λ lane k. other_lane number lane (Some name) one k;
    }
act_named entries (StopLane number prior) h =
    let one : is_lane number ≡ true = (stop_lane_tells entries number prior h).number in
    record {
      new_product = λ other k. absurd (none-some _ k);
      new_batch = λ other k. absurd (none-some _ k);
      product = λ batch product k. absurd (none-some _ k);
      state = λ batch. refl;
      on_lane = λ lane batch k. absurd (none-some _ (given_is (number == lane) None (Some batch) k).1);
      off_lanes = λ lane k. other_lane number lane None one k;
    }
act_named entries (EndRun name) h =
    in_state entries (EndRun name) name Ended (end_run_tells entries name h).known refl refl
    (λ batch. refl) (λ batch. refl) (λ lane. refl)
act_named entries (Draw name mode word) h =
    in_state entries (Draw name mode word) name Drawn
    (draw_tells entries name mode word h).known refl refl (λ batch. refl) (λ batch. refl)
    (λ lane. refl)
act_named entries (Close name) h =
    in_state entries (Close name) name Closed (close_tells entries name h).known refl refl
    (λ batch. refl) (λ batch. refl) (λ lane. refl)
act_named entries (NewDay day) h =
    nothing entries (NewDay day) refl refl (λ batch. refl) (λ batch. refl) (λ lane. refl)
act_named entries (PutTare product day tare) h =
    nothing entries (PutTare product day tare) refl refl (λ batch. refl) (λ batch. refl)
    (λ lane. refl)
act_named entries (Weigh lane gross prior) h =
    nothing entries (Weigh lane gross prior) refl refl (λ batch. refl) (λ batch. refl)
    (λ lane. refl)
act_named entries (Void pack) h =
    nothing entries (Void pack) refl refl (λ batch. refl) (λ batch. refl) (λ lane. refl)
act_named entries (Measure pack gross empty) h =
    nothing entries (Measure pack gross empty) refl refl (λ batch. refl) (λ batch. refl)
    (λ lane. refl)
act_named entries (DrawSecond batch word) h =
    nothing entries (DrawSecond batch word) refl refl (λ batch. refl) (λ batch. refl) (λ lane. refl)

-- the act of a lawful entry
pub lawful_named : (entries : List Entry) (entry : Entry) → IsLawful entries entry
    → IsActNamed entries entry.act
lawful_named entries entry lawful = act_named entries entry.act (allowed entries entry lawful)

-- what every legal list says of names
pub record AreNamed (entries : List Entry) : Type 0 where
  pub products : AreApart (said product_named entries)
  pub batches : AreApart (said batch_opened entries)
  pub product : (batch product : Name) → product_of entries batch ≡ Some product
      → is_some (nominal_of entries product) ≡ true
  pub state : (batch : Name) → is_some (state_of entries batch) ≡ is_some (product_of entries batch)
  pub on_lane : (lane : ℕ) (batch : Name) → lane_batch entries lane ≡ Some batch
      → is_some (product_of entries batch) ≡ true
  pub off_lanes : (lane : ℕ) → is_lane lane ≡ false → lane_batch entries lane ≡ None

-- what is said of a name goes on being said
pub still_said : {A : Type 0} (says : Act → Option A) (entries : List Entry) (entry : Entry)
    → is_some (last_said says entries) ≡ true
    → is_some (last_said says (entries ++ entry ∷ [])) ≡ true
still_said says entries entry h =
    ap is_some (last_said-push says entries entry)
    ∙ some_or (says entry.act) (last_said says entries)
    ∙ ap (λ b. is_some (says entry.act) || b) h ∙ or-true (is_some (says entry.act))

apart_said : (named : Act → Option Name) (entries : List Entry) (entry : Entry)
    → AreApart (said named entries)
    → ((name : Name) → named entry.act ≡ Some name
    → is_some (place_of (said named entries) name) ≡ false)
    → AreApart (said named (entries ++ entry ∷ []))
apart_said named entries entry apart new =
    subst AreApart (sym (filter_map-append (λ (e : Entry). named e.act) entries (entry ∷ [])))
    (apart_more (said named entries) (named entry.act) apart new)

product_more : (entries : List Entry) (entry : Entry) → IsActNamed entries entry.act
    → AreNamed entries → (batch product : Name)
    → product_of (entries ++ entry ∷ []) batch ≡ Some product
    → is_some (nominal_of (entries ++ entry ∷ []) product) ≡ true
product_more entries entry act named batch product h =
    still_said (nominal_put product) entries entry
    (either (product_given batch entry.act) refl
    (sym (last_said-push (product_given batch) entries entry) ∙ h))
  where
    either : (o : Option Name) → product_given batch entry.act ≡ o
        → option_or o (product_of entries batch) ≡ Some product
        → is_some (nominal_of entries product) ≡ true
    either None is k = named.product batch product k
    either (Some other) is k = act.product batch product (is ∙ k)

state_more : (entries : List Entry) (entry : Entry) → IsActNamed entries entry.act
    → AreNamed entries → (batch : Name)
    → is_some (state_of (entries ++ entry ∷ []) batch)
    ≡ is_some (product_of (entries ++ entry ∷ []) batch)
state_more entries entry act named batch =
    ap is_some (last_said-push (state_set batch) entries entry)
    ∙ some_or (state_set batch entry.act) (state_of entries batch)
    ∙ ap (λ b. is_some (state_set batch entry.act) || b) (named.state batch)
    ∙ act.state batch
    ∙ sym (ap is_some (last_said-push (product_given batch) entries entry)
    ∙ some_or (product_given batch entry.act) (product_of entries batch))

on_lane_more : (entries : List Entry) (entry : Entry) → IsActNamed entries entry.act
    → AreNamed entries → (lane : ℕ) (batch : Name)
    → lane_batch (entries ++ entry ∷ []) lane ≡ Some batch
    → is_some (product_of (entries ++ entry ∷ []) batch) ≡ true
on_lane_more entries entry act named lane batch h =
    still_said (product_given batch) entries entry
    (either (lane_used lane entry.act) refl
    (ap option_flatten (sym (last_said-push (lane_used lane) entries entry)) ∙ h))
  where
    either : (o : Option (Option Name)) → lane_used lane entry.act ≡ o
        → option_flatten (option_or o (last_said (lane_used lane) entries)) ≡ Some batch
        → is_some (product_of entries batch) ≡ true
    either None is k = named.on_lane lane batch k
    either (Some None) is k = absurd (none-some _ k)
    either (Some (Some other)) is k = act.on_lane lane batch (is ∙ ap Some k)

off_lanes_more : (entries : List Entry) (entry : Entry) → IsActNamed entries entry.act
    → AreNamed entries → (lane : ℕ) → is_lane lane ≡ false
    → lane_batch (entries ++ entry ∷ []) lane ≡ None
off_lanes_more entries entry act named lane h =
    ap option_flatten (last_said-push (lane_used lane) entries entry)
    ∙ ap (λ o. option_flatten (option_or o (last_said (lane_used lane) entries)))
    (act.off_lanes lane h) ∙ named.off_lanes lane h

-- one more entry that is lawful keeps it so
pub named_more : (entries : List Entry) (entry : Entry) → IsActNamed entries entry.act
    → AreNamed entries → AreNamed (entries ++ entry ∷ [])
named_more entries entry act named =
    record {
      products = apart_said product_named entries entry named.products
          (λ name h. sym (nominal_where_put entries name) ∙ ap is_some (act.new_product name h));
      batches = apart_said batch_opened entries entry named.batches
          (λ name h. sym (product_where_opened entries name) ∙ ap is_some (act.new_batch name h));
      product = product_more entries entry act named;
      state = state_more entries entry act named;
      on_lane = on_lane_more entries entry act named;
      off_lanes = off_lanes_more entries entry act named;
    }

-- every legal list says of names what it should
pub legal_named : (entries : List Entry) → IsLegal entries → AreNamed entries
legal_named =
    legal_steps AreNamed
    (record {
      products = λ place name h. absurd (none-some _ h);
      batches = λ place name h. absurd (none-some _ h);
      product = λ batch product h. absurd (none-some _ h);
      state = λ batch. refl;
      on_lane = λ lane batch h. absurd (none-some _ h);
      off_lanes = λ lane h. refl;
    })
    (λ before entry legal lawful named. named_more before entry (lawful_named before entry lawful) named)

-- of a list whose names are in order, a batch whose product is known has its number
pub product_numbered : (entries : List Entry) → AreNamed entries → (batch : Name)
    → is_some (batch_product_number entries batch) ≡ is_some (product_of entries batch)
product_numbered entries named batch = either (product_of entries batch) refl
  where
    either : (o : Option Name) → product_of entries batch ≡ o
        → is_some (option_and_then (product_number entries) o) ≡ is_some o
    either None h = refl
    either (Some product) h = sym (nominal_where_put entries product) ∙ named.product batch product h
