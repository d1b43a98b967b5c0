-- Two acts are the same exactly where they are equal.
use Rattle.std.proofs.Common.{◌≡◌, ℤ, Bool, true, false, ◌&&◌, ◌==◌, int_le, take, refl, sym, ◌∙◌, ap, arith}
use Rattle.std.proofs.lemmas.Bool.{and_parts, and_from, eqb-true, eq-eqb}
use Rattle.std.proofs.lemmas.Bool.Decides.{Decides-int_eq}
use Rattle.std.proofs.lemmas.Cmp.{nat_list_eq_equiv}
use Rattle.std.proofs.lemmas.Int.{ints}
use Rattle.std.proofs.lemmas.Slice.Eq.{bytes_eq-Decides}
use Rattle.std.specs.Cmp.Lexicographic.{same_text}
use Rattle.std.specs.Ordering.{int_eq}
use Rattle.annex_tables.specs.declared.types.Mode.{Mode}
use Rattle.annex_tables.specs.declared.types.Mode.TheVariants.{Keep, Destroy}
use Rattle.annex_tables.specs.contracts.types.ModePartialEq.TheImpl as modes
use Rattle.book_words.specs.declared.name.Name.{Name}
use Rattle.book_words.specs.declared.act.Prior.{Prior}
use Rattle.book_words.specs.declared.act.Prior.TheVariants.{Nothing, Opened, Stayed, Unknown}
use Rattle.book_words.specs.declared.act.Unit as units
use Rattle.book_words.specs.declared.act.Unit.TheVariants.{Mass, Volume}
use Rattle.book_words.specs.declared.act.Act.{Act}
use Rattle.book_words.specs.declared.act.Act.TheVariants.{NewDay, PutProduct, PutTare, OpenBatch, StartLane, Weigh, StopLane, Void, EndRun, Draw, Measure, DrawSecond, Close}
use Rattle.book_words.specs.Names.{bytes_of, same_name}
use Rattle.book_words.specs.Desks.{same_number, same_prior, same_unit, same_mode, same_act}
use Rattle.book_words.specs.contracts.act.ActPartialEq.TheImpl as acts
use Rattle.book_words.specs.contracts.act.PriorPartialEq.TheImpl as priors
use Rattle.book_words.specs.contracts.act.UnitPartialEq.TheImpl as measures
use Rattle.book_words.specs.contracts.name.NamePartialEq.TheImpl as names
use Rattle.book_words.proofs.NameLemmas.{same_name_is}

same_bool : (p q : Bool) → (p ≡ true → q ≡ true) → (q ≡ true → p ≡ true) → p ≡ q
same_bool true q h k = sym (h refl)
same_bool false true h k = k refl
same_bool false false h k = refl

name_itself : (a : Name) → names.ghosts.eq a a ≡ true
name_itself a = and_from _ _ (eq-eqb a.len a.len refl) (nat_list_eq_equiv.refl a.places)

name_eq : (a b : Name) → names.ghosts.eq a b ≡ same_name a b
name_eq a b =
    same_bool (names.ghosts.eq a b) (same_name a b) told
    (λ h. sym (ap (names.ghosts.eq a) (same_name_is a b h)) ∙ name_itself a)
  where
    told : names.ghosts.eq a b ≡ true → same_name a b ≡ true
    told h =
        let parts = and_parts _ _ h in
        let len : a.len ≡ b.len = eqb-true a.len b.len parts.0 in
        let places : a.places ≡ b.places = same_text a.places b.places (sym parts.1) in
        (bytes_eq-Decides (bytes_of a) (bytes_of b)).1
        (ap (λ n. take n a.places) len ∙ ap (take b.len) places)

number_eq : (a b : ℤ) → int_eq a b ≡ same_number a b
number_eq a b = same_bool (int_eq a b) (same_number a b) to from
  where
    to : int_eq a b ≡ true → same_number a b ≡ true
    to h =
        let same : a ≡ b = (Decides-int_eq a b).0 h in
        let least : int_le a b ≡ true = grind (arith, ints) in
        let greatest : int_le b a ≡ true = grind (arith, ints) in
        and_from (int_le a b) (int_le b a) least greatest

    from : same_number a b ≡ true → int_eq a b ≡ true
    from h =
        let parts = and_parts (int_le a b) (int_le b a) h in
        let least : int_le a b ≡ true = parts.0 in
        let greatest : int_le b a ≡ true = parts.1 in
        let same : a ≡ b = grind (arith, ints) in
        (Decides-int_eq a b).1 same

prior_eq : (a b : Prior) → priors.ghosts.eq a b ≡ same_prior a b
prior_eq Nothing Nothing = refl
prior_eq Opened Opened = refl
prior_eq Stayed Stayed = refl
prior_eq Unknown Unknown = refl
prior_eq a b = refl

unit_eq : (a b : units.Unit) → measures.ghosts.eq a b ≡ same_unit a b
unit_eq Mass Mass = refl
unit_eq Volume Volume = refl
unit_eq a b = refl

mode_eq : (a b : Mode) → modes.ghosts.eq a b ≡ same_mode a b
mode_eq Keep Keep = refl
mode_eq Destroy Destroy = refl
mode_eq a b = refl

two : {p q r s : Bool} → p ≡ r → q ≡ s → (p && q) ≡ (r && s)
two {p} {q} {r} {s} h k = ap (λ b. b && q) h ∙ ap (λ b. r && b) k

three : {p q r s t u : Bool} → p ≡ s → q ≡ t → r ≡ u → (p && (q && r)) ≡ ((s && t) && u)
three {p} {q} {r} {s} {t} {u} h k l = two h (two k l) ∙ grouped s
  where
    grouped : (b : Bool) → (b && (t && u)) ≡ ((b && t) && u)
    grouped true = refl
    grouped false = refl

-- what `==` says of two acts is whether they are the same
pub act_eq : (a b : Act) → acts.ghosts.eq a b ≡ same_act a b
act_eq (NewDay a) (NewDay b) = number_eq a b
act_eq (PutProduct a b c) (PutProduct d e f) = three (name_eq a d) (number_eq b e) (unit_eq c f)
act_eq (PutTare a b c) (PutTare d e f) = three (name_eq a d) (number_eq b e) (number_eq c f)
act_eq (OpenBatch a b c) (OpenBatch d e f) = three (name_eq a d) (name_eq b e) refl
act_eq (StartLane a b) (StartLane c d) = two refl (name_eq b d)
act_eq (Weigh a b c) (Weigh d e f) = three refl (number_eq b e) (prior_eq c f)
act_eq (StopLane a b) (StopLane c d) = two refl (prior_eq b d)
act_eq (Void a) (Void b) = refl
act_eq (EndRun a) (EndRun b) = name_eq a b
act_eq (Draw a b c) (Draw d e f) = three (name_eq a d) (mode_eq b e) refl
act_eq (Measure a b c) (Measure d e f) = three refl (number_eq b e) (number_eq c f)
act_eq (DrawSecond a b) (DrawSecond c d) = two (name_eq a c) refl
act_eq (Close a) (Close b) = name_eq a b
act_eq a b = refl

-- ---- so acts that are the same are equal

same_number_is : (a b : ℤ) → same_number a b ≡ true → a ≡ b
same_number_is a b h = (Decides-int_eq a b).0 (number_eq a b ∙ h)

same_prior_is : (a b : Prior) → same_prior a b ≡ true → a ≡ b
same_prior_is Nothing Nothing h = refl
same_prior_is Opened Opened h = refl
same_prior_is Stayed Stayed h = refl
same_prior_is Unknown Unknown h = refl
same_prior_is a b h = absurd (cc)

same_unit_is : (a b : units.Unit) → same_unit a b ≡ true → a ≡ b
same_unit_is Mass Mass h = refl
same_unit_is Volume Volume h = refl
same_unit_is a b h = absurd (cc)

same_mode_is : (a b : Mode) → same_mode a b ≡ true → a ≡ b
same_mode_is Keep Keep h = refl
same_mode_is Destroy Destroy h = refl
same_mode_is a b h = absurd (cc)

two_parts : {A B C : Type 0} (f : A → B → C) {a d : A} {b e : B} (p q : Bool) → (p ≡ true → a ≡ d)
    → (q ≡ true → b ≡ e) → (p && q) ≡ true → f a b ≡ f d e
two_parts f {a} {d} {b} {e} p q first second h =
    let parts = and_parts p q h in ap (λ x. f x b) (first parts.0) ∙ ap (f d) (second parts.1)

three_parts : {A B C D : Type 0} (f : A → B → C → D) {a k : A} {b l : B} {c m : C} (p q r : Bool)
    → (p ≡ true → a ≡ k) → (q ≡ true → b ≡ l) → (r ≡ true → c ≡ m) → (p && q && r) ≡ true
    → f a b c ≡ f k l m
three_parts f {a} {k} {b} {l} {c} {m} p q r first second third h =
    let outer = and_parts (p && q) r h in
    let parts = and_parts p q outer.0 in
    ap (λ x. f x b c) (first parts.0) ∙ ap (λ x. f k x c) (second parts.1) ∙ ap (f k l) (third outer.1)

-- what is false isn't true
no_truth : false ≡ true → ⊥
no_truth h = cc

pub same_act_is : (a b : Act) → same_act a b ≡ true → a ≡ b
same_act_is (NewDay a) (NewDay b) h = ap (λ x. NewDay x) (same_number_is a b h)
same_act_is (PutProduct a b c) (PutProduct d e f) h =
    three_parts (λ x y z. PutProduct x y z) (same_name a d) (same_number b e) (same_unit c f)
    (same_name_is a d) (same_number_is b e) (same_unit_is c f) h
same_act_is (PutTare a b c) (PutTare d e f) h =
    three_parts (λ x y z. PutTare x y z) (same_name a d) (same_number b e) (same_number c f)
    (same_name_is a d) (same_number_is b e) (same_number_is c f) h
same_act_is (OpenBatch a b c) (OpenBatch d e f) h =
    three_parts (λ x y z. OpenBatch x y z) (same_name a d) (same_name b e) (c == f)
    (same_name_is a d) (same_name_is b e) (eqb-true c f) h
same_act_is (StartLane a b) (StartLane c d) h =
    two_parts (λ x y. StartLane x y) (a == c) (same_name b d) (eqb-true a c) (same_name_is b d) h
same_act_is (Weigh a b c) (Weigh d e f) h =
    three_parts (λ x y z. Weigh x y z) (a == d) (same_number b e) (same_prior c f) (eqb-true a d)
    (same_number_is b e) (same_prior_is c f) h
same_act_is (StopLane a b) (StopLane c d) h =
    two_parts (λ x y. StopLane x y) (a == c) (same_prior b d) (eqb-true a c) (same_prior_is b d) h
same_act_is (Void a) (Void b) h = ap (λ x. Void x) (eqb-true a b h)
same_act_is (EndRun a) (EndRun b) h = ap (λ x. EndRun x) (same_name_is a b h)
same_act_is (Draw a b c) (Draw d e f) h =
    three_parts (λ x y z. Draw x y z) (same_name a d) (same_mode b e) (c == f) (same_name_is a d)
    (same_mode_is b e) (eqb-true c f) h
same_act_is (Measure a b c) (Measure d e f) h =
    three_parts (λ x y z. Measure x y z) (a == d) (same_number b e) (same_number c f) (eqb-true a d)
    (same_number_is b e) (same_number_is c f) h
same_act_is (DrawSecond a b) (DrawSecond c d) h =
    two_parts (λ x y. DrawSecond x y) (same_name a c) (b == d) (same_name_is a c) (eqb-true b d) h
same_act_is (Close a) (Close b) h = ap (λ x. Close x) (same_name_is a b h)
same_act_is a b h = absurd (no_truth h)
