-- The lines of tares: each day of a pack has one, and gives the tare of that day.
use Rattle.std.proofs.Common.{◌≡◌, ℕ, suc, ◌+◌, nat_lt, length, ℤ, int_le, Bool, true, false, not, ◌||◌, cond, List, [], ◌∷◌, map, Some, None, option_map, refl, sym, ◌∙◌, ap, arith}
use Rattle.std.proofs.lemmas.Bool.{and_parts, and_from}
use Rattle.std.proofs.lemmas.Bool.Decides.{Decides-int_eq}
use Rattle.std.proofs.lemmas.Int.{ints}
use Rattle.std.proofs.lemmas.List.Elements.{All-nil, All-cons, All-head, All-tail, All-map, All-weaker}
use Rattle.std.proofs.lemmas.List.Filters.{All-dedup}
use Rattle.std.specs.Ordering.{int_eq}
use Rattle.std.specs.List.{All, dedup, dedup_from, find, list_any, position, position_or_len}
use Rattle.pack_judge.specs.declared.tares.DatedTare.{DatedTare}
use Rattle.book_words.specs.declared.name.Name.{Name}
use Rattle.book_words.specs.declared.act.Entry.{Entry}
use Rattle.book_words.specs.Desks.{same_number}
use Rattle.paper_form.specs.declared.types.Pack as packs
use Rattle.paper_check.specs.Judging.{tare_on}
use Rattle.paper_check.specs.Faults.{has_pack_of, has_tare_of}
use Rattle.batch_paper.specs.Written.{tare_for, days_of}

-- ---- numbers that are the same

pub same_number_is : (a b : ℤ) → same_number a b ≡ true → a ≡ b
same_number_is a b h =
    let parts = and_parts (int_le a b) (int_le b a) h in
    let least : int_le a b ≡ true = parts.0 in
    let greatest : int_le b a ≡ true = parts.1 in grind (arith, ints)

pub same_number_itself : (a : ℤ) → same_number a a ≡ true
same_number_itself a =
    and_from (int_le a a) (int_le a a) (grind (arith, ints)) (grind (arith, ints))

-- ---- what is listed once

or_again : (a b c : Bool) → a ≡ b → (a || c) ≡ (a || (b || c))
or_again true true c h = refl
or_again false false c h = refl
or_again true false c h = absurd (cc)
or_again false true c h = absurd (cc)

any_dedup_from : (test : ℤ → Bool) (last : ℤ) (some : List ℤ)
    → list_any test (dedup_from int_eq last some) ≡ (test last || list_any test some)
any_dedup_from test last [] = refl
any_dedup_from test last (x ∷ some) =
    each (int_eq x last) refl (any_dedup_from test last some) (any_dedup_from test x some)
  where
    each : (b : Bool) → int_eq x last ≡ b
        → list_any test (dedup_from int_eq last some) ≡ (test last || list_any test some)
        → list_any test (dedup_from int_eq x some) ≡ (test x || list_any test some)
        → list_any test (cond b (dedup_from int_eq last some) (last ∷ dedup_from int_eq x some))
        ≡ (test last || (test x || list_any test some))
    each true is same next =
        same
        ∙ or_again (test last) (test x) (list_any test some)
        (ap test (sym ((Decides-int_eq x last).0 is)))
    each false is same next = ap (λ b. test last || b) next

-- what passes a test is kept
pub any_dedup : (test : ℤ → Bool) (some : List ℤ)
    → list_any test (dedup int_eq some) ≡ list_any test some
any_dedup test [] = refl
any_dedup test (x ∷ some) = any_dedup_from test x some

-- ---- a line for each day

any_mapped : {A B : Type 0} (test : B → Bool) (f : A → B) (some : List A)
    → list_any test (map f some) ≡ list_any (λ x. test (f x)) some
any_mapped test f [] = refl
any_mapped test f (x ∷ some) = ap (λ b. test (f x) || b) (any_mapped test f some)

or_left : (a b : Bool) → a ≡ true → (a || b) ≡ true
or_left true b h = refl
or_left false b h = absurd (cc)

or_right : (a b : Bool) → b ≡ true → (a || b) ≡ true
or_right true b h = refl
or_right false b h = h

-- some packs have one of a pack's day
abbrev pub HasOwn : List packs.Pack → packs.Pack → Type 0
HasOwn some pack = list_any (λ (p : packs.Pack). same_number p.day pack.day) some ≡ true

-- each pack is among those of its day
pub each_has_own : (some : List packs.Pack) → All (HasOwn some) some
each_has_own [] = All-nil (HasOwn [])
each_has_own (pack ∷ some) =
    All-cons (HasOwn (pack ∷ some)) pack some
    (or_left (same_number pack.day pack.day)
    (list_any (λ (p : packs.Pack). same_number p.day pack.day) some) (same_number_itself pack.day))
    (All-weaker (HasOwn some) (HasOwn (pack ∷ some)) (λ other own.
    or_right (same_number pack.day other.day)
    (list_any (λ (p : packs.Pack). same_number p.day other.day) some) own) some (each_has_own some))

-- the days of some packs have one of each pack
days_have : (some : List packs.Pack) (day : ℤ)
    → list_any (λ (d : ℤ). same_number d day) (days_of some)
    ≡ list_any (λ (p : packs.Pack). same_number p.day day) some
days_have some day =
    any_dedup (λ (d : ℤ). same_number d day) (map (λ (p : packs.Pack). p.day) some)
    ∙ any_mapped (λ (d : ℤ). same_number d day) (λ (p : packs.Pack). p.day) some

-- the line of a day among some gives the tare of that day
tare_found : (entries : List Entry) (batch : Name) (day : ℤ) (days : List ℤ)
    → list_any (λ (d : ℤ). same_number d day) days ≡ true
    → tare_on (map (tare_for entries batch) days) day ≡ Some ((tare_for entries batch day).tare)
tare_found entries batch day [] h = absurd (cc)
tare_found entries batch day (d ∷ days) h =
    each (same_number d day) refl (tare_found entries batch day days) h
  where
    each : (b : Bool) → same_number d day ≡ b
        → (list_any (λ (e : ℤ). same_number e day) days ≡ true
        → tare_on (map (tare_for entries batch) days) day
        ≡ Some ((tare_for entries batch day).tare))
        → (b || list_any (λ (e : ℤ). same_number e day) days) ≡ true
        → option_map (λ (dated : DatedTare). dated.tare) (cond b (Some (tare_for entries batch d))
        (find (λ (dated : DatedTare). same_number dated.day day)
        (map (tare_for entries batch) days)))
        ≡ Some ((tare_for entries batch day).tare)
    each true is rest k =
        ap (λ (e : ℤ). Some ((tare_for entries batch e).tare)) (same_number_is d day is)
    each false is rest k = rest k

-- lines of tares give a pack the tare of its batch on its day
abbrev pub IsTaredBy : List Entry → Name → List DatedTare → packs.Pack → Type 0
IsTaredBy entries batch tares pack =
    tare_on tares pack.day ≡ Some ((tare_for entries batch pack.day).tare)

-- so the lines of the days of some packs for each pack
pub tares_found : (entries : List Entry) (batch : Name) (some : List packs.Pack)
    → All (IsTaredBy entries batch (map (tare_for entries batch) (days_of some))) some
tares_found entries batch some =
    All-weaker (HasOwn some) (IsTaredBy entries batch (map (tare_for entries batch) (days_of some)))
    (λ pack own. tare_found entries batch pack.day (days_of some)
    (days_have some pack.day ∙ own)) some (each_has_own some)

-- ---- no day is wanting and none is too much

fail_all : {A : Type 0} (test : A → Bool) (some : List A) → All (λ x. test x ≡ false) some
    → position_or_len test some ≡ length some
fail_all test [] all = refl
fail_all test (x ∷ some) all =
    let rest = fail_all test some (All-tail (λ y. test y ≡ false) x some all) in
    let first : test x ≡ false = All-head (λ y. test y ≡ false) x some all in
    ap (λ b. cond (not b) (1 + position_or_len test some) 0) first
    ∙ (let same : 1 + position_or_len test some ≡ suc (length some) = omega (arith, rest) in same)

not_below : (n : ℕ) → nat_lt n n ≡ false
not_below n = grind arith

-- where none passes a test, there is no first one that does
pub none_at : {A : Type 0} (test : A → Bool) (some : List A) → All (λ x. test x ≡ false) some
    → position test some ≡ None
none_at test some all =
    ap (λ n. cond (nat_lt n (length some)) (Some n) None) (fail_all test some all)
    ∙ ap (λ b. cond b (Some (length some)) None) (not_below (length some))

pub no_tare_missing : (entries : List Entry) (batch : Name) (some : List packs.Pack)
    → position
    (λ (pack : packs.Pack). not (has_tare_of (map (tare_for entries batch) (days_of some)) pack))
    some
    ≡ None
no_tare_missing entries batch some =
    none_at (λ (pack : packs.Pack). not
    (has_tare_of (map (tare_for entries batch) (days_of some)) pack)) some
    (All-weaker (HasOwn some)
    (λ (pack : packs.Pack). not (has_tare_of (map (tare_for entries batch) (days_of some)) pack)
    ≡ false)
    (λ pack own. ap not
    (any_mapped (λ (dated : DatedTare). same_number dated.day pack.day) (tare_for entries batch)
    (days_of some) ∙ days_have some pack.day ∙ own)) some (each_has_own some))

pub no_tare_needless : (entries : List Entry) (batch : Name) (some : List packs.Pack)
    → position (λ (dated : DatedTare). not (has_pack_of some dated))
    (map (tare_for entries batch) (days_of some)) ≡ None
no_tare_needless entries batch some =
    none_at (λ (dated : DatedTare). not (has_pack_of some dated))
    (map (tare_for entries batch) (days_of some))
    (All-map (λ (dated : DatedTare). not (has_pack_of some dated) ≡ false) (tare_for entries batch)
    (days_of some)
    (All-dedup int_eq HasPack (map (λ (p : packs.Pack). p.day) some)
    (All-map HasPack (λ (p : packs.Pack). p.day) some
    (All-weaker (HasOwn some) (λ (p : packs.Pack). HasPack p.day) (λ pack own. ap not own) some
    (each_has_own some)))))
  where
    -- a pack has the day
    HasPack : ℤ → Type 0
    HasPack day = not (list_any (λ (p : packs.Pack). same_number p.day day) some) ≡ false
