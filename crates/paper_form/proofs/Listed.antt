-- Lemmas on lists that grow at their end.
use Rattle.std.proofs.Common.{◌≡◌, ℕ, zero, suc, ◌+◌, ◌-◌, ◌<◌, Bor, Option, option_copied, slice_get, Bool, true, false, List, slice_index, subst, [], ◌∷◌, ◌++◌, length, map, unsigned_abs, ℤ, pos, negsuc, int_le, int_lt, nat_lt, None, refl, sym, ap, ◌∙◌, arith, length-append}
use Rattle.std.specs.Option.{option_map_or}
use Rattle.std.specs.List.{last_or, list_all}
use Rattle.std.specs.List.Sorted.{IsStrictlyIncreasing}
use Rattle.std.proofs.lemmas.Bool.{and_parts, and_from, ltb-true}
use Rattle.annex_tables.specs.declared.TheConstants.{MAX_POPULATION}
use Rattle.hall_limits.specs.declared.TheConstants.{MAX_DAY, MAX_TARE}
use Rattle.book_words.specs.Refusals.{is_within}
use Rattle.pack_judge.specs.declared.tares.DatedTare.{DatedTare}
use Rattle.paper_form.specs.declared.types.Pack as packs
use Rattle.paper_form.specs.Papers.{is_tare_in_range, is_pack_in_range}
use Rattle.paper_form.specs.Form.{is_later, is_greater, is_next}
use Rattle.paper_form.specs.Ranges.{AreTaresListed, ArePacksListed}

-- one more that passes
pub list_all-push : {A : Type 0} (p : A → Bool) (xs : List A) (y : A) → list_all p xs ≡ true
    → p y ≡ true → list_all p (xs ++ y ∷ []) ≡ true
list_all-push p [] y all one = and_from (p y) true one refl
list_all-push p (x ∷ xs) y all one =
    let parts = and_parts (p x) (list_all p xs) all in
    and_from (p x) (list_all p (xs ++ y ∷ [])) parts.0 (list_all-push p xs y parts.1 one)

pub rises_behind : {A : Type 0} (f : A → ℕ) (x z : A) (xs : List A)
    → IsStrictlyIncreasing (map f (x ∷ z ∷ xs)) → IsStrictlyIncreasing (map f (z ∷ xs))
rises_behind f x z xs rises i less =
    let e : suc i + 1 ≡ suc (i + 1) = omega arith in
    subst (λ n. slice_index (map f (z ∷ xs)) i < slice_index (map f (x ∷ z ∷ xs)) n) e
    (rises (suc i) (omega (arith, less)))

-- one more with a greater number than the last
pub rises-push : {A : Type 0} (f : A → ℕ) (xs : List A) (y : A) → IsStrictlyIncreasing (map f xs)
    → option_map_or (λ before. nat_lt (f before) (f y)) (last_or None xs) true ≡ true
    → IsStrictlyIncreasing (map f (xs ++ y ∷ []))
rises-push f [] y rises last k within = absurd (omega (arith, within))
rises-push f (x ∷ []) y rises last zero within = ltb-true (f x) (f y) last
rises-push f (x ∷ []) y rises last (suc k) within = absurd (omega (arith, within))
rises-push f (x ∷ z ∷ xs) y rises last zero within = rises 0 (omega arith)
rises-push f (x ∷ z ∷ xs) y rises last (suc k) within =
    let e : suc k + 1 ≡ suc (k + 1) = omega arith in
    subst (λ n. slice_index (map f (z ∷ xs ++ y ∷ [])) k < slice_index
    (map f (x ∷ z ∷ xs ++ y ∷ [])) n)
    (sym e) (rises-push f (z ∷ xs) y (rises_behind f x z xs rises) last k (omega (arith, within)))

natural_less : (a b : ℤ) → int_le (pos 0) a ≡ true → int_le (pos 0) b ≡ true → int_lt a b ≡ true
    → nat_lt (unsigned_abs a) (unsigned_abs b) ≡ true
natural_less (pos a) (pos b) la lb less = less
natural_less (pos a) (negsuc b) la lb less = let never : false ≡ true = lb in cc
natural_less (negsuc a) b la lb less = let never : false ≡ true = la in cc

day_natural : (dated : DatedTare) → is_tare_in_range dated ≡ true → int_le (pos 0) dated.day ≡ true
day_natural dated range =
    (and_parts _ _
    ((and_parts (is_within (pos 0) MAX_DAY dated.day) (is_within (pos 0) MAX_TARE dated.tare)
    range).0)).0

-- a tare for a later day than the last
later-days : (tares : List DatedTare) (dated : DatedTare) → list_all is_tare_in_range tares ≡ true
    → is_tare_in_range dated ≡ true → is_later tares dated ≡ true
    → option_map_or (λ before. nat_lt (unsigned_abs before.day) (unsigned_abs dated.day))
    (last_or None tares) true ≡ true
later-days [] dated range one later = refl
later-days (x ∷ []) dated range one later = natural_less x.day dated.day
    (day_natural x ((and_parts (is_tare_in_range x) true range).0)) (day_natural dated one) later
later-days (x ∷ z ∷ xs) dated range one later =
    later-days (z ∷ xs) dated
    ((and_parts (is_tare_in_range x) (list_all is_tare_in_range (z ∷ xs)) range).1)
    one later

pub listed-tare : (tares : List DatedTare) (dated : DatedTare) → AreTaresListed tares
    → is_tare_in_range dated ≡ true → is_later tares dated ≡ true
    → AreTaresListed (tares ++ dated ∷ [])
listed-tare tares dated listed one later =
    record {
      range = list_all-push is_tare_in_range tares dated listed.range one;
      ascend = rises-push (λ d. unsigned_abs d.day) tares dated listed.ascend
          (later-days tares dated listed.range one later);
    }

pub listed-pack : (before : List packs.Pack) (pack : packs.Pack) → ArePacksListed before
    → is_pack_in_range pack ≡ true → is_next before pack ≡ true
    → ArePacksListed (before ++ pack ∷ [])
listed-pack before pack listed one next =
    let parts = and_parts (is_greater before pack) (nat_lt (length before) MAX_POPULATION) next in
    let room = ltb-true (length before) MAX_POPULATION parts.1 in
    record {
      range = list_all-push is_pack_in_range before pack listed.range one;
      ascend = rises-push (λ p. p.number) before pack listed.ascend parts.0;
      few = omega (arith, length-append before (pack ∷ []), room);
    }

last_get : {A : Type 0} (xs : List A) → slice_get xs (length xs - 1) ≡ last_or None xs
last_get [] = refl
last_get (x ∷ []) =
    let e : length (x ∷ []) - 1 ≡ 0 = omega arith in ap (slice_get (x ∷ [])) e
last_get (x ∷ z ∷ xs) =
    let e : length (x ∷ z ∷ xs) - 1 ≡ suc (length (z ∷ xs) - 1) = omega arith in
    ap (slice_get (x ∷ z ∷ xs)) e ∙ last_get (z ∷ xs)

-- what `last` answers
pub last_is : {A : Type 0} (xs : List A) (r : Option (Bor A))
    → option_copied r ≡ slice_get xs (length xs - 1) → last_or None xs ≡ option_copied r
last_is xs r is = sym (last_get xs) ∙ sym is
