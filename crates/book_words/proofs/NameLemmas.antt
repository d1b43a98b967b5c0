-- Names and the bytes that they hold.
use Rattle.std.proofs.Common.{IsTrue, ◌≡◌, ℕ, zero, suc, ◌≤◌, Bool, true, false, ◌==◌, List, [], ◌∷◌, ◌++◌, length, drop, refl, sym, ◌∙◌, ap, arith, nat_le, replicate, ◌-◌, Some, None}
use Rattle.std.proofs.lemmas.Bool.{and_parts, and_from, eqb-true, eq-eqb}
use Rattle.std.proofs.lemmas.Bool.Decides.{nat_tests}
use Rattle.std.proofs.lemmas.Slice.{drop-append-drop}
use Rattle.std.proofs.lemmas.Slice.Eq.{bytes_eq-Decides}
use Rattle.std.proofs.lemmas.List.{length-take-le, length-drop, length-append, length-replicate, take-append-drop}
use Rattle.std.proofs.Math.Seq.{drop-append_seam, take-append_seam}
use Rattle.std.proofs.Props.{props}
use mathlib.Core.HLevel.{is_prop→PathP}
use Rattle.std.specs.List.{list_all}
use Rattle.hall_limits.specs.declared.TheConstants.{NAME_BYTES}
use Rattle.book_words.specs.declared.name.Name.{Name}
use Rattle.book_words.specs.Names.{bytes_of, same_name, places_for, name_with, name_if, name_of}
use Rattle.book_words.specs.NamePlaces.{is_name_length, is_padded}

-- what holds of all holds of those behind a place
all_drop : (test : ℕ → Bool) (n : ℕ) (xs : List ℕ) → list_all test xs ≡ true
    → list_all test (drop n xs) ≡ true
all_drop test zero xs h = h
all_drop test (suc n) [] h = refl
all_drop test (suc n) (x ∷ xs) h = all_drop test n xs (and_parts (test x) (list_all test xs) h).1

-- so many bytes are at most 32
at_most : (count : ℕ) → is_name_length count ≡ true → count ≤ NAME_BYTES
at_most count h = let parts = and_parts (nat_le 1 count) (nat_le count NAME_BYTES) h in
    grind (arith, nat_tests)

-- bytes that are written over zeros leave 0 behind them
pub padded_over : (count : ℕ) (bytes zeros : List ℕ) → length bytes ≡ count
    → is_name_length count ≡ true → list_all (λ byte. byte == 0) zeros ≡ true
    → length zeros ≡ NAME_BYTES → is_padded count (bytes ++ drop count zeros) ≡ true
padded_over count bytes zeros fits short empty whole =
    let rest : drop count (bytes ++ drop count zeros) ≡ drop count zeros =
    drop-append-drop count zeros bytes count (omega arith) fits in
    let most = at_most count short in
    let all : length (bytes ++ drop count zeros) ≡ NAME_BYTES =
    rw (length-append, length-drop, fits, whole) (omega (arith, most)) in
    and_from _ _ (and_from (is_name_length count) _ short (eq-eqb _ _ all))
    (ap (list_all (λ byte. byte == 0)) rest ∙ all_drop (λ byte. byte == 0) count zeros empty)

-- what holds 0 alone is told by its length
zeros_alike : (xs ys : List ℕ) → list_all (λ byte. byte == 0) xs ≡ true
    → list_all (λ byte. byte == 0) ys ≡ true → length xs ≡ length ys → xs ≡ ys
zeros_alike [] [] h k same = refl
zeros_alike [] (y ∷ ys) h k same = absurd (omega (arith, same))
zeros_alike (x ∷ xs) [] h k same = absurd (omega (arith, same))
zeros_alike (x ∷ xs) (y ∷ ys) h k same =
    let first = and_parts (x == 0) (list_all (λ byte. byte == 0) xs) h in
    let second = and_parts (y == 0) (list_all (λ byte. byte == 0) ys) k in
    let heads : x ≡ y = eqb-true x 0 first.0 ∙ sym (eqb-true y 0 second.0) in
    let tails : xs ≡ ys = zeros_alike xs ys first.1 second.1 (omega (arith, same)) in
    rw (heads, tails) refl

-- names that are as long and have the same places are equal
by_places : (a b : Name) → a.len ≡ b.len → a.places ≡ b.places → a ≡ b
by_places a b p q i =
    record {
      len = p i;
      places = q i;
      padded = is_prop→PathP (λ j. IsTrue (is_padded (p j) (q j)))
          (λ j. hlevel props) a.padded b.padded i;
    }

-- a name has as many places as there may be bytes, and no more bytes than places
places_of : (a : Name) → (length a.places ≡ NAME_BYTES) × (a.len ≤ NAME_BYTES)
    × (list_all (λ byte. byte == 0) (drop a.len a.places) ≡ true)
places_of a =
    let outer = and_parts _ (list_all (λ byte. byte == 0) (drop a.len a.places)) a.padded in
    let inner = and_parts (is_name_length a.len) (length a.places == NAME_BYTES) outer.0 in
    (eqb-true _ _ inner.1, at_most a.len inner.0, outer.1)

-- a name has 1 to 32 bytes
length_fits : (name : Name) (bytes : List ℕ) → bytes_of name ≡ bytes
    → is_name_length (length bytes) ≡ true
length_fits name bytes same =
    let places = places_of name in
    let count : length (bytes_of name) ≡ name.len =
    length-take-le name.len name.places (omega (arith, places.0, places.1)) in
    let outer = and_parts _ (list_all (λ byte. byte == 0) (drop name.len name.places)) name.padded in
    let inner = and_parts (is_name_length name.len) (length name.places == NAME_BYTES) outer.0 in
    ap is_name_length (sym (ap length same) ∙ count) ∙ inner.0

true_is_not_false : true ≡ false → ⊥
true_is_not_false h = cc

-- names with the same bytes are equal
pub same_name_is : (a b : Name) → same_name a b ≡ true → a ≡ b
same_name_is a b h =
    let bytes : bytes_of a ≡ bytes_of b = (bytes_eq-Decides (bytes_of a) (bytes_of b)).0 h in
    let first = places_of a in
    let second = places_of b in
    let counted : length (bytes_of a) ≡ a.len =
    length-take-le a.len a.places (omega (arith, first.0, first.1)) in
    let counted_too : length (bytes_of b) ≡ b.len =
    length-take-le b.len b.places (omega (arith, second.0, second.1)) in
    let len : a.len ≡ b.len = sym counted ∙ ap length bytes ∙ counted_too in
    let behind : length (drop a.len a.places) ≡ length (drop b.len b.places) =
    rw (length-drop, length-drop, len, first.0, second.0) refl in
    let zeros : drop a.len a.places ≡ drop b.len b.places = zeros_alike _ _ first.2 second.2 behind in
    by_places a b len (sym (take-append-drop a.len a.places)
    ∙ ap (λ xs. xs ++ drop a.len a.places) bytes ∙ ap (λ xs. bytes_of b ++ xs) zeros
    ∙ take-append-drop b.len b.places)

-- a name is the same as itself
pub same_name_itself : (a : Name) → same_name a a ≡ true
same_name_itself a = (bytes_eq-Decides (bytes_of a) (bytes_of a)).1 refl

-- the bytes of a name that was made of some
bytes_with : (bytes : List ℕ) (padded : IsTrue (is_padded (length bytes) (places_for bytes)))
    → bytes_of (name_with bytes padded) ≡ bytes
bytes_with bytes padded = take-append_seam bytes (replicate (NAME_BYTES - length bytes) 0)

-- so many bytes stand in the places, where they are 1 to 32
padded_places : (bytes : List ℕ) → is_name_length (length bytes) ≡ true
    → is_padded (length bytes) (places_for bytes) ≡ true
padded_places bytes short =
    let count = length bytes in
    let most = at_most count short in
    let all : length (places_for bytes) ≡ NAME_BYTES =
    rw (length-append, length-replicate) (omega (arith, most)) in
    let rest : drop count (places_for bytes) ≡ replicate (NAME_BYTES - count) 0 =
    drop-append_seam bytes (replicate (NAME_BYTES - count) 0) in
    and_from _ _ (and_from (is_name_length count) _ short (eq-eqb _ _ all))
    (ap (list_all (λ byte. byte == 0)) rest ∙ all_zeros (NAME_BYTES - count))
  where
    all_zeros : (n : ℕ) → list_all (λ byte. byte == 0) (replicate n 0) ≡ true
    all_zeros zero = refl
    all_zeros (suc n) = all_zeros n

-- a name is the one of its bytes
pub name_of_bytes : (name : Name) (bytes : List ℕ) → bytes_of name ≡ bytes → Some name ≡ name_of bytes
unfolding name_of
name_of_bytes name bytes same = either (is_padded (length bytes) (places_for bytes)) refl
  where
    either : (test : Bool) (h : is_padded (length bytes) (places_for bytes) ≡ test)
        → Some name ≡ name_if bytes test h
    either true h =
        ap Some (same_name_is name (name_with bytes h)
        ((bytes_eq-Decides _ _).1 (same ∙ sym (bytes_with bytes h))))
    either false h =
        absurd (true_is_not_false (sym (padded_places bytes (length_fits name bytes same)) ∙ h))

-- bytes that aren't 1 to 32 have no name
pub no_name_of : (bytes : List ℕ) → is_name_length (length bytes) ≡ false → None ≡ name_of bytes
unfolding name_of
no_name_of bytes long = either (is_padded (length bytes) (places_for bytes)) refl
  where
    either : (test : Bool) (h : is_padded (length bytes) (places_for bytes) ≡ test)
        → None ≡ name_if bytes test h
    either true h =
        absurd (true_is_not_false (sym
        (and_parts _ _
        (and_parts _ (list_all (λ byte. byte == 0) (drop (length bytes) (places_for bytes))) h).0).0
        ∙ long))
    either false h = refl
