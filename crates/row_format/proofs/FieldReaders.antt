-- What the readers of single fields tell.
use Rattle.std.proofs.Common.{◌≡◌, ℕ, suc, ◌+◌, ◌-◌, ◌%◌, ◌^◌, ◌<◌, ◌≤◌, Bool, true, false, cond, eqb, List, [], ◌∷◌, length, take, drop, replicate, Option, Some, None, Result, Ok, Err, inl, inr, Decides, refl, sym, ap, subst, ◌∙◌, arith}
use Rattle.std.specs.Prelude.{⊤, slice_range, slice_index}
use Rattle.std.specs.Int.{w16, w32, w64, from_le_bytes}
use Rattle.std.proofs.Math.Nat.{mod-eq_of_lt}
use Rattle.std.proofs.lemmas.Nat.{le_bytes_2, le_bytes_4, le_bytes_8}
use Rattle.std.proofs.lemmas.Bool.{eqb-true, eq-eqb, cases_lt}
use Rattle.std.proofs.lemmas.List.{drop_more, get_or-take, get_or-drop, get_or_past, length-take, length-drop, length-replicate}
use Rattle.row_format.specs.declared.types.RowFault.{RowFault}
use Rattle.row_format.specs.declared.fields.Numbers.{Numbers}
use Rattle.row_format.specs.Reading.{has_number, wrong_from, number_in, byte_in, bounded_four, bounded_eight, two_at, four_at, eight_at, coded, known, code_at, zeros_in, zeros_at, faulty}
use Rattle.row_format.proofs.LowBytes.{low, modulus, length-low, take-low, low_same, same_low, written_low}
use Rattle.row_format.proofs.FirstWrong.{IsOneOf, Agrees, IsFirstWrong, has_decides, wrong_is}
use Rattle.row_format.proofs.Readers.{IsBytes, WrongAt, Tells, IsField, IsReader, Within}

-- ---- the bytes of a field

IsBytes-drop : (n : ℕ) (bytes : List ℕ) → IsBytes bytes → IsBytes (drop n bytes)
IsBytes-drop n bytes h i = rw get_or-drop (h (n + i))

IsBytes-take : (n : ℕ) (bytes : List ℕ) → IsBytes bytes → IsBytes (take n bytes)
IsBytes-take n bytes h i =
    elim (cases_lt i n) [
      | inl lt ↦ rw (get_or-take n bytes i 0 lt) (h i)
      | inr le ↦ rw (get_or_past (take n bytes) i 0 (omega (arith, length-take n bytes))) (omega arith)
    ]

pub window_bytes : (size place : ℕ) (bytes : List ℕ) → IsBytes bytes
    → IsBytes (take size (drop place bytes))
window_bytes size place bytes are = IsBytes-take size (drop place bytes) (IsBytes-drop place bytes are)

pub length-window : (size place : ℕ) (bytes : List ℕ) → place + size ≤ length bytes
    → length (take size (drop place bytes)) ≡ size
length-window size place bytes inside =
    omega (arith, length-take size (drop place bytes), length-drop place bytes)

pub slice_window : (size place : ℕ) (bytes : List ℕ)
    → slice_range bytes place (place + size) ≡ take size (drop place bytes)
slice_window size place bytes = let e : place + size - place ≡ size = omega arith in
    ap (λ k. take k (drop place bytes)) e

pub one_byte : (place : ℕ) (bytes : List ℕ) → place + 1 ≤ length bytes
    → take 1 (drop place bytes) ≡ slice_index bytes place ∷ []
one_byte place bytes inside = ap (take 1) (drop_more bytes place 0 (omega arith))

-- ---- numbers of a range

abbrev pub NumberField : Numbers → ℕ → ℕ → List ℕ → Type 0
NumberField numbers size number text = IsOneOf numbers number × (text ≡ low size number)

-- the numbers of a range have so many bytes, and there is one
pub record HasSize (numbers : Numbers) (size : ℕ) : Type 0 where
  pub positive : 1 ≤ size
  pub below : (number : ℕ) → IsOneOf numbers number → number < modulus size
  pub example : ℕ
  pub is : IsOneOf numbers example

same_number : (size a b : ℕ) → a < modulus size → b < modulus size → low size a ≡ low size b → a ≡ b
same_number size a b p q same = sym (mod-eq_of_lt p) ∙ same_low size a b same ∙ mod-eq_of_lt q

number_field : (numbers : Numbers) (size : ℕ) → HasSize numbers size
    → IsField size (NumberField numbers size)
number_field numbers size fits =
    record {
      value = fits.example;
      text = low size fits.example;
      some = (fits.is, refl);
      long = λ b w x. ap length x.1 ∙ length-low size b;
      one = λ a b w x y. same_number size a b (fits.below a x.0) (fits.below b y.0) (sym x.1 ∙ y.1);
    }

false_is_not_true : false ≡ true → ⊥
false_is_not_true h = cc

number_tells : (numbers : Numbers) (size number place : ℕ) (window : List ℕ) → HasSize numbers size
    → number < modulus size → window ≡ low size number
    → Tells (NumberField numbers size) size window place (number_in numbers size place number)
number_tells numbers size number place window fits below is =
    either (has_number numbers number) (has_decides numbers number)
  where
    here : Agrees numbers number 0
    here = record {
      one = fits.example;
      is = fits.is;
      same = let e : fits.example % 1 ≡ number % 1 =
          omega arith in e;
    }

    wrong_end : (IsOneOf numbers number → ⊥) → Agrees numbers number (size - 1 + 1) → ⊥
    wrong_end other agrees =
        let whole : size - 1 + 1 ≡ size = omega (arith, fits.positive) in
        let same : agrees.one % modulus size ≡ number % modulus size =
        subst (λ k. agrees.one % modulus k ≡ number % modulus k) whole agrees.same in
        let equal : agrees.one ≡ number = sym (mod-eq_of_lt (fits.below agrees.one agrees.is))
        ∙ same ∙ mod-eq_of_lt below in
        other (subst (IsOneOf numbers) equal agrees.is)

    fault : (found : ℕ) → IsFirstWrong numbers number (size - 1) found
        → WrongAt (NumberField numbers size) size window place (place + found)
    fault found w =
        let inside : found < size = omega (arith, w.within, fits.positive) in
        record {
          count = found;
          behind = refl;
          inside = inside;
          before = record {
            value = w.before.one;
            text = low size w.before.one;
            is = (w.before.is, refl);
            same = take-low found size w.before.one (omega arith)
                ∙ low_same found w.before.one number w.before.same
                ∙ sym (take-low found size number (omega arith)) ∙ ap (take found) (sym is);
          };
          wrong = λ x. w.wrong (record {
            one = x.value;
            is = x.is.0;
            same = same_low (found + 1) x.value number
                (sym (take-low (found + 1) size x.value (omega arith))
                ∙ ap (take (found + 1)) (sym x.is.1) ∙ x.same ∙ ap (take (found + 1)) is
                ∙ take-low (found + 1) size number (omega arith));
          });
        }

    either : (has : Bool) → Decides has (IsOneOf numbers number)
        → Tells (NumberField numbers size) size window place
        (cond has (Ok number) (faulty (place + wrong_from numbers number 1 0 (size - 1))))
    either true decides = (decides.0 refl, is)
    either false decides = fault (wrong_from numbers number 1 0 (size - 1))
        (wrong_is numbers number 0 (size - 1) (size - 1) (omega arith) here
        (wrong_end (λ one. false_is_not_true (decides.1 one))))

-- what std reads from so many bytes
record Reads (size number : ℕ) (window : List ℕ) : Type 0 where
  pub below : number < modulus size
  pub is : window ≡ low size number

read_byte : (place : ℕ) (bytes : List ℕ) → place + 1 ≤ length bytes → IsBytes bytes
    → Reads 1 (slice_index bytes place) (take 1 (drop place bytes))
read_byte place bytes inside are =
    let small = are place in
    let same : slice_index bytes place ≡ slice_index bytes place % 256 = omega arith in
    record { below = small; is = one_byte place bytes inside ∙ ap (λ (x : ℕ). x ∷ []) same }

read_two : (place : ℕ) (bytes : List ℕ) → place + 2 ≤ length bytes → IsBytes bytes
    → Reads 2 (from_le_bytes w16 (slice_range bytes place (place + 2))) (take 2 (drop place bytes))
read_two place bytes inside are =
    let window = take 2 (drop place bytes) in
    let fits : IsBytes window = window_bytes 2 place bytes are in
    let below : from_le_bytes w16 window < 2 ^ 16 = omega (arith, fits 0, fits 1) in
    subst (λ w. Reads 2 (from_le_bytes w16 w) window) (sym (slice_window 2 place bytes))
    (record {
      below = below;
      is = sym
          (le_bytes_2 window _ (length-window 2 place bytes inside) fits refl) ∙ written_low 2 _;
    })

read_four : (place : ℕ) (bytes : List ℕ) → place + 4 ≤ length bytes → IsBytes bytes
    → Reads 4 (from_le_bytes w32 (slice_range bytes place (place + 4))) (take 4 (drop place bytes))
read_four place bytes inside are =
    let window = take 4 (drop place bytes) in
    let fits : IsBytes window = window_bytes 4 place bytes are in
    let below : from_le_bytes w32 window < 2 ^ 32 = omega (arith, fits 0, fits 1, fits 2, fits 3) in
    subst (λ w. Reads 4 (from_le_bytes w32 w) window) (sym (slice_window 4 place bytes))
    (record {
      below = below;
      is = sym
          (le_bytes_4 window _ (length-window 4 place bytes inside) fits refl) ∙ written_low 4 _;
    })

read_eight : (place : ℕ) (bytes : List ℕ) → place + 8 ≤ length bytes → IsBytes bytes
    → Reads 8 (from_le_bytes w64 (slice_range bytes place (place + 8))) (take 8 (drop place bytes))
read_eight place bytes inside are =
    let window = take 8 (drop place bytes) in
    let fits : IsBytes window = window_bytes 8 place bytes are in
    let below : from_le_bytes w64 window < 2 ^ 64 =
    omega (arith, fits 0, fits 1, fits 2, fits 3, fits 4, fits 5, fits 6, fits 7) in
    subst (λ w. Reads 8 (from_le_bytes w64 w) window) (sym (slice_window 8 place bytes))
    (record {
      below = below;
      is = sym
          (le_bytes_8 window _ (length-window 8 place bytes inside) fits refl) ∙ written_low 8 _;
    })

pub byte_reads : (numbers : Numbers) → HasSize numbers 1
    → IsReader Within 1 (NumberField numbers 1) (byte_in numbers)
byte_reads numbers fits =
    record {
      field = number_field numbers 1 fits;
      tells = λ place bytes inside are. let r = read_byte place bytes inside are in
          number_tells numbers 1 _ place _ fits r.below r.is;
    }

pub four_reads : (numbers : Numbers) → HasSize numbers 4
    → IsReader Within 4 (NumberField numbers 4) (bounded_four numbers)
four_reads numbers fits =
    record {
      field = number_field numbers 4 fits;
      tells = λ place bytes inside are. let r = read_four place bytes inside are in
          number_tells numbers 4 _ place _ fits r.below r.is;
    }

pub eight_reads : (numbers : Numbers) → HasSize numbers 8
    → IsReader Within 8 (NumberField numbers 8) (bounded_eight numbers)
eight_reads numbers fits =
    record {
      field = number_field numbers 8 fits;
      tells = λ place bytes inside are. let r = read_eight place bytes inside are in
          number_tells numbers 8 _ place _ fits r.below r.is;
    }

-- ---- numbers of so many bytes, whatever they are

pub record AnyField (size number : ℕ) (text : List ℕ) : Type 0 where
  pub below : number < modulus size
  pub is : text ≡ low size number

any_field : (size : ℕ) → 0 < modulus size → IsField size (AnyField size)
any_field size positive =
    record {
      value = 0;
      text = low size 0;
      some = record { below = positive; is = refl };
      long = λ b w x. ap length x.is ∙ length-low size b;
      one = λ a b w x y. same_number size a b x.below y.below (sym x.is ∙ y.is);
    }

pub any_two : IsReader Within 2 (AnyField 2) two_at
any_two = record {
  field = any_field 2 (omega arith);
  tells = λ place bytes inside are. let r =
      read_two place bytes inside are in record { below = r.below; is = r.is };
}

pub any_four : IsReader Within 4 (AnyField 4) four_at
any_four = record {
  field = any_field 4 (omega arith);
  tells = λ place bytes inside are. let r =
      read_four place bytes inside are in record { below = r.below; is = r.is };
}

pub any_eight : IsReader Within 8 (AnyField 8) eight_at
any_eight = record {
  field = any_field 8 (omega arith);
  tells = λ place bytes inside are. let r =
      read_eight place bytes inside are in record { below = r.below; is = r.is };
}

-- ---- codes

abbrev pub CodeField : {A : Type 0} → (A → ℕ) → A → List ℕ → Type 0
CodeField code value text = text ≡ code value ∷ []

some_is : {A : Type 0} (a b : A) → Some a ≡ Some b → a ≡ b
some_is a b h = cc

coded_is : {A : Type 0} (code : A → ℕ) (all : List A) (number : ℕ) (value : A)
    → coded code all number ≡ Some value → number ≡ code value
coded_is code [] number value h = absurd cc
coded_is code (x ∷ others) number value h =
    either (eqb number (code x)) (eqb-true number (code x)) (coded_is code others number value) h
  where
    either : (same : Bool) → (same ≡ true → number ≡ code x)
        → (coded code others number ≡ Some value → number ≡ code value)
        → cond same (Some x) (coded code others number) ≡ Some value → number ≡ code value
    either true is later h = is refl ∙ ap code (some_is x value h)
    either false is later h = later h

module _ {A : Type 0} (code : A → ℕ) (all : List A)
    (complete : (a : A) → coded code all (code a) ≡ Some a) where
  same_code : (a b : A) → code a ≡ code b → a ≡ b
  same_code a b h = some_is a b (sym (complete a) ∙ ap (coded code all) h ∙ complete b)

  first_is : (x y : ℕ) → x ∷ [] ≡ y ∷ [] → x ≡ y
  first_is x y h = cc

  code_tells : (example : A) (place number : ℕ) (found : Option A) → coded code all number ≡ found
      → Tells (CodeField code) 1 (number ∷ []) place (known place found)
  code_tells example place number (Some value) is =
      ap (λ (x : ℕ). x ∷ []) (coded_is code all number value is)
  code_tells example place number None is =
      record {
        count = 0;
        behind = omega arith;
        inside = omega arith;
        before = record { value = example; text = code example ∷ []; is = refl; same = refl };
        wrong = λ x. other x.value (first_is (code x.value) number (ap (take 1) (sym x.is) ∙ x.same));
      }
    where
      other : (value : A) → code value ≡ number → ⊥
      other value same = let found : None ≡ Some value = sym is ∙ ap (coded code all) (sym same)
          ∙ complete value in absurd cc

  pub code_reads : A → IsReader Within 1 (CodeField code) (code_at code all)
  code_reads example =
      record {
        field = record {
          value = example;
          text = code example ∷ [];
          some = refl;
          long = λ b w x. ap length x;
          one = λ a b w x y. same_code a b (first_is (code a) (code b) (sym x ∙ y));
        };
        tells = λ place bytes inside are. subst
            (λ w. Tells (CodeField code) 1 w place (code_at code all place bytes))
            (sym (one_byte place bytes inside))
            (code_tells example place (slice_index bytes place)
            (coded code all (slice_index bytes place)) refl);
      }

-- ---- zeros

abbrev pub ZeroField : ℕ → ⊤ → List ℕ → Type 0
ZeroField size value text = text ≡ replicate size 0

zeros_tell : (place : ℕ) (window : List ℕ)
    → Tells (ZeroField (length window)) (length window) window place (zeros_in place window)
unfolding zeros_in
zeros_tell place [] = refl
zeros_tell place (byte ∷ window) =
    either (eqb byte 0) (eqb-true byte 0) (eq-eqb byte 0) (zeros_in (place + 1) window)
    (zeros_tell (place + 1) window)
  where
    further : (r : Result ⊤ RowFault) → byte ≡ 0
        → Tells (ZeroField (length window)) (length window) window (place + 1) r
        → Tells (ZeroField (suc (length window))) (suc (length window)) (byte ∷ window) place r
    further (Ok value) is told = ap (λ (x : ℕ). x ∷ window) is ∙ ap (λ (xs : List ℕ). 0 ∷ xs) told
    further (Err fault) is told =
        record {
          count = suc told.count;
          behind = told.behind ∙ omega arith;
          inside = omega (arith, told.inside);
          before = record {
            value = tt;
            text = 0 ∷ told.before.text;
            is = ap (λ (xs : List ℕ). 0 ∷ xs) told.before.is;
            same = ap (λ (x : ℕ). x ∷ take told.count told.before.text) (sym is)
                ∙ ap (λ (xs : List ℕ). byte ∷ xs) told.before.same;
          };
          wrong = λ x. told.wrong (record {
            value = tt;
            text = replicate (length window) 0;
            is = refl;
            same =
                behind (ap (take (suc told.count + 1)) (sym x.is) ∙ x.same);
          });
        }
      where
        behind : take (suc told.count + 1) (replicate (suc (length window)) 0)
            ≡ take (suc told.count + 1) (byte ∷ window)
            → take (told.count + 1) (replicate (length window) 0) ≡ take (told.count + 1) window
        behind same =
            let e : suc told.count + 1 ≡ suc (told.count + 1) = omega arith in
            ap (drop 1) (ap (λ k. take k (replicate (suc (length window)) 0)) (sym e) ∙ same
            ∙ ap (λ k. take k (byte ∷ window)) e)

    either : (same : Bool) → (same ≡ true → byte ≡ 0) → (byte ≡ 0 → same ≡ true)
        → (r : Result ⊤ RowFault) → Tells (ZeroField (length window)) (length window) window
        (place + 1) r
        → Tells (ZeroField (suc (length window))) (suc (length window)) (byte ∷ window) place
        (cond same r (faulty place))
    either true is from r told = further r (is refl) told
    either false is from r told =
        record {
          count = 0;
          behind = omega arith;
          inside = omega arith;
          before = record {
            value = tt;
            text = replicate (suc (length window)) 0;
            is = refl;
            same =
                refl;
          };
          wrong = λ x. false_is_not_true (from (sym (first_byte (ap (take 1) (sym x.is) ∙ x.same))));
        }
      where
        first_byte : 0 ∷ [] ≡ byte ∷ [] → 0 ≡ byte
        first_byte h = cc

pub zeros_read : (size : ℕ) → IsReader Within size (ZeroField size) (zeros_at size)
zeros_read size =
    record {
      field = record {
        value = tt;
        text = replicate size 0;
        some = refl;
        long = λ b w x. ap length x ∙ length-replicate size 0;
        one = λ a b w x y. refl;
      };
      tells = λ place bytes inside are.
          let window = take size (drop place bytes) in
          let long : length window ≡ size = length-window size place bytes inside in
          subst (λ w. Tells (ZeroField size) size window place (zeros_in place w))
          (sym (slice_window size place bytes))
          (subst (λ k. Tells (ZeroField k) k window place (zeros_in place window)) long
          (zeros_tell place window));
    }
