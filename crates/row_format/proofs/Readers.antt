-- What it means that a reader tells what the bytes of a field spell, and where they go wrong; and
-- that one reader behind another tells it of both fields.
use Rattle.std.proofs.Common.{◌≡◌, ℕ, suc, ◌+◌, ◌<◌, ◌≤◌, List, [], ◌∷◌, ◌++◌, length, get_or, take, drop, Result, Ok, Err, refl, sym, ap, subst, ◌∙◌, arith}
use Rattle.std.proofs.lemmas.List.{take_at, drop_at, take-append-le, length-append, length-take, length-drop, take-append-drop, drop-drop, drop-take, take-take}
use Rattle.row_format.specs.declared.types.RowFault.{RowFault}
use Rattle.row_format.specs.Reading.{◌>>=◌, Reader, behind}

abbrev pub IsBytes : List ℕ → Type 0
IsBytes bytes = (i : ℕ) → get_or bytes i 0 < 256

-- some value's text begins with the first bytes
pub record Begins {B : Type 0} (S : B → List ℕ → Type 0) (count : ℕ) (window : List ℕ) : Type 0 where
  pub value : B
  pub text : List ℕ
  pub is : S value text
  pub same : take count text ≡ take count window

-- the bytes of a field go wrong at this place of all bytes
pub record WrongAt {B : Type 0} (S : B → List ℕ → Type 0) (size : ℕ) (window : List ℕ)
    (place fault : ℕ) : Type 0 where
  pub count : ℕ
  pub behind : fault ≡ place + count
  pub inside : count < size
  pub before : Begins S count window
  pub wrong : Begins S (count + 1) window → ⊥

-- what was read is what the bytes spell, or tells where they go wrong
abbrev pub Tells : {B : Type 0} → (B → List ℕ → Type 0) → ℕ → List ℕ → ℕ → Result B RowFault → Type 0
Tells S size window place (Ok value) = S value window
Tells S size window place (Err fault) = WrongAt S size window place fault.place

-- the texts of a field are of one size, there is one, and none spells two values
pub record IsField {B : Type 0} (size : ℕ) (S : B → List ℕ → Type 0) : Type 0 where
  pub value : B
  pub text : List ℕ
  pub some : S value text
  pub long : (b : B) (w : List ℕ) → S b w → length w ≡ size
  pub one : (a b : B) (w : List ℕ) → S a w → S b w → a ≡ b

pub record IsReader {B : Type 0} (Ends : ℕ → ℕ → Type 0) (size : ℕ) (S : B → List ℕ → Type 0)
    (read : Reader B) : Type 0 where
  pub field : IsField size S
  pub tells : (place : ℕ) (bytes : List ℕ) → Ends (place + size) (length bytes) → IsBytes bytes
      → Tells S size (take size (drop place bytes)) place (read place bytes)

-- a text, and behind it one of those that its value admits
pub record Then {A B : Type 0} (F : A → List ℕ → Type 0) (S : A → B → List ℕ → Type 0) (value : B)
    (text : List ℕ) : Type 0 where
  pub first : A
  pub front : List ℕ
  pub rest : List ℕ
  pub starts : F first front
  pub goes : S first value rest
  pub parts : text ≡ front ++ rest

-- the first bytes of two lists, the first of which is passed over whole
pub take_behind : (count more : ℕ) (front rest : List ℕ) → length front ≡ count
    → take (count + more) (front ++ rest) ≡ front ++ take more rest
take_behind count more [] rest is = let e : count + more ≡ more = omega (arith, is) in rw e refl
take_behind count more (x ∷ front) rest is =
    let e : count + more ≡ suc (length front + more) = omega (arith, is) in
    rw e (ap (λ (xs : List ℕ). x ∷ xs) (take_behind (length front) more front rest refl))

-- fronts of one length before equal lists
pub fronts : (a b c d : List ℕ) → length a ≡ length b → a ++ c ≡ b ++ d → a ≡ b
fronts a b c d long same = sym (take_at a c (length b) long) ∙ ap (take (length b)) same
    ∙ take_at b d (length b) refl

pub rests : (a b c d : List ℕ) → length a ≡ length b → a ++ c ≡ b ++ d → c ≡ d
rests a b c d long same = sym (drop_at a c (length b) long) ∙ ap (drop (length b)) same
    ∙ drop_at b d (length b) refl

module _ {A B : Type 0} (m n : ℕ) (F : A → List ℕ → Type 0) (S : A → B → List ℕ → Type 0)
    (f : IsField m F) (s : (a : A) (u : List ℕ) → F a u → IsField n (S a)) where
  one_value : (a b : B) (w : List ℕ) → Then F S a w → Then F S b w → a ≡ b
  one_value a b w x y =
      let same : x.front ++ x.rest ≡ y.front ++ y.rest = sym x.parts ∙ y.parts in
      let long : length x.front ≡ length y.front = f.long _ _ x.starts ∙ sym (f.long _ _ y.starts) in
      let front : x.front ≡ y.front = fronts x.front y.front x.rest y.rest long same in
      let rest : x.rest ≡ y.rest = rests x.front y.front x.rest y.rest long same in
      let starts : F y.first x.front = subst (F y.first) (sym front) y.starts in
      let first : y.first ≡ x.first = f.one y.first x.first x.front starts x.starts in
      let goes : S x.first b x.rest =
      subst (λ (q : A). S q b x.rest) first (subst (S y.first b) (sym rest) y.goes) in
      (s x.first x.front x.starts).one a b x.rest x.goes goes

  pub then_field : IsField (m + n) (Then F S)
  then_field =
      let next = s f.value f.text f.some in
      record {
        value = next.value;
        text = f.text ++ next.text;
        some = record {
          first = f.value;
          front = f.text;
          rest = next.text;
          starts = f.some;
          goes =
              next.some;
          parts = refl;
        };
        long = λ b w x. ap length x.parts ∙ length-append x.front x.rest
            ∙ omega (
              arith,
              f.long x.first x.front x.starts,
              (s x.first x.front x.starts).long b x.rest x.goes,
            );
        one = one_value;
      }

  -- a fault in the first field
  first_wrong : (front rest : List ℕ) (place fault : ℕ) → length front ≡ m
      → WrongAt F m front place fault → WrongAt (Then F S) (m + n) (front ++ rest) place fault
  first_wrong front rest place fault long w =
      let next = s w.before.value w.before.text w.before.is in
      let size = f.long w.before.value w.before.text w.before.is in
      let inside = w.inside in
      record {
        count = w.count;
        behind = w.behind;
        inside = omega arith;
        before = record {
          value = next.value;
          text = w.before.text ++ next.text;
          is = record {
            first = w.before.value;
            front = w.before.text;
            rest = next.text;
            starts =
                w.before.is;
            goes = next.some;
            parts = refl;
          };
          same = take-append-le w.count w.before.text next.text (omega (arith, size))
              ∙ w.before.same ∙ sym (take-append-le w.count front rest (omega arith));
        };
        wrong = λ x.
            let whole = f.long x.is.first x.is.front x.is.starts in
            let same : take (w.count + 1) (x.is.front ++ x.is.rest)
            ≡ take (w.count + 1) (front ++ rest) = ap (take (w.count + 1)) (sym x.is.parts)
            ∙ x.same in
            w.wrong (record {
              value = x.is.first;
              text = x.is.front;
              is = x.is.starts;
              same = sym (take-append-le (w.count + 1) x.is.front x.is.rest (omega (arith, whole)))
                  ∙ same ∙ take-append-le (w.count + 1) front rest (omega arith);
            });
      }

  -- a fault in the field behind a good one
  next_wrong : (a : A) (front rest : List ℕ) (place fault : ℕ) → length front ≡ m → F a front
      → WrongAt (S a) n rest (place + m) fault
      → WrongAt (Then F S) (m + n) (front ++ rest) place fault
  next_wrong a front rest place fault long starts w =
      let inside = w.inside in
      record {
        count = m + w.count;
        behind = w.behind ∙ omega arith;
        inside = omega arith;
        before = record {
          value = w.before.value;
          text = front ++ w.before.text;
          is = record {
            first = a;
            front = front;
            rest = w.before.text;
            starts = starts;
            goes =
                w.before.is;
            parts = refl;
          };
          same = take_behind m w.count front w.before.text long
              ∙ ap (λ (xs : List ℕ). front ++ xs) w.before.same
              ∙ sym (take_behind m w.count front rest long);
        };
        wrong = λ x. w.wrong (behind x.value x.text x.is x.same);
      }
    where
      behind : (b : B) (text : List ℕ) → Then F S b text
          → take (m + w.count + 1) text ≡ take (m + w.count + 1) (front ++ rest)
          → Begins (S a) (w.count + 1) rest
      behind b text x same =
          let more : m + w.count + 1 ≡ m + (w.count + 1) = omega arith in
          let whole : length x.front ≡ m = f.long x.first x.front x.starts in
          let both : x.front ++ take (w.count + 1) x.rest ≡ front ++ take (w.count + 1) rest =
          sym (take_behind m (w.count + 1) x.front x.rest whole)
          ∙ ap (take (m + (w.count + 1))) (sym x.parts) ∙ ap (λ k. take k text) (sym more)
          ∙ same ∙ ap (λ k. take k (front ++ rest)) more
          ∙ take_behind m (w.count + 1) front rest long in
          let alike : length x.front ≡ length front = whole ∙ sym long in
          let fronts_are : x.front ≡ front = fronts x.front front _ _ alike both in
          let first : x.first ≡ a = f.one x.first a front
          (subst (F x.first) fronts_are x.starts) starts in
          record {
            value = b;
            text = x.rest;
            is = subst (λ (q : A). S q b x.rest) first x.goes;
            same = rests x.front front _ _ alike both;
          }

  -- what is told of both fields
  pub both_tell : (front rest : List ℕ) (place : ℕ) (r : Result A RowFault)
      (k : A → Result B RowFault) → length front ≡ m → Tells F m front place r
      → ((a : A) → F a front → Tells (S a) n rest (place + m) (k a))
      → Tells (Then F S) (m + n) (front ++ rest) place (r >>= k)
  both_tell front rest place (Err fault) k long told then =
      first_wrong front rest place fault.place long told
  both_tell front rest place (Ok a) k long told then = either (k a) (then a told)
    where
      either : (q : Result B RowFault) → Tells (S a) n rest (place + m) q
          → Tells (Then F S) (m + n) (front ++ rest) place q
      either (Ok b) goes = record {
        first = a;
        front = front;
        rest = rest;
        starts = told;
        goes =
            goes;
        parts = refl;
      }
      either (Err fault) w = next_wrong a front rest place fault.place long told w

-- the bytes of two fields
pub window_parts : (m n place : ℕ) (bytes : List ℕ)
    → take (m + n) (drop place bytes) ≡ take m (drop place bytes) ++ take n (drop (place + m) bytes)
window_parts m n place bytes =
    let less : m ≤ m + n = omega arith in
    sym (take-append-drop m (take (m + n) (drop place bytes)))
    ∙ rw (
      take-take m (m + n) (drop place bytes),
      drop-take m n (drop place bytes),
      drop-drop m place bytes,
    ) refl

abbrev pub Within : ℕ → ℕ → Type 0
Within end size = end ≤ size

-- one reader, and then the one that its value tells
pub behind_reads : {A B : Type 0} {Ends : ℕ → ℕ → Type 0} {m n : ℕ} {F : A → List ℕ → Type 0}
    {S : A → B → List ℕ → Type 0} {f : Reader A} {k : A → Reader B}
    → ((end size : ℕ) → Ends end size → end ≤ size) → IsReader Within m F f
    → ((a : A) (u : List ℕ) → F a u → IsReader Ends n (S a) (k a))
    → IsReader Ends (m + n) (Then F S) (behind m f k)
behind_reads {A} {B} {Ends} {m} {n} {F} {S} {f} {k} within first next =
    record {
      field = then_field m n F S first.field (λ a u is. (next a u is).field);
      tells = λ place bytes ends are.
          let inside : place + (m + n) ≤ length bytes = within _ _ ends in
          let regrouped : place + (m + n) ≡ place + m + n = omega arith in
          let long : length (take m (drop place bytes)) ≡ m =
          omega (arith, length-take m (drop place bytes), length-drop place bytes) in
          let told = both_tell m n F S first.field (λ a u is. (next a u is).field)
          (take m (drop place bytes)) (take n (drop (place + m) bytes)) place (f place bytes)
          (λ a. k a (place + m) bytes) long (first.tells place bytes (omega arith) are)
          (λ a is. (next a _ is).tells (place + m) bytes
          (subst (λ end. Ends end (length bytes)) regrouped ends) are) in
          subst (λ w. Tells (Then F S) (m + n) w place (behind m f k place bytes))
          (sym (window_parts m n place bytes)) told;
    }

-- texts that are the same by another name
tells_same : {B : Type 0} (S T : B → List ℕ → Type 0) (size place : ℕ) (window : List ℕ)
    (r : Result B RowFault) → ((b : B) (w : List ℕ) → S b w → T b w)
    → ((b : B) (w : List ℕ) → T b w → S b w)
    → Tells S size window place r → Tells T size window place r
tells_same S T size place window (Ok b) to back told = to b window told
tells_same S T size place window (Err fault) to back told =
    record {
      count = told.count;
      behind = told.behind;
      inside = told.inside;
      before = record {
        value = told.before.value;
        text = told.before.text;
        is =
            to _ _ told.before.is;
        same = told.before.same;
      };
      wrong = λ x. told.wrong (record
          { value = x.value; text = x.text; is = back _ _ x.is; same = x.same });
    }

same_sized : {B : Type 0} (Ends : ℕ → ℕ → Type 0) (m : ℕ) (S T : B → List ℕ → Type 0)
    (read : Reader B) → ((b : B) (w : List ℕ) → S b w → T b w)
    → ((b : B) (w : List ℕ) → T b w → S b w)
    → IsReader Ends m S read → IsReader Ends m T read
same_sized Ends m S T read to back reads =
    let field = reads.field in
    record {
      field = record {
        value = field.value;
        text = field.text;
        some = to _ _ field.some;
        long = λ b w x. field.long b w (back b w x);
        one = λ a b w x y. field.one a b w (back a w x) (back b w y);
      };
      tells = λ place bytes ends are. tells_same S T m place (take m (drop place bytes))
          (read place bytes) to back (reads.tells place bytes ends are);
    }

pub same_reader : {B : Type 0} (Ends : ℕ → ℕ → Type 0) (m n : ℕ) (S T : B → List ℕ → Type 0)
    (read : Reader B) → m ≡ n → ((b : B) (w : List ℕ) → S b w → T b w)
    → ((b : B) (w : List ℕ) → T b w → S b w)
    → IsReader Ends m S read → IsReader Ends n T read
same_reader Ends m n S T read size to back reads =
    subst (λ k. IsReader Ends k T read) size (same_sized Ends m S T read to back reads)

-- a value that is told by another
pub record Image {A B : Type 0} (g : A → B) (S : A → List ℕ → Type 0) (value : B)
    (text : List ℕ) : Type 0 where
  pub from : A
  pub spelled : S from text
  pub is : value ≡ g from

image_tells : {A B : Type 0} (g : A → B) (S : A → List ℕ → Type 0) (size place : ℕ)
    (window : List ℕ) (r : Result A RowFault) → Tells S size window place r
    → Tells (Image g S) size window place (r >>= λ a. Ok (g a))
image_tells g S size place window (Ok a) told = record { from = a; spelled = told; is = refl }
image_tells g S size place window (Err fault) told =
    record {
      count = told.count;
      behind = told.behind;
      inside = told.inside;
      before = record {
        value = g told.before.value;
        text = told.before.text;
        is =
            record { from = told.before.value; spelled = told.before.is; is = refl };
        same =
            told.before.same;
      };
      wrong = λ x. told.wrong (record
          { value = x.is.from; text = x.text; is = x.is.spelled; same = x.same });
    }

pub image_reads : {A B : Type 0} (Ends : ℕ → ℕ → Type 0) (g : A → B) (size : ℕ)
    (S : A → List ℕ → Type 0) (read : Reader A) → IsReader Ends size S read
    → IsReader Ends size (Image g S) (λ place bytes. read place bytes >>= λ a. Ok (g a))
image_reads Ends g size S read reads =
    let field = reads.field in
    record {
      field = record {
        value = g field.value;
        text = field.text;
        some = record { from = field.value; spelled = field.some; is = refl };
        long = λ b w x. field.long x.from w x.spelled;
        one = λ a b w x y. x.is ∙ ap g (field.one x.from y.from w x.spelled y.spelled) ∙ sym y.is;
      };
      tells = λ place bytes ends are. image_tells g S size place (take size (drop place bytes))
          (read place bytes) (reads.tells place bytes ends are);
    }
