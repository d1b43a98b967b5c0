-- Slots that are compared with dense forms, one after the other.
use Rattle.std.proofs.Common.{◌≡◌, ℕ, zero, suc, ◌+◌, List, [], ◌∷◌, ◌++◌, take, drop, refl, sym, ap, subst, ◌∙◌, arith}
use Rattle.book_snapshot.specs.DenseRows.{dense}
use Rattle.book_file.specs.Comparing.{slot_at, forms_of}

take_none : {A : Type 0} (m : ℕ) → take {A = A} m [] ≡ []
take_none zero = refl
take_none (suc m) = refl

-- some bytes and some more
take_plus : (n m : ℕ) (bytes : List ℕ)
    → take (n + m) bytes ≡ take n bytes ++ take m (drop n bytes)
take_plus zero m bytes = let e : 0 + m ≡ m = omega arith in ap (λ k. take k bytes) e
take_plus (suc n) m [] = take_none (suc n + m) ∙ sym (take_none m)
take_plus (suc n) m (byte ∷ bytes) =
    let e : suc n + m ≡ suc (n + m) = omega arith in
    ap (λ k. take k (byte ∷ bytes)) e
    ∙ ap (λ (bs : List ℕ). byte ∷ bs) (take_plus n m bytes)

-- one form more
pub form_more : (place taken slot : ℕ) (content left slots row : List ℕ)
    → take place content ≡ forms_of slot slots → left ≡ drop place content
    → row ≡ slot_at slot slots → take taken left ≡ dense row
    → take (place + taken) content ≡ forms_of (slot + 1) slots
form_more place taken slot content left slots row same rest is one =
    let e : slot + 1 ≡ suc slot = omega arith in
    subst (λ n. take (place + taken) content ≡ forms_of n slots) (sym e)
    (take_plus place taken content
    ∙ ap (λ (bs : List ℕ). bs ++ take taken (drop place content)) same
    ∙ ap (λ (bs : List ℕ). forms_of slot slots ++ bs)
    (ap (take taken) (sym rest) ∙ one ∙ ap dense is))
