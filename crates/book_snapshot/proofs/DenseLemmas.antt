-- The dense form of a row tells the row, where its number is known.
use Rattle.std.proofs.Common.{◌≡◌, ◌≢◌, inl, inr, ℕ, suc, ◌+◌, ◌-◌, ◌≤◌, List, [], ◌∷◌, ◌++◌, length, get_or, set, take, drop, replicate, refl, sym, ◌∙◌, ap, arith, length-append, length-drop, length-take, slice_range}
use Rattle.std.specs.Int.{w32, to_le_bytes}
use Rattle.std.proofs.lemmas.List.{take_at, drop_at, length-take-le, take-append-drop, drop_more, drop-drop, length-replicate, replicate-append-replicate, drop-replicate}
use Rattle.std.proofs.lemmas.Slice.{take-put_mid}
use borrow.Rule.Slice.PartMut.{put_mid}
use Rattle.book_snapshot.specs.declared.layout.TheConstants.{ROW_BYTES, OPEN, KIND_PLACE, NUMBER_PLACE, FIELDS_PLACE, LEFT_OUT}
use Rattle.book_snapshot.specs.DenseRows.{IsRowSize, trimmed, short_row, dense, content, HasNumber, IsRow, row_of, ReadsBack}
use Rattle.book_snapshot.specs.Reading.{IsReadAs}
use Rattle.book_snapshot.proofs.EndZeros.{filled_up, trimmed_no_longer, trimmed_kept, trimmed_front, trimmed_last}

-- a row has fields, and no row is longer than those of this version
pub row_long : (size : ℕ) → IsRowSize size → FIELDS_PLACE ≤ size
row_long size (inl is) = omega (arith, is)
row_long size (inr is) = omega (arith, is)

pub row_short : (size : ℕ) → IsRowSize size → size ≤ ROW_BYTES
row_short size (inl is) = omega (arith, is)
row_short size (inr is) = omega (arith, is)

number_size : (n : ℕ) → length (to_le_bytes w32 n) ≡ FIELDS_PLACE - NUMBER_PLACE
number_size n = refl

-- how a row is written: the gate, the kind and the number over zeros, and then the fields
pub number_put : (size number kind : ℕ) → FIELDS_PLACE ≤ size
    → take NUMBER_PLACE (set (set (replicate size 0) 0 OPEN) KIND_PLACE kind)
    ++ to_le_bytes w32 number ++ drop FIELDS_PLACE
    (set (set (replicate size 0) 0 OPEN) KIND_PLACE kind)
    ≡ OPEN ∷ kind ∷ (to_le_bytes w32 number ++ replicate (size - FIELDS_PLACE) 0)
number_put size number kind long =
    let sum : FIELDS_PLACE + (size - FIELDS_PLACE) ≡ size = omega (arith, long) in
    let zeros : replicate size 0 ≡ replicate FIELDS_PLACE 0 ++ replicate (size - FIELDS_PLACE) 0 =
    ap (λ (n : ℕ). replicate n 0) (sym sum)
    ∙ sym (replicate-append-replicate FIELDS_PLACE (size - FIELDS_PLACE) 0) in
    ap (λ (l : List ℕ). take NUMBER_PLACE (set (set l 0 OPEN) KIND_PLACE kind)
    ++ to_le_bytes w32 number ++ drop FIELDS_PLACE (set (set l 0 OPEN) KIND_PLACE kind)) zeros

pub fields_put : (size number : ℕ) (form put fields : List ℕ) → FIELDS_PLACE ≤ size → 1 ≤ length form
    → put ≡ OPEN ∷ get_or form 0 0 ∷ (to_le_bytes w32 number ++ replicate (size - FIELDS_PLACE) 0)
    → fields ≡ drop 1 form
    → put_mid FIELDS_PLACE (FIELDS_PLACE + length form - 1 - FIELDS_PLACE) put fields
    ≡ row_of size number form
fields_put size number form put fields long some put_is fields_are =
    let count : FIELDS_PLACE + length form - 1 - FIELDS_PLACE ≡ length form - 1 = omega (arith, some) in
    let left : size - FIELDS_PLACE - (length form - 1) ≡ size - (FIELDS_PLACE - 1) - length form =
    omega (arith, some) in
    ap (λ (l : List ℕ). put_mid FIELDS_PLACE
    (FIELDS_PLACE + length form - 1 - FIELDS_PLACE) l fields) put_is
    ∙ ap (λ (l : List ℕ). OPEN ∷ get_or form 0 0
    ∷ (to_le_bytes w32 number ++ (l
    ++ drop (FIELDS_PLACE + length form - 1 - FIELDS_PLACE)
    (replicate (size - FIELDS_PLACE) 0)))) fields_are
    ∙ ap (λ (l : List ℕ). OPEN ∷ get_or form 0 0 ∷ (to_le_bytes w32 number ++ (drop 1 form ++ l)))
    (ap (λ (n : ℕ). drop n (replicate (size - FIELDS_PLACE) 0)) count
    ∙ drop-replicate (length form - 1) (size - FIELDS_PLACE) 0
    ∙ ap (λ (n : ℕ). replicate n 0) left)

-- a row that was read has its number
pub row_of_numbered : (size number : ℕ) (form : List ℕ) → 1 ≤ length form
    → length form ≤ size - LEFT_OUT → HasNumber size number (row_of size number form)
row_of_numbered size number form some most = record {
  long = omega (
    arith,
    some,
    most,
    length-append (to_le_bytes w32 number)
        (drop 1 form ++ replicate (size - LEFT_OUT - length form) 0),
    length-append (drop 1 form) (replicate (size - LEFT_OUT - length form) 0),
    length-drop 1 form,
    length-replicate {A = ℕ} (size - LEFT_OUT - length form) 0,
    number_size number,
  );
  gate = refl;
  field = refl;
}

-- and its dense form is the one that was read
pub row_of_short : (size number : ℕ) (form : List ℕ) → 1 ≤ length form
    → get_or form (length form - 1) 0 ≢ 0 → short_row (row_of size number form) ≡ form
row_of_short size number [] some last = absurd (omega (arith, some))
row_of_short size number (x ∷ xs) some last =
    trimmed_front (x ∷ xs) (size - LEFT_OUT - length (x ∷ xs)) some last

-- a row is its gate, its kind, its number and its fields
row_parts : (row : List ℕ) → FIELDS_PLACE ≤ length row
    → row ≡ get_or row 0 0 ∷ get_or row KIND_PLACE 0
    ∷ (slice_range row NUMBER_PLACE FIELDS_PLACE ++ drop FIELDS_PLACE row)
row_parts row long =
    let first : row ≡ get_or row 0 0 ∷ drop 1 row = drop_more row 0 0 (omega (arith, long)) in
    let second : drop 1 row ≡ get_or row KIND_PLACE 0 ∷ drop NUMBER_PLACE row =
    drop_more row 1 0 (omega (arith, long)) in
    let rest : drop NUMBER_PLACE row ≡ slice_range row NUMBER_PLACE FIELDS_PLACE
    ++ drop FIELDS_PLACE row = sym
    (take-append-drop (FIELDS_PLACE - NUMBER_PLACE) (drop NUMBER_PLACE row))
    ∙ ap (λ (l : List ℕ). slice_range row NUMBER_PLACE FIELDS_PLACE ++ l)
    (drop-drop (FIELDS_PLACE - NUMBER_PLACE) NUMBER_PLACE row) in
    first ∙ ap (λ (l : List ℕ). get_or row 0 0 ∷ l)
    (second ∙ ap (λ (l : List ℕ). get_or row KIND_PLACE 0 ∷ l) rest)

module _ (size number : ℕ) (row : List ℕ) (long : FIELDS_PLACE ≤ size) (is : IsRow size number row) where
  fields : List ℕ
  fields = drop FIELDS_PLACE row

  kind_kept : short_row row ≡ get_or row KIND_PLACE 0 ∷ trimmed (drop FIELDS_PLACE row)
  kind_kept = trimmed_kept (get_or row KIND_PLACE 0) (drop FIELDS_PLACE row) is.kind

  pub short_some : 1 ≤ length (short_row row)
  short_some = omega (arith, ap length kind_kept)

  pub short_most : length (short_row row) ≤ size - LEFT_OUT
  short_most = omega (
    arith,
    ap length kind_kept,
    trimmed_no_longer (drop FIELDS_PLACE row),
    length-drop FIELDS_PLACE row,
    is.numbered.long,
    long,
  )

  pub short_last : get_or (short_row row) (length (short_row row) - 1) 0 ≢ 0
  short_last = trimmed_last (get_or row KIND_PLACE 0 ∷ drop FIELDS_PLACE row) (omega (arith, short_some))

  -- a row is the one that its dense form and its number stand for
  pub row_back : row ≡ row_of size number (short_row row)
  row_back =
      let count : size - LEFT_OUT - length
      (get_or row KIND_PLACE 0 ∷ trimmed (drop FIELDS_PLACE row))
      ≡ length (drop FIELDS_PLACE row) - length (trimmed (drop FIELDS_PLACE row)) =
      omega (arith, length-drop FIELDS_PLACE row, is.numbered.long) in
      let tail : trimmed (drop FIELDS_PLACE row)
      ++ replicate (size - LEFT_OUT - length
      (get_or row KIND_PLACE 0 ∷ trimmed (drop FIELDS_PLACE row))) 0 ≡ drop FIELDS_PLACE row =
      ap (λ (n : ℕ). trimmed (drop FIELDS_PLACE row) ++ replicate n 0) count
      ∙ filled_up (drop FIELDS_PLACE row) in
      let there : row ≡ OPEN ∷ get_or row KIND_PLACE 0
      ∷ (to_le_bytes w32 number ++ drop FIELDS_PLACE row) =
      row_parts row (omega (arith, is.numbered.long, long))
      ∙ ap (λ (x : ℕ). x ∷ get_or row KIND_PLACE 0
      ∷ (slice_range row NUMBER_PLACE FIELDS_PLACE ++ drop FIELDS_PLACE row)) is.numbered.gate
      ∙ ap (λ (l : List ℕ). OPEN ∷ get_or row KIND_PLACE 0 ∷ (l ++ drop FIELDS_PLACE row))
      is.numbered.field in
      there
      ∙ ap (λ (l : List ℕ). OPEN ∷ get_or row KIND_PLACE 0 ∷ (to_le_bytes w32 number ++ l)) (sym tail)
      ∙ ap (λ (l : List ℕ). row_of size number l) (sym kind_kept)

-- two rows of one number have one dense form only where they are one row
pub same_row : (size number : ℕ) (row other : List ℕ) → FIELDS_PLACE ≤ size → IsRow size number row
    → IsRow size number other → short_row row ≡ short_row other → row ≡ other
same_row size number row other long is is_other same =
    row_back size number row long is ∙ ap (λ (l : List ℕ). row_of size number l) same
    ∙ sym (row_back size number other long is_other)

-- the front of two byte strings with the same first parts
take_same : (n m : ℕ) (xs ys more others : List ℕ) → length xs ≡ n → length ys ≡ m → n ≡ m
    → xs ++ more ≡ ys ++ others → (xs ≡ ys) × (more ≡ others)
take_same n m xs ys more others long longer same_size same = (
  sym (take_at xs more n long) ∙ ap (λ (l : List ℕ). take n l) same
      ∙ take_at ys others n (longer ∙ sym same_size),
  sym (drop_at xs more n long) ∙ ap (λ (l : List ℕ). drop n l) same
      ∙ drop_at ys others n (longer ∙ sym same_size),
)

first_of_same : (x y : ℕ) (xs ys : List ℕ) → x ∷ xs ≡ y ∷ ys → x ≡ y
first_of_same x y xs ys same = ap (λ (l : List ℕ). get_or l 0 0) same

rest_of_same : (x y : ℕ) (xs ys : List ℕ) → x ∷ xs ≡ y ∷ ys → xs ≡ ys
rest_of_same x y xs ys same = ap (λ (l : List ℕ). drop 1 l) same

-- no dense form begins another
pub dense_parts : (row other more others : List ℕ) → dense row ++ more ≡ dense other ++ others
    → (short_row row ≡ short_row other) × (more ≡ others)
dense_parts row other more others same =
    take_same (length (short_row row)) (length (short_row other)) (short_row row)
    (short_row other) more others refl refl
    (first_of_same _ _ (short_row row ++ more) (short_row other ++ others) same)
    (rest_of_same _ _ (short_row row ++ more) (short_row other ++ others) same)

no_form : (x : ℕ) (xs : List ℕ) → [] ≡ x ∷ xs → ⊥
no_form x xs is = absurd cc

pub reads_back : ReadsBack
reads_back size number [] [] is rows others same = refl
reads_back size number [] (other ∷ others) is rows are same = absurd (no_form _ _ same)
reads_back size number (row ∷ rows) [] is are others same = absurd (no_form _ _ (sym same))
reads_back size number (row ∷ rows) (other ∷ others) is are are_others same =
    let parts = dense_parts row other (content rows) (content others) same in
    let first = same_row size number row other (row_long size is) are.0 are_others.0 parts.0 in
    ap (λ (r : List ℕ). r ∷ rows) first
    ∙ ap (λ (l : List (List ℕ)). other ∷ l)
    (reads_back size (number + 1) rows others is are.1 are_others.1 parts.1)

-- what read_one finds in front of some bytes, where it is a dense form
pub form_read : (size number first : ℕ) (bytes rest form : List ℕ) → bytes ≡ first ∷ rest
    → form ≡ take first rest → 1 ≤ first → first ≤ size - LEFT_OUT → first ≤ length rest
    → get_or form (first - 1) 0 ≢ 0
    → IsReadAs size number bytes (row_of size number form) (first + 1)
form_read size number first bytes rest form are form_is some most there last =
    let size_is : length form ≡ first = ap length form_is
    ∙ omega (arith, there, length-take first rest) in
    let short : short_row (row_of size number form) ≡ form =
    row_of_short size number form (omega (arith, size_is, some))
    (λ is. last (ap (λ (n : ℕ). get_or form (n - 1) 0) (sym size_is) ∙ is)) in
    let next : first + 1 ≡ suc first = omega arith in
    record {
      numbered = row_of_numbered size number form (omega (arith, size_is, some))
          (omega (arith, size_is, most));
      form = ap (λ (l : List ℕ). take (first + 1) l) are
          ∙ ap (λ (n : ℕ). take n (first ∷ rest)) next
          ∙ ap (λ (l : List ℕ). first ∷ l) (sym form_is) ∙ ap (λ (n : ℕ). n ∷ form) (sym size_is)
          ∙ ap (λ (l : List ℕ). length l ∷ l) (sym short);
      end = next ∙ ap suc (sym size_is) ∙ ap (λ (l : List ℕ). suc (length l)) (sym short);
    }

-- where the bytes begin with the dense form of a row
module _ (size number : ℕ) (row more : List ℕ) (is_size : IsRowSize size)
    (is : IsRow size number row) (first : ℕ) (bytes rest : List ℕ) (are : bytes ≡ first ∷ rest)
    (begins : bytes ≡ dense row ++ more) where
  pub front_said : first ≡ length (short_row row)
  front_said = first_of_same first (length (short_row row)) rest (short_row row ++ more)
      (sym are ∙ begins)

  front_rest : rest ≡ short_row row ++ more
  front_rest = rest_of_same first (length (short_row row)) rest (short_row row ++ more)
      (sym are ∙ begins)

  pub front_some : 1 ≤ first
  front_some = omega (arith, front_said, short_some size number row (row_long size is_size) is)

  pub front_most : first ≤ size - LEFT_OUT
  front_most = omega (arith, front_said, short_most size number row (row_long size is_size) is)

  pub front_there : first ≤ length rest
  front_there = omega (arith, front_said, ap length front_rest, length-append (short_row row) more)

  pub front_form : (form : List ℕ) → form ≡ take first rest → form ≡ short_row row
  front_form form form_is = form_is ∙ ap (λ (l : List ℕ). take first l) front_rest
      ∙ take_at (short_row row) more first (sym front_said)

  pub front_last : (form : List ℕ) → form ≡ take first rest → get_or form (first - 1) 0 ≢ 0
  front_last form form_is at_end =
      short_last size number row (row_long size is_size) is
      (ap (λ (n : ℕ). get_or (short_row row) (n - 1) 0) (sym front_said)
      ∙ ap (λ (l : List ℕ). get_or l (first - 1) 0) (sym (front_form form form_is)) ∙ at_end)

  pub front_row : (form : List ℕ) → form ≡ take first rest → row_of size number form ≡ row
  front_row form form_is = ap (λ (l : List ℕ). row_of size number l) (front_form form form_is)
      ∙ sym (row_back size number row (row_long size is_size) is)

-- how a dense form is written: its length and the kind over zeros, and then the fields
pub form_put : (row fields put : List ℕ) (end : ℕ) → fields ≡ take end (drop FIELDS_PLACE row)
    → take end (drop FIELDS_PLACE row) ≡ trimmed (drop FIELDS_PLACE row)
    → end ≤ length (drop FIELDS_PLACE row) → get_or row KIND_PLACE 0 ≢ 0
    → take (2 + end) (put_mid 2 (2 + end - 2)
    (set (set (replicate ROW_BYTES 0) 0 (end + 1)) 1 (get_or row KIND_PLACE 0)) fields)
    ≡ dense row
form_put row fields put end are trims within kind =
    let size : length fields ≡ end = ap length are ∙ length-take-le end (drop FIELDS_PLACE row) within in
    let short : short_row row ≡ get_or row KIND_PLACE 0 ∷ trimmed (drop FIELDS_PLACE row) =
    trimmed_kept (get_or row KIND_PLACE 0) (drop FIELDS_PLACE row) kind in
    let count : end + 1 ≡ length (short_row row) =
    omega (arith, ap length short, ap length trims, ap length are, size) in
    take-put_mid 2 (2 + end - 2) (set (set (replicate ROW_BYTES 0) 0 (end + 1)) 1
    (get_or row KIND_PLACE 0)) fields (2 + end) (omega (arith, size)) (omega arith)
    ∙ ap (λ (n : ℕ). n ∷ get_or row KIND_PLACE 0 ∷ fields) count
    ∙ ap (λ (l : List ℕ). length (short_row row) ∷ get_or row KIND_PLACE 0 ∷ l) (are ∙ trims)
    ∙ ap (λ (l : List ℕ). length (short_row row) ∷ l) (sym short)
