-- The rows of open slots.
use Rattle.std.proofs.Common.{◌≡◌, ◌≢◌, ◌⊎◌, inl, inr, ⊎_elim, ℕ, zero, suc, ◌+◌, ◌-◌, ◌*◌, ◌<◌, ◌≤◌, min, true, false, List, [], ◌∷◌, ◌++◌, length, get_or, take, drop, replicate, slice_get, Some, add-zero, length-append, refl, sym, ◌∙◌, ap, subst, arith, length-drop}
use Rattle.std.proofs.lemmas.List.{same_lists, get_or-take, get_or-drop, get_or_default, drop-drop, length-take-le, take_all}
use Rattle.std.proofs.lemmas.Bool.Decides.{nat_tests}
use Rattle.book_snapshot.specs.declared.layout.TheConstants.{ROW_BYTES, OPEN}
use Rattle.book_journal.specs.Rows.{starts_open, open_rows, rows_of}

pub open_by : (bytes : List ℕ) → ROW_BYTES ≤ length bytes → get_or bytes 0 0 ≡ OPEN
    → starts_open bytes ≡ true
open_by bytes long gate = grind (arith, nat_tests)

pub shut_by_gate : (bytes : List ℕ) → get_or bytes 0 0 ≢ OPEN → starts_open bytes ≡ false
shut_by_gate bytes gate = grind (arith, nat_tests)

pub shut_by_cut : (bytes : List ℕ) → length bytes < ROW_BYTES → starts_open bytes ≡ false
shut_by_cut bytes short = grind (arith, nat_tests)

pub open_long : (bytes : List ℕ) → starts_open bytes ≡ true → ROW_BYTES ≤ length bytes
open_long bytes is = grind (arith, nat_tests)

pub open_gate : (bytes : List ℕ) → starts_open bytes ≡ true → get_or bytes 0 0 ≡ OPEN
open_gate bytes is = grind (arith, nat_tests)

-- a slot is open, or it isn't
pub open_or_shut : (bytes : List ℕ) → (starts_open bytes ≡ true) ⊎ (starts_open bytes ≡ false)
open_or_shut bytes = elim (starts_open bytes) as (λ b. (b ≡ true) ⊎ (b ≡ false))
    [ true ↦ inl refl | false ↦ inr refl ]

-- one slot
pub open_rows-open : (most : ℕ) (bytes : List ℕ) → starts_open bytes ≡ true
    → open_rows (suc most) bytes ≡ take ROW_BYTES bytes ∷ open_rows most (drop ROW_BYTES bytes)
unfolding open_rows
open_rows-open most bytes is = grind (arith, nat_tests, is)

pub open_rows-shut : (most : ℕ) (bytes : List ℕ) → starts_open bytes ≡ false → open_rows most bytes ≡ []
unfolding open_rows
open_rows-shut zero bytes is = refl
open_rows-shut (suc most) bytes is = grind (arith, nat_tests, is)

pub open_rows-none : (bytes : List ℕ) → open_rows zero bytes ≡ []
unfolding open_rows
open_rows-none bytes = refl

pub same_take : (n : ℕ) (xs ys : List ℕ) → n ≤ length xs → n ≤ length ys
    → ((k : ℕ) → k < n → get_or xs k 0 ≡ get_or ys k 0) → take n xs ≡ take n ys
same_take n xs ys long longer same =
    same_lists (take n xs) (take n ys) (length-take-le n xs long ∙ sym (length-take-le n ys longer))
    (λ k d lt.
    let below : k < n = omega (arith, lt, length-take-le n xs long) in
    get_or-take n xs k d below ∙ get_or_default xs k d 0 (omega (arith, below, long)) ∙ same k below
    ∙ get_or_default ys k 0 d (omega (arith, below, longer)) ∙ sym (get_or-take n ys k d below))

-- how many slots are open
all_open : (n : ℕ) (bytes : List ℕ) → length (open_rows (suc n) bytes) ≡ suc n → starts_open bytes ≡ true
all_open n bytes counts = ⊎_elim (λ is. is)
    (λ shut. absurd (omega (arith, counts, ap length (open_rows-shut (suc n) bytes shut))))
    (open_or_shut bytes)

all_open_rest : (n : ℕ) (bytes : List ℕ) → length (open_rows (suc n) bytes) ≡ suc n
    → length (open_rows n (drop ROW_BYTES bytes)) ≡ n
all_open_rest n bytes counts =
    omega (arith, counts, ap length (open_rows-open n bytes (all_open n bytes counts)))

pub rows_fit : (n : ℕ) (bytes : List ℕ) → length (open_rows n bytes) ≡ n → ROW_BYTES * n ≤ length bytes
rows_fit zero bytes counts = omega arith
rows_fit (suc n) bytes counts =
    omega (
      arith,
      open_long bytes (all_open n bytes counts),
      rows_fit n (drop ROW_BYTES bytes) (all_open_rest n bytes counts),
      length-drop ROW_BYTES bytes,
    )

-- the rows of the first slots depend on the bytes of these slots alone
pub rows_same : (n : ℕ) (xs ys : List ℕ) → ROW_BYTES * n ≤ length ys
    → ((k : ℕ) → k < ROW_BYTES * n → get_or ys k 0 ≡ get_or xs k 0) → length (open_rows n xs) ≡ n
    → open_rows n ys ≡ open_rows n xs
rows_same zero xs ys long same counts = open_rows-none ys ∙ sym (open_rows-none xs)
rows_same (suc n) xs ys long same counts =
    let is = all_open n xs counts in
    let first : open_rows (suc n) xs ≡ take ROW_BYTES xs ∷ open_rows n (drop ROW_BYTES xs) =
    open_rows-open n xs is in
    let is_too : starts_open ys ≡ true =
    open_by ys (omega arith) (same 0 (omega arith) ∙ open_gate xs is) in
    let slot : take ROW_BYTES ys ≡ take ROW_BYTES xs =
    same_take ROW_BYTES ys xs (omega arith) (open_long xs is)
    (λ k lt. same k (omega (arith, lt))) in
    let rest : open_rows n (drop ROW_BYTES ys) ≡ open_rows n (drop ROW_BYTES xs) =
    rows_same n (drop ROW_BYTES xs) (drop ROW_BYTES ys)
    (omega (arith, length-drop ROW_BYTES ys))
    (λ k lt. get_or-drop ROW_BYTES ys k 0 ∙ same (ROW_BYTES + k) (omega (arith, lt))
    ∙ sym (get_or-drop ROW_BYTES xs k 0)) (all_open_rest n xs counts) in
    open_rows-open n ys is_too ∙ ap (λ (l : List ℕ). l ∷ open_rows n (drop ROW_BYTES ys)) slot
    ∙ ap (λ (l : List (List ℕ)). take ROW_BYTES xs ∷ l) rest ∙ sym first

drop_on : (n : ℕ) (bytes : List ℕ)
    → drop (ROW_BYTES * n) (drop ROW_BYTES bytes) ≡ drop (ROW_BYTES * suc n) bytes
drop_on n bytes = let sum : ROW_BYTES + ROW_BYTES * n ≡ ROW_BYTES * suc n = omega arith in
    drop-drop (ROW_BYTES * n) ROW_BYTES bytes ∙ ap (λ (k : ℕ). drop k bytes) sum

-- they end before a slot that is cut or closed
pub rows_stop : (n m : ℕ) (bytes : List ℕ) → length (open_rows n bytes) ≡ n
    → starts_open (drop (ROW_BYTES * n) bytes) ≡ false → n ≤ m
    → open_rows m bytes ≡ open_rows n bytes
rows_stop zero m bytes counts shut le = open_rows-shut m bytes shut ∙ sym (open_rows-none bytes)
rows_stop (suc n) zero bytes counts shut le = absurd (omega (arith, le))
rows_stop (suc n) (suc m) bytes counts shut le =
    let is = all_open n bytes counts in
    open_rows-open m bytes is
    ∙ ap (λ (l : List (List ℕ)). take ROW_BYTES bytes ∷ l)
    (rows_stop n m (drop ROW_BYTES bytes) (all_open_rest n bytes counts)
    (subst (λ (l : List ℕ). starts_open l ≡ false) (sym (drop_on n bytes)) shut)
    (omega (arith, le)))
    ∙ sym (open_rows-open n bytes is)

-- an open slot behind them is one row more
pub rows_more : (n : ℕ) (bytes : List ℕ) → length (open_rows n bytes) ≡ n
    → starts_open (drop (ROW_BYTES * n) bytes) ≡ true
    → open_rows (suc n) bytes ≡ open_rows n bytes ++ take ROW_BYTES (drop (ROW_BYTES * n) bytes)
    ∷ []
rows_more zero bytes counts is =
    open_rows-open zero bytes is
    ∙ ap (λ (l : List (List ℕ)). take ROW_BYTES bytes ∷ l) (open_rows-none (drop ROW_BYTES bytes))
    ∙ ap (λ (l : List (List ℕ)). l ++ take ROW_BYTES bytes ∷ []) (sym (open_rows-none bytes))
rows_more (suc n) bytes counts is =
    let first = all_open n bytes counts in
    let on = drop_on n bytes in
    open_rows-open (suc n) bytes first
    ∙ ap (λ (l : List (List ℕ)). take ROW_BYTES bytes ∷ l)
    (rows_more n (drop ROW_BYTES bytes) (all_open_rest n bytes counts)
    (subst (λ (l : List ℕ). starts_open l ≡ true) (sym on) is))
    ∙ ap (λ (l : List ℕ). take ROW_BYTES bytes
    ∷ (open_rows n (drop ROW_BYTES bytes) ++ take ROW_BYTES l ∷ [])) on
    ∙ ap (λ (l : List (List ℕ)). l ++ take ROW_BYTES (drop (ROW_BYTES * suc n) bytes) ∷ [])
    (sym (open_rows-open n bytes first))

-- so many open slots, and then so many
pub rows_join : (n m : ℕ) (bytes : List ℕ) → length (open_rows n bytes) ≡ n
    → length (open_rows m (drop (ROW_BYTES * n) bytes)) ≡ m
    → length (open_rows (n + m) bytes) ≡ n + m
rows_join zero m bytes counts more =
    let none : zero + m ≡ m = omega arith in
    let same : open_rows (zero + m) bytes ≡ open_rows m bytes = ap (λ (k : ℕ). open_rows k bytes) none in
    omega (arith, ap length same, more)
rows_join (suc n) m bytes counts more =
    let first = all_open n bytes counts in
    let rest = rows_join n m (drop ROW_BYTES bytes) (all_open_rest n bytes counts)
    (subst (λ (l : List ℕ). length (open_rows m l) ≡ m) (sym (drop_on n bytes)) more) in
    let sum : suc n + m ≡ suc (n + m) = omega arith in
    let same : open_rows (suc n + m) bytes ≡ take ROW_BYTES bytes
    ∷ open_rows (n + m) (drop ROW_BYTES bytes) = ap (λ (k : ℕ). open_rows k bytes) sum
    ∙ open_rows-open (n + m) bytes first in
    omega (arith, ap length same, rest)

-- one open slot more
pub counts_more : (n : ℕ) (bytes : List ℕ) → length (open_rows n bytes) ≡ n
    → ROW_BYTES * n + ROW_BYTES ≤ length bytes → get_or bytes (ROW_BYTES * n) 0 ≡ OPEN
    → length (open_rows (n + 1) bytes) ≡ n + 1
counts_more n bytes counts long gate =
    let here : get_or (drop (ROW_BYTES * n) bytes) 0 0 ≡ OPEN =
    get_or-drop (ROW_BYTES * n) bytes 0 0
    ∙ ap (λ (k : ℕ). get_or bytes k 0) (add-zero (ROW_BYTES * n)) ∙ gate in
    let more = rows_more n bytes counts
    (open_by (drop (ROW_BYTES * n) bytes)
    (omega (arith, length-drop (ROW_BYTES * n) bytes)) here) in
    let next : n + 1 ≡ suc n = omega arith in
    ap (λ (k : ℕ). length (open_rows k bytes)) next ∙ ap length more
    ∙ length-append (open_rows n bytes) (take ROW_BYTES (drop (ROW_BYTES * n) bytes) ∷ [])
    ∙ ap (λ (k : ℕ). k + 1) counts

pub end_by_gate : (n : ℕ) (bytes : List ℕ) → get_or bytes (ROW_BYTES * n) 0 ≢ OPEN
    → starts_open (drop (ROW_BYTES * n) bytes) ≡ false
end_by_gate n bytes gate = shut_by_gate (drop (ROW_BYTES * n) bytes)
    (λ is. gate (sym (get_or-drop (ROW_BYTES * n) bytes 0 0
    ∙ ap (λ (k : ℕ). get_or bytes k 0) (add-zero (ROW_BYTES * n))) ∙ is))

pub end_by_cut : (n : ℕ) (bytes : List ℕ) → length bytes < ROW_BYTES * n + ROW_BYTES
    → starts_open (drop (ROW_BYTES * n) bytes) ≡ false
end_by_cut n bytes short = shut_by_cut (drop (ROW_BYTES * n) bytes)
    (omega (arith, length-drop (ROW_BYTES * n) bytes))

-- the gate where the count ends, if the slot is whole
pub gate_at_end : (n : ℕ) (bytes : List ℕ) → starts_open (drop (ROW_BYTES * n) bytes) ≡ false
    → ROW_BYTES * n + ROW_BYTES ≤ length bytes → get_or bytes (ROW_BYTES * n) 0 ≢ OPEN
gate_at_end n bytes shut long gate =
    let opened : starts_open (drop (ROW_BYTES * n) bytes) ≡ true =
    open_by (drop (ROW_BYTES * n) bytes) (omega (arith, length-drop (ROW_BYTES * n) bytes))
    (get_or-drop (ROW_BYTES * n) bytes 0 0
    ∙ ap (λ (k : ℕ). get_or bytes k 0) (add-zero (ROW_BYTES * n)) ∙ gate) in
    absurd cc

-- a row by its place in the list
pub row_at : (count n : ℕ) (bytes : List ℕ) → length (open_rows count bytes) ≡ count → n < count
    → slice_get (open_rows count bytes) n ≡ Some (take ROW_BYTES (drop (ROW_BYTES * n) bytes))
row_at zero n bytes counts lt = absurd (omega arith)
row_at (suc count) zero bytes counts lt =
    ap (λ (l : List (List ℕ)). slice_get l 0)
    (open_rows-open count bytes (all_open count bytes counts))
row_at (suc count) (suc n) bytes counts lt =
    ap (λ (l : List (List ℕ)). slice_get l (suc n))
    (open_rows-open count bytes (all_open count bytes counts))
    ∙ row_at count n (drop ROW_BYTES bytes) (all_open_rest count bytes counts) (omega arith)
    ∙ ap (λ (l : List ℕ). Some (take ROW_BYTES l)) (drop_on n bytes)

-- zeros behind a list are what stands past its end
zeros : (n k : ℕ) (nothing : ℕ) → nothing ≡ 0 → get_or (replicate n 0) k 0 ≡ nothing
zeros zero k nothing is = sym is
zeros (suc n) zero nothing is = sym is
zeros (suc n) (suc k) nothing is = zeros n k nothing is

pub padded : (xs : List ℕ) (n k : ℕ) → get_or (xs ++ replicate n 0) k 0 ≡ get_or xs k 0
padded [] n k = zeros n k (get_or [] k 0) refl
padded (x ∷ xs) n zero = refl
padded (x ∷ xs) n (suc k) = padded xs n k

-- what is read at the place of a row is the row
pub row_read : (count number k place : ℕ) (b row : List ℕ) (rows : List (List ℕ))
    → length row ≡ ROW_BYTES → place ≡ ROW_BYTES * number → rows_of count b ≡ rows
    → length rows ≡ count → 1 ≤ number → number ≤ count → k ≡ min (length row) (length b - place)
    → take k row ≡ take k (drop place b) → slice_get rows (number - 1) ≡ Some row
row_read count number k place b row rows size at are counts first last all same =
    let has : length (rows_of count b) ≡ count = ap length are ∙ counts in
    let fits : ROW_BYTES * count ≤ length (drop ROW_BYTES b) = rows_fit count (drop ROW_BYTES b) has in
    let whole : k ≡ ROW_BYTES = omega
    (arith, fits, length-drop ROW_BYTES b, size, at, last, first, all) in
    let there : ROW_BYTES + ROW_BYTES * (number - 1) ≡ place = omega (arith, at, first) in
    let bytes : take ROW_BYTES (drop (ROW_BYTES * (number - 1)) (drop ROW_BYTES b)) ≡ row =
    ap (λ (l : List ℕ). take ROW_BYTES l)
    (drop-drop (ROW_BYTES * (number - 1)) ROW_BYTES b ∙ ap (λ (p : ℕ). drop p b) there)
    ∙ sym (subst (λ (j : ℕ). take j row ≡ take j (drop place b)) whole same)
    ∙ take_all ROW_BYTES row (omega (arith, size)) in
    ap (λ (l : List (List ℕ)). slice_get l (number - 1)) (sym are)
    ∙ row_at count (number - 1) (drop ROW_BYTES b) has (omega (arith, first, last))
    ∙ ap (λ (l : List ℕ). Some l) bytes

-- more turns find no fewer rows
pub rows_no_fewer : (n m : ℕ) (bytes : List ℕ) → length (open_rows n bytes) ≡ n → n ≤ m
    → n ≤ length (open_rows m bytes)
rows_no_fewer zero m bytes counts le = omega arith
rows_no_fewer (suc n) zero bytes counts le = absurd (omega (arith, le))
rows_no_fewer (suc n) (suc m) bytes counts le =
    let rest = rows_no_fewer n m (drop ROW_BYTES bytes) (all_open_rest n bytes counts)
    (omega (arith, le)) in
    omega (arith, rest, ap length (open_rows-open m bytes (all_open n bytes counts)))
