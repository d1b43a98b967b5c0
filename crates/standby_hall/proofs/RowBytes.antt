-- Rows in bytes: each has 96, and those of some entries begin only rows of which they are the first.
use Rattle.std.proofs.Common.{◌≡◌, ℕ, ◌+◌, ◌-◌, ◌*◌, ◌^◌, ◌<◌, ◌≤◌, List, [], ◌∷◌, ◌++◌, length, take, drop, replicate, Option, refl, sym, ap, ◌∙◌, subst, arith, append_assoc, length-append}
use Rattle.std.specs.Int.{w32, from_le_bytes}
use Rattle.std.proofs.lemmas.Nat.{from_le_bytes-to_le_bytes_4}
use Rattle.std.proofs.lemmas.List.{take_at, drop_at, length-replicate}
use Rattle.device_facts.specs.Prefix.{IsPrefixOf}
use Rattle.hall_limits.specs.declared.TheConstants.{NAME_BYTES, MAX_ROWS}
use Rattle.pack_judge.specs.declared.types.Signal.{Signal}
use Rattle.book_words.specs.declared.act.Act.{Act}
use Rattle.book_words.specs.declared.act.Act.TheVariants.{NewDay, PutProduct, PutTare, OpenBatch, StartLane, Weigh, StopLane, Void, EndRun, Draw, Measure, DrawSecond, Close}
use Rattle.book_words.specs.declared.act.Entry.{Entry}
use Rattle.book_words.specs.declared.name.Name.{Name}
use Rattle.book_words.specs.Names.{bytes_of}
use Rattle.book_snapshot.specs.declared.layout.TheConstants.{ROW_BYTES}
use Rattle.row_format.specs.Spelling.{four, eight_field, four_field, eight, mode_code, unit_code, name_field, fields_of, spelled_fields, new_layout, row_bytes}
use Rattle.row_format.specs.Allowed.{IsShort, IsActAllowed}
use Rattle.row_format.specs.Rows.{CanBeSpelled}
use Rattle.row_format.proofs.OneEntry.{one_entry}
use Rattle.book_store.specs.Images.{CanAllBeSpelled}
use Rattle.standby_hall.specs.declared.types.ShipHead.{ShipHead}
use Rattle.standby_hall.specs.Shipments.{head_bytes, IsHead, rows_from}

-- ---- one row

length_name : (name : Name) → IsShort NAME_BYTES name → length (name_field NAME_BYTES name) ≡ 33
length_name name short =
    omega (
      arith,
      short,
      length-append (bytes_of name) (replicate (NAME_BYTES - length (bytes_of name)) 0),
      length-replicate {A = ℕ} (NAME_BYTES - length (bytes_of name)) 0,
    )

length_behind : (name : Name) (rest : List ℕ) → IsShort NAME_BYTES name
    → length (name_field NAME_BYTES name ++ rest) ≡ 33 + length rest
length_behind name rest short = length-append (name_field NAME_BYTES name) rest
    ∙ ap (λ k. k + length rest) (length_name name short)

-- the fields of an act leave room for the others of a row
fields_few : (act : Act) (signal : Option Signal) → IsActAllowed NAME_BYTES act
    → length (fields_of NAME_BYTES act signal) ≤ 70
fields_few (PutProduct name nominal unit) signal is =
    omega (
      arith,
      length-append (name_field NAME_BYTES name ++ eight_field nominal) (unit_code unit ∷ []),
      length_behind name (eight_field nominal) is.0,
    )
fields_few (PutTare product day tare) signal is =
    omega (
      arith,
      length-append (name_field NAME_BYTES product ++ four_field day) (four_field tare),
      length_behind product (four_field day) is.0,
    )
fields_few (OpenBatch batch product density) signal is =
    omega (
      arith,
      length-append (name_field NAME_BYTES batch ++ name_field NAME_BYTES product) (four density),
      length_behind batch (name_field NAME_BYTES product) is.0,
      length_name product is.1,
    )
fields_few (StartLane lane batch) signal is = omega (arith, length_name batch is.1)
fields_few (EndRun batch) signal is = omega (arith, length_name batch is)
fields_few (Draw batch mode word) signal is =
    omega (arith, length_behind batch (mode_code mode ∷ eight word) is)
fields_few (DrawSecond batch word) signal is = omega (arith, length_behind batch (eight word) is)
fields_few (Close batch) signal is = omega (arith, length_name batch is)
fields_few (NewDay day) signal is = omega arith
fields_few (Weigh lane gross prior) signal is = omega arith
fields_few (StopLane lane prior) signal is = omega arith
fields_few (Void pack) signal is = omega arith
fields_few (Measure pack gross empty) signal is = omega arith

-- a row has 96 bytes
pub row_long : (number : ℕ) (entry : Entry) → CanBeSpelled new_layout entry
    → length (row_bytes new_layout number entry) ≡ ROW_BYTES
row_long number entry can =
    let fields = spelled_fields NAME_BYTES number entry in
    omega (
      arith,
      fields_few entry.act entry.signal can.allowed.act,
      length-append fields (replicate (ROW_BYTES - length fields) 0),
      length-replicate {A = ℕ} (ROW_BYTES - length fields) 0,
    )

-- a row and something behind it
pub row_front : (number : ℕ) (entry other : Entry) (xs ys : List ℕ) → CanBeSpelled new_layout entry
    → CanBeSpelled new_layout other
    → row_bytes new_layout number entry ++ xs ≡ row_bytes new_layout number other ++ ys
    → (entry ≡ other) × (xs ≡ ys)
row_front number entry other xs ys can could same =
    let a = row_bytes new_layout number entry in
    let b = row_bytes new_layout number other in
    let long = row_long number entry can in
    let wide = row_long number other could in
    let front : a ≡ b = sym (take_at a xs ROW_BYTES long) ∙ ap (λ (l : List ℕ). take ROW_BYTES l) same
    ∙ take_at b ys ROW_BYTES wide in (
      one_entry a number entry other (record { row = refl; can = can })
          (record { row = front; can = could }),
      sym (drop_at a xs ROW_BYTES long) ∙ ap (λ (l : List ℕ). drop ROW_BYTES l) same
          ∙ drop_at b ys ROW_BYTES wide,
    )

-- ---- many rows

-- the rows of some entries and a part of the next are the front of other rows
pub record BeginRows (number : ℕ) (some all : List Entry) (part : List ℕ) : Type 0 where
  pub rest : List Entry
  pub parts : all ≡ some ++ rest
  pub front : IsPrefixOf part (rows_from (number + length some) rest)

pub rows_front : (number : ℕ) (some all : List Entry) (part : List ℕ) → CanAllBeSpelled some
    → CanAllBeSpelled all → IsPrefixOf (rows_from number some ++ part) (rows_from number all)
    → BeginRows number some all part
rows_front number [] all part can could front =
    let same : number ≡ number + length {A = Entry} [] = omega arith in
    record {
      rest = all;
      parts = refl;
      front = subst (λ n. IsPrefixOf part (rows_from n all)) same front;
    }
rows_front number (e ∷ es) [] part can could front =
    let row = row_bytes new_layout number e in
    let rows = rows_from (number + 1) es in
    absurd (omega (
      arith,
      ap length front.1,
      row_long number e can.0,
      length-append ((row ++ rows) ++ part) front.0,
      length-append (row ++ rows) part,
      length-append row rows,
    ))
rows_front number (e ∷ es) (f ∷ fs) part can could front =
    let row = row_bytes new_layout number e in
    let rows = rows_from (number + 1) es in
    let both = row_front number e f ((rows ++ part) ++ front.0) (rows_from (number + 1) fs) can.0 could.0
    (sym (append_assoc row (rows ++ part) front.0)
    ∙ ap (λ (l : List ℕ). l ++ front.0) (sym (append_assoc row rows part)) ∙ sym front.1) in
    let next = rows_front (number + 1) es fs part can.1 could.1 (front.0, sym both.1) in
    let same : number + 1 + length es ≡ number + length (e ∷ es) = omega arith in
    record {
      rest = next.rest;
      parts = ap (λ (x : Entry). x ∷ fs) (sym both.0) ∙ ap (λ (l : List Entry). e ∷ l) next.parts;
      front = subst (λ n. IsPrefixOf part (rows_from n next.rest)) same next.front;
    }

-- how many bytes many rows have
pub rows_length : (number : ℕ) (entries : List Entry) → CanAllBeSpelled entries
    → length (rows_from number entries) ≡ ROW_BYTES * length entries
rows_length number [] can = omega arith
rows_length number (entry ∷ entries) can =
    let row = row_bytes new_layout number entry in
    omega (
      arith,
      row_long number entry can.0,
      rows_length (number + 1) entries can.1,
      length-append row (rows_from (number + 1) entries),
    )

-- a row more
pub rows_more : (number : ℕ) (entries : List Entry) (entry : Entry)
    → rows_from number (entries ++ entry ∷ []) ≡ rows_from number entries
    ++ row_bytes new_layout (number + length entries) entry
rows_more number [] entry =
    let same : number ≡ number + length {A = Entry} [] = omega arith in
    append_nil_of (row_bytes new_layout number entry) ∙ ap (λ n. row_bytes new_layout n entry) same
  where
    append_nil_of : (l : List ℕ) → l ++ [] ≡ l
    append_nil_of [] = refl
    append_nil_of (x ∷ l) = ap (λ (m : List ℕ). x ∷ m) (append_nil_of l)
rows_more number (first ∷ entries) entry =
    let same : number + 1 + length entries ≡ number + length (first ∷ entries) = omega arith in
    let row = row_bytes new_layout number first in
    let rows = rows_from (number + 1) entries in
    ap (λ (l : List ℕ). row ++ l)
    (rows_more (number + 1) entries entry
    ∙ ap (λ n. rows ++ row_bytes new_layout n entry) same)
    ∙ sym (append_assoc row rows (row_bytes new_layout (number + length (first ∷ entries)) entry))

-- ---- heads

-- a head and something behind it
pub head_front : (head other : ShipHead) (xs ys : List ℕ) → IsHead head → IsHead other
    → head_bytes head ++ xs ≡ head_bytes other ++ ys → (head ≡ other) × (xs ≡ ys)
head_front head other xs ys good same is =
    let small : head.all < 2 ^ 32 = omega (arith, good.few) in
    let wide : other.all < 2 ^ 32 = omega (arith, same.few) in
    let all : head.all ≡ other.all = number_same head.all other.all small wide
    (ap (λ (l : List ℕ). take 4 (drop 8 l)) is) in
    let passed : head.passed ≡ other.passed = number_same head.passed other.passed
    (omega (arith, good.inside, small)) (omega (arith, same.inside, wide))
    (ap (λ (l : List ℕ). take 4 (drop 12 l)) is) in
    (λ i. record { all = all i; passed = passed i }, ap (λ (l : List ℕ). drop 16 l) is)
  where
    number_same : (a b : ℕ) → a < 2 ^ 32 → b < 2 ^ 32 → four a ≡ four b → a ≡ b
    number_same a b small wide same = sym (from_le_bytes-to_le_bytes_4 a small)
        ∙ ap (λ (l : List ℕ). from_le_bytes w32 l) same ∙ from_le_bytes-to_le_bytes_4 b wide
