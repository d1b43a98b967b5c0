-- A standby has a front of the hall's book, and a whole shipment brings all of its rows.
use Rattle.std.proofs.Common.{◌≡◌, ◌⊎◌, inl, inr, ⊎_elim, true, ℕ, zero, suc, ◌+◌, ◌<◌, ◌≤◌, min, List, [], ◌∷◌, ◌++◌, length, take, drop, slice_get, Option, Some, None, Result, Ok, Err, refl, sym, ap, ◌∙◌, subst, arith, append_assoc, append-nil, length-append}
use Rattle.std.proofs.lemmas.List.{take-append-drop, take-append-le, length-take-le, length-drop, take_at, nil_from_length}
use Rattle.std.proofs.lemmas.Bool.{cases_lt}
use Rattle.device_facts.specs.Prefix.{IsPrefixOf}
use Rattle.hall_limits.specs.declared.TheConstants.{MAX_ROWS}
use Rattle.book_words.specs.declared.act.Entry.{Entry}
use Rattle.book_words.specs.Answers.{IsLawful, IsLegal}
use Rattle.book_words.proofs.LegalLemmas.{legal_few, legal-prefix}
use Rattle.book_snapshot.specs.declared.layout.TheConstants.{ROW_BYTES}
use Rattle.row_format.specs.Spelling.{new_layout, row_bytes}
use Rattle.row_format.specs.Rows.{CanBeSpelled, Spells}
use Rattle.book_store.specs.Images.{CanAllBeSpelled}
use Rattle.book_store.specs.Kept.{with_offered}
use Rattle.book_store.proofs.KeptLemmas.{same_begins, begins_on, begins_short}
use Rattle.book_store.proofs.SpelledRows.{all_more}
use Rattle.store_runs.specs.Carrying.{IsLonger, MayCome}
use Rattle.store_runs.proofs.CarriedEntries.{no_more}
use Rattle.standby_hall.specs.declared.types.ShipHead.{ShipHead}
use Rattle.standby_hall.specs.declared.types.FollowStop.{FollowStop}
use Rattle.standby_hall.specs.declared.types.FollowStop.TheVariants.{ReadFault, Head, Gap, Row, Extra, DiskFault, NoMemory}
use Rattle.standby_hall.specs.Shipments.{head_bytes, IsHead, rows_from, shipped, head_of, shipment}
use Rattle.standby_hall.specs.Following.{Arrival, HasFollowed, Follows, FailsInRows, StopsAtRow, GoesOn, ComesToNew, FollowsAll, LacksHead}
use Rattle.standby_hall.specs.Standby.{IsFromBook, IsLeftOf, Receives, Reaches, IsShippable, StaysFront, HasArrived, BringsWhole, WholeArrives, offered_by}
use Rattle.standby_hall.proofs.RowBytes.{row_long, row_front, BeginRows, rows_front, rows_length, head_front}

-- ---- fronts of a list

-- the first so many of a list are a front of it
take_front : {A : Type 0} (count : ℕ) (all : List A) → IsPrefixOf (take count all) all
take_front count all = (drop count all, sym (take-append-drop count all))

-- of a front and the whole the first so many are the same
take_same : (some all : List Entry) (count : ℕ) → IsPrefixOf some all → count ≤ length some
    → take count some ≡ take count all
take_same some all count front few =
    sym (ap (take count) front.1 ∙ take-append-le count some front.0 few)

-- a list with a front keeps it where at least so many are taken
front_taken : (some all : List Entry) (count : ℕ) → IsPrefixOf some all → length some ≤ count
    → IsPrefixOf some (take count all)
front_taken some all count front few =
    let whole : take (length some) (take count all) ≡ take (length some) all = take_taken (length some) count all few in
    let same : take (length some) all ≡ some = ap (take (length some)) front.1
    ∙ take_at some front.0 (length some) refl in (
      drop (length some) (take count all),
      sym (take-append-drop (length some) (take count all))
          ∙ ap (λ (l : List Entry). l ++ drop (length some) (take count all)) (whole ∙ same),
    )
  where
    take_taken : (a b : ℕ) (l : List Entry) → a ≤ b → take a (take b l) ≡ take a l
    take_taken zero b l few = refl
    take_taken (suc a) zero l few = absurd (omega (arith, few))
    take_taken (suc a) (suc b) [] few = refl
    take_taken (suc a) (suc b) (x ∷ l) few = ap (λ (m : List Entry). x ∷ m) (take_taken a b l (omega (arith, few)))

can_front : (some more : List Entry) → CanAllBeSpelled (some ++ more) → CanAllBeSpelled some
can_front [] more can = tt
can_front (e ∷ some) more can = (can.0, can_front some more can.1)

can_back : (some more : List Entry) → CanAllBeSpelled (some ++ more) → CanAllBeSpelled more
can_back [] more can = can
can_back (e ∷ some) more can = can_back some more can.1

-- the first rows of a book that can be shipped can be
ship_front : (book : List Entry) (count : ℕ) → IsShippable book → IsShippable (take count book)
ship_front book count is =
    let whole = take-append-drop count book in
    record {
      legal = legal-prefix (take count book) (drop count book) (subst IsLegal (sym whole) is.legal);
      can = can_front (take count book) (drop count book) (subst CanAllBeSpelled (sym whole) is.can);
    }

-- the head of a shipment is a good one
good_head : (after : ℕ) (sent : List Entry) → IsLegal sent → IsHead (head_of after sent)
good_head after sent legal =
    record { inside = omega arith; few = legal_few sent legal }

-- ---- what came is the front of a shipment

-- a head, the rows of some entries and a part of the next are the front of the shipment of these rows
record IsFrontOf (sent : List Entry) (after : ℕ) (head : ShipHead) (entries : List Entry)
    (part : List ℕ) : Type 0 where
  told : head ≡ head_of after sent
  rest : List Entry
  parts : drop head.passed sent ≡ entries ++ rest
  front : IsPrefixOf part (rows_from (head.passed + 1 + length entries) rest)

front_of : (sent : List Entry) (after : ℕ) (head : ShipHead) (entries : List Entry) (part : List ℕ)
    → IsShippable sent → IsHead head → CanAllBeSpelled entries
    → IsPrefixOf (shipped head entries ++ part) (shipment after sent)
    → IsFrontOf sent after head entries part
front_of sent after head entries part is good can front =
    let told = head_of after sent in
    let rows = rows_from (head.passed + 1) entries in
    let all = rows_from (told.passed + 1) (drop told.passed sent) in
    let both = head_front head told ((rows ++ part) ++ front.0) all good (good_head after sent is.legal)
    (sym (append_assoc (head_bytes head) (rows ++ part) front.0)
    ∙ ap (λ (l : List ℕ). l ++ front.0) (sym (append_assoc (head_bytes head) rows part))
    ∙ sym front.1) in
    let same : told.passed ≡ head.passed = ap (λ (h : ShipHead). h.passed) (sym both.0) in
    let there : rows_from (head.passed + 1) (drop head.passed sent) ≡ (rows ++ part) ++ front.0 =
    ap (λ n. rows_from (n + 1) (drop n sent)) (sym same) ∙ sym both.1 in
    let whole = take-append-drop head.passed sent in
    let begins = rows_front (head.passed + 1) entries (drop head.passed sent) part can
    (can_back (take head.passed sent) (drop head.passed sent) (subst CanAllBeSpelled (sym whole) is.can))
    (front.0, there) in
    record { told = both.0; rest = begins.rest; parts = begins.parts; front = begins.front }

-- ---- what a book was told

-- a book that held a front was told of these rows, and then of others
told_front : (book held : List Entry) (count after : ℕ) (head : ShipHead) (entries : List Entry)
    (part : List ℕ) → IsPrefixOf held book → head.passed ≤ length held
    → (is : IsFrontOf (take count book) after head entries part)
    → book ≡ (take head.passed held ++ entries) ++ (is.rest ++ drop count book)
told_front book held count after head entries part front enough is =
    let sent = take count book in
    let more = drop count book in
    let first = take head.passed held in
    let few : head.passed ≤ length sent =
    omega (arith, ap (λ (h : ShipHead). h.passed) is.told) in
    let same : take head.passed sent ≡ first =
    take_same sent book head.passed (take_front count book) few
    ∙ sym (take_same held book head.passed front enough) in
    sym (take-append-drop count book)
    ∙ ap (λ (l : List Entry). l ++ more)
    (sym (take-append-drop head.passed sent)
    ∙ ap (λ (l : List Entry). l ++ drop head.passed sent) same
    ∙ ap (λ (l : List Entry). first ++ l) is.parts
    ∙ sym (append_assoc first entries is.rest))
    ∙ append_assoc (first ++ entries) is.rest more

-- how many rows it was told of
told_length : (held entries : List Entry) (passed : ℕ) → passed ≤ length held
    → length (take passed held ++ entries) ≡ passed + length entries
told_length held entries passed enough = length-append (take passed held) entries
    ∙ ap (λ n. n + length entries) (length-take-le passed held enough)

-- what is left is a front of the book, and begins with what it held
left_front : (book held rows told more : List Entry) → IsPrefixOf held book → book ≡ told ++ more
    → IsLonger held told rows → IsPrefixOf held rows × IsPrefixOf rows book
left_front book held rows told more front is (inl (begins, same)) =
    (same_begins held rows same, subst (λ es. IsPrefixOf es book) (sym same) front)
left_front book held rows told more front is (inr (begins, same)) =
    (subst (IsPrefixOf held) (sym same) begins, subst (λ es. IsPrefixOf es book) (sym same) (more, is))

-- where the book had no more than it was told, that is left
left_told : (held rows told : List Entry) → IsLonger held told rows → length held ≤ length told
    → rows ≡ told
left_told held rows told (inl (begins, same)) few =
    let none : begins.0 ≡ [] = no_more told begins.0 (omega (arith, few, ap length begins.1)) in
    same ∙ begins.1 ∙ ap (λ (l : List Entry). told ++ l) none ∙ append-nil told
left_told held rows told (inr (begins, same)) few = same

-- what it held isn't longer than what is left
held_few : (held rows told : List Entry) → IsLonger held told rows → length held ≤ length rows
held_few held rows told (inl (begins, same)) = omega (arith, ap length same)
held_few held rows told (inr (begins, same)) =
    omega (arith, ap length same, begins_short held told begins)

-- ---- one call

module _ (book held rows : List Entry) (bytes : List ℕ) (ships : IsShippable book)
    (front : IsPrefixOf held book) (from : IsFromBook book bytes) where
  abbrev sent : List Entry
  sent = take from.count book

  -- what came behind the head of a shipment
  came : (head : ShipHead) (entries : List Entry) (part : List ℕ) → IsHead head
      → CanAllBeSpelled entries → bytes ≡ shipped head entries ++ part
      → IsFrontOf sent from.after head entries part
  came head entries part good can parts =
      front_of sent from.after head entries part (ship_front book from.count ships) good can
      (subst (λ (l : List ℕ). IsPrefixOf l (shipment from.after sent)) parts from.front)

  at_part : (head : ShipHead) (entries : List Entry) (part : List ℕ)
      → HasFollowed held rows head entries → bytes ≡ shipped head entries ++ part
      → IsPrefixOf held rows × IsPrefixOf rows book
  at_part head entries part followed parts =
      let is = came head entries part followed.good followed.can parts in
      left_front book held rows (take head.passed held ++ entries) _ front
      (told_front book held from.count from.after head entries part front followed.enough is)
      followed.longer

  -- the row that was to be added is the next one
  at_new : (entry : Entry) → ComesToNew held rows bytes entry
      → IsPrefixOf held rows × IsPrefixOf (rows ++ entry ∷ []) book
  at_new entry new =
      let head = new.head in
      let entries = new.entries in
      let more = entries ++ entry ∷ [] in
      let told = take head.passed held ++ entries in
      let is = came head more [] new.followed.good (all_more entries entry new.followed.can new.can)
      (new.parts ∙ sym (append-nil (shipped head more))) in
      let long = told_length held entries head.passed new.followed.enough in
      let few = held_few held rows told new.followed.longer in
      let same : rows ≡ told = left_told held rows told new.followed.longer
      (omega (arith, long, few, new.lacks)) in
      let whole = told_front book held from.count from.after head more [] front new.followed.enough is
      in (
        (left_front book held rows told _ front
            (whole ∙ ap (λ (l : List Entry). l ++ (is.rest ++ drop from.count book))
            (sym (append_assoc (take head.passed held) entries (entry ∷ [])))
            ∙ append_assoc told (entry ∷ []) (is.rest ++ drop from.count book))
            new.followed.longer).0,
        (
          is.rest ++ drop from.count book,
          whole ∙ ap (λ (l : List Entry). l ++ (is.rest ++ drop from.count book))
              (sym (append_assoc (take head.passed held) entries (entry ∷ []))
              ∙ ap (λ (l : List Entry). l ++ entry ∷ []) (sym same)),
        ),
      )

  -- nothing was done
  at_start : rows ≡ held → IsPrefixOf held rows × IsPrefixOf rows book
  at_start same = (same_begins held rows same, subst (λ es. IsPrefixOf es book) (sym same) front)

-- each call leaves a front of the book, also with the row that was offered
pub follows_front : (book held rows : List Entry) (arrival : Arrival)
    (result : Result ℕ FollowStop) → IsShippable book → IsPrefixOf held book
    → IsFromBook book arrival.bytes → Follows held rows arrival result
    → IsPrefixOf held rows × IsPrefixOf (with_offered rows (offered_by result)) book
follows_front book held rows arrival (Ok adopted) ships front from follows =
    at_part book held rows arrival.bytes ships front from follows.head follows.entries [] follows.followed
    (follows.bytes ∙ sym (append-nil (shipped follows.head follows.entries)))
follows_front book held rows arrival (Err ReadFault) ships front from (inl (short, same)) =
    at_start book held rows arrival.bytes ships front from same
follows_front book held rows arrival (Err ReadFault) ships front from (inr follows) =
    at_part book held rows arrival.bytes ships front from follows.head follows.entries follows.part
    follows.followed follows.parts
follows_front book held rows arrival (Err Head) ships front from (none, same) =
    at_start book held rows arrival.bytes ships front from same
follows_front book held rows arrival (Err (Gap row)) ships front from (lacks, same) =
    at_start book held rows arrival.bytes ships front from same
follows_front book held rows arrival (Err (Row row)) ships front from follows =
    at_part book held rows arrival.bytes ships front from follows.head follows.entries follows.part
    follows.followed follows.parts
follows_front book held rows arrival (Err (Extra all)) ships front from follows =
    at_part book held rows arrival.bytes ships front from follows.head follows.entries
    (follows.byte ∷ []) follows.followed follows.parts
follows_front book held rows arrival (Err (DiskFault entry)) ships front from new =
    at_new book held rows arrival.bytes ships front from entry new
follows_front book held rows arrival (Err NoMemory) ships front from (entry, new) =
    let both = at_new book held rows arrival.bytes ships front from entry new in
    (both.0, begins_on rows (rows ++ entry ∷ []) book (entry ∷ [], refl) both.1)

-- ---- many calls, and crashes

-- rows stand in front of what was offered
rows_offered : (rows : List Entry) (offered : Option Entry)
    → IsPrefixOf rows (with_offered rows offered)
rows_offered rows None = same_begins rows rows refl
rows_offered rows (Some entry) = (entry ∷ [], refl)

receives_front : (book held now : List Entry) → IsShippable book → IsPrefixOf held book
    → Receives book held now → IsPrefixOf held now × IsPrefixOf now book
receives_front book held now ships front receives =
    let both = follows_front book held receives.rows receives.arrival receives.result ships front
    receives.from_book receives.follows in
    let offered = rows_offered receives.rows (offered_by receives.result) in
    let all = with_offered receives.rows (offered_by receives.result) in
    elim receives.left [
      | inl same ↦ (
        subst (IsPrefixOf held) (sym same) both.0,
        subst (λ es. IsPrefixOf es book) (sym same) (begins_on receives.rows all book offered both.1),
      )
      | inr crash ↦ (
        subst (IsPrefixOf held) (sym crash.left)
            (front_taken held all crash.count (begins_on held receives.rows all both.0 offered) crash.least),
        subst (λ es. IsPrefixOf es book) (sym crash.left)
            (begins_on (take crash.count all) all book (take_front crash.count all) both.1),
      )
    ]

pub stays_front : StaysFront
stays_front book held now zero ships front is =
    (same_begins held now is, subst (λ es. IsPrefixOf es book) (sym is) front)
stays_front book held now (suc times) ships front (between, first, rest) =
    let one = receives_front book held between ships front first in
    let more = stays_front book between now times ships one.1 rest in
    (begins_on held between now one.0 more.0, more.1)

-- ---- a whole shipment

get_at : (told more : List Entry) (entry : Entry)
    → slice_get (told ++ entry ∷ more) (length told) ≡ Some entry
get_at [] more entry = refl
get_at (x ∷ told) more entry = get_at told more entry

get_within : (some more : List Entry) (k : ℕ) → k < length some
    → slice_get (some ++ more) k ≡ slice_get some k
get_within [] more k inside = absurd (omega (arith, inside))
get_within (x ∷ some) more zero inside = refl
get_within (x ∷ some) more (suc k) inside = get_within some more k (omega (arith, inside))

module _ (book held rows : List Entry) (count after : ℕ) (arrival : Arrival)
    (ships : IsShippable book) (front : IsPrefixOf held book)
    (brings : BringsWhole (take count book) after arrival) where
  abbrev whole_sent : List Entry
  whole_sent = take count book

  abbrev whole_from : IsFromBook book arrival.bytes
  whole_from = record { count = count; after = after; front = brings.front }

  -- what came, behind the head of the shipment
  whole_came : (head : ShipHead) (entries : List Entry) (part : List ℕ) → IsHead head
      → CanAllBeSpelled entries → arrival.bytes ≡ shipped head entries ++ part
      → IsFrontOf whole_sent after head entries part
  whole_came = came book held rows arrival.bytes ships front whole_from

  -- how many rows are left to come
  left_length : (head : ShipHead) (entries : List Entry) (part : List ℕ)
      → (is : IsFrontOf whole_sent after head entries part)
      → head.passed + length entries + length is.rest ≡ head.all
  left_length head entries part is =
      omega (
        arith,
        ap (λ (h : ShipHead). h.passed) is.told,
        ap (λ (h : ShipHead). h.all) is.told,
        ap length is.parts,
        length-append entries is.rest,
        length-drop head.passed whole_sent,
      )

  -- the input begins with a head
  no_head : LacksHead arrival → ⊥
  no_head lacks =
      let told = head_of after whole_sent in
      let good = good_head after whole_sent (ship_front book count ships).legal in
      let rows_of = rows_from (told.passed + 1) (drop told.passed whole_sent) in
      lacks.none told good (⊎_elim
      (λ long. (
        drop 16 arrival.bytes,
        sym (take-append-drop 16 arrival.bytes)
            ∙ ap (λ (l : List ℕ). l ++ drop 16 arrival.bytes)
            (sym (take-append-le 16 arrival.bytes brings.front.0 long)
            ∙ ap (λ (l : List ℕ). take 16 l) (sym brings.front.1)),
      ))
      (λ ended. (rows_of, brings.whole ended))
      lacks.seen)

  -- no byte follows the last row
  no_more_bytes : (all : ℕ) → GoesOn held rows arrival.bytes all → ⊥
  no_more_bytes all goes =
      let is = whole_came goes.head goes.entries (goes.byte ∷ []) goes.followed.good goes.followed.can
      goes.parts in
      let none : is.rest ≡ [] = nil_from_length is.rest
      (omega (arith, left_length goes.head goes.entries (goes.byte ∷ []) is, goes.complete)) in
      let empty : IsPrefixOf (goes.byte ∷ []) [] =
      subst (λ (es : List Entry). IsPrefixOf (goes.byte ∷ [])
      (rows_from (goes.head.passed + 1 + length goes.entries) es)) none is.front in
      absurd (omega (arith, ap length empty.1))

  -- the next row came whole, and may come next
  module _ (head : ShipHead) (entries : List Entry) (part : List ℕ) (entry : Entry)
      (rest : List Entry) (followed : HasFollowed held rows head entries)
      (is : IsFrontOf whole_sent after head entries part) (next : is.rest ≡ entry ∷ rest) where
    abbrev place : ℕ
    place = head.passed + length entries

    abbrev told : List Entry
    told = take head.passed held ++ entries

    abbrev later : List Entry
    later = rest ++ drop count book

    whole : book ≡ told ++ entry ∷ later
    whole = told_front book held count after head entries part front followed.enough is
        ∙ ap (λ (es : List Entry). told ++ (es ++ drop count book)) next

    can_next : CanBeSpelled new_layout entry
    can_next = (can_back told (entry ∷ later) (subst CanAllBeSpelled whole ships.can)).0

    spells_next : length part ≡ ROW_BYTES → Spells new_layout part (place + 1) entry
    spells_next long =
        let number = head.passed + 1 + length entries in
        let row = row_bytes new_layout number entry in
        let begins : IsPrefixOf part (row ++ rows_from (number + 1) rest) =
        subst (λ (es : List Entry). IsPrefixOf part (rows_from number es)) next is.front in
        let same : part ≡ row = sym (take_at part begins.0 ROW_BYTES long)
        ∙ ap (λ (l : List ℕ). take ROW_BYTES l) (sym begins.1)
        ∙ take_at row (rows_from (number + 1) rest) ROW_BYTES (row_long number entry can_next) in
        let numbered : number ≡ place + 1 = omega arith in
        record {
          row = same ∙ ap (λ n. row_bytes new_layout n entry) numbered;
          can = can_next;
        }

    may_next : MayCome place held rows entry
    may_next =
        let long = told_length held entries head.passed followed.enough in
        ⊎_elim
        (λ inside. inl (sym (get_within held front.0 place inside)
        ∙ ap (λ (es : List Entry). slice_get es place) (sym front.1 ∙ whole)
        ∙ ap (slice_get (told ++ entry ∷ later)) (sym long) ∙ get_at told later entry))
        (λ past.
        let same : rows ≡ told = left_told held rows told followed.longer (omega (arith, long, past)) in
        inr (past, subst (λ es. IsLawful es entry) (sym same) (ships.legal told entry later whole)))
        (cases_lt place (length held))

  cut_never : (head : ShipHead) (entries : List Entry) (part : List ℕ) (rest : List Entry)
      → HasFollowed held rows head entries → arrival.bytes ≡ shipped head entries ++ part
      → (is : IsFrontOf whole_sent after head entries part) → 0 < length is.rest
      → length part < ROW_BYTES → arrival.ended ≡ true → ⊥
  cut_never head entries part rest followed parts is some short ended =
      let told = head_of after whole_sent in
      let sent_all = (ship_front book count ships).can in
      let behind = drop told.passed whole_sent in
      let cans = can_back (take told.passed whole_sent) behind
      (subst CanAllBeSpelled (sym (take-append-drop told.passed whole_sent)) sent_all) in
      let same : told.passed ≡ head.passed = ap (λ (h : ShipHead). h.passed) (sym is.told) in
      let rows_told = rows_from (told.passed + 1) behind in
      let rows_came = rows_from (head.passed + 1) entries in
      absurd (omega (
        arith,
        some,
        short,
        ap length (sym parts ∙ brings.whole ended),
        length-append (head_bytes told) rows_told,
        length-append (head_bytes head ++ rows_came) part,
        length-append (head_bytes head) rows_came,
        rows_length (told.passed + 1) behind cans,
        rows_length (head.passed + 1) entries followed.can,
        ap (λ n. length (drop n whole_sent)) same,
        ap length is.parts,
        length-append entries is.rest,
      ))

  no_bad_row : (row : ℕ) → StopsAtRow held rows arrival row → ⊥
  no_bad_row row stops =
      let is = whole_came stops.head stops.entries stops.part stops.followed.good stops.followed.can
      stops.parts in
      let left : 0 < length is.rest =
      omega (arith, left_length stops.head stops.entries stops.part is, stops.next, stops.told) in
      ⊎_elim
      (λ cut. cut_never stops.head stops.entries stops.part [] stops.followed stops.parts is left cut.0
      cut.1)
      (λ other.
      let next = first_of is.rest left in
      other.1 next.0
      (spells_next stops.head stops.entries stops.part next.0 next.1 stops.followed is next.2 other.0)
      (may_next stops.head stops.entries stops.part next.0 next.1 stops.followed is next.2))
      stops.bad
    where
      first_of : (es : List Entry) → 0 < length es
          → (e : Entry) × (rest : List Entry) × (es ≡ e ∷ rest)
      first_of [] some = absurd (omega (arith, some))
      first_of (e ∷ rest) some = (e, rest, refl)

  -- all rows are there
  has_all : (adopted : ℕ) → FollowsAll held rows arrival adopted
      → length whole_sent ≤ length rows
  has_all adopted follows =
      let head = follows.head in
      let is = whole_came head follows.entries [] follows.followed.good follows.followed.can
      (follows.bytes ∙ sym (append-nil (shipped head follows.entries))) in
      let told = take head.passed held ++ follows.entries in
      omega (
        arith,
        ap (λ (h : ShipHead). h.all) is.told,
        follows.all,
        told_length held follows.entries head.passed follows.followed.enough,
        told_few held rows told follows.followed.longer,
      )
    where
      told_few : (held rows told : List Entry) → IsLonger held told rows → length told ≤ length rows
      told_few held rows told (inl (begins, same)) =
          omega (arith, ap length same, begins_short told held begins)
      told_few held rows told (inr (begins, same)) = omega (arith, ap length same)

pub whole_arrives : WholeArrives
whole_arrives book held rows count after arrival (Ok adopted) ships front brings follows =
    has_all book held rows count after arrival ships front brings adopted follows
whole_arrives book held rows count after arrival (Err Head) ships front brings follows =
    no_head book held rows count after arrival ships front brings follows.0
whole_arrives book held rows count after arrival (Err (Row row)) ships front brings follows =
    no_bad_row book held rows count after arrival ships front brings row follows
whole_arrives book held rows count after arrival (Err (Extra all)) ships front brings follows =
    no_more_bytes book held rows count after arrival ships front brings all follows
whole_arrives book held rows count after arrival (Err ReadFault) ships front brings follows = tt
whole_arrives book held rows count after arrival (Err (Gap row)) ships front brings follows = tt
whole_arrives book held rows count after arrival (Err (DiskFault entry)) ships front brings follows = tt
whole_arrives book held rows count after arrival (Err NoMemory) ships front brings follows = tt
