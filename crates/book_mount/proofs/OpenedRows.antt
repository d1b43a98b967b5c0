-- Rows that are those of a book, and of no other.
use Rattle.std.proofs.Common.{◌≡◌, ℕ, suc, ◌+◌, ◌≤◌, List, [], ◌∷◌, ◌++◌, length, map, take, slice_get, Option, Some, refl, sym, ◌∙◌, ap, arith, length-append}
use Rattle.std.proofs.lemmas.List.{length-map, append-nil, take_at}
use Rattle.hall_limits.specs.declared.TheConstants.{MAX_ROWS}
use Rattle.book_words.specs.declared.act.Entry.{Entry}
use Rattle.book_words.specs.Answers.{IsLegal}
use Rattle.row_format.specs.Spelling.{new_layout, row_bytes}
use Rattle.row_format.specs.Rows.{CanBeSpelled}
use Rattle.book_store.specs.Images.{spelled, spelled_from, CanAllBeSpelled}
use Rattle.book_mount.specs.Listing.{Lists, IsOpenedAs, IsDamagedAt}
use Rattle.book_mount.specs.Opening.{AreOnlyReadings, HasRead, HasDamage}

pub length_spelled : (number : ℕ) (entries : List Entry)
    → length (spelled_from number entries) ≡ length entries
length_spelled number [] = refl
length_spelled number (entry ∷ entries) = ap suc (length_spelled (number + 1) entries)

-- rows as they are listed
abbrev pub listed : List (List ℕ) → List (Option (List ℕ))
listed rows = map (λ row. Some row) rows

length_listed : (entries : List Entry) → length (listed (spelled entries)) ≡ length entries
length_listed entries = length-map (spelled entries) (λ row. Some row) ∙ length_spelled 1 entries

get_behind : (rows : List (Option (List ℕ))) (next : Option (List ℕ))
    (left : List (Option (List ℕ))) → slice_get (rows ++ next ∷ left) (length rows) ≡ Some next
get_behind [] next left = refl
get_behind (row ∷ rows) next left = get_behind rows next left

-- a book that read all rows
pub opened_as : (bytes : List ℕ) (rows : List (Option (List ℕ))) (entries : List Entry)
    → Lists bytes rows → HasRead rows entries [] → IsOpenedAs bytes entries
opened_as bytes rows entries lists read = record {
  rows = rows;
  listed = lists;
  are = record {
    are = read.split ∙ append-nil (listed (spelled entries));
    can = read.can;
    legal =
        read.legal;
  };
}

-- and one that stopped at a damaged row
pub damaged_at : (bytes : List ℕ) (rows : List (Option (List ℕ))) (row : ℕ) → Lists bytes rows
    → HasDamage rows row → IsDamagedAt bytes row
damaged_at bytes rows row lists damage =
    let before = damage.before in
    let front = listed (spelled before) in
    let split : rows ≡ front ++ damage.next ∷ damage.left = damage.read.split in
    let size : length front ≡ length before = length_listed before in
    record {
      rows = rows;
      listed = lists;
      before = before;
      number = damage.number;
      inside = omega (
        arith,
        damage.number,
        ap length split,
        length-append front (damage.next ∷ damage.left),
        size,
      );
      are = record {
        are = ap (λ (l : List (Option (List ℕ))). take (length before) l) split
            ∙ take_at front (damage.next ∷ damage.left) (length before) size;
        can = damage.read.can;
        legal = damage.read.legal;
      };
      bad = λ entry lawful can same.
          let there : slice_get rows (length before) ≡ Some damage.next =
          ap (λ (l : List (Option (List ℕ))). slice_get l (length before)) split
          ∙ ap (λ (n : ℕ). slice_get (front ++ damage.next ∷ damage.left) n) (sym size)
          ∙ get_behind front damage.next damage.left in
          damage.bad entry lawful can (inside_of damage.next (Some (row_bytes new_layout row entry))
          (sym there ∙ same));
    }
  where
    inside_of : (x y : Option (List ℕ)) → Some x ≡ Some y → x ≡ y
    inside_of x y same = cc

first_same : (x y : Option (List ℕ)) (xs ys : List (Option (List ℕ))) → x ∷ xs ≡ y ∷ ys → x ≡ y
first_same x y xs ys same = cc

rest_same : (x y : Option (List ℕ)) (xs ys : List (Option (List ℕ))) → x ∷ xs ≡ y ∷ ys → xs ≡ ys
rest_same x y xs ys same = cc

row_same : (x y : List ℕ) → Some x ≡ Some y → x ≡ y
row_same x y same = cc

-- the same rows are those of one book
same_entries : (number : ℕ) (entries others : List Entry) → CanAllBeSpelled others
    → AreOnlyReadings number entries
    → listed (spelled_from number others) ≡ listed (spelled_from number entries) ++ [] → entries ≡ others
same_entries number [] [] can only same = refl
same_entries number [] (other ∷ others) can only same = absurd cc
same_entries number (entry ∷ entries) [] can only same = absurd cc
same_entries number (entry ∷ entries) (other ∷ others) can only same =
    let first : other ≡ entry = only.0 other can.0
    (row_same _ _ (first_same (Some (row_bytes new_layout number other))
    (Some (row_bytes new_layout number entry)) (listed (spelled_from (number + 1) others))
    (listed (spelled_from (number + 1) entries) ++ []) same)) in
    let rest : entries ≡ others = same_entries (number + 1) entries others can.1 only.1
    (rest_same (Some (row_bytes new_layout number other))
    (Some (row_bytes new_layout number entry)) (listed (spelled_from (number + 1) others))
    (listed (spelled_from (number + 1) entries) ++ []) same) in
    ap (λ (e : Entry). e ∷ entries) (sym first) ∙ ap (λ (l : List Entry). other ∷ l) rest

pub read_same : (rows : List (Option (List ℕ))) (entries others : List Entry)
    → CanAllBeSpelled others → rows ≡ listed (spelled others) → HasRead rows entries []
    → entries ≡ others
read_same rows entries others can are read =
    same_entries 1 entries others can read.only (sym are ∙ read.split)

-- a row of a book behind others
record IsBehind (number : ℕ) (all before : List Entry) (next : Option (List ℕ)) : Type 0 where
  pub entry : Entry
  pub after : List Entry
  pub are : all ≡ before ++ entry ∷ after
  pub row : next ≡ Some (row_bytes new_layout (number + length before) entry)
  pub can : CanBeSpelled new_layout entry

behind_same : (number : ℕ) (before all : List Entry) (next : Option (List ℕ))
    (left : List (Option (List ℕ))) → CanAllBeSpelled all → AreOnlyReadings number before
    → listed (spelled_from number all) ≡ listed (spelled_from number before) ++ next ∷ left
    → IsBehind number all before next
behind_same number [] [] next left can only same = absurd cc
behind_same number [] (entry ∷ all) next left can only same = record {
  entry = entry;
  after = all;
  are = refl;
  row =
      let none : number ≡ number + 0 = omega arith in
      sym (first_same (Some (row_bytes new_layout number entry)) next
      (listed (spelled_from (number + 1) all)) left same)
      ∙ ap (λ (n : ℕ). Some (row_bytes new_layout n entry)) none;
  can = can.0;
}
behind_same number (first ∷ before) [] next left can only same = absurd cc
behind_same number (first ∷ before) (entry ∷ all) next left can only same =
    let one : entry ≡ first = only.0 entry can.0
    (row_same _ _ (first_same (Some (row_bytes new_layout number entry))
    (Some (row_bytes new_layout number first)) (listed (spelled_from (number + 1) all))
    (listed (spelled_from (number + 1) before) ++ next ∷ left) same)) in
    let rest = behind_same (number + 1) before all next left can.1 only.1
    (rest_same (Some (row_bytes new_layout number entry))
    (Some (row_bytes new_layout number first)) (listed (spelled_from (number + 1) all))
    (listed (spelled_from (number + 1) before) ++ next ∷ left) same) in
    let place : (number + 1) + length before ≡ number + suc (length before) = omega arith in
    record {
      entry = rest.entry;
      after = rest.after;
      are = ap (λ (e : Entry). e ∷ all) one ∙ ap (λ (l : List Entry). first ∷ l) rest.are;
      row = rest.row ∙ ap (λ (n : ℕ). Some (row_bytes new_layout n rest.entry)) place;
      can = rest.can;
    }

-- the rows of a legal book have no damaged one
pub not_damaged : (rows : List (Option (List ℕ))) (all : List Entry) (row : ℕ) → CanAllBeSpelled all
    → IsLegal all → rows ≡ listed (spelled all) → HasDamage rows row → ⊥
not_damaged rows all row can legal are damage =
    let there = behind_same 1 damage.before all damage.next damage.left can damage.read.only
    (sym are ∙ damage.read.split) in
    let place : 1 + length damage.before ≡ row = omega (arith, damage.number) in
    damage.bad there.entry (legal damage.before there.entry there.after there.are) there.can
    (there.row ∙ ap (λ (n : ℕ). Some (row_bytes new_layout n there.entry)) place)

record HasLast (entries : List Entry) : Type 0 where
  pub before : List Entry
  pub entry : Entry
  pub are : entries ≡ before ++ entry ∷ []

last_of : (first : Entry) (entries : List Entry) → HasLast (first ∷ entries)
last_of first [] = record { before = []; entry = first; are = refl }
last_of first (second ∷ entries) =
    let rest = last_of second entries in
    record {
      before = first ∷ rest.before;
      entry = rest.entry;
      are =
          ap (λ (l : List Entry). first ∷ l) rest.are;
    }

-- a legal book has no more rows than it may
pub legal_few : (entries : List Entry) → IsLegal entries → length entries ≤ MAX_ROWS
legal_few [] legal = omega arith
legal_few (first ∷ entries) legal =
    let last = last_of first entries in
    let lawful = legal last.before last.entry [] last.are in
    omega (arith, lawful.room, ap length last.are, length-append last.before (last.entry ∷ []))
