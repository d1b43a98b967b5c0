-- Rows that are carried one by one.
use Rattle.std.proofs.Common.{◌≡◌, ◌≢◌, inl, inr, ℕ, zero, suc, ◌+◌, ◌<◌, ◌≤◌, List, [], ◌∷◌, ◌++◌, length, take, Some, None, slice_get, refl, sym, ap, ◌∙◌, subst, arith, append_assoc, append-nil, length-append}
use Rattle.std.specs.List.{AllByRecursion}
use Rattle.std.proofs.Math.Seq.{take-append_seam}
use Rattle.book_words.specs.declared.act.Entry.{Entry}
use Rattle.book_words.specs.Answers.{IsLawful}
use Rattle.row_format.specs.Spelling.{old_layout, row_bytes}
use Rattle.row_format.specs.Rows.{CanBeSpelled, Spells}
use Rattle.old_journal.specs.OldJournal.{old_rows, old_spelled, AreOldRows}
use Rattle.old_journal.specs.Reader.{HasNextRow}
use Rattle.store_runs.specs.Carrying.{IsLonger, MayCome}
use Rattle.store_runs.proofs.CarriedEntries.{get_none}
use Rattle.book_migration.specs.Migrated.{IsCarriedTo, IsBadRow}
use Rattle.book_migration.specs.Migration.{HasNewRow}

-- ---- rows of entries

spelled_more : (number : ℕ) (entries : List Entry) (entry : Entry)
    → old_spelled number (entries ++ entry ∷ []) ≡ old_spelled number entries
    ++ row_bytes old_layout (number + length entries) entry ∷ []
spelled_more number [] entry =
    let same : number ≡ number + length {A = Entry} [] = omega arith in
    ap (λ n. row_bytes old_layout n entry ∷ []) same
spelled_more number (first ∷ entries) entry =
    let same : number + 1 + length entries ≡ number + length (first ∷ entries) = omega arith in
    ap (λ (rows : List (List ℕ)). row_bytes old_layout number first ∷ rows)
    (spelled_more (number + 1) entries entry
    ∙ ap (λ n. old_spelled (number + 1) entries ++ row_bytes old_layout n entry ∷ []) same)

pub spelled_many : (number : ℕ) (entries : List Entry)
    → length (old_spelled number entries) ≡ length entries
spelled_many number [] = refl
spelled_many number (entry ∷ entries) = omega (arith, spelled_many (number + 1) entries)

can_more : (entries : List Entry) (entry : Entry) → AllByRecursion (CanBeSpelled old_layout) entries
    → CanBeSpelled old_layout entry
    → AllByRecursion (CanBeSpelled old_layout) (entries ++ entry ∷ [])
can_more [] entry can one = (one, tt)
can_more (first ∷ entries) entry can one = (can.0, can_more entries entry can.1 one)

-- one row more
pub are_more : (entries : List Entry) (entry : Entry) (rows : List (List ℕ)) (row : List ℕ)
    (number : ℕ) → AreOldRows entries rows → number ≡ length rows + 1
    → Spells old_layout row number entry → AreOldRows (entries ++ entry ∷ []) (rows ++ row ∷ [])
are_more entries entry rows row number are next spells =
    let same : 1 + length entries ≡ number =
    omega (arith, next, ap length are.are, spelled_many 1 entries) in
    record {
      are = ap (λ (l : List (List ℕ)). l ++ row ∷ []) are.are
          ∙ ap (λ (l : List ℕ). old_spelled 1 entries ++ l ∷ [])
          (spells.row ∙ ap (λ n. row_bytes old_layout n entry) (sym same))
          ∙ sym (spelled_more 1 entries entry);
      can = can_more entries entry are.can spells.can;
    }

last_there : (rows : List (List ℕ)) (row : List ℕ)
    → slice_get (rows ++ row ∷ []) (length rows) ≡ Some row
last_there [] row = refl
last_there (x ∷ rows) row = last_there rows row

-- ---- so far

module _ (held carried rows : List Entry) (taken now : List ℕ) (number : ℕ) (row : List ℕ)
    (are : AreOldRows carried (old_rows taken)) (longer : IsLonger held carried rows)
    (next : HasNextRow taken now number row) where
  counted : length (old_rows taken) ≡ length carried
  counted = ap length are.are ∙ spelled_many 1 carried

  front : take (length carried) (old_rows now) ≡ old_rows taken
  front = ap (take (length carried)) next.rows
      ∙ ap (λ n. take n (old_rows taken ++ row ∷ [])) (sym counted)
      ∙ take-append_seam (old_rows taken) (row ∷ [])

  many : length (old_rows now) ≡ length carried + 1
  many = ap length next.rows ∙ length-append (old_rows taken) (row ∷ []) ∙ ap (λ n. n + 1) counted

  -- the rows before this one were carried
  pub carried_to : IsCarriedTo held now (length carried) rows
  carried_to = record {
    header = next.header;
    inside = omega (arith, many);
    carried = carried;
    are = subst (AreOldRows carried) (sym front) are;
    longer = longer;
  }

  stands : slice_get (old_rows now) (length carried) ≡ Some row
  stands = ap (λ (l : List (List ℕ)). slice_get l (length carried)) next.rows
      ∙ ap (slice_get (old_rows taken ++ row ∷ [])) (sym counted) ∙ last_there (old_rows taken) row

  pub bad_row : ((entry : Entry) → Spells old_layout row number entry
      → ¬ MayCome (length carried) held rows entry) → IsBadRow held now number rows
  bad_row bad = record {
    count = length carried;
    number = next.next ∙ ap (λ n. n + 1) counted;
    before = carried_to;
    bytes_of_row = row;
    stands = stands;
    bad = bad;
  }

  pub new_row : (entry : Entry) → Spells old_layout row number entry
      → slice_get rows (length carried) ≡ None → IsLawful rows entry → HasNewRow held now rows entry
  new_row entry spells none lawful =
      let same : number ≡ length carried + 1 = next.next ∙ ap (λ n. n + 1) counted in
      record {
        count = length carried;
        before = carried_to;
        row = row;
        stands = stands;
        spells = subst (λ n. Spells old_layout row n entry) same spells;
        lacks = get_none rows (length carried) none;
        lawful = lawful;
      }
