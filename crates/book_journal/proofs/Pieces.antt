-- Slots that are counted piece by piece.
use Rattle.std.proofs.Common.{◌≡◌, ◌⊎◌, inl, inr, ⊎_elim, ℕ, ◌+◌, ◌-◌, ◌*◌, ◌<◌, ◌≤◌, min, false, List, length, get_or, take, drop, sym, ◌∙◌, ap, subst, arith, length-take}
use Rattle.std.proofs.lemmas.List.{get_or-take, drop-drop}
use Rattle.std.proofs.lemmas.Bool.{cases_lt}
use Rattle.book_snapshot.specs.declared.layout.TheConstants.{ROW_BYTES}
use Rattle.book_journal.specs.declared.layout.TheConstants.{MAX_SLOTS}
use Rattle.book_journal.specs.Rows.{starts_open, open_rows, gate_behind}
use Rattle.book_journal.proofs.OpenRows.{rows_fit, rows_same, rows_join, end_by_gate, end_by_cut, gate_at_end}

-- the slots of a piece are those of what was read
module _ (piece bytes : List ℕ) (got slots : ℕ) (room : ℕ) (all : got ≡ min room (length bytes))
    (same : take got piece ≡ take got bytes) (size : room ≡ length piece) where
  front_length : length (take got bytes) ≡ got
  front_length = omega (arith, length-take got bytes, all)

  pub piece_all : length (open_rows slots (take got piece)) ≡ slots
      → length (open_rows slots bytes) ≡ slots
  piece_all counts =
      let fits : ROW_BYTES * slots ≤ got =
      omega (arith, rows_fit slots (take got piece) counts, ap length same, front_length) in
      ap length (rows_same slots (take got piece) bytes (omega (arith, fits, all)) (λ k lt.
      sym (ap (λ (l : List ℕ). get_or l k 0) same
      ∙ get_or-take got bytes k 0 (omega (arith, lt, fits)))) counts) ∙ counts

  pub piece_end : starts_open (drop (ROW_BYTES * slots) (take got piece)) ≡ false
      → (ROW_BYTES * slots + ROW_BYTES ≤ room) ⊎ (length bytes ≤ room)
      → starts_open (drop (ROW_BYTES * slots) bytes) ≡ false
  piece_end shut enough = elim (cases_lt got (ROW_BYTES * slots + ROW_BYTES)) [
    | inr whole ↦
        let long : ROW_BYTES * slots + ROW_BYTES ≤ length (take got piece) =
        omega (arith, whole, ap length same, front_length) in
        let gate = gate_at_end slots (take got piece) shut long in
        end_by_gate slots bytes (λ is. gate
        (ap (λ (l : List ℕ). get_or l (ROW_BYTES * slots) 0) same
        ∙ get_or-take got bytes (ROW_BYTES * slots) 0 (omega (arith, whole)) ∙ is))
    | inl short ↦
        let cut : length bytes < ROW_BYTES * slots + ROW_BYTES =
        ⊎_elim (λ room_left. omega (arith, short, room_left, all))
        (λ to_end. omega (arith, short, to_end, all)) enough in
        end_by_cut slots bytes cut
  ]

-- a piece behind the slots that were counted
module _ (first n m : ℕ) (from : first ≤ n) (bytes : List ℕ) where
  pub pieces_all : length (open_rows (n - first) (drop (gate_behind first) bytes)) ≡ n - first
      → length (open_rows m (drop (gate_behind n) bytes)) ≡ m
      → length (open_rows (n + m - first) (drop (gate_behind first) bytes)) ≡ n + m - first
  pieces_all counts more =
      let place : gate_behind first + ROW_BYTES * (n - first) ≡ gate_behind n = omega (arith, from) in
      let there : drop (gate_behind n) bytes
      ≡ drop (ROW_BYTES * (n - first)) (drop (gate_behind first) bytes) =
      sym (drop-drop (ROW_BYTES * (n - first)) (gate_behind first) bytes
      ∙ ap (λ (k : ℕ). drop k bytes) place) in
      let both : n - first + m ≡ n + m - first = omega (arith, from) in
      subst (λ (k : ℕ). length (open_rows k (drop (gate_behind first) bytes)) ≡ k) both
      (rows_join (n - first) m (drop (gate_behind first) bytes) counts
      (subst (λ (l : List ℕ). length (open_rows m l) ≡ m) there more))

pub pieces_end : (n m : ℕ) (bytes : List ℕ)
    → starts_open (drop (ROW_BYTES * m) (drop (gate_behind n) bytes)) ≡ false
    → starts_open (drop (gate_behind (n + m)) bytes) ≡ false
pieces_end n m bytes shut =
    let sum : gate_behind n + ROW_BYTES * m ≡ gate_behind (n + m) = omega arith in
    subst (λ (l : List ℕ). starts_open l ≡ false)
    (drop-drop (ROW_BYTES * m) (gate_behind n) bytes ∙ ap (λ (k : ℕ). drop k bytes) sum) shut

-- where the last piece ends
pub last_piece : (n m slots room left : ℕ) → n ≤ MAX_SLOTS
    → room ≡ min (ROW_BYTES * min slots (MAX_SLOTS - n)) left → ROW_BYTES * m ≤ room → m < slots
    → (n + m ≡ MAX_SLOTS) ⊎ ((ROW_BYTES * m + ROW_BYTES ≤ room) ⊎ (left ≤ room))
last_piece n m slots room left most is inside last = elim (cases_lt room left) [
  | inr to_end ↦ inr (inr to_end)
  | inl short ↦ elim (cases_lt room (ROW_BYTES * m + ROW_BYTES)) [
    | inr whole ↦ inr (inl whole)
    | inl cut ↦
        inl (omega (arith, most, is, inside, last, short, cut))
  ]
]
