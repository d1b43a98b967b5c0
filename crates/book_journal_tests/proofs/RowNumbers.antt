-- A row whose gate and number were written.
use Rattle.std.proofs.Common.{◌≡◌, ◌≢◌, ℕ, ◌+◌, ◌-◌, ◌≤◌, List, [], ◌∷◌, ◌++◌, length, get_or, set, take, drop, refl, sym, ◌∙◌, ap, subst, arith, length-append, length-drop, slice_range}
use Rattle.std.specs.Int.{w32, to_le_bytes}
use Rattle.book_snapshot.specs.declared.layout.TheConstants.{ROW_BYTES}
use Rattle.book_snapshot.specs.DenseRows.{IsRow}

pub is_row : (number : ℕ) (row written : List ℕ) → length row ≡ ROW_BYTES → get_or row 1 0 ≢ 0 → written ≡ take 2 (set row 0 1) ++ to_le_bytes w32 number ++ drop 6 (set row 0 1) → IsRow ROW_BYTES number written
is_row number [] written long kind is = absurd (omega (arith, long))
is_row number (x ∷ []) written long kind is = absurd (omega (arith, long))
is_row number (x ∷ y ∷ rest) written long kind is = record {
  numbered = record {
    long = ap length is ∙ omega (arith, long, length-append (to_le_bytes w32 number) (drop 4 rest), length-drop 4 rest);
    gate = ap (λ (l : List ℕ). get_or l 0 0) is;
    field = ap (λ (l : List ℕ). slice_range l 2 6) is;
  };
  kind = λ none. kind (sym (ap (λ (l : List ℕ). get_or l 1 0) is) ∙ none);
}
