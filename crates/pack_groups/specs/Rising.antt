-- Lists in order: no item has a lower rank than one before it.
use Rattle.std.specs.Prelude.{◌≡◌, ℕ, Bool, ◌+◌, ◌≤◌, ◌&&◌, List, [], ◌∷◌, count_by, if◌then◌else◌}
use Rattle.pack_groups.specs.declared.grosses.Gross.{Gross}

-- each item has at least a rank
abbrev pub AtLeast : {T : Type 0} → (T → ℕ) → ℕ → List T → Type 0
AtLeast rank low [] = Unit {0}
AtLeast rank low (x ∷ xs) = (low ≤ rank x) × AtLeast rank low xs

abbrev pub IsRising : {T : Type 0} → (T → ℕ) → List T → Type 0
IsRising rank [] = Unit {0}
IsRising rank (x ∷ xs) = AtLeast rank (rank x) xs × IsRising rank xs

-- a gross in mg
abbrev pub mass_of : Gross → ℕ
mass_of gross = gross.mass

-- the grosses `more` are those of `less` and one besides: whatever is counted
abbrev pub HasOneMore : ℕ → List Gross → List Gross → Type 0
HasOneMore mass less more =
    (test : ℕ → Bool) → count_by (λ gross. test (mass_of gross)) more
    ≡ count_by (λ gross. test (mass_of gross)) less + (if test mass then 1 else 0)

-- the grosses `more` are those of `less`, and one besides where it counts
abbrev pub HasMoreIf : Bool → ℕ → List Gross → List Gross → Type 0
HasMoreIf counts mass less more =
    (test : ℕ → Bool) → count_by (λ gross. test (mass_of gross)) more
    ≡ count_by (λ gross. test (mass_of gross)) less + (if counts && test mass then 1 else 0)
