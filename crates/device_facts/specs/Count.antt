-- How often a device failed: a count that never falls and stands still at the greatest number of 64
-- bits.
use Rattle.std.specs.Prelude.{◌≡◌, ℕ, ◌+◌, ◌-◌, ◌^◌, ◌<◌, ◌≤◌, min, MatchResult, Result}

-- where a count stands still
abbrev pub count_end : ℕ
count_end = 2 ^ 64 - 1

-- a count after k more
abbrev pub counted : ℕ → ℕ → ℕ
counted before k = min (before + k) count_end

-- k more were counted
abbrev pub Counted : ℕ → ℕ → ℕ → Type 0
Counted before now k = now ≡ counted before k

-- the count is higher than before, or stands at its end
abbrev pub Rose : ℕ → ℕ → Type 0
Rose before now = counted before 1 ≤ now

-- the count neither rose nor stands at its end
abbrev pub Calm : ℕ → ℕ → Type 0
Calm before now = now < counted before 1

-- the count stayed at an Ok, and one more was counted at an error
abbrev pub CountsFault : {T E : Type 0} → ℕ → ℕ → Result T E → Type 0
CountsFault before now r = MatchResult r (λ _. now ≡ before) (λ _. Counted before now 1)
