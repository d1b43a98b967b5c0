-- Which files a book may be made of.
use Rattle.std.proofs.Common.{◌≡◌, ◌≢◌, ◌↔◌, inl, inr, ℕ, ◌<◌, ◌≤◌, List, length, get_or, take, sym, ◌∙◌, ap, subst, arith, length-take}
use Rattle.std.proofs.lemmas.List.{get_or-take, get_or_past}
use Rattle.std.proofs.lemmas.Bool.{cases_lt}
use Rattle.book_journal.specs.Rows.{title}
use Rattle.book_file.specs.Begin.{IsUnbegun}

-- past so many of its bytes the header has zeros
past : (n k : ℕ) → n ≤ k → get_or (take n title) k 0 ≡ 0
past n k le = get_or_past (take n title) k 0 (omega (arith, le, length-take n title))

module _ (bytes : List ℕ) (begun : ℕ)
    (same : (k : ℕ) → k < begun → get_or bytes k 0 ≡ get_or title k 0) where
  -- a beginning of the header, and zeros
  pub begins : ((k : ℕ) → begun ≤ k → k < length bytes → get_or bytes k 0 ≡ 0) → IsUnbegun bytes
  begins zeros = (
    begun,
    λ k lt. elim (cases_lt k begun) [
      | inl front ↦ same k front ∙ sym (get_or-take begun title k 0 front)
      | inr behind ↦ zeros k behind lt ∙ sym (past begun k behind)
    ],
  )

  -- nothing but zeros stands behind the first byte that differs
  pub zeros_behind : (begun < length bytes → get_or bytes begun 0 ≢ get_or title begun 0)
      → IsUnbegun bytes → (k : ℕ) → begun ≤ k → k < length bytes → get_or bytes k 0 ≡ 0
  zeros_behind differs (n, all) k le lt = elim (cases_lt k n) [
    | inl front ↦
        let there : begun < length bytes = omega (arith, le, lt) in
        absurd (differs there (all begun there
        ∙ get_or-take n title begun 0 (omega (arith, le, front))))
    | inr behind ↦ all k lt ∙ past n k behind
  ]
