-- What holds of each legal list.
use Rattle.std.proofs.Common.{◌≡◌, zero, suc, ◌≤◌, ◌⊎◌, inl, inr, List, [], ◌∷◌, ◌++◌, length, refl, sym, ◌∙◌, ap, subst, arith, append_assoc, append-nil, length-append}
use Rattle.hall_limits.specs.declared.TheConstants.{MAX_ROWS}
use Rattle.book_words.specs.declared.act.Entry.{Entry}
use Rattle.book_words.specs.Answers.{ask_of, IsLawful, IsLegal}
use Rattle.book_words.specs.Ranges.{AllInRange}
use Rattle.book_words.proofs.RefusalLemmas.{act_rules, rules_in_range}

abbrev head_or : Entry → List Entry → Entry
head_or other [] = other
head_or other (entry ∷ entries) = entry

abbrev tail_of : List Entry → List Entry
tail_of [] = []
tail_of (entry ∷ entries) = entries

-- where a list with one more entry is parted at an entry, that is the last one or stands before it
parted : (entries : List Entry) (last entry : Entry) (before after : List Entry)
    → entries ++ last ∷ [] ≡ before ++ entry ∷ after
    → ((entries ≡ before) × (last ≡ entry)) ⊎ ((rest : List Entry) × (entries ≡ before ++ entry ∷ rest))
parted [] last entry [] after h = inl (refl, ap (head_or last) h)
parted [] last entry (b ∷ bs) after h =
    let tails : [] ≡ bs ++ entry ∷ after = ap tail_of h in
    let lengths = ap length tails ∙ length-append bs (entry ∷ after) in
    absurd (omega (arith, lengths))
parted (e ∷ es) last entry [] after h = inr (es, ap (λ x. x ∷ es) (ap (head_or last) h))
parted (e ∷ es) last entry (b ∷ bs) after h =
    let heads : e ≡ b = ap (head_or last) h in
    elim (parted es last entry bs after (ap tail_of h)) [
      | inl same ↦ inl (ap (λ x. x ∷ es) heads ∙ ap (λ xs. b ∷ xs) same.0, same.1)
      | inr found ↦ inr (found.0, ap (λ x. x ∷ es) heads ∙ ap (λ xs. b ∷ xs) found.1)
    ]

-- a lawful entry behind a legal list makes a legal one
pub legal-push : (entries : List Entry) (entry : Entry) → IsLegal entries → IsLawful entries entry
    → IsLegal (entries ++ entry ∷ [])
legal-push entries last legal lawful before entry after parts =
    elim (parted entries last entry before after parts) [
      | inl same ↦ subst (λ (es : List Entry). IsLawful es entry) same.0
          (subst (λ (e : Entry). IsLawful entries e) same.1 lawful)
      | inr found ↦ legal before entry found.0 found.1
    ]

-- the empty list is legal
pub legal-nil : IsLegal []
legal-nil before entry after parts =
    let lengths = ap length parts ∙ length-append before (entry ∷ after) in
    absurd (omega (arith, lengths))

-- each prefix of a legal list is legal
pub legal-prefix : (entries more : List Entry) → IsLegal (entries ++ more) → IsLegal entries
legal-prefix entries more legal before entry after parts =
    legal before entry (after ++ more)
    (ap (λ es. es ++ more) parts ∙ append_assoc before (entry ∷ after) more)

-- what goes on behind each lawful entry holds of each legal list of whose front it holds
pub kept_behind : (P : List Entry → Type 0)
    → ((before : List Entry) (entry : Entry) → IsLegal before → IsLawful before entry → P before
    → P (before ++ entry ∷ []))
    → (before after : List Entry) → IsLegal (before ++ after) → P before → P (before ++ after)
kept_behind P step before [] legal h = rw append-nil h
kept_behind P step before (e ∷ es) legal h =
    let whole : (before ++ e ∷ []) ++ es ≡ before ++ e ∷ es = append_assoc before (e ∷ []) es in
    subst P whole (kept_behind P step (before ++ e ∷ []) es (subst IsLegal (sym whole) legal)
    (step before e (legal-prefix before (e ∷ es) legal) (legal before e es refl) h))

-- what holds of the empty list, and goes on behind each lawful entry, holds of each legal list
pub legal_steps : (P : List Entry → Type 0) → P []
    → ((before : List Entry) (entry : Entry) → IsLegal before → IsLawful before entry → P before
    → P (before ++ entry ∷ []))
    → (entries : List Entry) → IsLegal entries → P entries
legal_steps P start step entries legal = kept_behind P step [] entries legal start

in_range_from : (before after : List Entry) → IsLegal (before ++ after) → AllInRange after
in_range_from before [] legal k d inside = absurd (omega arith)
in_range_from before (e ∷ es) legal zero d inside =
    rules_in_range before e.act (act_rules before (ask_of e) e.act (legal before e es refl).rules)
in_range_from before (e ∷ es) legal (suc k) d inside =
    in_range_from (before ++ e ∷ []) es
    (subst IsLegal (sym (append_assoc before (e ∷ []) es)) legal) k d (omega arith)

-- the masses and days of a legal list are within their limits
pub legal_in_range : (entries : List Entry) → IsLegal entries → AllInRange entries
legal_in_range entries legal = in_range_from [] entries legal

-- a legal list has no more rows than a book may have
pub legal_few : (entries : List Entry) → IsLegal entries → length entries ≤ MAX_ROWS
legal_few =
    legal_steps (λ entries. length entries ≤ MAX_ROWS) (omega arith)
    (λ before entry legal lawful few. omega (arith, lawful.room, length-append before (entry ∷ [])))

-- the last entry of a legal list is lawful behind the others
pub lawful_last : (entries : List Entry) (entry : Entry) → IsLegal (entries ++ entry ∷ [])
    → IsLawful entries entry
lawful_last entries entry legal = legal entries entry [] refl
