-- The shipment of the first rows of a book.
use Rattle.std.proofs.Common.{◌≡◌, ⊎_elim, subst, ℕ, min, List, ◌++◌, length, take, drop, sym, ◌∙◌, ap, arith, length-take}
use Rattle.std.proofs.lemmas.Bool.{cases_lt}
use Rattle.std.proofs.lemmas.List.{take_all, take-append-drop}
use Rattle.std.specs.List.{AllByRecursion}
use Rattle.hall_limits.specs.declared.TheConstants.{NAME_BYTES}
use Rattle.book_words.specs.declared.act.Entry.{Entry}
use Rattle.book_words.specs.Answers.{IsLegal}
use Rattle.book_words.proofs.LegalLemmas.{legal-prefix}
use Rattle.row_format.specs.Allowed.{IsAllowed, IsAllowedWhereLawful}
use Rattle.standby_hall.proofs.ShipSteps.{allowed_left}
use Rattle.standby_hall.specs.Shipments.{rows_from, shipment, shipped}
use Rattle.book_audit.specs.Audits.{head_text}

take_least : (most : ℕ) (entries : List Entry)
    → take (min most (length entries)) entries ≡ take most entries
take_least most entries = ⊎_elim
    (λ less. ap (λ (n : ℕ). take n entries) (omega (arith, less)))
    (λ all. ap (λ (n : ℕ). take n entries) (omega (arith, all))
    ∙ take_all (length entries) entries (omega arith) ∙ sym (take_all most entries all))
    (cases_lt most (length entries))

-- head and rows are the shipment of these alone
pub first_shipment : (most count : ℕ) (entries : List Entry) → count ≡ min most (length entries)
    → head_text count ++ rows_from 1 (take count entries) ≡ shipment 0 (take most entries)
first_shipment most count entries is =
    let same : take count entries ≡ take most entries =
    ap (λ (n : ℕ). take n entries) is ∙ take_least most entries in
    let size : count ≡ length (take most entries) = omega (arith, is, length-take most entries) in
    let passed : 0 ≡ min 0 (length (take most entries)) = omega arith in
    ap (λ (n : ℕ). head_text n ++ rows_from 1 (take count entries)) size
    ∙ ap (λ (es : List Entry). head_text (length (take most entries)) ++ rows_from 1 es) same
    ∙ ap (λ (n : ℕ). shipped (record { all = length (take most entries); passed = n })
    (drop n (take most entries))) passed

-- the first rows of a legal list may stand in rows
pub allowed_first : IsAllowedWhereLawful → (count : ℕ) (entries : List Entry) → IsLegal entries
    → AllByRecursion (IsAllowed NAME_BYTES) (take count entries)
allowed_first allows count entries legal =
    allowed_left allows 0 (take count entries)
    (legal-prefix (take count entries) (drop count entries)
    (subst IsLegal (sym (take-append-drop count entries)) legal))
