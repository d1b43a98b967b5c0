-- The dense forms of a book's rows, entry by entry.
use Rattle.std.proofs.Common.{◌≡◌, ℕ, suc, ◌+◌, ◌-◌, ◌*◌, ◌<◌, ◌≤◌, nat_le, true, false, Bool, if◌then◌else◌, List, [], ◌∷◌, ◌++◌, length, take, drop, slice_index, Option, Some, None, sym, ◌∙◌, ap, arith, length-append, length-drop, length-take, append-nil}
use Rattle.std.proofs.Math.Seq.{take-suc}
use Rattle.std.proofs.lemmas.Bool.Decides.{nat_tests}
use Rattle.std.proofs.lemmas.Grind.{flat_map-append}
use Rattle.std.proofs.lemmas.List.{take-append-drop, drop_more}
use Rattle.std.proofs.lemmas.Option.{get_or_from_slice_get}
use Rattle.std.specs.List.{slice_get}
use Rattle.hall_limits.specs.declared.TheConstants.{NAME_BYTES}
use Rattle.book_words.specs.declared.act.Entry.{Entry}
use Rattle.book_words.specs.Answers.{IsLegal}
use Rattle.book_core.specs.View.{entry_numbered}
use Rattle.book_snapshot.specs.declared.layout.TheConstants.{ROW_BYTES, KIND_PLACE, FIELDS_PLACE, LEFT_OUT}
use Rattle.book_snapshot.specs.DenseRows.{dense, content}
use Rattle.book_snapshot.proofs.EndZeros.{trimmed_no_longer}
use Rattle.row_format.specs.Spelling.{new_layout, row_bytes}
use Rattle.row_format.specs.Allowed.{IsAllowed, IsAllowedWhereLawful}
use Rattle.row_format.specs.Rows.{Spells}
use Rattle.book_store.specs.Images.{spelled}
use Rattle.book_store.specs.Resting.{book_content}
use Rattle.book_store.proofs.SpelledRows.{spelled_more}

-- the longest dense form of a row
abbrev pub longest : ℕ
longest = ROW_BYTES - LEFT_OUT + 1

-- the content of the first entries, and how long it is
pub record IsSqueezed (entries : List Entry) (count : ℕ) (bytes : List ℕ) : Type 0 where
  pub is : bytes ≡ book_content (take count entries)
  pub least : count ≤ length bytes
  pub most : length bytes ≤ longest * count

-- the dense form of a row isn't empty, and no longer than that
dense_length : (row : List ℕ) → length row ≡ ROW_BYTES → length (dense row) ≤ longest
dense_length row long =
    let short = trimmed_no_longer (slice_index row KIND_PLACE ∷ drop FIELDS_PLACE row) in
    omega (arith, short, length-drop FIELDS_PLACE row, long)

content_more : (entries : List Entry) (entry : Entry)
    → book_content (entries ++ entry ∷ []) ≡ book_content entries
    ++ dense (row_bytes new_layout (length entries + 1) entry)
content_more entries entry =
    let row = row_bytes new_layout (length entries + 1) entry in
    ap (λ (rows : List (List ℕ)). content rows) (spelled_more entries entry)
    ∙ flat_map-append dense (spelled entries) (row ∷ [])
    ∙ ap (λ (l : List ℕ). book_content entries ++ l) (append-nil (dense row))

where_true : (test : Bool) (found : Option Entry) {entry : Option Entry} → test ≡ true
    → (if test then found else None) ≡ entry → found ≡ entry
where_true true found holds is = is
where_true false found holds is = absurd (cc)

-- the entry of the next number
pub entry_there : (entries : List Entry) (before : ℕ) (entry : Entry)
    → entry_numbered entries (before + 1) ≡ Some entry → slice_get entries before ≡ Some entry
entry_there entries before entry is =
    let place : before + 1 - 1 ≡ before = omega arith in
    let some : nat_le 1 (before + 1) ≡ true = grind (arith, nat_tests) in
    ap (λ (k : ℕ). slice_get entries k) (sym place)
    ∙ where_true (nat_le 1 (before + 1)) (slice_get entries (before + 1 - 1)) some is

take_more : (entries : List Entry) (before : ℕ) (entry : Entry) → before < length entries
    → slice_get entries before ≡ Some entry
    → take (before + 1) entries ≡ take before entries ++ entry ∷ []
take_more entries before entry inside is =
    let next : before + 1 ≡ suc before = omega arith in
    ap (λ (n : ℕ). take n entries) next ∙ take-suc entries before entry inside
    ∙ ap (λ (e : Entry). take before entries ++ e ∷ [])
    (get_or_from_slice_get entries before entry entry is)

-- one entry more
pub squeezed_more : (entries : List Entry) (before : ℕ) (entry : Entry) (row bytes now : List ℕ)
    → before < length entries → entry_numbered entries (before + 1) ≡ Some entry
    → length row ≡ ROW_BYTES → Spells new_layout row (before + 1) entry
    → IsSqueezed entries before bytes → now ≡ bytes ++ dense row
    → IsSqueezed entries (before + 1) now
squeezed_more entries before entry row bytes now inside there long spells so_far more =
    let first = take before entries in
    let count : length first ≡ before = omega (arith, length-take before entries, inside) in
    let here : dense row ≡ dense (row_bytes new_layout (length first + 1) entry) =
    ap (λ (l : List ℕ). dense l) (spells.row
    ∙ ap (λ (n : ℕ). row_bytes new_layout (n + 1) entry) (sym count)) in
    let size : length now ≡ length bytes + length (dense row) = ap (λ (l : List ℕ). length l) more
    ∙ length-append bytes (dense row) in
    let least = so_far.least in
    let most = so_far.most in
    let some : 1 ≤ length (dense row) = omega arith in
    record {
      is = more ∙ ap (λ (l : List ℕ). l ++ dense row) so_far.is
          ∙ ap (λ (l : List ℕ). book_content first ++ l) here
          ∙ sym (content_more first entry)
          ∙ ap book_content
          (sym (take_more entries before entry inside
          (entry_there entries before entry there)));
      least = omega (arith, size, least, some);
      most = omega (arith, size, most, dense_length row long);
    }

-- each entry of a legal list may stand in a row
pub allowed_at : (entries : List Entry) (before : ℕ) (entry : Entry) → IsLegal entries
    → IsAllowedWhereLawful → before < length entries
    → entry_numbered entries (before + 1) ≡ Some entry → IsAllowed NAME_BYTES entry
allowed_at entries before entry legal allowed inside there =
    let is = get_or_from_slice_get entries before entry entry (entry_there entries before entry there) in
    let split : entries ≡ take before entries ++ entry ∷ drop (before + 1) entries =
    sym (take-append-drop before entries)
    ∙ ap (λ (l : List Entry). take before entries ++ l)
    (drop_more entries before entry inside
    ∙ ap (λ (e : Entry). e ∷ drop (before + 1) entries) is) in
    allowed (take before entries) entry
    (legal (take before entries) entry (drop (before + 1) entries) split)
